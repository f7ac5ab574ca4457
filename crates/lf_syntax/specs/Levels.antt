-- Which operators go on with a term.
use Rattle.std.specs.Prelude.{ℕ, Bool, true, false, ◌&&◌, nat_le}
use Rattle.lf_text.specs.declared.operator.Op.{Op}
use Rattle.lf_text.specs.Operators.{op_level, left_of}
use Rattle.lf_text.specs.declared.operator.Op.TheVariants.{Iff, Arrow, Or, And, Eq, Ne, Add, Sub, Mul, Div, Mod}

-- Applications, leads and `¬` stand at the side of each operator.
abbrev pub operand_level : ℕ
operand_level = 100

abbrev pub not_level : ℕ
not_level = 40

-- A chain of at least this level takes the operator behind a term of this level.
abbrev pub takes : ℕ → ℕ → Op → Bool
takes least left o = nat_le least (op_level o) && nat_le (left_of o) left

abbrev pub is_arrow : Op → Bool
is_arrow Arrow = true
is_arrow Iff = false
is_arrow Or = false
is_arrow And = false
is_arrow Eq = false
is_arrow Ne = false
is_arrow Add = false
is_arrow Sub = false
is_arrow Mul = false
is_arrow Div = false
is_arrow Mod = false

abbrev pub is_add : Op → Bool
is_add Add = true
is_add Iff = false
is_add Arrow = false
is_add Or = false
is_add And = false
is_add Eq = false
is_add Ne = false
is_add Sub = false
is_add Mul = false
is_add Div = false
is_add Mod = false
