-- Operators by levels and sides, which are those of Lean 4: a greater level binds closer.
use Rattle.std.specs.Prelude.{ℕ, ◌+◌}
use Rattle.lf_text.specs.declared.operator.Op.{Op}
use Rattle.lf_text.specs.declared.operator.Op.TheVariants.{Iff, Arrow, Or, And, Eq, Ne, Add, Sub, Mul, Div, Mod}
use Rattle.lf_text.specs.declared.operator.Side.{Side}
use Rattle.lf_text.specs.declared.operator.Side.TheVariants.{Left, Right, Neither}
use Rattle.lf_text.specs.declared.operator.Binding.{Binding}

abbrev pub binds : ℕ → Side → Binding
binds level side = record { level = level; side = side }

-- how each operator binds
abbrev pub binding : Op → Binding
binding Iff = binds 20 Neither
binding Arrow = binds 25 Right
binding Or = binds 30 Right
binding And = binds 35 Right
binding Eq = binds 50 Neither
binding Ne = binds 50 Neither
binding Add = binds 65 Left
binding Sub = binds 65 Left
binding Mul = binds 70 Left
binding Div = binds 70 Left
binding Mod = binds 70 Left

abbrev pub op_level : Op → ℕ
op_level o = (binding o).level

abbrev pub left_by : ℕ → Side → ℕ
left_by level Left = level
left_by level Right = level + 1
left_by level Neither = level + 1

abbrev pub right_by : ℕ → Side → ℕ
right_by level Left = level + 1
right_by level Right = level
right_by level Neither = level + 1

-- the least level of the term to the left; it is the operator's own where the operator groups to the left
abbrev pub left_of : Op → ℕ
left_of o = left_by (op_level o) (binding o).side

-- the least level of the term to the right; it is the operator's own where the operator groups to the right
abbrev pub right_of : Op → ℕ
right_of o = right_by (op_level o) (binding o).side
