-- The constants that are printed as operators. Levels and sides are those of the one table of operators, in lf_text. This project's own.
use Rattle.std.specs.Prelude.{◌≡◌, ℕ, Bool, true, false, if◌then◌else◌, Option, Some, None, List, [], ◌∷◌, ◌++◌, Contains, codes}
use Rattle.std.specs.Str.{bytes_eq}
use Rattle.lf_core.specs.Term.{Path}
use Rattle.lf_text.specs.Words.{symbols}
use Rattle.lf_text.specs.declared.operator.Op.{Op}
use Rattle.lf_text.specs.declared.operator.Op.TheVariants.{Iff, Arrow, Or, And, Eq, Ne, Add, Sub, Mul, Div, Mod}
use Rattle.lf_text.specs.declared.token.TokenKind.TheVariants.{Operator}
use Rattle.lf_print.specs.Mark.{mark_text}
use Rattle.lf_print.specs.declared.mark.Mark.{Mark}
use Rattle.lf_print.specs.declared.mark.Mark.TheVariants as mark
use Rattle.lf_print.specs.declared.mark.Mark.TheVariants.{Space}

abbrev pub logic_of : List ℕ → Option Op
logic_of name =
    if bytes_eq name (codes "Iff") then Some Iff else
    if bytes_eq name (codes "Or") then Some Or else
    if bytes_eq name (codes "And") then Some And else
    None

abbrev pub arithmetic_of : List ℕ → Option Op
arithmetic_of name =
    if bytes_eq name (codes "add") then Some Add else
    if bytes_eq name (codes "sub") then Some Sub else
    if bytes_eq name (codes "mul") then Some Mul else
    if bytes_eq name (codes "div") then Some Div else
    if bytes_eq name (codes "mod") then Some Mod else
    None

-- Of two arguments.
abbrev pub operation_of : Path → Option Op
operation_of [] = None
operation_of (name ∷ []) = logic_of name
operation_of (space ∷ name ∷ []) = if bytes_eq space (codes "Nat") then arithmetic_of name else None
operation_of (a ∷ b ∷ c ∷ more) = None

-- Of three arguments, the first a type.
abbrev pub relation_of : Path → Option Op
relation_of [] = None
relation_of (name ∷ []) =
    if bytes_eq name (codes "Eq") then Some Eq else
    if bytes_eq name (codes "Ne") then Some Ne else
    None
relation_of (a ∷ b ∷ more) = None

-- Before its one argument, which is asked for level 40, its own.
abbrev pub is_negation : Path → Bool
is_negation [] = false
is_negation (name ∷ []) = bytes_eq name (codes "Not")
is_negation (a ∷ b ∷ more) = false

-- What stands between the operands.
abbrev pub mark_of : Op → Mark
mark_of Iff = mark.Iff
mark_of Arrow = mark.Arrow
mark_of Or = mark.Or
mark_of And = mark.And
mark_of Eq = mark.Eq
mark_of Ne = mark.Ne
mark_of Add = mark.Plus
mark_of Sub = mark.Sub
mark_of Mul = mark.Mul
mark_of Div = mark.Div
mark_of Mod = mark.Mod

-- One of the operator's spellings, with a space on each side.
pub record IsSpelled (o : Op) (t : List ℕ) : Type 0 where
  pub spelling : List ℕ
  pub spaced : t ≡ mark_text Space ++ (spelling ++ mark_text Space)
  pub listed : Contains symbols (spelling, Operator o)
