-- Laws of the levels of operators.
use Rattle.std.specs.Prelude.{◌≡◌, ℕ, List, [], ◌∷◌, Some}
use Rattle.lf_syntax.specs.Piece.{Piece}
use Rattle.lf_syntax.specs.declared.command.Command.{Command}
use Rattle.lf_syntax.specs.Grammar.{Derives}
use Prim.Native.String.{String}
use Rattle.lf_tables.specs.Rows.{value_of}
use Rattle.lf_text.specs.declared.operator.Op.{Op}
use Rattle.lf_text.specs.declared.operator.Op.TheVariants.{Iff, Arrow, Or, And, Eq, Ne, Add, Sub, Mul, Div, Mod}
use Rattle.lf_text.specs.declared.token.TokenKind.TheVariants.{Operator}
use Rattle.lf_text.specs.Operators.{op_level, left_of, right_of}
use Rattle.lf_text.specs.Words.{utf8, symbols}
use Rattle.lf_syntax.specs.Levels.{not_level}
use Rattle.lf_grammar_laws.specs.Leveled.{CommandLeveled, All}

-- In derived commands operators keep their levels and sides.
abbrev pub LevelsKept : Type 0
LevelsKept = (ts : List Piece) (c : Command) → Derives ts c → CommandLeveled c

-- An operator: how it is written, its level, and the least levels of the terms to its left and to its right.
pub record Written : Type 0 where
  pub text : List ℕ
  pub op : Op
  pub level : ℕ
  pub left : ℕ
  pub right : ℕ

abbrev pub written : String → Op → ℕ → ℕ → ℕ → Written
written text op level left right = record { text = utf8 text; op = op; level = level; left = left; right = right }

abbrev pub operator_table : List Written
operator_table =
    written "↔" Iff 20 21 21 ∷ written "<->" Iff 20 21 21 ∷ written "→" Arrow 25 26 25 ∷ written "->" Arrow 25 26 25 ∷
    written "∨" Or 30 31 30 ∷ written "\\/" Or 30 31 30 ∷ written "∧" And 35 36 35 ∷ written "/\\" And 35 36 35 ∷
    written "=" Eq 50 51 51 ∷ written "≠" Ne 50 51 51 ∷ written "+" Add 65 65 66 ∷ written "-" Sub 65 65 66 ∷
    written "*" Mul 70 70 71 ∷ written "/" Div 70 70 71 ∷ written "%" Mod 70 70 71 ∷ []

-- The operators are those of this table; `¬` has an operand of level 40.
abbrev pub OperatorsBind : Type 0
OperatorsBind =
    All (λ w. (value_of w.text symbols ≡ Some (Operator w.op)) × (op_level w.op ≡ w.level) × (left_of w.op ≡ w.left) × (right_of w.op ≡ w.right))
    operator_table ×
    (not_level ≡ 40)
