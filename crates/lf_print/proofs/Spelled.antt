-- Between its operands stands one of the operator's spellings.
use Rattle.std.proofs.Common.{refl, arith}
use Rattle.std.specs.Char.{encode_utf8}
use Rattle.lf_text.specs.Words.{utf8}
use Rattle.lf_text.specs.declared.operator.Op.{Op}
use Rattle.lf_text.specs.declared.operator.Op.TheVariants.{Iff, Arrow, Or, And, Eq, Ne, Add, Sub, Mul, Div, Mod}
use Rattle.lf_print.specs.Mark.{mark_text}
use Rattle.lf_print.specs.Operators.{mark_of, IsSpelled}

pub spelled : (o : Op) → IsSpelled o (mark_text (mark_of o))
unfolding mark_text encode_utf8
spelled Mod = record { spelling = utf8 "%"; spaced = refl; listed = (4, omega arith, refl) }
spelled Mul = record { spelling = utf8 "*"; spaced = refl; listed = (7, omega arith, refl) }
spelled Add = record { spelling = utf8 "+"; spaced = refl; listed = (8, omega arith, refl) }
spelled Sub = record { spelling = utf8 "-"; spaced = refl; listed = (10, omega arith, refl) }
spelled Div = record { spelling = utf8 "/"; spaced = refl; listed = (13, omega arith, refl) }
spelled Eq = record { spelling = utf8 "="; spaced = refl; listed = (20, omega arith, refl) }
spelled Arrow = record { spelling = utf8 "→"; spaced = refl; listed = (34, omega arith, refl) }
spelled Iff = record { spelling = utf8 "↔"; spaced = refl; listed = (35, omega arith, refl) }
spelled And = record { spelling = utf8 "∧"; spaced = refl; listed = (38, omega arith, refl) }
spelled Or = record { spelling = utf8 "∨"; spaced = refl; listed = (39, omega arith, refl) }
spelled Ne = record { spelling = utf8 "≠"; spaced = refl; listed = (40, omega arith, refl) }
