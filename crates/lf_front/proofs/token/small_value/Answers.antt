use Rattle.std.proofs.Common.{rules, arith}
use Rattle.std.proofs.lemmas.Grind.{common_steps}
use Rattle.lf_front.proofs.Parts.{too_large, not_all_digits}
use Rattle.lf_front.proofs.token.small_value.Goals as goal

pub returns-then-n-gt32-clause-none : goal.returns-then-n-gt32-clause-none
returns-then-n-gt32-clause-none c = grind (arith, common_steps, too_large)
