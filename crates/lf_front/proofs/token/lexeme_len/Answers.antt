use Rattle.std.proofs.Common.{arith, rules, sym}
use Rattle.std.proofs.lemmas.Grind.{common_steps}
use Rattle.lf_front.proofs.Longest.{identifier_front, number_front, symbol_front}
use Rattle.lf_front.proofs.token.lexeme_len.Goals as goal

pub returns-then-starts-clause-longest : goal.returns-then-starts-clause-longest
returns-then-starts-clause-longest c = identifier_front _ _ (grind (arith, common_steps)) (grind (arith, common_steps)) (grind (arith, common_steps))

pub returns-then-is_digit-clause-longest : goal.returns-then-is_digit-clause-longest
returns-then-is_digit-clause-longest c = number_front _ _ (grind (arith, common_steps)) (grind (arith, common_steps)) (grind (arith, common_steps))
    (grind (arith, common_steps))

pub returns-clause-longest : goal.returns-clause-longest
returns-clause-longest c = symbol_front _ _ (grind (arith, common_steps)) (grind (arith, common_steps)) (grind (arith, common_steps))
    (grind (arith, common_steps))
