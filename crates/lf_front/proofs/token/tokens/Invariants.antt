use Rattle.std.proofs.Common.{◌++◌, length, List}
use Rattle.lf_front.specs.declared.token.Token.{Token}
use Rattle.lf_front.specs.Lexemes.{Tokens}
use Rattle.lf_front.proofs.token.tokens.Given as goal

abbrev pub invariant-tokens : goal.invariant-tokens
invariant-tokens l = (ts : List Token) → Tokens l.rest ts → Tokens l.cs (l.out.items ++ ts)

abbrev pub decreases-tokens : goal.decreases-tokens
decreases-tokens l = length l.rest
