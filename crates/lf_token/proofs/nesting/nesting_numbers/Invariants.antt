use Rattle.std.proofs.Common.{◌≡◌, ◌++◌, drop}
use Rattle.lf_text.specs.Nesting.{nesting_of, outermost}
use Rattle.lf_token.proofs.Bounds.{Within}
use Rattle.lf_token.proofs.nesting.nesting_numbers.Given as goal

abbrev pub invariant-tokens : goal.invariant-tokens
invariant-tokens l = record {
  within : Within l.token-index l.nest;
  whole : l.numbers.items ++ nesting_of l.nest (drop l.token-index l.tokens) ≡ nesting_of outermost l.tokens;
}
