use Rattle.std.proofs.Common.{◌≡◌, ◌+◌, ◌≤◌, drop}
use Rattle.lf_front.specs.Declares.{nesting}
use Rattle.lf_front.proofs.axioms.nesting.Given as goal

abbrev pub invariant-tokens : goal.invariant-tokens
invariant-tokens l = (l.n + nesting (drop l.token-index l.tokens) ≡ nesting l.tokens) × (l.n ≤ l.token-index)
