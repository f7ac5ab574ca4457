use Rattle.std.proofs.Common.{◌≡◌, ◌++◌, drop}
use Rattle.lf_terms.proofs.trees.copy_terms.Given as goal

abbrev pub invariant-terms : goal.invariant-terms
invariant-terms l = l.all.items ++ drop l.term-index l.terms ≡ l.terms
