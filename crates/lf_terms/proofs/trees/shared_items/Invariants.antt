use Rattle.std.proofs.Common.{◌≡◌, ◌++◌, drop}
use Rattle.lf_terms.proofs.trees.shared_items.Given as goal

abbrev pub invariant-items : goal.invariant-items
invariant-items l = l.all.items ++ drop l.item-index l.items ≡ l.items
