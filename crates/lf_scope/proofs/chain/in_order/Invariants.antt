use Rattle.std.proofs.Common.{◌≡◌, ◌++◌, length, reverse}
use Rattle.lf_scope.proofs.chain.in_order.Given as goal

-- the items that are left, and those so far, the latest first
abbrev pub invariant-items : goal.invariant-items
invariant-items g l = l.rest ++ reverse l.all.items ≡ l.fn.chain

abbrev pub decreases-items : goal.decreases-items
decreases-items g l = length l.rest
