use Rattle.std.proofs.Common.{◌≡◌, ◌++◌, length, reverse}
use Rattle.lf_terms.proofs.block.add_messages.Given as goal

abbrev pub invariant-messages : goal.invariant-messages
invariant-messages l = l.all.items ++ reverse l.rest.items ≡ l.fn.all.items ++ l.fn.messages.items

abbrev pub decreases-messages : goal.decreases-messages
decreases-messages l = length l.rest.items
