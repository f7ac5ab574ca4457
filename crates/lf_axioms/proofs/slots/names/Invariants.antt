use Rattle.std.proofs.Common.{◌≡◌, ◌++◌}
use Rattle.lf_axioms.specs.Slots.{somes}
use Rattle.lf_axioms.proofs.slots.names.Given as goal

abbrev pub invariant-loop-slot : goal.invariant-loop-slot
invariant-loop-slot l = l.all.items ++ somes l.slot-iterator.rest.items ≡ somes l.fn.slots.items
