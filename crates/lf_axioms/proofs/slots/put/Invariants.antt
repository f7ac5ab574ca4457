use Rattle.std.proofs.Common.{◌≡◌, length}
use Rattle.lf_axioms.specs.Slots.{with_at}
use Rattle.lf_axioms.proofs.slots.put.Given as goal

abbrev pub invariant-empty : goal.invariant-empty
invariant-empty l = (with_at l.slots.items l.place l.fn.name ≡ with_at l.fn.slots.items l.place l.fn.name) × (length l.slots.items ≡ l._place)
