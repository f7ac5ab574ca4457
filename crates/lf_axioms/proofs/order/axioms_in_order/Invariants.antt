use Rattle.std.proofs.Common.{take}
use Rattle.lf_axioms.specs.Walked.{visited}
use Rattle.lf_axioms.specs.Slots.{Meets}
use Rattle.lf_axioms.proofs.order.axioms_in_order.Given as goal

abbrev pub invariant-loop-constant : goal.invariant-loop-constant
invariant-loop-constant l = Meets l.slots.items (visited (take l.constant-index l.seen)) l.view.entries
