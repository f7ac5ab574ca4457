use Rattle.std.proofs.Common.{◌≡◌}
use Rattle.lf_core.specs.Spine.{apply}
use Rattle.lf_elaboration.specs.Induction.{field_variables}
use Rattle.lf_cases.proofs.cases.at_fields.Given as goal

abbrev pub invariant-fields : goal.invariant-fields
invariant-fields l = record { whole : apply l.fn.term (field_variables l.fn.fields l.hypotheses) ≡ apply l.whole (field_variables l.left l.hypotheses) }

abbrev pub decreases-fields : goal.decreases-fields
decreases-fields l = l.left
