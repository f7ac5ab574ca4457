use Rattle.lf_document_laws.proofs.Tasks.{values_wait}
use Rattle.lf_document_laws.proofs.values_wait_for_the_view.Goals as goal

pub returns : goal.returns
returns c = values_wait c.resolution_waits_for_the_view.ensures
