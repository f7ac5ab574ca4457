use Rattle.lf_document_laws.proofs.Tasks.{tasks_last}
use Rattle.lf_document_laws.proofs.tasks_wait_for_the_view.Goals as goal

pub returns : goal.returns
returns c = tasks_last c.resolution_waits_for_the_view.ensures
