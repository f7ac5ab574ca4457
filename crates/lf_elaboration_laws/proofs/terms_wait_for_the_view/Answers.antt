use Rattle.lf_elaboration_laws.proofs.KeepingLaws.{terms_wait}
use Rattle.lf_elaboration_laws.proofs.terms_wait_for_the_view.Goals as goal

pub returns : goal.returns
returns c = terms_wait
