use Rattle.lf_elaboration_laws.proofs.KeepingLaws.{terms_keep}
use Rattle.lf_elaboration_laws.proofs.terms_keep_what_was.Goals as goal

pub returns : goal.returns
returns c = terms_keep
