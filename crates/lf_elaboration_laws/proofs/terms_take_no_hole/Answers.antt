use Rattle.lf_elaboration_laws.proofs.Pending.{terms_add}
use Rattle.lf_elaboration_laws.proofs.terms_take_no_hole.Goals as goal

pub returns : goal.returns
returns c = terms_add
