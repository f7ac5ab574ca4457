use Rattle.lf_inductive_laws.proofs.Fields.{admission_asks}
use Rattle.lf_inductive_laws.proofs.admission_asks_of_fields.Goals as goal

pub returns : goal.returns
returns c = admission_asks
