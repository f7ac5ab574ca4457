use Rattle.lf_derivation_laws.proofs.Own_names.{own_names}
use Rattle.lf_derivation_laws.proofs.views_find_by_name.Goals as goal

pub returns : goal.returns
returns c = own_names
