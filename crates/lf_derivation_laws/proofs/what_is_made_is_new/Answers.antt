use Rattle.lf_derivation_laws.proofs.Shown.{made_is_new}
use Rattle.lf_derivation_laws.proofs.what_is_made_is_new.Goals as goal

pub returns : goal.returns
returns c = made_is_new
