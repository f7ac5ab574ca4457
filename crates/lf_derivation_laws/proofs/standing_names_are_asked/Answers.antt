use Rattle.lf_derivation_laws.proofs.Lists.{standing_names}
use Rattle.lf_derivation_laws.proofs.standing_names_are_asked.Goals as goal

pub returns : goal.returns
returns c = standing_names
