use Rattle.lf_derivation_laws.proofs.Lists.{reported_is_derived}
use Rattle.lf_derivation_laws.proofs.accepted_lists_are_derived.Goals as goal

pub returns : goal.returns
returns c = reported_is_derived
