use Rattle.lf_checker_laws.proofs.Accepted.{accepted_is_derived}
use Rattle.lf_checker_laws.proofs.accepted_is_derived.Goals as goal

pub returns : goal.returns
returns c = accepted_is_derived
