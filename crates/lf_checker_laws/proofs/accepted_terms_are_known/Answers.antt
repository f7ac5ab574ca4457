use Rattle.lf_checker_laws.proofs.Found.{accepted_is_found}
use Rattle.lf_checker_laws.proofs.accepted_terms_are_known.Goals as goal

pub returns : goal.returns
returns c = accepted_is_found
