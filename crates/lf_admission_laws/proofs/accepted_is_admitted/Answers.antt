use Rattle.lf_admission_laws.proofs.All.{admission_is_sound}
use Rattle.lf_admission_laws.proofs.accepted_is_admitted.Goals as goal

pub returns : goal.returns
returns c = admission_is_sound
