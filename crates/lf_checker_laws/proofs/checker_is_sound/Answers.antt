use Rattle.lf_checker_laws.proofs.All.{calls_sound}
use Rattle.lf_checker_laws.proofs.checker_is_sound.Goals as goal

pub returns : goal.returns
returns c = calls_sound
