use Rattle.lf_checker_laws.proofs.Declared.{derived_soundness}
use Rattle.lf_checker_laws.proofs.checker_is_sound_over_derived_lists.Goals as goal

pub returns : goal.returns
returns c = derived_soundness
