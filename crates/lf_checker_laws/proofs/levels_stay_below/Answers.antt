use Rattle.lf_checker_laws.proofs.Kept_levels.{levels_are_kept}
use Rattle.lf_checker_laws.proofs.levels_stay_below.Goals as goal

pub returns : goal.returns
returns c = levels_are_kept
