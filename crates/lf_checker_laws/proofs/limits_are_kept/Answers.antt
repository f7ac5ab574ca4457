use Rattle.lf_checker_laws.proofs.Limits.{limits_are_kept}
use Rattle.lf_checker_laws.proofs.limits_are_kept.Goals as goal

pub returns : goal.returns
returns c = limits_are_kept
