use Rattle.lf_extension_laws.proofs.Waiting.{checker_waits}
use Rattle.lf_extension_laws.proofs.checker_waits_for_the_view.Goals as goal

pub returns : goal.returns
returns c = checker_waits
