use Rattle.lf_extension_laws.proofs.Extended_admission.{extension_law}
use Rattle.lf_extension_laws.proofs.checker_is_extended.Goals as goal

pub returns : goal.returns
returns c = extension_law
