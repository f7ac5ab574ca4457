use Rattle.lf_elaboration_laws.proofs.KeepingLaws.{closing_keeps}
use Rattle.lf_elaboration_laws.proofs.closing_keeps_what_was.Goals as goal

pub returns : goal.returns
returns c = closing_keeps
