use Rattle.lf_document_laws.proofs.Commands.{commands_extend}
use Rattle.lf_document_laws.proofs.commands_are_extended.Goals as goal

pub returns : goal.returns
returns c = commands_extend
