use Rattle.lf_document_laws.proofs.Values.{values_extend}
use Rattle.lf_document_laws.proofs.values_are_extended.Goals as goal

pub returns : goal.returns
returns c = values_extend
