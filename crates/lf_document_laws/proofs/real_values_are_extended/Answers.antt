use Rattle.lf_document_laws.proofs.Reals.{real_values_extend}
use Rattle.lf_document_laws.proofs.real_values_are_extended.Goals as goal

pub returns : goal.returns
returns c = real_values_extend
