use Rattle.lf_document_laws.proofs.Heads.{heads_extend}
use Rattle.lf_document_laws.proofs.heads_are_extended.Goals as goal

pub returns : goal.returns
returns c = heads_extend
