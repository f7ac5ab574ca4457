use Rattle.lf_document_laws.proofs.Bodies.{bodies_extend}
use Rattle.lf_document_laws.proofs.bodies_are_extended.Goals as goal

pub returns : goal.returns
returns c = bodies_extend
