use Rattle.lf_document_laws.proofs.Values.{axioms_reached_extend}
use Rattle.lf_document_laws.proofs.axioms_reached_are_extended.Goals as goal

pub returns : goal.returns
returns c = axioms_reached_extend
