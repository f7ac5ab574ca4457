use Rattle.lf_document_laws.proofs.Ranks.{needs_lower}
use Rattle.lf_document_laws.proofs.needs_have_lower_rank.Goals as goal

pub returns : goal.returns
returns c = needs_lower c.resolution_waits_for_the_view.ensures
