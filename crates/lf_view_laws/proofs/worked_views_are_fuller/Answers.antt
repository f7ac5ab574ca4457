use Rattle.lf_view_laws.proofs.Worked.{worked_views}
use Rattle.lf_view_laws.proofs.worked_views_are_fuller.Goals as goal

pub returns : goal.returns
returns c = worked_views
