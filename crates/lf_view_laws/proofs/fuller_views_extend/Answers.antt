use Rattle.lf_view_laws.proofs.Views.{fuller_views}
use Rattle.lf_view_laws.proofs.fuller_views_extend.Goals as goal

pub returns : goal.returns
returns c = fuller_views
