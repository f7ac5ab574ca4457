use Rattle.lf_elaboration_laws.proofs.Wanted.{walk_wants}
use Rattle.lf_elaboration_laws.proofs.walk_waits_for_the_view.Goals as goal

pub returns : goal.returns
returns c = walk_wants
