use Rattle.lf_derivation_laws.proofs.Shown.{shown_is_read}
use Rattle.lf_derivation_laws.proofs.views_read_what_they_show.Goals as goal

pub returns : goal.returns
returns c = shown_is_read
