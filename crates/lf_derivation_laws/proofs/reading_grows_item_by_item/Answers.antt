use Rattle.lf_derivation_laws.proofs.Reading.{reading_grows}
use Rattle.lf_derivation_laws.proofs.reading_grows_item_by_item.Goals as goal

pub returns : goal.returns
returns c = reading_grows
