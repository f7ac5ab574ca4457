use Rattle.lf_elaboration_answers.proofs.Items.{item}
use Rattle.lf_elaboration_answers.proofs.item_answers.Goals as goal

pub returns : goal.returns
returns c = item
