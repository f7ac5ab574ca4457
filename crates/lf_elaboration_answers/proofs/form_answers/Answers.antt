use Rattle.lf_elaboration_answers.proofs.Forms.{form}
use Rattle.lf_elaboration_answers.proofs.form_answers.Goals as goal

pub returns : goal.returns
returns c = form
