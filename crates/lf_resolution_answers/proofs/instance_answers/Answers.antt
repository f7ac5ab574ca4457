use Rattle.lf_resolution_answers.proofs.Instances.{answers}
use Rattle.lf_resolution_answers.proofs.instance_answers.Goals as goal

pub returns : goal.returns
returns c = answers
