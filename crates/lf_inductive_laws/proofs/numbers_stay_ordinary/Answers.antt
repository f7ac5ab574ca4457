use Rattle.lf_inductive_laws.proofs.Ordinary.{numbers_stay}
use Rattle.lf_inductive_laws.proofs.numbers_stay_ordinary.Goals as goal

pub returns : goal.returns
returns c = numbers_stay
