use Rattle.lf_judgment_laws.proofs.Numbers.{pure_numbers}
use Rattle.lf_judgment_laws.proofs.pure_typing_speaks_of_numbers.Goals as goal

pub returns : goal.returns
returns c = pure_numbers
