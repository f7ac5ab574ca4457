use Rattle.lf_judgment_laws.proofs.Odd_names.{odd_numbers}
use Rattle.lf_judgment_laws.proofs.numbers_must_be_ordinary.Goals as goal

pub returns : goal.returns
returns c = odd_numbers
