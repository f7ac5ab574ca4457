use Rattle.lf_judgment_laws.proofs.Odd_names.{twice_named}
use Rattle.lf_judgment_laws.proofs.names_must_be_fresh.Goals as goal

pub returns : goal.returns
returns c = twice_named
