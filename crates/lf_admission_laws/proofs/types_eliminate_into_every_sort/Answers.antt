use Rattle.lf_admission_laws.proofs.Eliminates.{eliminates_as_asked}
use Rattle.lf_admission_laws.proofs.types_eliminate_into_every_sort.Goals as goal

pub returns : goal.returns
returns c = eliminates_as_asked
