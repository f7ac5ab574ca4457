use Rattle.lf_admission_laws.proofs.Refusals.{rules_keep_out}
use Rattle.lf_admission_laws.proofs.rules_keep_out_wrong_declarations.Goals as goal

pub returns : goal.returns
returns c = rules_keep_out
