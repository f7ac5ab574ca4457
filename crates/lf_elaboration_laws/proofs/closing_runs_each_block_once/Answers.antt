use Rattle.lf_elaboration_laws.proofs.Running.{closing_runs_each}
use Rattle.lf_elaboration_laws.proofs.closing_runs_each_block_once.Goals as goal

pub returns : goal.returns
returns c = closing_runs_each
