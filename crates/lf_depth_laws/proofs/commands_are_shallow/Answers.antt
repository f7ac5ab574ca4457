use Rattle.lf_depth_laws.proofs.Derivations as derivations
use Rattle.lf_depth_laws.proofs.commands_are_shallow.Goals as goal

pub returns : goal.returns
returns c = derivations.shallow_commands
