use Rattle.std.proofs.Common.{◌∙◌}
use Rattle.lf_fields.proofs.Command.{parameters_are}
use Rattle.lf_fields.proofs.owner.at_parameters.Goals as goal

pub returns-clause-command : goal.returns-clause-command
returns-clause-command c = λ D h. c.in_ok-term.ensures ∙ parameters_are c.args.owner D h
