use Rattle.std.proofs.Common.{◌∙◌}
use Rattle.lf_fields.proofs.Command.{declaring_is}
use Rattle.lf_fields.proofs.owner.declaring.Goals as goal

pub returns : goal.returns
returns c = λ D h. c.in_ok-declaration.ensures ∙ declaring_is c.args.owner D c.args.ty c.args.ctors h
