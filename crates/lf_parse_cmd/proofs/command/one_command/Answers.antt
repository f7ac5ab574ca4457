use Rattle.std.proofs.Common.{sym}
use Rattle.lf_parse_term.specs.View.{views}
use Rattle.lf_parse_cmd.proofs.Deep.{is_deep, not_deep}
use Rattle.lf_parse_cmd.proofs.command.one_command.Goals as goal

pub returns-in-Some : goal.returns-in-Some
returns-in-Some c = is_deep (views c.args.toks.now) c.in-Some.at (sym c.in-Some.ensures)

pub shallow-requires : goal.shallow-requires
shallow-requires c = not_deep (views c.args.toks.now) (sym c.in-None.ensures)
