use Rattle.std.proofs.Common.{sym}
use Rattle.lf_parse_cmd.proofs.Deep.{end_is}
use Rattle.lf_parse_cmd.proofs.command.end_of.Goals as goal

pub returns-in-Some : goal.returns-in-Some
returns-in-Some c = end_is c.args.toks.now c.in-Some.piece.now (sym c.in-Some.ensures.value)
