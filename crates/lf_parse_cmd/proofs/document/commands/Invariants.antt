use Rattle.std.proofs.Common.{length}
use Rattle.lf_parse_cmd.proofs.Cut.{Goes}
use Rattle.lf_parse_cmd.proofs.document.commands.Given as goal

abbrev pub invariant-commands : goal.invariant-commands
invariant-commands l = Goes l.fn.toks l.rest l.all.items

abbrev pub decreases-commands : goal.decreases-commands
decreases-commands l = length l.rest
