use Rattle.std.proofs.Common.{◌≡◌, ◌++◌, reverse}
use Rattle.lf_print.specs.Printed.{cut, print_text}
use Rattle.lf_print.specs.Pieces.{todo, open_names}
use Rattle.lf_print.proofs.printing.print_bytes.Given as goal

abbrev pub invariant-walk : goal.invariant-walk
invariant-walk l = l.page.bytes.items ++ cut l.page.left (todo l.names l.levels (open_names l.binders.items) (reverse l.stack.items))
    ≡ print_text l.names l.levels l.term
