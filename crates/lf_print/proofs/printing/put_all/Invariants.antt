use Rattle.std.proofs.Common.{◌≡◌, ◌++◌, vec_len, reverse}
use Rattle.lf_print.proofs.printing.put_all.Given as goal

abbrev pub invariant-pieces : goal.invariant-pieces
invariant-pieces l = l.left.items ++ reverse l.stack.items ≡ l.fn.pieces.items ++ reverse l.fn.stack.items

abbrev pub decreases-pieces : goal.decreases-pieces
decreases-pieces l = vec_len l.left
