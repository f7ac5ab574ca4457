use Rattle.std.proofs.Common.{sym, arith}
use Rattle.lf_match.proofs.Calls.{speaks_not}
use Rattle.lf_match.proofs.hypotheses.+speaks_of.Goals as goal

pub returns-then-free_bound-number : goal.returns-then-free_bound-number
returns-then-free_bound-number t c =
    sym (speaks_not c.args.number c.args.term.now (omega (arith, c.free_bound.ensures, c.if-free_bound-number.true)))
