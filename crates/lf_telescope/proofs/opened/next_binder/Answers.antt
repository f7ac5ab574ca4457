use Rattle.std.proofs.Common.{arith}
use Rattle.lf_telescope.proofs.Opens.{no_more, at_next}
use Rattle.lf_telescope.proofs.opened.next_binder.Goals as goal

pub returns-then-n-eq0-clause-front : goal.returns-then-n-eq0-clause-front
returns-then-n-eq0-clause-front c = λ xs k u. no_more c.args.former xs c.args.n k c.args.term.now u c.if-n-eq0.true

pub returns-clause-front : goal.returns-clause-front
returns-clause-front c = λ xs k u.
    at_next c.args.former xs c.args.n k c.args.term.now c.formed_by.result u (omega (arith, c.if-n-eq0.false)) c.formed_by.ensures
