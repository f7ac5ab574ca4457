use Rattle.std.proofs.Common.{arith}
use Rattle.std.specs.Prelude.{IsTrue}
use Rattle.lf_core.proofs.Trees.{terms_differ}
use Rattle.lf_core.proofs.expr.Expr.may_be.Goals as goal

pub returns-clause-tested : goal.returns-clause-tested
returns-clause-tested c = λ e. terms_differ c.summary.result c.summary-2.result c.args.self.now c.args.other.now c.summary.ensures c.summary-2.ensures (λ p.
    let t : IsTrue c.is.result = c.is.ensures.1 p in
    grind (arith, e, t))
