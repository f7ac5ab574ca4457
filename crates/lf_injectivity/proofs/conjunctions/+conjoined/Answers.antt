use Rattle.std.proofs.Common.{◌≡◌, sym, subst, IfOk}
use Rattle.lf_injectivity.proofs.Parts.{emptied}
use Rattle.lf_injectivity.proofs.conjunctions.+conjoined.Goals as goal

pub returns-in-empty : goal.returns-in-empty
returns-in-empty t c = subst (λ x. IfOk c.part.result (λ y. y ≡ x)) (sym (emptied c.args.of.now c.args.proofs.now c.in-empty.len_below)) c.part.ensures
