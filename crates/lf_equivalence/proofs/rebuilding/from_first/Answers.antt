use Rattle.std.proofs.Common.{◌∙◌, sym}
use Rattle.lf_elaboration.specs.Equivalence as spec
use Rattle.lf_injectivity.specs.Values.{sides}
use Rattle.lf_equivalence.proofs.Lists.{rest_is, rebuilt_first}
use Rattle.lf_equivalence.proofs.rebuilding.from_first.Goals as goal

pub returns-in_ok-whole-in-len1-up : goal.returns-in_ok-whole-in-len1-up
returns-in_ok-whole-in-len1-up c =
    let a = c.in_ok-applied-in-len1-up.ensures in
    let s = sides c.args.s.now in
    c.in_ok-whole-in-len1-up.ensures s
    ∙ (λ i. spec.further s (a.left i) (a.right i) (a.proof i) (rest_is c.as_slice.result.now i) c.args.rests.now c.args.proofs.now)
    ∙ sym (rebuilt_first s c.args.rest.now c.args.rests.now c.args.h.now c.args.proofs.now c.as_slice.result.now c.x-item.result c.as_slice.ensures.value
    c.in-len1-up.len_at_least c.x-item.is)
