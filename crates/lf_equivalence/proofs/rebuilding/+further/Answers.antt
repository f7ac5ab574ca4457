use Rattle.std.proofs.Common.{◌∙◌, sym}
use Rattle.lf_elaboration.specs.Equivalence as spec
use Rattle.lf_equivalence.proofs.Lists.{rest_is, further_next}
use Rattle.lf_equivalence.proofs.rebuilding.+further.Goals as goal

pub returns-in_ok-whole-in-len1-up-proofs : goal.returns-in_ok-whole-in-len1-up-proofs
returns-in_ok-whole-in-len1-up-proofs t c = λ s.
    let a = c.in_ok-applied-in-len1-up-proofs.ensures in
    let old = c.args.so_far.now in
    c.in_ok-whole-in-len1-up-proofs.ensures s
    ∙ (λ i. spec.further s (a.left i) (a.right i) (a.proof i) (rest_is c.args.of.now i) (rest_is c.args.rests.now i) (rest_is c.args.proofs.now i))
    ∙ sym (further_next s old.left old.right old.proof c.args.of.now c.args.rests.now c.args.proofs.now c.x-item.result c.b-item.result c.h-item.result
    c.in-len1-up.len_at_least c.in-len1-up-rests.len_at_least c.in-len1-up-proofs.len_at_least c.x-item.is c.b-item.is c.h-item.is)
