use Rattle.std.proofs.Common.{ℕ, suc, arith, refl, sym, ap₂, ◌≡◌, ◌∙◌, ◌++◌, ◌+◌}
use Rattle.lf_gen.specs.Document.{document, definition, theorem}
use Rattle.lf_gen.proofs.document.Goals as goal

more : (k : ℕ) → document (k + 1) ≡ document k ++ definition (k + 1) ++ theorem (k + 1)
more k = let is : k + 1 ≡ suc k = omega arith in rw is refl

pub loop-i-preserved : goal.loop-i-preserved
loop-i-preserved c =
    let one = c.as_str.ensures.value ∙ c.in_ok-definition.ensures in
    let other = c.as_str-in-loop-i.ensures.value ∙ c.in_ok-theorem.ensures in
    let first = c.in_ok-push_str.ensures.bytes ∙ ap₂ (λ x y. x ++ y) c.loop-i.invariant.1 one in
    (omega arith, c.in_ok-push_str-2.ensures.bytes ∙ (ap₂ (λ x y. x ++ y) first other ∙ sym (more c.loop-i.i)))
