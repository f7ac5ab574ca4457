use Rattle.std.proofs.Common.{rules, [], ◌∷◌, refl, subst, sym, arith}
use Rattle.std.proofs.lemmas.List.{get_or-replicate}
use Rattle.lf_level.specs.Lanes.{IsSmall}
use Rattle.lf_level.proofs.tried.padded.Goals as goal

none : IsSmall (0 ∷ 0 ∷ 0 ∷ 0 ∷ 0 ∷ 0 ∷ 0 ∷ 0 ∷ [])
none = search rules

pub loop-lane-init : goal.loop-lane-init
loop-lane-init c = (refl, (λ k h. absurd (omega arith)), λ k h. subst IsSmall (sym (get_or-replicate 64 k (0 ∷ 0 ∷ 0 ∷ 0 ∷ 0 ∷ 0 ∷ 0 ∷ 0 ∷ []) [] h)) none)
