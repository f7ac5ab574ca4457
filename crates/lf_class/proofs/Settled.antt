-- Metavariables of levels that aren't assigned, from one number on.
use Rattle.std.proofs.Common.{◌≡◌, ℕ, suc, ◌+◌, ◌-◌, ◌<◌, ◌≤◌, Bool, true, false, refl, sym, ap, ◌∙◌, arith}
use Rattle.std.specs.Prelude.{◌||◌, not, None, is_some}
use Rattle.lf_elaboration.specs.Metavariables.{Changes, level_value, level_count, level_unassigned_from}

left_some : (n k : ℕ) → k < n → (d : ℕ) × (n - k ≡ suc d) × (n - (k + 1) ≡ d)
left_some n k h = (n - (k + 1), omega (arith, h), refl)

pub level_ended : (cs : Changes) (k : ℕ) → level_count cs ≤ k → level_unassigned_from cs k (level_count cs - k) ≡ false
level_ended cs k h = let e : level_count cs - k ≡ 0 = omega (arith, h) in ap (level_unassigned_from cs k) e

none_or : (p q : Bool) → p ≡ true → (not p || q) ≡ q
none_or true q e = refl
none_or false q e = cc

pub level_passed : (cs : Changes) (k : ℕ) → k < level_count cs → is_some (level_value cs k) ≡ true
    → level_unassigned_from cs k (level_count cs - k) ≡ level_unassigned_from cs (k + 1) (level_count cs - (k + 1))
level_passed cs k h e =
    let r = left_some (level_count cs) k h in
    let one : k + 1 ≡ suc k = omega arith in
    ap (level_unassigned_from cs k) r.1 ∙ none_or (is_some (level_value cs k)) _ e
    ∙ ap (λ j. level_unassigned_from cs j r.0) (sym one) ∙ ap (level_unassigned_from cs (k + 1)) (sym r.2)

pub level_found : (cs : Changes) (k : ℕ) → k < level_count cs → level_value cs k ≡ None → level_unassigned_from cs k (level_count cs - k) ≡ true
level_found cs k h e =
    let r = left_some (level_count cs) k h in
    ap (level_unassigned_from cs k) r.1 ∙ ap (λ o. not (is_some o) || level_unassigned_from cs (suc k) r.0) e
