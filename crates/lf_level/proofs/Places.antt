-- What a name is assigned stands at its place, and values aren't far above those that are assigned.
use Rattle.std.proofs.Common.{◌≡◌, ℕ, zero, suc, ◌+◌, ◌<◌, ◌≤◌, nat_eq, Bool, true, false, All, List, [], ◌∷◌, length, get_or, refl, arith}
use Rattle.std.proofs.lemmas.List.Elements.{All-tail, recursion_from_All}
use Rattle.std.specs.Prelude.{if◌then◌else◌}
use Rattle.lf_core.specs.Term.{Universe, level_zero, level_succ, level_max, level_imax, level_param, level_meta}
use Rattle.lf_core.specs.Level.{impredicative_max, value_of}
use Rattle.lf_core.specs.Size.{level_depth}
use Rattle.lf_level.specs.Decision.{assigned, assignment}
use Rattle.lf_level.specs.Lanes.{place_of}

pub assigned_some : (ns vs : List ℕ) (k : ℕ) → place_of ns k < length ns → get_or vs (place_of ns k) 0 ≡ assigned ns vs k
assigned_some [] vs k h = absurd (omega arith)
assigned_some (n ∷ ns) [] k h = nothing (place_of (n ∷ ns) k)
  where
    nothing : (p : ℕ) → ◌≡◌ {A = ℕ} (get_or [] p 0) 0
    nothing zero = refl
    nothing (suc p) = refl
assigned_some (n ∷ ns) (v ∷ vs) k h = by (assigned_some ns vs k) (nat_eq n k) h
  where
    by : (place_of ns k < length ns → get_or vs (place_of ns k) 0 ≡ assigned ns vs k) → (b : Bool) → (if b then 0 else suc (place_of ns k)) < suc (length ns)
        → get_or (v ∷ vs) (if b then 0 else suc (place_of ns k)) 0 ≡ (if b then v else assigned ns vs k)
    by r true g = refl
    by r false g = r (omega arith)

pub assigned_none : (ns vs : List ℕ) (k : ℕ) → length ns ≤ place_of ns k → 0 ≡ assigned ns vs k
assigned_none [] vs k h = refl
assigned_none (n ∷ ns) [] k h = refl
assigned_none (n ∷ ns) (v ∷ vs) k h = by (assigned_none ns vs k) (nat_eq n k) h
  where
    by : (length ns ≤ place_of ns k → 0 ≡ assigned ns vs k) → (b : Bool) → suc (length ns) ≤ (if b then 0 else suc (place_of ns k))
        → 0 ≡ (if b then v else assigned ns vs k)
    by r true g = absurd (omega arith)
    by r false g = r (omega arith)

-- ---- Bounds.

assigned_small : (ns vs : List ℕ) (k : ℕ) → All (λ x. x ≤ 1025) vs → assigned ns vs k ≤ 1025
assigned_small [] vs k h = omega arith
assigned_small (n ∷ ns) [] k h = omega arith
assigned_small (n ∷ ns) (v ∷ vs) k h = let r = recursion_from_All (λ x. x ≤ 1025) (v ∷ vs) h in by r.0
    (assigned_small ns vs k (All-tail (λ x. x ≤ 1025) v vs h)) (nat_eq n k)
  where
    by : v ≤ 1025 → assigned ns vs k ≤ 1025 → (b : Bool) → (if b then v else assigned ns vs k) ≤ 1025
    by p r true = p
    by p r false = r

imax_small : (m n b : ℕ) → m ≤ b → n ≤ b → impredicative_max m n ≤ b
imax_small m zero b p q = omega arith
imax_small m (suc n) b p q = omega arith

value_small : (ns vs : List ℕ) (l : Universe) → All (λ x. x ≤ 1025) vs → value_of (assignment ns vs) l ≤ 1025 + level_depth l
value_small ns vs level_zero h = omega arith
value_small ns vs (level_succ l) h = let p = value_small ns vs l h in omega arith
value_small ns vs (level_max l m) h = let p = value_small ns vs l h in let q = value_small ns vs m h in omega arith
value_small ns vs (level_imax l m) h =
    let p = value_small ns vs l h in
    let q = value_small ns vs m h in
    imax_small (value_of (assignment ns vs) l) (value_of (assignment ns vs) m) (1025 + level_depth (level_imax l m)) (omega arith) (omega arith)
value_small ns vs (level_param k) h = let p = assigned_small ns vs k h in omega arith
value_small ns vs (level_meta k) h = omega arith

pub value_fits : (ns vs : List ℕ) (l : Universe) (v : ℕ) → All (λ x. x ≤ 1025) vs → level_depth l ≤ 1024 → v ≡ value_of (assignment ns vs) l → v < 65535
value_fits ns vs l v h d e = let p = value_small ns vs l h in omega (arith, e)
