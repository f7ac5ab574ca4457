-- Rows of a table after one of them is written.
use Rattle.std.proofs.Common.{◌≡◌, ℕ, zero, suc, ◌<◌, ◌≤◌, Bool, true, false, List, [], ◌∷◌, ◌++◌, length, refl, sym, ap, arith, ◌∙◌}
use Rattle.std.proofs.Math.Dec.{eqb-zero-suc, eqb-suc-zero, eqb-suc-suc}
use Rattle.std.proofs.lemmas.Bool.Decides.{nat_tests}
use Rattle.std.specs.Prelude.{Option, Some, None, nat_eq, slice_set, if◌then◌else◌}
use Rattle.lf_meta.specs.Kept.{stands_at}

pub nothing_more : {A : Type 0} (rows : List (Option A)) (k : ℕ) → stands_at (rows ++ None ∷ []) k ≡ stands_at rows k
nothing_more [] zero = refl
nothing_more [] (suc k) = refl
nothing_more (o ∷ rows) zero = refl
nothing_more (o ∷ rows) (suc k) = nothing_more rows k

pub written : {A : Type 0} (rows : List (Option A)) (m k : ℕ) (o : Option A) → m < length rows
    → stands_at (slice_set rows m o) k ≡ (if nat_eq m k then o else stands_at rows k)
written [] m k o h = absurd (omega (arith, h))
written (x ∷ rows) zero zero o h = refl
written (x ∷ rows) zero (suc k) o h = sym (ap (λ b. if b then o else stands_at rows k) (eqb-zero-suc k))
written (x ∷ rows) (suc m) zero o h = sym (ap (λ b. if b then o else x) (eqb-suc-zero m))
written (x ∷ rows) (suc m) (suc k) o h = written rows m k o (omega (arith, h)) ∙ sym (ap (λ b. if b then o else stands_at rows k) (eqb-suc-suc m k))

past : {A : Type 0} (rows : List (Option A)) (k : ℕ) → length rows ≤ k → stands_at rows k ≡ None
past [] k h = refl
past (x ∷ rows) zero h = absurd (omega (arith, h))
past (x ∷ rows) (suc k) h = past rows k (omega (arith, h))

-- A row past the end is empty already.
pub unwritten : {A : Type 0} (rows : List (Option A)) (m k : ℕ) → length rows ≤ m → stands_at rows k ≡ (if nat_eq m k then None else stands_at rows k)
unwritten {A} rows m k h = at (nat_eq m k) refl
  where
    at : (b : Bool) → b ≡ nat_eq m k → stands_at rows k ≡ (if b then None else stands_at rows k)
    at true e = let i : m ≡ k = grind (arith, nat_tests, e) in past rows k (omega (arith, h, i))
    at false e = refl
