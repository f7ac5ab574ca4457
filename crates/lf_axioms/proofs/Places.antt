-- Names at places.
use Rattle.std.proofs.Common.{◌≡◌, ℕ, zero, suc, ◌≤◌, ◌<◌, Option, Some, None, List, [], ◌∷◌, ◌++◌, length, refl, ap, arith, slice_set}
use Rattle.lf_core.specs.Term.{Path}
use Rattle.lf_axioms.specs.Slots.{with_at}

-- One place more that has none changes nothing, where the place is behind it.
pub wider : (ss : List (Option Path)) (k : ℕ) (n : Path) → length ss < k → with_at (ss ++ None ∷ []) k n ≡ with_at ss k n
wider [] zero n h = absurd (omega (arith, h))
wider [] (suc k) n h = refl
wider (s ∷ ss) zero n h = absurd (omega (arith, h))
wider (s ∷ ss) (suc k) n h = ap (λ l. s ∷ l) (wider ss k n (omega (arith, h)))

pub at_end : (ss : List (Option Path)) (k : ℕ) (n : Path) → length ss ≡ k → with_at ss k n ≡ ss ++ Some n ∷ []
at_end [] zero n h = refl
at_end [] (suc k) n h = absurd (omega (arith, h))
at_end (s ∷ ss) zero n h = absurd (omega (arith, h))
at_end (s ∷ ss) (suc k) n h = ap (λ l. s ∷ l) (at_end ss k n (omega (arith, h)))

pub within : (ss : List (Option Path)) (k : ℕ) (n : Path) → k < length ss → slice_set ss k (Some n) ≡ with_at ss k n
within [] k n h = absurd (omega (arith, h))
within (s ∷ ss) zero n h = refl
within (s ∷ ss) (suc k) n h = ap (λ l. s ∷ l) (within ss k n (omega (arith, h)))
