-- Variables one at a time.
use Rattle.std.proofs.Common.{◌≡◌, ℕ, zero, suc, ◌+◌, ◌-◌, ◌≤◌, List, [], ◌∷◌, ◌++◌, ap, sym, ◌∙◌, append_assoc, arith}
use Rattle.lf_core.specs.Term.{Term, free}
use Rattle.lf_document.specs.Inductives.{first_locals}

one_more : (k : ℕ) → suc k ≡ k + 1
one_more k = omega arith

one_less : (n : ℕ) → n ≡ suc n - 1
one_less n = omega arith

locals_one : (k n : ℕ) → 1 ≤ n → first_locals k n ≡ free k ∷ first_locals (k + 1) (n - 1)
locals_one k zero h = absurd (omega (arith, h))
locals_one k (suc n) h = λ i. free k ∷ first_locals (one_more k i) (one_less n i)

pub locals_onto : (before : List Term) (k n : ℕ) → 1 ≤ n → (before ++ free k ∷ []) ++ first_locals (k + 1) (n - 1) ≡ before ++ first_locals k n
locals_onto before k n h = append_assoc before (free k ∷ []) (first_locals (k + 1) (n - 1)) ∙ ap (λ xs. before ++ xs) (sym (locals_one k n h))
