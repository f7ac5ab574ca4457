-- Lists, an element at a time.
use Rattle.std.proofs.Common.{◌≡◌, ℕ, zero, suc, ◌-◌, ◌≤◌, ◌<◌, Bool, true, false, List, [], ◌∷◌, ◌++◌, length, refl, ap, sym, ◌∙◌, append_assoc, arith}
use Rattle.std.specs.Prelude.{drop, codes, decimal, if◌then◌else◌}
use Rattle.lf_core.specs.Term.{Path, Universe, level_param, Term, bound}
use Rattle.lf_rules.specs.Recursor.{named, innermost, parameters_from, hypothesis_name, is_among, numbered_level}

pub drop_one : (n : ℕ) (x : Term) (xs : List Term) → 1 ≤ n → drop n (x ∷ xs) ≡ drop (n - 1) xs
drop_one zero x xs h = absurd (omega arith)
drop_one (suc n) x xs h = ap (λ m. drop m xs) (omega arith)

pub innermost_one : (n : ℕ) → 1 ≤ n → innermost n ≡ bound (n - 1) ∷ innermost (n - 1)
innermost_one zero h = absurd (omega arith)
innermost_one (suc n) h = ap (λ m. bound m ∷ innermost m) (omega arith)

pub parameters_one : (k n : ℕ) → 1 ≤ n → parameters_from k n ≡ level_param k ∷ parameters_from (suc k) (n - 1)
parameters_one k zero h = absurd (omega arith)
parameters_one k (suc n) h = ap (λ m. level_param k ∷ parameters_from (suc k) m) (omega arith)

pub innermost_onto : (before : List Term) (n : ℕ) → 1 ≤ n → (before ++ bound (n - 1) ∷ []) ++ innermost (n - 1) ≡ before ++ innermost n
innermost_onto before n h = append_assoc before (bound (n - 1) ∷ []) (innermost (n - 1)) ∙ ap (λ xs. before ++ xs) (sym (innermost_one n h))

pub hypothesis_has_parts : (p : Path) → 0 < length p → 0 < length (hypothesis_name p)
hypothesis_has_parts [] h = h
hypothesis_has_parts (x ∷ []) h = omega arith
hypothesis_has_parts (x ∷ y ∷ p) h = omega arith

tried : (b : Bool) (m n : Path) → b ≡ false → (if b then m else n) ≡ n
tried true m n h = cc
tried false m n h = refl

passed : (b : Bool) (m n : Path) → b ≡ true → (if b then m else n) ≡ m
passed true m n h = refl
passed false m n h = cc

pub level_is : (k n : ℕ) (taken : List Path) → is_among (named (codes "u_" ++ decimal k)) taken ≡ false
    → numbered_level k n taken ≡ named (codes "u_" ++ decimal k)
level_is k zero taken h = refl
level_is k (suc n) taken h = tried (is_among (named (codes "u_" ++ decimal k)) taken) _ _ h

pub level_after : (k n : ℕ) (taken : List Path) → 1 ≤ n → is_among (named (codes "u_" ++ decimal k)) taken ≡ true
    → numbered_level k n taken ≡ numbered_level (suc k) (n - 1) taken
level_after k zero taken h e = absurd (omega arith)
level_after k (suc n) taken h e =
    passed (is_among (named (codes "u_" ++ decimal k)) taken) _ _ e ∙ ap (λ m. numbered_level (suc k) m taken) (omega arith)
