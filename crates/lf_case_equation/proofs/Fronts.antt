-- All but the last of a telescope, and recursors with indices.
use Rattle.std.proofs.Common.{◌≡◌, ℕ, zero, suc, ◌-◌, ◌<◌, ◌≤◌, Bool, true, false, ◌&&◌, List, [], ◌∷◌, length, refl, ap, sym, ◌∙◌, arith, take, true≢false}
use Rattle.std.proofs.lemmas.Bool.Decides.{nat_tests}
use Rattle.std.specs.Prelude.{Some, None, nat_eq, slice_get, unwrap_or}
use Rattle.lf_core.specs.Same.{same}
use Rattle.lf_core.specs.Term.{Path, Term, bound, free}
use Rattle.lf_core.specs.declared.constant.Detail.TheVariants.{Rec}
use Rattle.lf_elaboration.specs.CaseEquation.{all_but_last, none_speaks, recursion_by}
use Rattle.lf_elaboration.specs.Forms.{Instance}
use Rattle.lf_rules.specs.Telescope.{Telescope}
use Rattle.lf_case_equation.specs.Values.{is_at_last}

one_less : (n : ℕ) → suc (suc n) - 1 ≡ suc (suc n - 1)
one_less n = omega arith

pub front_is : (xs : Telescope) → take (length xs - 1) xs ≡ all_but_last xs
front_is [] = refl
front_is (x ∷ []) = refl
front_is (x ∷ y ∷ xs) = (λ i. take (one_less (length xs) i) (x ∷ y ∷ xs)) ∙ ap (λ ys. x ∷ ys) (front_is (y ∷ xs))

pub with_indices : (xs : Telescope) (r : Instance) (args : List Term) (extra : ℕ) (I : Path) (params minors indices : ℕ) (rules : List Term)
    → 0 < indices → recursion_by xs r args extra (Rec I params minors indices rules) ≡ None
with_indices xs r args extra I params minors zero rules h = absurd (omega (arith, h))
with_indices xs r args extra I params minors (suc i) rules h = refl

-- ---- The number of arguments

chosen : (b c : Bool) → b ≡ false → (b && c) ≡ false
chosen false c h = refl
chosen true c h = absurd (true≢false h)

taken : (b c : Bool) → b ≡ true → (b && c) ≡ c
taken true c h = refl
taken false c h = absurd (true≢false (sym h))

pub too_few : (x n : ℕ) (args : List Term) → length args ≤ n → is_at_last x args n ≡ false
too_few x n args h = chosen (nat_eq (length args) (suc n)) _ (grind (arith, nat_tests))

pub too_many : (x n : ℕ) (args : List Term) → n < length args → (length args - 1 ≡ n → ⊥) → is_at_last x args n ≡ false
too_many x n args h d = chosen (nat_eq (length args) (suc n)) _ (grind (arith, nat_tests))

within : (n : ℕ) (args : List Term) (t : Term) → slice_get args n ≡ Some t → n < length args
within n [] t e = cc
within zero (x ∷ args) t e = omega arith
within (suc n) (x ∷ args) t e = let h = within n args t e in omega arith

pub as_many : (x n : ℕ) (args : List Term) (t : Term) → length args - 1 ≡ n → slice_get args n ≡ Some t
    → is_at_last x args n ≡ (same t (free x) && none_speaks x (take n args))
as_many x n args t h e =
    let l = within n args t e in
    taken (nat_eq (length args) (suc n)) _ (grind (arith, nat_tests))
    ∙ (λ i. same (unwrap_or (e i) (bound 0)) (free x) && none_speaks x (take n args))
