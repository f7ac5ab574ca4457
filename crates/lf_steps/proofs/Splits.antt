-- The arguments round one of them.
use Rattle.std.proofs.Common.{◌≡◌, ℕ, zero, suc, List, [], ◌∷◌, ◌++◌, refl, ap, length, ◌∙◌, sym, arith}
use Rattle.std.specs.Prelude.{Option, Some, None, take, drop, slice_get, ◌+◌}
use Rattle.lf_core.specs.Term.{Term, app}
use Rattle.lf_core.specs.Spine.{apply}
use Rattle.lf_checker.specs.Whnf.{Split, split, one_before}

split_at : (n : ℕ) (xs : List Term) (x : Term) → slice_get xs n ≡ Some x → split n xs ≡ Some (record { before = take n xs; major = x; after = drop (suc n) xs })
split_at n [] x e = cc
split_at zero (y ∷ ys) x e = let p : y ≡ x = cc in λ i. Some (record { before = []; major = p i; after = ys })
split_at (suc n) (y ∷ ys) x e = ap (one_before y) (split_at n ys x e)

pub split_is : (n : ℕ) (xs before after : List Term) (x : Term) → slice_get xs n ≡ Some x → before ≡ take n xs → after ≡ drop (n + 1) xs
    → Some (record { before = before; major = x; after = after }) ≡ split n xs
split_is n xs before after x e p q =
    let e' : n + 1 ≡ suc n = omega arith in
    let r : drop (n + 1) xs ≡ drop (suc n) xs = ap (λ k. drop k xs) e' in
    (λ i. Some (record { before = p i; major = x; after = (q ∙ r) i })) ∙ sym (split_at n xs x e)

pub split_none : (n : ℕ) (xs : List Term) → None ≡ slice_get xs n → None ≡ split n xs
split_none n [] e = refl
split_none zero (y ∷ ys) e = cc
split_none (suc n) (y ∷ ys) e = ap (one_before y) (split_none n ys e)

pub apply_append : (xs ys : List Term) (t : Term) → apply t (xs ++ ys) ≡ apply (apply t xs) ys
apply_append [] ys t = refl
apply_append (x ∷ xs) ys t = apply_append xs ys (app t x)
