-- The first item of a list, and the others.
use Rattle.std.proofs.Common.{◌≡◌, ℕ, suc, ◌-◌, ◌<◌, ◌≤◌, List, [], ◌∷◌, length, take, drop, get_or, refl, sym, ap, ◌∙◌, arith}
use Rattle.std.specs.List.{slice_index_or, remove}

pub taken : {A : Type 0} (xs : List A) (x : A) → 0 < length xs → x ≡ slice_index_or xs 0 x → x ∷ remove xs 0 ≡ xs
taken [] x h e = absurd (omega (arith, h))
taken (y ∷ ys) x h e = rw e refl

whole : {A : Type 0} (xs : List A) → take (length xs) xs ≡ xs
whole [] = refl
whole (x ∷ xs) = ap (λ r. x ∷ r) (whole xs)

pub split : {A : Type 0} (xs : List A) (x : A) → 1 ≤ length xs → x ≡ get_or xs 0 x → xs ≡ x ∷ take (length xs - 1) (drop 1 xs)
split [] x h e = absurd (omega (arith, h))
split (y ∷ ys) x h e =
    let i : suc (length ys) - 1 ≡ length ys = omega arith in
    rw i (ap (λ r. y ∷ r) (sym (whole ys)) ∙ ap (λ r. r ∷ take (length ys) ys) (sym e))
