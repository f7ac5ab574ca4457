-- The changes below a floor.
use Rattle.std.proofs.Common.{◌≡◌, ℕ, zero, suc, ◌≤◌, List, [], ◌∷◌, ◌++◌, length, refl, ap, sym, ◌∙◌, arith}
use Rattle.std.specs.Prelude.{take}
use Rattle.lf_elaboration.specs.declared.change.Change.{Change}

pub take_push : (k : ℕ) (xs : List Change) (x : Change) → k ≤ length xs → take k (xs ++ x ∷ []) ≡ take k xs
take_push zero xs x h = refl
take_push (suc k) [] x h = absurd (omega (arith, h))
take_push (suc k) (y ∷ ys) x h = ap (λ r. y ∷ r) (take_push k ys x (omega (arith, h)))

pub take_take : (k n : ℕ) (xs : List Change) → k ≤ n → take k (take n xs) ≡ take k xs
take_take zero n xs h = refl
take_take (suc k) zero xs h = absurd (omega (arith, h))
take_take (suc k) (suc n) [] h = refl
take_take (suc k) (suc n) (y ∷ ys) h = ap (λ r. y ∷ r) (take_take k n ys (omega (arith, h)))

pub take_long : (k n : ℕ) (xs : List Change) → k ≤ n → k ≤ length xs → k ≤ length (take n xs)
take_long zero n xs h g = omega arith
take_long (suc k) zero xs h g = absurd (omega (arith, h))
take_long (suc k) (suc n) [] h g = absurd (omega (arith, g))
take_long (suc k) (suc n) (y ∷ ys) h g = let i = take_long k n ys (omega (arith, h)) (omega (arith, g)) in omega (arith, i)

pub take_whole : (xs : List Change) → take (length xs) xs ≡ xs
take_whole [] = refl
take_whole (x ∷ xs) = ap (λ r. x ∷ r) (take_whole xs)

pub take_floor : (k : ℕ) (old new : List Change) → k ≤ length old → take (length old) new ≡ take (length old) old → take k new ≡ take k old
take_floor k old new h e = sym (take_take k (length old) new h) ∙ ap (λ r. take k r) e ∙ take_take k (length old) old h
