-- What a list contains, element by element.
use Rattle.std.proofs.Common.{◌≡◌, zero, suc, ◌⊎◌, inl, inr, List, [], ◌∷◌, refl, arith, Contains}

pub none_contained : {X : Type 0} (x : X) → Contains [] x → ⊥
none_contained x (k, h, e) = omega arith

pub last_contained : {X : Type 0} (x y : X) → Contains (x ∷ []) y → x ≡ y
last_contained x y (zero, h, e) = e
last_contained x y (suc k, h, e) = absurd (omega arith)

pub first_contained : {X : Type 0} (x : X) (xs : List X) → Contains (x ∷ xs) x
first_contained x xs = (zero, omega arith, refl)

pub later_contained : {X : Type 0} (x y : X) (xs : List X) → Contains xs y → Contains (x ∷ xs) y
later_contained x y xs (k, h, e) = (suc k, omega arith, e)

pub contained_cases : {X : Type 0} (x y : X) (xs : List X) → Contains (x ∷ xs) y → (x ≡ y) ⊎ Contains xs y
contained_cases x y xs (zero, h, e) = inl e
contained_cases x y xs (suc k, h, e) = inr (k, omega arith, e)
