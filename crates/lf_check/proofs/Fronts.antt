-- What was put at the end of a list is taken away.
use Rattle.std.proofs.Common.{◌≡◌, List, [], ◌∷◌, ◌++◌, refl, ap, ◌∙◌}
use Rattle.lf_core.specs.Term.{Term}
use Rattle.lf_check.specs.Front.{before, front}

before_push : (x : Term) (ys : List Term) (y : Term) (rest : List Term) → before x (ys ++ y ∷ []) rest ≡ x ∷ rest
before_push x [] y rest = refl
before_push x (z ∷ zs) y rest = refl

pub front_push : (xs : List Term) (x : Term) → front (xs ++ x ∷ []) ≡ xs
unfolding front
front_push [] x = refl
front_push (y ∷ ys) x = before_push y ys x (front (ys ++ x ∷ [])) ∙ ap (λ r. y ∷ r) (front_push ys x)

pub front_none : (xs : List Term) → xs ≡ [] → front xs ≡ []
unfolding front
front_none [] e = refl
front_none (x ∷ xs) e = cc
