-- A list without the item that was put at its end.
use Rattle.std.proofs.Common.{◌≡◌, List, [], ◌∷◌, ◌++◌, refl, ap, ◌∙◌, sym}
use Rattle.lf_core.specs.Term.{Path, Term}
use Rattle.lf_elaboration.specs.Part.{Locals, with_local}
use Rattle.lf_part.specs.Local.{before, front, without_last}

before_push : {A : Type 0} (x : A) (ys : List A) (y : A) (rest : List A) → before x (ys ++ y ∷ []) rest ≡ x ∷ rest
before_push x [] y rest = refl
before_push x (z ∷ zs) y rest = refl

pub front_push : {A : Type 0} (xs : List A) (y : A) → front (xs ++ y ∷ []) ≡ xs
unfolding front
front_push [] y = refl
front_push (x ∷ xs) y = before_push x xs y (front (xs ++ y ∷ [])) ∙ ap (λ zs. x ∷ zs) (front_push xs y)

pub front_none : {A : Type 0} (xs : List A) → xs ≡ [] → front xs ≡ []
unfolding front
front_none [] e = refl
front_none (x ∷ xs) e = cc

-- What was opened is closed.
pub closed_again : (L : Locals) (x : Path) (A : Term) → without_last (with_local L x A) ≡ L
closed_again L x A = λ i. record { types = front_push L.types A i; names = front_push L.names x i }
