-- What holds of all trials holds of each group of them, and back.
use Rattle.std.proofs.Common.{◌≡◌, ℕ, All, List, ◌++◌, subst, sym}
use Rattle.std.proofs.lemmas.List.Elements.{All-append, All-take, All-drop}
use Rattle.std.specs.Prelude.{take, drop}

pub front_all : {X : Type 0} (P : X → Type 0) (xs front : List X) (n : ℕ) → front ≡ take n xs → All P xs → All P front
front_all P xs front n e h = subst (All P) (sym e) (All-take P n xs h)

pub back_all : {X : Type 0} (P : X → Type 0) (xs back : List X) (n : ℕ) → back ≡ drop n xs → All P xs → All P back
back_all P xs back n e h = subst (All P) (sym e) (All-drop P n xs h)

pub joined_all : {X : Type 0} (P : X → Type 0) (xs front back : List X) → xs ≡ front ++ back → All P front → All P back → All P xs
joined_all P xs front back e f b = subst (All P) (sym e) (All-append P front back f b)
