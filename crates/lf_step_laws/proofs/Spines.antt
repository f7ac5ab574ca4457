-- Heads and arguments of applications.
use Rattle.std.proofs.Common.{◌≡◌, List, [], ◌∷◌, ◌++◌, refl, ◌∙◌, append-nil}
use Rattle.lf_core.specs.Term.{Path, Universe, Term, const, app}
use Rattle.lf_core.specs.Spine.{apply, head_of, arguments_before, arguments_of}

pub head_apply : (f : Term) (xs : List Term) → head_of (apply f xs) ≡ head_of f
head_apply f [] = refl
head_apply f (x ∷ xs) = head_apply (app f x) xs

pub arguments_apply : (f : Term) (xs ys : List Term) → arguments_before (apply f xs) ys ≡ arguments_before f (xs ++ ys)
arguments_apply f [] ys = refl
arguments_apply f (x ∷ xs) ys = arguments_apply (app f x) xs ys

-- The arguments of a constant's application.
pub given : (n : Path) (ls : List Universe) (xs : List Term) → arguments_of (apply (const n ls) xs) ≡ xs
given n ls xs = arguments_apply (const n ls) xs [] ∙ append-nil xs
