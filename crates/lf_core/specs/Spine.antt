-- Applications as a head and its arguments (the spine of a term, as in the field).
use Rattle.std.specs.Prelude.{List, [], ◌∷◌}
use Rattle.lf_core.specs.Term.{Term, app}

-- f applied to these arguments, from the left.
abbrev pub apply : Term → List Term → Term
apply f [] = f
apply f (x ∷ xs) = apply (app f x) xs

-- What is applied, and to what.
abbrev pub head_of : Term → Term
head_of (app f a) = head_of f
head_of t = t

abbrev pub arguments_before : Term → List Term → List Term
arguments_before (app f a) xs = arguments_before f (a ∷ xs)
arguments_before t xs = xs

abbrev pub arguments_of : Term → List Term
arguments_of t = arguments_before t []
