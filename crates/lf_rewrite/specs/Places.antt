-- The subterms with a head and so many arguments. A device of the code's shape.
use Rattle.std.specs.Prelude.{ℕ, Bool, ◌&&◌, nat_eq, if◌then◌else◌, List, [], ◌∷◌, length, filter}
use Rattle.lf_core.specs.Term.{Term}
use Rattle.lf_core.specs.Spine.{head_of, arguments_of}
use Rattle.lf_core.specs.Summary.{loose_bound}
use Rattle.lf_elaboration.specs.Motive.{subterms, same_head}

abbrev pub is_sought : Term → ℕ → Term → Bool
is_sought h n t = nat_eq (loose_bound t) 0 && (same_head (head_of t) h && nat_eq (length (arguments_of t)) n)

abbrev pub here : Term → ℕ → Term → List Term
here h n t = if is_sought h n t then t ∷ [] else []

abbrev pub places : Term → ℕ → Term → List Term
places h n t = filter (is_sought h n) (subterms t)
