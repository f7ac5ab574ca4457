-- Parts of the definition that are functions of their own in the code. A device of the proof.
use Rattle.std.specs.Prelude.{ℕ, List, [], ◌∷◌}
use Rattle.lf_core.specs.Spine.{apply}
use Rattle.lf_core.specs.Term.{Term, Universe, const, app}
use Rattle.lf_elaboration.specs.Equivalence.{further}
use Rattle.lf_elaboration.specs.Injectivity.{Field, Sides, field_equation, conjunction, and_part, congruence}

-- A part of the conjunction of a field's equation and those of others, by the proof h of the whole.
abbrev pub part_at : List ℕ → Field → List Field → Term → Term
part_at word f fs h = apply (const (and_part word) []) (field_equation f ∷ conjunction fs ∷ h ∷ [])

-- The proof at all fields, of which x is the first, by a proof h of its equation and those of the others.
abbrev pub from_first : Sides → Term × Universe → List (Term × Universe) → Term → List Term → List Field → Field → Term
from_first s B Bs h hs xs x =
    let f : Term = apply (const s.constructor s.levels) s.params in
    further s (app f x.left) (app f x.right) (congruence x.level B.1 x.ty B.0 x.left x.right f h) xs Bs hs
