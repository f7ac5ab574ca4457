-- States that begin with what was there are closed under the steps of elaboration.
use Rattle.std.proofs.Common.{◌≡◌, List, [], ◌∷◌, ◌++◌, refl, ap, ◌∙◌}
use Rattle.lf_elaboration.specs.Part.{State}
use Rattle.lf_elaboration_laws.specs.Unifier.{Begins}
use Rattle.lf_elaboration_laws.specs.Keeping.{Grows}
use Rattle.lf_elaboration_laws.proofs.Keeping.{Steps, Leaving}

pub begins_same : {A : Type 0} (xs : List A) → Begins xs xs
begins_same xs = ([], at xs)
  where
    at : {A : Type 0} (ys : List A) → ys ≡ ys ++ []
    at [] = refl
    at (y ∷ ys) = ap (λ zs. y ∷ zs) (at ys)

append_twice : {A : Type 0} (xs ys zs : List A) → (xs ++ ys) ++ zs ≡ xs ++ (ys ++ zs)
append_twice [] ys zs = refl
append_twice (x ∷ xs) ys zs = ap (λ l. x ∷ l) (append_twice xs ys zs)

begins_longer : {A : Type 0} (xs ys zs : List A) → Begins xs ys → Begins ys zs → Begins xs zs
begins_longer xs ys zs h g = (h.0 ++ g.0, g.1 ∙ ap (λ l. l ++ g.0) h.1 ∙ append_twice xs h.0 g.0)

pub grows_same : (s : State) → Grows s s
grows_same s = record { changes = begins_same s.changes; asked = begins_same s.asked; nodes = begins_same s.nodes }

grows_longer : (s t r : State) → Grows s t → Grows t r → Grows s r
grows_longer s t r h g = record {
  changes = begins_longer s.changes t.changes r.changes h.changes g.changes;
  asked = begins_longer s.asked t.asked r.asked h.asked g.asked;
  nodes = begins_longer s.nodes t.nodes r.nodes h.nodes g.nodes;
}

growing_steps : Steps Grows Grows
growing_steps = record {
  same = grows_same;
  longer = grows_longer;
  ends = λ s t h. h;
  ends_later = grows_longer;
  changes = λ s cs h. record { changes = h; asked = begins_same s.asked; nodes = begins_same s.nodes };
  asks = λ s n. record { changes = begins_same s.changes; asked = (n ∷ [], refl); nodes = begins_same s.nodes };
}

pub growing : Leaving Grows Grows Grows
growing = record {
  terms = growing_steps;
  proofs = growing_steps;
  weaker = λ s t h. h;
  hole = λ s A locals at items. record { changes = (_, refl); asked = begins_same s.asked; nodes = begins_same s.nodes };
  block = λ s t ns h. record { changes = h.changes; asked = h.asked; nodes = (ns, refl) };
  block_fails = λ s t ns h. record { changes = begins_same s.changes; asked = h.asked; nodes = (ns, refl) };
  block_ends = λ s t ns h. record { changes = h.changes; asked = h.asked; nodes = (ns, refl) };
  drop = λ s t h. record { changes = h.changes; asked = h.asked; nodes = h.nodes };
}
