-- Two constants of a derived environment that have one name are one.
use Rattle.std.proofs.Common.{◌≡◌, ◌⊎◌, inl, inr, List, [], ◌∷◌, ◌++◌, append_assoc, append-nil, sym, ap, subst, ◌∙◌, Contains}
use Rattle.std.proofs.lemmas.List.Elements.{Contains-push_cases}
use Rattle.lf_rules.specs.Environment.{Environment, Fresh}
use Rattle.lf_rules.specs.Inductive.{declared_constants}
use Rattle.lf_rules.specs.Derived.{AllFresh, Derived, empty, with_axiom, with_value, with_inductive}
use Rattle.lf_core.specs.declared.constant.ConstInfo.{ConstInfo}
use Rattle.lf_inductive_laws.proofs.Contained.{none_contained}

abbrev pub Distinct : Environment → Type 0
Distinct E = (c d : ConstInfo) → Contains E c → Contains E d → c.name ≡ d.name → c ≡ d

one_more : (E : Environment) (x : ConstInfo) → Distinct E → Fresh E x.name → Distinct (E ++ x ∷ [])
one_more E x h f c d v w q = at (Contains-push_cases E x c v) (Contains-push_cases E x d w)
  where
    at : Contains E c ⊎ (x ≡ c) → Contains E d ⊎ (x ≡ d) → c ≡ d
    at (inl i) (inl j) = h c d i j q
    at (inl i) (inr e) = absurd (f (c, i, q ∙ ap (λ y. y.name) (sym e)))
    at (inr e) (inl j) = absurd (f (d, j, sym q ∙ ap (λ y. y.name) (sym e)))
    at (inr e) (inr g) = sym e ∙ g

several_more : (E : Environment) (cs : List ConstInfo) → Distinct E → AllFresh E cs → Distinct (E ++ cs)
several_more E [] h f = subst Distinct (sym (append-nil E)) h
several_more E (c ∷ cs) h f = subst Distinct (append_assoc E (c ∷ []) cs) (several_more (E ++ c ∷ []) cs (one_more E c h f.0) f.1)

pub derived_is_distinct : (E : Environment) → Derived E → Distinct E
derived_is_distinct E empty = λ c d v w q. absurd (none_contained c v)
derived_is_distinct E (with_axiom {E = F} c h s k n) = one_more F c (derived_is_distinct F h) s.fresh
derived_is_distinct E (with_value {E = F} c v h s k q t) = one_more F c (derived_is_distinct F h) s.fresh
derived_is_distinct E (with_inductive {E = F} d large h i) = several_more F (declared_constants d large) (derived_is_distinct F h) i.fresh
