-- The constants of a derived environment are right: closed, with names that it declares, at their own levels.
use Rattle.std.proofs.Common.{◌≡◌, ℕ, suc, ◌⊎◌, inl, inr, Bool, List, [], ◌∷◌, ◌++◌, length, sym, subst, ◌∙◌, Some, None, Contains}
use Rattle.std.proofs.lemmas.List.Elements.{Contains-append_left, Contains-append_cases, Contains-push_cases}
use Rattle.lf_core.specs.Term.{Universe, Term, sort}
use Rattle.lf_rules.specs.Environment.{Environment}
use Rattle.lf_rules.specs.Inductive.{ConstructorsRight, type_constant, constructor_constant, constructors_from, declared_constants, with_type, own_family}
use Rattle.lf_rules.specs.Recursor.{recursor_of}
use Rattle.lf_rules.specs.Derived.{Checked, Stated, ConstructorsNamed, Introduced, Derived, empty, with_axiom, with_value, with_inductive}
use Rattle.lf_core.specs.declared.constant.ConstInfo.{ConstInfo}
use Rattle.lf_core.specs.declared.constant.CtorInfo.{CtorInfo}
use Rattle.lf_core.specs.declared.constant.Detail.{Detail}
use Rattle.lf_core.specs.declared.constant.Detail.TheVariants.{Plain, Ind, Ctor, Rec}
use Rattle.lf_core.specs.declared.constant.IndDecl.{IndDecl}
use Rattle.lf_judgment_laws.specs.Growth.{Grows}
use Rattle.lf_judgment_laws.proofs.Scopes.{typed_scoped}
use Rattle.lf_judgment_laws.proofs.Grows.{self_tells, relations_grow}
use Rattle.lf_inductive_laws.specs.Recursors.{Right, AllRight, RecursorRight}
use Rattle.lf_inductive_laws.specs.Closed.{RulesRight, ConstantRight}
use Rattle.lf_inductive_laws.proofs.Contained.{none_contained, contained_cases}
use Rattle.lf_inductive_laws.proofs.Recursors.{within_declared, with_type_grows, recursors_are_right}

-- ---- What is right stays right over more constants.

pub right_grows : (E F : Environment) → Grows E F → (n : ℕ) (t : Term) → Right E n t → Right F n t
right_grows E F g n t r = record { closed = r.closed; named = (relations_grow E F g).named t r.named; levels = r.levels }

rules_grow : (E F : Environment) → Grows E F → (n : ℕ) (ts : List Term) → AllRight E n ts → AllRight F n ts
rules_grow E F g n [] h = tt
rules_grow E F g n (t ∷ ts) h = (right_grows E F g n t h.0, rules_grow E F g n ts h.1)

detail_grows : (E F : Environment) → Grows E F → (c : ConstInfo) (e : Detail) → RulesRight E c e → RulesRight F c e
detail_grows E F g c Plain h = tt
detail_grows E F g c (Ind params indices names large) h = tt
detail_grows E F g c (Ctor ind index own fields) h = tt
detail_grows E F g c (Rec ind params minors indices rules) h = rules_grow E F g (length c.levels) rules h

constant_grows : (E F : Environment) → Grows E F → (c : ConstInfo) → ConstantRight E c → ConstantRight F c
constant_grows E F g c r = record {
  ty = right_grows E F g (length c.levels) c.ty r.ty;
  value = λ v e. right_grows E F g (length c.levels) v (r.value v e);
  rules = detail_grows E F g c c.detail r.rules;
}

-- ---- A constant of its own.

checked_right : (E : Environment) (c : ConstInfo) (t A : Term) → Checked E c t A → Right E (length c.levels) t
checked_right E c t A h = record { closed = typed_scoped E h.typed; named = h.named; levels = h.levels }

pub no_value : {X : Type 0} {v : X} → None ≡ Some v → ⊥
no_value e = cc

pub some_is : {X : Type 0} {v w : X} → Some v ≡ Some w → v ≡ w
some_is e = cc

axiom_right : (E : Environment) (c : ConstInfo) → Stated E c → c.value ≡ None → ConstantRight E c
axiom_right E c s n = record {
  ty = checked_right E c c.ty (sort s.level) s.type;
  value = λ v e. absurd (no_value (sym n ∙ e));
  rules = subst (RulesRight E c) (sym s.plain) tt;
}

value_right : (E : Environment) (c : ConstInfo) (v : Term) → Stated E c → c.value ≡ Some v → Checked E c v c.ty → ConstantRight E c
value_right E c v s q h = record {
  ty = checked_right E c c.ty (sort s.level) s.type;
  value = λ w e. subst (Right E (length c.levels)) (some_is (sym q ∙ e)) (checked_right E c v c.ty h);
  rules = subst (RulesRight E c) (sym s.plain) tt;
}

-- ---- The constants of a declaration.

constructors_right : (E : Environment) (d : IndDecl) (r : Universe) (i : ℕ) (cs : List CtorInfo) → ConstructorsRight E (own_family d) r cs
    → ConstructorsNamed E d cs → (c : ConstInfo) → Contains (constructors_from d i cs) c → ConstantRight E c
constructors_right E d r i [] h n c w = absurd (none_contained c w)
constructors_right E d r i (x ∷ cs) h n c w = at (λ v. constructors_right E d r (suc i) cs h.1 n.1 c v)
    (contained_cases (constructor_constant d i x) c (constructors_from d (suc i) cs) w)
  where
    at : (Contains (constructors_from d (suc i) cs) c → ConstantRight E c) → (constructor_constant d i x ≡ c) ⊎ Contains (constructors_from d (suc i) cs) c
        → ConstantRight E c
    at later (inl e) = subst (ConstantRight E) e
        (record { ty = record { closed = typed_scoped E h.0.typed; named = n.0.0; levels = n.0.1 }; value = λ v q. absurd (no_value q); rules = tt })
    at later (inr v) = later v

type_right : (E : Environment) (d : IndDecl) (large : Bool) → Introduced E d large → ConstantRight E (type_constant d large)
type_right E d large i = record {
  ty = record { closed = typed_scoped E i.admitted.typed; named = i.named; levels = i.levels };
  value = λ v q.
      absurd (no_value q);
  rules = tt;
}

recursor_right : (E : Environment) (d : IndDecl) (large : Bool) → Introduced E d large → ConstantRight (E ++ declared_constants d large) (recursor_of d large)
recursor_right E d large i =
    let r : RecursorRight (E ++ declared_constants d large) d large = recursors_are_right E d large i in
    record { ty = r.ty; value = λ v q. absurd (no_value q); rules = r.rules }

pub declared_cases : (d : IndDecl) (large : Bool) (c : ConstInfo) → Contains (declared_constants d large) c
    → (type_constant d large ≡ c) ⊎ (Contains (constructors_from d 0 d.ctors) c ⊎ (recursor_of d large ≡ c))
declared_cases d large c w = at (contained_cases (type_constant d large) c (constructors_from d 0 d.ctors ++ recursor_of d large ∷ []) w)
  where
    at : (type_constant d large ≡ c) ⊎ Contains (constructors_from d 0 d.ctors ++ recursor_of d large ∷ []) c
        → (type_constant d large ≡ c) ⊎ (Contains (constructors_from d 0 d.ctors) c ⊎ (recursor_of d large ≡ c))
    at (inl e) = inl e
    at (inr v) = inr (Contains-push_cases (constructors_from d 0 d.ctors) (recursor_of d large) c v)

declared_right : (E : Environment) (d : IndDecl) (large : Bool) → Introduced E d large → (c : ConstInfo) → Contains (declared_constants d large) c
    → ConstantRight (E ++ declared_constants d large) c
declared_right E d large i c w = at (declared_cases d large c w)
  where
    at : (type_constant d large ≡ c) ⊎ (Contains (constructors_from d 0 d.ctors) c ⊎ (recursor_of d large ≡ c))
        → ConstantRight (E ++ declared_constants d large) c
    at (inl e) = subst (ConstantRight (E ++ declared_constants d large)) e
        (constant_grows E (E ++ declared_constants d large) (within_declared E d large) (type_constant d large) (type_right E d large i))
    at (inr (inl v)) =
        constant_grows (with_type E d) (E ++ declared_constants d large) (with_type_grows E d large) c
        (constructors_right (with_type E d) d i.admitted.result 0 d.ctors i.admitted.constructors i.constructors c v)
    at (inr (inr e)) = subst (ConstantRight (E ++ declared_constants d large)) e (recursor_right E d large i)

-- ---- All.

longer : (E : Environment) (cs : List ConstInfo) → Grows E (E ++ cs)
longer E cs c w = (c, Contains-append_left E cs c w, self_tells c)

one_more : (E : Environment) (c d : ConstInfo) → (Contains E d → ConstantRight E d) → ConstantRight E c → Contains (E ++ c ∷ []) d
    → ConstantRight (E ++ c ∷ []) d
one_more E c d f r w = at (Contains-push_cases E c d w)
  where
    at : Contains E d ⊎ (c ≡ d) → ConstantRight (E ++ c ∷ []) d
    at (inl i) = constant_grows E (E ++ c ∷ []) (longer E (c ∷ [])) d (f i)
    at (inr e) = subst (ConstantRight (E ++ c ∷ [])) e (constant_grows E (E ++ c ∷ []) (longer E (c ∷ [])) c r)

several_more : (E : Environment) (d : IndDecl) (large : Bool) (c : ConstInfo) → (Contains E c → ConstantRight E c) → Introduced E d large
    → Contains (E ++ declared_constants d large) c → ConstantRight (E ++ declared_constants d large) c
several_more E d large c f i w = at (Contains-append_cases E (declared_constants d large) c w)
  where
    at : Contains E c ⊎ Contains (declared_constants d large) c → ConstantRight (E ++ declared_constants d large) c
    at (inl v) = constant_grows E (E ++ declared_constants d large) (within_declared E d large) c (f v)
    at (inr v) = declared_right E d large i c v

pub derived_is_right : (E : Environment) → Derived E → (c : ConstInfo) → Contains E c → ConstantRight E c
derived_is_right E empty c w = absurd (none_contained c w)
derived_is_right E (with_axiom {E = F} x h s k n) c w = one_more F x c (λ v. derived_is_right F h c v) (axiom_right F x s n) w
derived_is_right E (with_value {E = F} x v h s k q t) c w = one_more F x c (λ v. derived_is_right F h c v) (value_right F x v s q t) w
derived_is_right E (with_inductive {E = F} d large h i) c w = several_more F d large c (λ v. derived_is_right F h c v) i w
