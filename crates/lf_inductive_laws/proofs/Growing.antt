-- What is checked, stated or introduced over an environment is so over each that tells at least as much.
use Rattle.std.proofs.Common.{◌⊎◌, inl, inr, Bool, false, List, [], ◌∷◌, Contains}
use Rattle.std.proofs.lemmas.List.Elements.{Contains-append_cases, Contains-append_left, Contains-append_right}
use Rattle.lf_core.specs.Term.{Universe, Term, sort}
use Rattle.lf_rules.specs.Environment.{Environment, Context}
use Rattle.lf_rules.specs.Telescope.{Telescope}
use Rattle.lf_rules.specs.Recursor.{Family}
use Rattle.lf_rules.specs.Inductive.{
  Fields,
  end,
  field,
  Constructs,
  fields,
  parameter,
  ConstructorRight,
  ConstructorsRight,
  EliminatesEverywhere,
  own_family,
  type_alone,
  with_type,
  Admitted,
}
use Rattle.lf_rules.specs.Derived.{Checked, ConstructorsNamed}
use Rattle.lf_core.specs.declared.constant.ConstInfo.{ConstInfo}
use Rattle.lf_core.specs.declared.constant.CtorInfo.{CtorInfo}
use Rattle.lf_core.specs.declared.constant.IndDecl.{IndDecl}
use Rattle.lf_judgment_laws.specs.Growth.{Grows, Holds, Tells}
use Rattle.lf_judgment_laws.proofs.Grows.{relations_grow, self_tells}
use Rattle.lf_inductive_laws.specs.Growing.{DerivationsGrow}

pub checked_grows : (E F : Environment) (c : ConstInfo) (t A : Term) → Grows E F → Checked E c t A → Checked F c t A
checked_grows E F c t A g h = let r : Holds E F = relations_grow E F g in
    record { typed = r.typed [] t A h.typed; named = r.named t h.named; levels = h.levels }

with_type_grows : (E F : Environment) (d : IndDecl) → Grows E F → Grows (with_type E d) (with_type F d)
with_type_grows E F d g c w = at (Contains-append_cases E (type_alone d ∷ []) c w)
  where
    at : Contains E c ⊎ Contains (type_alone d ∷ []) c → (x : ConstInfo) × Contains (with_type F d) x × Tells c x
    at (inl h) = let r = g c h in (r.0, Contains-append_left F (type_alone d ∷ []) r.0 r.1, r.2)
    at (inr h) = (c, Contains-append_right F (type_alone d ∷ []) c h, self_tells c)

fields_grow : (E F : Environment) → Grows E F → {f : Family} {r : Universe} {C : Context} {t : Term} {ls : List Universe} {is : List Term}
    → Fields E f r C t ls is → Fields F f r C t ls is
fields_grow E F g (end {C = C} {t = t} l a h) = end l a ((relations_grow E F g).typed C t (sort l) h)
fields_grow E F g (field {C = C} {A = A} l h p q k) = field l ((relations_grow E F g).typed C A (sort l) h) p q (fields_grow E F g k)

constructs_grow : (E F : Environment) → Grows E F → {f : Family} {r : Universe} {xs : Telescope} {C : Context} {t : Term} {ls : List Universe} {is : List Term}
    → Constructs E f r xs C t ls is → Constructs F f r xs C t ls is
constructs_grow E F g (fields k) = fields (fields_grow E F g k)
constructs_grow E F g (parameter e k) = parameter e (constructs_grow E F g k)

constructor_grows : (E F : Environment) → Grows E F → (f : Family) (r : Universe) (c : CtorInfo) → ConstructorRight E f r c → ConstructorRight F f r c
constructor_grows E F g f r c h = record {
  level = h.level;
  typed = (relations_grow E F g).typed [] c.ty (sort h.level) h.typed;
  levels = h.levels;
  indices = h.indices;
  constructs = constructs_grow E F g h.constructs;
}

constructors_grow : (E F : Environment) → Grows E F → (f : Family) (r : Universe) (cs : List CtorInfo) → ConstructorsRight E f r cs → ConstructorsRight F f r cs
constructors_grow E F g f r [] h = tt
constructors_grow E F g f r (c ∷ cs) h = (constructor_grows E F g f r c h.0, constructors_grow E F g f r cs h.1)

eliminates_grow : (E F : Environment) (g : Grows E F) (f : Family) (r : Universe) (cs : List CtorInfo) (h : ConstructorsRight E f r cs)
    → EliminatesEverywhere E f r cs h → EliminatesEverywhere F f r cs (constructors_grow E F g f r cs h)
unfolding constructors_grow constructor_grows
eliminates_grow E F g f r [] h e = tt
eliminates_grow E F g f r (c ∷ []) h e = e
eliminates_grow E F g f r (c ∷ b ∷ cs) h e = e

pub admitted_grows : (E F : Environment) (d : IndDecl) (large : Bool) → Grows E F → Admitted E d large → Admitted F d large
admitted_grows E F d large g h =
    let g' : Grows (with_type E d) (with_type F d) = with_type_grows E F d g in
    record {
      level = h.level;
      typed = (relations_grow E F g).typed [] d.ty (sort h.level) h.typed;
      params = h.params;
      result = h.result;
      ends = h.ends;
      constructors = constructors_grow (with_type E d) (with_type F d) g' (own_family d) h.result d.ctors h.constructors;
      elimination = λ e. eliminates_grow (with_type E d) (with_type F d) g' (own_family d) h.result d.ctors h.constructors (h.elimination e);
    }

named_grow : (E F : Environment) → Grows E F → (d : IndDecl) (cs : List CtorInfo) → ConstructorsNamed E d cs → ConstructorsNamed F d cs
named_grow E F g d [] h = tt
named_grow E F g d (c ∷ cs) h = (((relations_grow E F g).named c.ty h.0.0, h.0.1), named_grow E F g d cs h.1)

pub grow_derivations : DerivationsGrow
grow_derivations = record {
  checked = λ E F c t A g h. checked_grows E F c t A g h;
  stated = λ E F c g fresh h. record { fresh = fresh; plain = h.plain; level = h.level; type = checked_grows E F c c.ty (sort h.level) g h.type };
  introduced = λ E F d large g fresh h. record {
    fresh = fresh;
    admitted = admitted_grows E F d large g h.admitted;
    named = (relations_grow E F g).named d.ty h.named;
    levels = h.levels;
    constructors = named_grow (with_type E d) (with_type F d) (with_type_grows E F d g) d d.ctors h.constructors;
  };
}
