-- The recursor of an introduced declaration is closed, and names only the declaration and what it names, at its own levels.
use Rattle.std.proofs.Common.{
  ◌≡◌,
  ℕ,
  zero,
  suc,
  ◌+◌,
  ◌≤◌,
  ◌⊎◌,
  inl,
  inr,
  Bool,
  true,
  false,
  if◌then◌else◌,
  List,
  [],
  ◌∷◌,
  ◌++◌,
  length,
  refl,
  ap,
  subst,
  arith,
  zero-le,
  Contains,
}
use Rattle.std.proofs.lemmas.List.Elements.{Contains-append_left, Contains-append_right, Contains-push, Contains-push_cases}
use Rattle.lf_core.specs.Term.{Universe, Term, pi}
use Rattle.lf_core.specs.Substitution.{level_instantiate}
use Rattle.lf_rules.specs.Environment.{Environment, Declared, ParametersBelow, AllParametersBelow}
use Rattle.lf_rules.specs.Telescope.{open_pis, pi_count}
use Rattle.lf_rules.specs.Recursor.{
  cases_of,
  Family,
  parameters_from,
  ctors_at,
  recursor_levels,
  motive_level,
  recursor_family,
  recursor_called,
  recursor_rules,
  recursor_of,
}
use Rattle.lf_rules.specs.Inductive.{
  ConstructorsRight,
  type_constant,
  constructor_constant,
  constructors_from,
  declared_constants,
  with_type,
  own_family,
  type_alone,
  constructor_names,
}
use Rattle.lf_rules.specs.Derived.{ConstructorsNamed, Introduced}
use Rattle.lf_core.specs.declared.constant.ConstInfo.{ConstInfo}
use Rattle.lf_core.specs.declared.constant.CtorInfo.{CtorInfo}
use Rattle.lf_core.specs.declared.constant.IndDecl.{IndDecl}
use Rattle.lf_judgment_laws.specs.Growth.{Tells, Grows}
use Rattle.lf_judgment_laws.proofs.Scopes.{typed_scoped}
use Rattle.lf_judgment_laws.proofs.Grows.{self_tells, relations_grow}
use Rattle.lf_inductive_laws.specs.Recursors.{AllRight, RecursorRight}
use Rattle.lf_inductive_laws.proofs.Contained.{first_contained, later_contained}
use Rattle.lf_inductive_laws.proofs.Telescopes.{length-opened}
use Rattle.lf_inductive_laws.proofs.Places.{Place, Lies, lies_from, lies_up, lies_at_levels, right_from}
use Rattle.lf_inductive_laws.proofs.Places_of_telescopes.{AllLie, Opens, opens}
use Rattle.lf_inductive_laws.proofs.Places_of_recursors.{CasesLie, FamilyLies, CalledLies, length-shared, recursor_type_lies, rules_lie}

all_right : (p : Place) (ts : List Term) → AllLie p 0 0 ts → AllRight p.environment p.levels ts
all_right p [] h = tt
all_right p (t ∷ ts) h = (right_from p t h.0, all_right p ts h.1)

-- ---- Levels.

parameters_below : (n k m : ℕ) → k + m ≤ n → AllParametersBelow n (parameters_from k m)
parameters_below n k zero h = tt
parameters_below n k (suc m) h = (omega arith, parameters_below n (suc k) m (omega arith))

length-parameters_from : (k m : ℕ) → length (parameters_from k m) ≡ m
length-parameters_from k zero = refl
length-parameters_from k (suc m) = let e : length (parameters_from (suc k) m) ≡ m = length-parameters_from (suc k) m in omega arith

-- The declaration's own levels come after the motive's, where that has one.
own_below : (d : IndDecl) (large : Bool) → AllParametersBelow (length (recursor_levels d large)) (parameters_from (if large then 1 else 0) (length d.levels))
own_below d true = parameters_below (length (recursor_levels d true)) 1 (length d.levels) (omega arith)
own_below d false = parameters_below (length d.levels) 0 (length d.levels) (omega arith)

motive_below : (d : IndDecl) (large : Bool) → ParametersBelow (length (recursor_levels d large)) (motive_level large)
motive_below d true = omega arith
motive_below d false = tt

-- ---- The environment with the declaration.

pub within_declared : (E : Environment) (d : IndDecl) (large : Bool) → Grows E (E ++ declared_constants d large)
within_declared E d large c w = (c, Contains-append_left E (declared_constants d large) c w, self_tells c)

type_tells : (d : IndDecl) (large : Bool) → Tells (type_alone d) (type_constant d large)
type_tells d large = record { name = refl; kind = refl; levels = refl; ty = refl; detail = (constructor_names d.ctors, large, refl); value = λ v e. e }

pub type_within : (E : Environment) (d : IndDecl) (large : Bool) → Contains (E ++ declared_constants d large) (type_constant d large)
type_within E d large = Contains-append_right E (declared_constants d large) (type_constant d large)
    (first_contained (type_constant d large) (constructors_from d 0 d.ctors ++ recursor_of d large ∷ []))

-- What is declared beside the type alone is declared beside all constants.
pub with_type_grows : (E : Environment) (d : IndDecl) (large : Bool) → Grows (with_type E d) (E ++ declared_constants d large)
with_type_grows E d large c w = at (Contains-push_cases E (type_alone d) c w)
  where
    at : Contains E c ⊎ (type_alone d ≡ c) → (x : ConstInfo) × Contains (E ++ declared_constants d large) x × Tells c x
    at (inl i) = within_declared E d large c i
    at (inr e) = (type_constant d large, type_within E d large, subst (λ x. Tells x (type_constant d large)) e (type_tells d large))

pub recursor_within : (E : Environment) (d : IndDecl) (large : Bool) → Contains (E ++ declared_constants d large) (recursor_of d large)
recursor_within E d large =
    Contains-append_right E (declared_constants d large) (recursor_of d large)
    (later_contained (type_constant d large) (recursor_of d large) (constructors_from d 0 d.ctors ++ recursor_of d large ∷ [])
    (Contains-push (constructors_from d 0 d.ctors) (recursor_of d large)))

pub constructor_within : (E : Environment) (d : IndDecl) (large : Bool) (c : ConstInfo) → Contains (constructors_from d 0 d.ctors) c
    → Contains (E ++ declared_constants d large) c
constructor_within E d large c w =
    Contains-append_right E (declared_constants d large) c
    (later_contained (type_constant d large) c (constructors_from d 0 d.ctors ++ recursor_of d large ∷ [])
    (Contains-append_left (constructors_from d 0 d.ctors) (recursor_of d large ∷ []) c w))

-- ---- The declaration in the recursor's levels, opened.

-- The environment with the declaration, at as many levels.
abbrev pub place_of : Environment → IndDecl → Bool → ℕ → Place
place_of E d large n = record { environment = E ++ declared_constants d large; levels = n }

-- Each of these constructors is declared, and has a type in place.
abbrev ConstructorsLie : Place → List CtorInfo → Type 0
ConstructorsLie p [] = Unit {0}
ConstructorsLie p (c ∷ cs) = (Declared p.environment c.name × Lies p 0 0 c.ty) × ConstructorsLie p cs

constructors_lie : (E : Environment) (d : IndDecl) (large : Bool) (r : Universe) (i : ℕ) (cs : List CtorInfo)
    → ((c : ConstInfo) → Contains (constructors_from d i cs) c → Contains (E ++ declared_constants d large) c)
    → ConstructorsRight (with_type E d) (own_family d) r cs → ConstructorsNamed (with_type E d) d cs → ConstructorsLie (place_of E d large (length d.levels)) cs
constructors_lie E d large r i [] w h n = tt
constructors_lie E d large r i (c ∷ cs) w h n =
    let g = relations_grow (with_type E d) (E ++ declared_constants d large) (with_type_grows E d large) in (
      (
        (constructor_constant d i c, w (constructor_constant d i c) (first_contained (constructor_constant d i c) (constructors_from d (suc i) cs)), refl),
        lies_from (place_of E d large (length d.levels)) 0 0 c.ty (typed_scoped (with_type E d) h.0.typed) (g.named c.ty n.0.0) n.0.1,
      ),
      constructors_lie E d large r (suc i) cs (λ x v. w x (later_contained (constructor_constant d i c) x (constructors_from d (suc i) cs) v)) h.1 n.1,
    )

cases_lie : (E : Environment) (m n : ℕ) (ls : List Universe) (k l : ℕ) (cs : List CtorInfo) → m ≤ length ls → AllParametersBelow n ls → k ≤ l
    → ConstructorsLie (record { environment = E; levels = m }) cs → CasesLie (record { environment = E; levels = n }) l (cases_of k (ctors_at ls cs))
cases_lie E m n ls k l [] e b g h = tt
cases_lie E m n ls k l (c ∷ cs) e b g h =
    let p : Place = record { environment = E; levels = n } in
    let o : Opens p 0 k (open_pis 0 k (level_instantiate ls c.ty)) = opens p 0 k (level_instantiate ls c.ty) (lies_at_levels E m n ls e b 0 0 c.ty h.0.1) in
    let most : length (open_pis 0 k (level_instantiate ls c.ty)).locals ≤ k = o.most in
    ((h.0.0, lies_up p (open_pis 0 k (level_instantiate ls c.ty)).rest zero-le (omega arith) o.rest), cases_lie E m n ls k l cs e b g h.1)

pi_count-level_instantiate : (ls : List Universe) (t : Term) → pi_count (level_instantiate ls t) ≡ pi_count t
pi_count-level_instantiate ls (pi x A B) = ap suc (pi_count-level_instantiate ls B)
pi_count-level_instantiate ls _ = refl

length-cases : (k : ℕ) (ls : List Universe) (cs : List CtorInfo) → length (cases_of k (ctors_at ls cs)) ≡ length cs
length-cases k ls [] = refl
length-cases k ls (c ∷ cs) = let e : length (cases_of k (ctors_at ls cs)) ≡ length cs = length-cases k ls cs in omega arith

recursor_params : (d : IndDecl) (large : Bool) → d.params ≤ pi_count d.ty → length (recursor_family d large).params ≡ d.params
recursor_params d large h =
    let ls : List Universe = parameters_from (if large then 1 else 0) (length d.levels) in
    length-opened 0 d.params (level_instantiate ls d.ty) (omega (arith, pi_count-level_instantiate ls d.ty))

family_lies : (E : Environment) (d : IndDecl) (large : Bool) → Introduced E d large
    → FamilyLies (place_of E d large (length (recursor_levels d large))) (recursor_family d large)
family_lies E d large i =
    let F : Environment = E ++ declared_constants d large in
    let m : ℕ = length d.levels in
    let n : ℕ = length (recursor_levels d large) in
    let ls : List Universe = parameters_from (if large then 1 else 0) m in
    let p : Place = place_of E d large n in
    let e : m ≤ length ls = omega (arith, length-parameters_from (if large then 1 else 0) m) in
    let b : AllParametersBelow n ls = own_below d large in
    let g = relations_grow E F (within_declared E d large) in
    let ty : Term = level_instantiate ls d.ty in
    let t : Lies p 0 0 ty = lies_at_levels F m n ls e b 0 0 d.ty
    (lies_from (place_of E d large m) 0 0 d.ty (typed_scoped E i.admitted.typed) (g.named d.ty i.named) i.levels) in
    let o : Opens p 0 d.params (open_pis 0 d.params ty) = opens p 0 d.params ty t in
    let l : length (open_pis 0 d.params ty).locals ≡ d.params = recursor_params d large i.admitted.params in
    let z : 0 + length (open_pis 0 d.params ty).locals ≡ length (open_pis 0 d.params ty).locals = omega arith in
    record {
      name = (type_constant d large, type_within E d large, refl);
      levels = b;
      params = o.locals;
      rest = subst (λ k. Lies p 0 k (open_pis 0 d.params ty).rest) z o.rest;
      cases = cases_lie F m n ls d.params (length (open_pis 0 d.params ty).locals) d.ctors e b (omega arith)
          (constructors_lie E d large i.admitted.result 0 d.ctors (constructor_within E d large) i.admitted.constructors i.constructors);
    }

pub recursors_are_right : (E : Environment) (d : IndDecl) (large : Bool) → Introduced E d large → RecursorRight (E ++ declared_constants d large) d large
recursors_are_right E d large i =
    let n : ℕ = length (recursor_levels d large) in
    let p : Place = place_of E d large n in
    let f : Family = recursor_family d large in
    let h : FamilyLies p f = family_lies E d large i in
    let r : CalledLies p (recursor_called d large) = record
    { name = (recursor_of d large, recursor_within E d large, refl); levels = parameters_below n 0 n (omega arith) } in
    let b : ParametersBelow n (motive_level large) = motive_below d large in
    let l : length f.params ≡ d.params = recursor_params d large i.admitted.params in
    record {
      ty = right_from p (recursor_of d large).ty (recursor_type_lies p f (motive_level large) h b);
      rules = all_right p (recursor_rules d large)
          (rules_lie p f (motive_level large) (recursor_called d large) (suc d.params) f.cases h b r (omega (arith, length-shared f (motive_level large)))
          h.cases);
    }
