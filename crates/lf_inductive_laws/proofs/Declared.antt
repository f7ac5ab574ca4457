-- What a constant of a derived environment says of an inductive declaration is what the declaration says.
use Rattle.std.proofs.Common.{
  length,
  ◌≡◌,
  ℕ,
  suc,
  ◌+◌,
  ◌-◌,
  ◌⊎◌,
  inl,
  inr,
  Bool,
  List,
  [],
  ◌∷◌,
  ◌++◌,
  refl,
  sym,
  ap,
  subst,
  ◌∙◌,
  arith,
  Some,
  slice_get,
  Contains,
}
use Rattle.std.proofs.lemmas.List.Elements.{Contains-append_left, Contains-append_right, Contains-append_cases, Contains-push_cases}
use Rattle.lf_core.specs.Term.{Path, Term}
use Rattle.lf_rules.specs.Environment.{Environment}
use Rattle.lf_rules.specs.Telescope.{pi_count}
use Rattle.lf_rules.specs.Recursor.{recursor_of}
use Rattle.lf_rules.specs.Inductive.{type_constant, constructor_constant, constructors_from, declared_constants}
use Rattle.lf_rules.specs.Derived.{Introduced, Derived, empty, with_axiom, with_value, with_inductive}
use Rattle.lf_core.specs.declared.constant.ConstInfo.{ConstInfo}
use Rattle.lf_core.specs.declared.constant.CtorInfo.{CtorInfo}
use Rattle.lf_core.specs.declared.constant.Detail.TheVariants.{Plain, Ind, Ctor, Rec}
use Rattle.lf_core.specs.declared.constant.IndDecl.{IndDecl}
use Rattle.lf_inductive_laws.specs.Declarations.{Introduction, TypeDeclared, ConstructorDeclared, RecursorDeclared, EndsIn, IsOf, AsDeclared}
use Rattle.lf_inductive_laws.proofs.Contained.{none_contained, first_contained, contained_cases}
use Rattle.lf_inductive_laws.proofs.Right.{declared_cases}
use Rattle.lf_inductive_laws.proofs.Ends.{admitted_ends}
use Rattle.lf_inductive_laws.proofs.Distinct.{Distinct, derived_is_distinct}

-- ---- Where a constant comes from.

pub data Origin (E : Environment) (c : ConstInfo) : Type 0 where
  plain : c.detail ≡ Plain → Origin E c
  a_type : TypeDeclared E c → Origin E c
  a_constructor : ConstructorDeclared E c → Origin E c
  a_recursor : RecursorDeclared E c → Origin E c

introduction_grows : (E : Environment) (cs : List ConstInfo) → Introduction E → Introduction (E ++ cs)
introduction_grows E cs i = record {
  before = i.before;
  declaration = i.declaration;
  large = i.large;
  derived = i.derived;
  introduced = i.introduced;
  within = λ c w. Contains-append_left E cs c (i.within c w);
}

origin_grows : (E : Environment) (cs : List ConstInfo) (c : ConstInfo) → Origin E c → Origin (E ++ cs) c
unfolding introduction_grows
origin_grows E cs c (plain e) = plain e
origin_grows E cs c (a_type t) = a_type (record { at = introduction_grows E cs t.at; is = t.is })
origin_grows E cs c (a_constructor t) = a_constructor
    (record { at = introduction_grows E cs t.at; index = t.index; constructor = t.constructor; listed = t.listed; is = t.is })
origin_grows E cs c (a_recursor t) = a_recursor (record { at = introduction_grows E cs t.at; is = t.is })

-- A constructor in a list of those from i on.
record Listed (d : IndDecl) (i : ℕ) (cs : List CtorInfo) (c : ConstInfo) : Type 0 where
  place : ℕ
  constructor : CtorInfo
  listed : slice_get cs place ≡ Some constructor
  is : c ≡ constructor_constant d (i + place) constructor

listed_in : (d : IndDecl) (i : ℕ) (cs : List CtorInfo) (c : ConstInfo) → Contains (constructors_from d i cs) c → Listed d i cs c
listed_in d i [] c w = absurd (none_contained c w)
listed_in d i (x ∷ cs) c w = at (λ v. listed_in d (suc i) cs c v) (contained_cases (constructor_constant d i x) c (constructors_from d (suc i) cs) w)
  where
    at : (Contains (constructors_from d (suc i) cs) c → Listed d (suc i) cs c) → (constructor_constant d i x ≡ c) ⊎ Contains (constructors_from d (suc i) cs) c
        → Listed d i (x ∷ cs) c
    at later (inl e) = let z : i ≡ i + 0 = omega arith in record
        { place = 0; constructor = x; listed = refl; is = sym e ∙ ap (λ n. constructor_constant d n x) z }
    at later (inr v) =
        let l : Listed d (suc i) cs c = later v in
        let z : suc i + l.place ≡ i + suc l.place = omega arith in
        record { place = suc l.place; constructor = l.constructor; listed = l.listed; is = l.is ∙ ap (λ n. constructor_constant d n l.constructor) z }

declared_origin : (E : Environment) (i : Introduction E) (c : ConstInfo) → Contains (declared_constants i.declaration i.large) c → Origin E c
declared_origin E i c w = at (declared_cases i.declaration i.large c w)
  where
    at : (type_constant i.declaration i.large ≡ c) ⊎
        (Contains (constructors_from i.declaration 0 i.declaration.ctors) c ⊎ (recursor_of i.declaration i.large ≡ c)) → Origin E c
    at (inl e) = a_type (record { at = i; is = sym e })
    at (inr (inl v)) =
        let l : Listed i.declaration 0 i.declaration.ctors c = listed_in i.declaration 0 i.declaration.ctors c v in
        let z : 0 + l.place ≡ l.place = omega arith in
        a_constructor (record {
          at = i;
          index = l.place;
          constructor = l.constructor;
          listed = l.listed;
          is = l.is ∙
              ap (λ n. constructor_constant i.declaration n l.constructor) z;
        })
    at (inr (inr e)) = a_recursor (record { at = i; is = sym e })

one_more : (E : Environment) (x c : ConstInfo) → (Contains E c → Origin E c) → x.detail ≡ Plain → Contains (E ++ x ∷ []) c → Origin (E ++ x ∷ []) c
one_more E x c f p w = at (Contains-push_cases E x c w)
  where
    at : Contains E c ⊎ (x ≡ c) → Origin (E ++ x ∷ []) c
    at (inl v) = origin_grows E (x ∷ []) c (f v)
    at (inr e) = plain (ap (λ y. y.detail) (sym e) ∙ p)

several_more : (E : Environment) (d : IndDecl) (large : Bool) (c : ConstInfo) → Derived E → Introduced E d large → (Contains E c → Origin E c)
    → Contains (E ++ declared_constants d large) c → Origin (E ++ declared_constants d large) c
several_more E d large c h i f w = at (Contains-append_cases E (declared_constants d large) c w)
  where
    at : Contains E c ⊎ Contains (declared_constants d large) c → Origin (E ++ declared_constants d large) c
    at (inl v) = origin_grows E (declared_constants d large) c (f v)
    at (inr v) = declared_origin (E ++ declared_constants d large)
        (record {
          before = E;
          declaration = d;
          large = large;
          derived = h;
          introduced = i;
          within = λ x u. Contains-append_right E (declared_constants d large)
              x u;
        }) c v

pub origin_of : (E : Environment) → Derived E → (c : ConstInfo) → Contains E c → Origin E c
origin_of E empty c w = absurd (none_contained c w)
origin_of E (with_axiom {E = F} x h s k n) c w = one_more F x c (λ v. origin_of F h c v) s.plain w
origin_of E (with_value {E = F} x v h s k q t) c w = one_more F x c (λ u. origin_of F h c u) s.plain w
origin_of E (with_inductive {E = F} d large h i) c w = several_more F d large c h i (λ v. origin_of F h c v) w

-- ---- Told by the detail.

type_by : (E : Environment) (c : ConstInfo) (params indices : ℕ) (names : List Path) (large : Bool) → Origin E c → c.detail ≡ Ind params indices names large
    → TypeDeclared E c
type_by E c params indices names large (plain e) q = absurd (cc)
type_by E c params indices names large (a_type t) q = t
type_by E c params indices names large (a_constructor t) q = let e = ap (λ y. y.detail) t.is in absurd (cc)
type_by E c params indices names large (a_recursor t) q = let e = ap (λ y. y.detail) t.is in absurd (cc)

constructor_by : (E : Environment) (c : ConstInfo) (ind : Path) (index own fields : ℕ) → Origin E c → c.detail ≡ Ctor ind index own fields
    → ConstructorDeclared E c
constructor_by E c ind index own fields (plain e) q = absurd (cc)
constructor_by E c ind index own fields (a_type t) q = let e = ap (λ y. y.detail) t.is in absurd (cc)
constructor_by E c ind index own fields (a_constructor t) q = t
constructor_by E c ind index own fields (a_recursor t) q = let e = ap (λ y. y.detail) t.is in absurd (cc)

recursor_by : (E : Environment) (c : ConstInfo) (ind : Path) (params minors indices : ℕ) (rules : List Term) → Origin E c
    → c.detail ≡ Rec ind params minors indices rules → RecursorDeclared E c
recursor_by E c ind params minors indices rules (plain e) q = absurd (cc)
recursor_by E c ind params minors indices rules (a_type t) q = let e = ap (λ y. y.detail) t.is in absurd (cc)
recursor_by E c ind params minors indices rules (a_constructor t) q = let e = ap (λ y. y.detail) t.is in absurd (cc)
recursor_by E c ind params minors indices rules (a_recursor t) q = t

-- ---- A constructor and its type were declared together.

record CtorParts (a b : Path) (p q m n : ℕ) : Type 0 where
  type : a ≡ b
  own : p ≡ q
  fields : m ≡ n

ctor_parts : {a b : Path} {i j p q m n : ℕ} → Ctor a i p m ≡ Ctor b j q n → CtorParts a b p q m n
ctor_parts e = record { type = cc; own = cc; fields = cc }

ind_parts : {p q m n : ℕ} {xs ys : List Path} {l r : Bool} → Ind p m xs l ≡ Ind q n ys r → (p ≡ q) × (m ≡ n)
ind_parts e = (cc, cc)

ends_same : (S T : Path) (m n p q : ℕ) (A : Term) → S ≡ T → m ≡ n → p ≡ q → EndsIn S m p A → EndsIn T n q A
ends_same S T m n p q A e f g h = subst (λ r. EndsIn T n r A) g (subst (λ r. EndsIn T r p A) f (subst (λ r. EndsIn r m p A) e h))

ends_of : (E : Environment) → Distinct E → (t c : ConstInfo) (params indices index own fields : ℕ) (names : List Path) (large : Bool) → Contains E t
    → ConstructorDeclared E c
    → t.detail ≡ Ind params indices names large → c.detail ≡ Ctor t.name index own fields → IsOf t (own + fields) (params + indices) c
ends_of E one t c params indices index own fields names large w k q r =
    let d : IndDecl = k.at.declaration in
    let a = ctor_parts (ap (λ y. y.detail) (sym k.is) ∙ r) in
    let inside : Contains E (type_constant d k.at.large) = k.at.within (type_constant d k.at.large)
    (first_contained (type_constant d k.at.large) (constructors_from d 0 d.ctors ++ recursor_of d k.at.large ∷ [])) in
    let same : type_constant d k.at.large ≡ t = one (type_constant d k.at.large) t inside w a.type in
    let b = ind_parts (ap (λ y. y.detail) same ∙ q) in (
      subst (EndsIn t.name (own + fields) (params + indices)) (sym (ap (λ y. y.ty) k.is))
          (ends_same d.name t.name (d.params + (pi_count k.constructor.ty - d.params)) (own + fields) (d.params + (pi_count d.ty - d.params)) (params + indices)
          k.constructor.ty a.type (omega (arith, a.own, a.fields)) (omega (arith, b.0, b.1))
          (admitted_ends k.at.before d k.at.large k.at.introduced.admitted k.index k.constructor k.listed)),
      ap (λ y. length y.levels) k.is ∙ ap (λ y. length y.levels) same,
    )

pub as_declared : (E : Environment) → Derived E → AsDeclared E
as_declared E h = record {
  types = λ c params indices names large w e. type_by E c params indices names large (origin_of E h c w) e;
  constructors = λ c ind index own fields w e. constructor_by E c ind index own fields (origin_of E h c w) e;
  recursors = λ c ind params minors indices rules w e. recursor_by E c ind params minors indices rules (origin_of E h c w) e;
  distinct = derived_is_distinct E h;
  ends = λ t c params indices index own fields names large v w q r.
      ends_of E (derived_is_distinct E h) t c params indices index own fields names large v (constructor_by E c t.name index own fields (origin_of E h c w) r) q
      r;
}
