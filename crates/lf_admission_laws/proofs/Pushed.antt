-- A view and a list with the type of a declaration added: over them the checker is sound as well.
use Rattle.std.proofs.Common.{◌≡◌, ◌⊎◌, inl, inr, ℕ, zero, suc, ◌+◌, Bool, true, false, Some, List, [], ◌∷◌, length, refl, sym, ap, subst, ◌∙◌, arith, Contains}
use Rattle.std.proofs.lemmas.List.Elements.{Contains-append_cases, Contains-append_left, Contains-append_right}
use Rattle.lf_core.specs.Term.{Path, Term, bound, free, meta, sort, const, app, lam, pi, letin, lit, proj}
use Rattle.lf_core.specs.Same.{same_path}
use Rattle.lf_core.specs.Scope.{Scoped}
use Rattle.lf_rules.specs.Environment.{Environment, nat}
use Rattle.lf_rules.specs.Inductive.{with_type, type_alone}
use Rattle.lf_core.specs.declared.constant.ConstInfo.{ConstInfo}
use Rattle.lf_core.specs.declared.constant.Detail.{Detail}
use Rattle.lf_core.specs.declared.constant.Detail.TheVariants.{Plain, Ind, Ctor, Rec}
use Rattle.lf_core.specs.declared.constant.IndDecl.{IndDecl}
use Rattle.lf_core.specs.declared.literal.LitOut.{LitOut}
use Rattle.lf_core.specs.declared.literal.LitOut.TheVariants as literal
use Rattle.lf_judgment_laws.specs.InScope.{ConstantClosed}
use Rattle.lf_checker.specs.View.{View, found, lookup_of, not_there, there_of}
use Rattle.lf_name.proofs.Names.{path_is}
use Rattle.lf_inductive_laws.specs.Declarations.{IsOf}
use Rattle.lf_inductive_laws.proofs.Right.{no_value}
use Rattle.lf_checker.specs.Admission.{view_with_type}
use Rattle.lf_extension_laws.proofs.Pushed.{lookup_other, lookup_own}
use Rattle.lf_checker_laws.specs.Soundness.{Held, HeldValue, HeldBeside, Names, PartsHeld, ClosedList}
use Rattle.lf_name.proofs.Names.{path_is}
use Rattle.lf_checker_laws.proofs.Views.{found_is}

-- What is found in the longer view was found before, or is the type.
pub found_before : (V : View) (d : IndDecl) (n : Path) (c : ConstInfo) → there_of V d.name ≡ not_there → lookup_of (view_with_type V d) n ≡ found c
    → (lookup_of V n ≡ found c) ⊎ ((type_alone d ≡ c) × (d.name ≡ n))
found_before V d n c h q = at (same_path d.name n) refl
  where
    at : (b : Bool) → same_path d.name n ≡ b → (lookup_of V n ≡ found c) ⊎ ((type_alone d ≡ c) × (d.name ≡ n))
    at true e = inr (found_is (type_alone d) c (sym (lookup_own V d n h e) ∙ q), path_is d.name n e)
    at false e = inl (sym (lookup_other V d n h e) ∙ q)

-- ---- The list with the type.

-- What the view's constants are told: the name is that of the type, or a constant's of the list.
pub record Added (V : View) (E : Environment) (d : IndDecl) : Type 0 where
  pub list : ClosedList V E
  pub new : there_of V d.name ≡ not_there
  pub closed : Scoped 0 0 d.ty
  pub beside : HeldBeside (view_with_type V d) (with_type E d) d.name
  pub named : Names (view_with_type V d) (with_type E d) (length d.levels) d.ty
  -- no constructor of the list is one of the type
  pub fresh : (c : ConstInfo) (index own fields : ℕ) → Contains E c → c.detail ≡ Ctor d.name index own fields → ⊥

type_within : (E : Environment) (d : IndDecl) → Contains (with_type E d) (type_alone d)
type_within E d = Contains-append_right E (type_alone d ∷ []) (type_alone d) (zero, omega arith, refl)

held_grows : (V : View) (E : Environment) (d : IndDecl) (n : Path) → there_of V d.name ≡ not_there → Held V E n → Held (view_with_type V d) (with_type E d) n
held_grows V E d n new h c q = at (found_before V d n c new q)
  where
    at : (lookup_of V n ≡ found c) ⊎ ((type_alone d ≡ c) × (d.name ≡ n)) → Contains (with_type E d) c
    at (inl e) = Contains-append_left E (type_alone d ∷ []) c (h c e)
    at (inr e) = subst (Contains (with_type E d)) e.0 (type_within E d)

held_value_grows : (V : View) (E : Environment) (d : IndDecl) (r : LitOut) → there_of V d.name ≡ not_there → HeldValue V E r
    → HeldValue (view_with_type V d) (with_type E d) r
held_value_grows V E d (literal.Nat k) new h = tt
held_value_grows V E d (literal.Bool true) new h = held_grows V E d _ new h
held_value_grows V E d (literal.Bool false) new h = held_grows V E d _ new h

pub beside_grows : (V : View) (E : Environment) (d : IndDecl) (n : Path) → there_of V d.name ≡ not_there → HeldBeside V E n
    → HeldBeside (view_with_type V d) (with_type E d) n
beside_grows V E d n new h = record {
  zero = λ e. held_grows V E d nat new (h.zero e);
  operation = λ i j r e. held_value_grows V E d r new (h.operation i j r e);
}

pub names_grow : (V : View) (E : Environment) (d : IndDecl) (top : ℕ) (t : Term) → there_of V d.name ≡ not_there → Names V E top t
    → Names (view_with_type V d) (with_type E d) top t
names_grow V E d top (bound i) new h = tt
names_grow V E d top (free k) new h = tt
names_grow V E d top (meta k) new h = tt
names_grow V E d top (sort l) new h = h
names_grow V E d top (const n ls) new h = (held_grows V E d n new h.0, beside_grows V E d n new h.1, h.2)
names_grow V E d top (app f a) new h = (names_grow V E d top f new h.0, names_grow V E d top a new h.1)
names_grow V E d top (lam x A b) new h = (names_grow V E d top A new h.0, names_grow V E d top b new h.1)
names_grow V E d top (pi x A b) new h = (names_grow V E d top A new h.0, names_grow V E d top b new h.1)
names_grow V E d top (letin x A v b) new h = (names_grow V E d top A new h.0, names_grow V E d top v new h.1, names_grow V E d top b new h.2)
names_grow V E d top (proj s i t) new h = (held_grows V E d s new h.0, names_grow V E d top t new h.1)
names_grow V E d top (lit k) new h = held_grows V E d nat new h

no_constructor : (d : IndDecl) (c : ConstInfo) (ind : Path) (index own fields : ℕ) {P : Type 0} → type_alone d ≡ c → c.detail ≡ Ctor ind index own fields → P
no_constructor d c ind index own fields e q = let f : (type_alone d).detail ≡ Ctor ind index own fields = ap (λ x. x.detail) e ∙ q in absurd (cc)

parts_grow : (V : View) (E : Environment) (d : IndDecl) (top : ℕ) (e : Detail) → there_of V d.name ≡ not_there → PartsHeld V E top e
    → PartsHeld (view_with_type V d) (with_type E d) top e
parts_grow V E d top Plain new h = tt
parts_grow V E d top (Ind params indices names large) new h = tt
parts_grow V E d top (Ctor ind index own fields) new h = tt
parts_grow V E d top (Rec ind params minors indices rules) new h = (
  held_grows V E d ind new h.0,
  λ n c index own fields q e. at n c index own fields e (found_before V d n c new q),
  λ k r e. names_grow V E d top r new (h.2 k r e),
)
  where
    at : (n : Path) (c : ConstInfo) (index own fields : ℕ) → c.detail ≡ Ctor ind index own fields
        → (lookup_of V n ≡ found c) ⊎ ((type_alone d ≡ c) × (d.name ≡ n)) → Contains (with_type E d) c
    at n c index own fields e (inl q) = Contains-append_left E (type_alone d ∷ []) c (h.1 n c index own fields q e)
    at n c index own fields e (inr q) = no_constructor d c ind index own fields q.0 e

-- What holds of the list's constants and of the type holds of all.
pub of_all : (E : Environment) (d : IndDecl) (P : ConstInfo → Type 0) → ((c : ConstInfo) → Contains E c → P c) → P (type_alone d) → (c : ConstInfo)
    → Contains (with_type E d) c → P c
of_all E d P old new c w = at (Contains-append_cases E (type_alone d ∷ []) c w)
  where
    at : Contains E c ⊎ Contains (type_alone d ∷ []) c → P c
    at (inl i) = old c i
    at (inr (zero, l, e)) = subst P e new
    at (inr (suc k, l, e)) = absurd (omega arith)

type_closed : (d : IndDecl) → Scoped 0 0 d.ty → ConstantClosed (type_alone d)
type_closed d s = record { ty = s; value = λ v e. absurd (no_value e); rules = tt }

list_constructors : (V : View) (E : Environment) (d : IndDecl) → Added V E d
    → (t c : ConstInfo) (params indices index own fields : ℕ) (names : List Path) (large : Bool) → Contains (with_type E d) t → Contains (with_type E d) c
    → t.detail ≡ Ind params indices names large → c.detail ≡ Ctor t.name index own fields → IsOf t (own + fields) (params + indices) c
list_constructors V E d a t c params indices index own fields names large wt wc qt qc =
    of_all E d (λ x. x.detail ≡ Ctor t.name index own fields → IsOf t (own + fields) (params + indices) x)
    (λ x w. of_all E d (λ y. y.detail ≡ Ind params indices names large → x.detail ≡ Ctor y.name index own fields → IsOf y (own + fields) (params + indices) x)
    (λ y v q r. a.list.constructors y x params indices index own fields names large v w q r)
    (λ q r. absurd (a.fresh x index own fields w r)) t wt qt)
    (λ r. no_constructor d (type_alone d) t.name index own fields refl r) c wc qc

list_whole : (V : View) (E : Environment) (d : IndDecl) → Added V E d → (t c : ConstInfo) (n : Path) (params indices index own fields : ℕ) (large : Bool)
    → Contains (with_type E d) t → t.detail ≡ Ind params indices (n ∷ []) large
    → lookup_of (view_with_type V d) n ≡ found c → c.detail ≡ Ctor t.name index own fields → Contains (with_type E d) c
list_whole V E d a t c n params indices index own fields large w =
    of_all E d (λ x. x.detail ≡ Ind params indices (n ∷ []) large → lookup_of (view_with_type V d) n ≡ found c → c.detail ≡ Ctor x.name index own fields
    → Contains (with_type E d) c)
    (λ x i q f e. at x i q e (found_before V d n c a.new f)) (λ q f e. absurd (cc)) t w
  where
    at : (x : ConstInfo) → Contains E x → x.detail ≡ Ind params indices (n ∷ []) large → c.detail ≡ Ctor x.name index own fields
        → (lookup_of V n ≡ found c) ⊎ ((type_alone d ≡ c) × (d.name ≡ n)) → Contains (with_type E d) c
    at x i q e (inl f) = Contains-append_left E (type_alone d ∷ []) c (a.list.whole x c n params indices index own fields large i q f e)
    at x i q e (inr f) = no_constructor d c x.name index own fields f.0 e

-- Over the view and the list with the type, the checker is sound.
pub added_is_closed : (V : View) (E : Environment) (d : IndDecl) → Added V E d → ClosedList (view_with_type V d) (with_type E d)
added_is_closed V E d a = record {
  own_name = λ n c q. own n c (found_before V d n c a.new q);
  closed = of_all E d ConstantClosed a.list.closed (type_closed d a.closed);
  types = of_all E d (λ c. Names (view_with_type V d) (with_type E d) (length c.levels) c.ty)
      (λ c w. names_grow V E d (length c.levels) c.ty a.new (a.list.types c w)) a.named;
  values = λ c v w. of_all E d (λ x. x.value ≡ Some v → Names (view_with_type V d) (with_type E d) (length x.levels) v)
      (λ x i e. names_grow V E d (length x.levels) v a.new (a.list.values x v i e)) (λ e. absurd (no_value e)) c w;
  parts = of_all E d (λ c. PartsHeld (view_with_type V d) (with_type E d) (length c.levels) c.detail)
      (λ c w. parts_grow V E d (length c.levels) c.detail a.new (a.list.parts c w)) tt;
  beside = of_all E d (λ c. HeldBeside (view_with_type V d) (with_type E d) c.name) (λ c w. beside_grows V E d c.name a.new (a.list.beside c w)) a.beside;
  whole = list_whole V E d a;
  constructors = list_constructors V E d a;
}
  where
    own : (n : Path) (c : ConstInfo) → (lookup_of V n ≡ found c) ⊎ ((type_alone d ≡ c) × (d.name ≡ n)) → c.name ≡ n
    own n c (inl q) = a.list.own_name n c q
    own n c (inr q) = sym (ap (λ x. x.name) q.0) ∙ q.1
