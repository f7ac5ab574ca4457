-- A list whose items were each accepted over a view of its own is derived.
use Rattle.std.proofs.Common.{
  ◌≡◌,
  ◌⊎◌,
  inl,
  inr,
  ℕ,
  suc,
  Bool,
  true,
  false,
  ◌&&◌,
  List,
  [],
  ◌∷◌,
  ◌++◌,
  length,
  refl,
  sym,
  ap,
  ap₂,
  subst,
  ◌∙◌,
  ◌+◌,
  arith,
  Some,
  Contains,
}
use Rattle.std.proofs.lemmas.List.{append_assoc}
use Rattle.std.proofs.lemmas.List.Elements.{Contains-append_cases, Contains-append_left, Contains-append_right}
use Rattle.lf_core.specs.Term.{Path, Universe, Term, bound, free, meta, sort, const, app, lam, pi, letin, lit, proj}
use Rattle.lf_core.specs.Substitution.{raise, level_instantiate}
use Rattle.lf_rules.specs.Judgment.{HasType, constant, application}
use Rattle.lf_judgment_laws.proofs.Variables.{by_lt}
use Rattle.lf_core.specs.Same.{same_path}
use Rattle.lf_rules.specs.Environment.{Environment, Declared, Fresh, nat, ParametersBelow}
use Rattle.lf_rules.specs.Recursor.{recursor_name, recursor_of}
use Rattle.lf_rules.specs.Inductive.{type_constant, type_alone, constructor_constant, constructors_from, declared_constants, with_type}
use Rattle.lf_rules.specs.Derived.{Checked, AllFresh, Derived, empty, with_axiom, with_value, with_inductive}
use Rattle.lf_core.specs.declared.constant.ConstInfo.{ConstInfo}
use Rattle.lf_core.specs.declared.constant.CtorInfo.{CtorInfo}
use Rattle.lf_core.specs.declared.constant.IndDecl.{IndDecl}
use Rattle.lf_core.specs.declared.literal.LitOut.{LitOut}
use Rattle.lf_core.specs.declared.literal.LitOut.TheVariants as literal
use Rattle.lf_judgment_laws.specs.Growth.{Grows}
use Rattle.lf_inductive_laws.proofs.Growing.{checked_grows, grow_derivations}
use Rattle.lf_checker.specs.View.{View, found, lookup_of, not_there, there_of}
use Rattle.lf_checker.specs.Run.{Answer, done, refuse}
use Rattle.lf_checker.specs.declared.fault.TypeFault.TheVariants.{NotClosed}
use Rattle.lf_checker.specs.Checker.{is_closed, add_header, add_decl}
use Rattle.lf_checker.specs.Admission.{view_with_type, unless_declared, admit, are_closed, add_inductive}
use Rattle.lf_checker_laws.specs.Soundness.{Held, Post}
use Rattle.lf_checker_laws.specs.Declarations.{HasEntry, Accepts}
use Rattle.lf_checker_laws.proofs.Runs.{post_choose, post_map, post_any}
use Rattle.lf_checker_laws.proofs.Views.{found_is}
use Rattle.lf_checker_laws.proofs.Accepted.{accepted_is_derived}
use Rattle.lf_admission_laws.specs.Admission.{ConstructorsHaveEntries, ConstructorsAsked, Names, Admits}
use Rattle.lf_extension_laws.proofs.Pushed.{lookup_own}
use Rattle.lf_checker_laws.proofs.Structures.{path_same}
use Rattle.lf_admission_laws.proofs.Pushed.{found_before}
use Rattle.lf_admission_laws.proofs.New_names.{NamesNew, declared_sound}
use Rattle.lf_admission_laws.proofs.All.{admission_is_sound}
use Rattle.lf_inductive_laws.proofs.Contained.{none_contained, last_contained, first_contained}
use Rattle.lf_derivation_laws.specs.Lists.{
  Item,
  assumed,
  defined,
  failed,
  introduced,
  constants_of,
  view_of,
  all_constants,
  knows,
  known,
  DeclaredValue,
  Beside,
  AllBeside,
  KnowsAsMuch,
  Inherits,
  Reads,
  HeaderAccepted,
  ValueAccepted,
  DeclarationAccepted,
  FailedAt,
  Accepted,
  Reported,
  nothing,
  then_item,
  ReportedIsDerived,
  StandingNames,
}
use Rattle.lf_derivation_laws.proofs.Lists_of_items.{
  Within,
  within_grows,
  fresh_within,
  all_fresh_within,
  item_of,
  of_item,
  all-last,
  known_of,
  known_if,
  known-with,
  known-without,
}
use Rattle.lf_derivation_laws.proofs.Known_items.{
  known_within,
  known_by,
  beside_in,
  names_in,
  asked_known,
  list_known,
  held_if_declared,
  held_beside,
  list_beside,
  names_held,
}

-- What is done has the property.
done_has : {A : Type 0} (P : A → Type 0) (o : Answer A) (x : A) (u : ℕ) → o ≡ done x u → Post P o → P x
done_has P o x u e h = subst (Post P) e h

-- Over what a view knows, each view that inherits has a derivation.
abbrev DerivedFor : List Item → Type 0
DerivedFor J = (V : View) → Inherits V J → Derived (all_constants (known V J))

-- What is the same for all views over a list.
record Standing (J : List Item) : Type 0 where
  derived : DerivedFor J
  beside : AllBeside (all_constants J) (all_constants J)

-- What one view knows, the other knows.
known_in : (U V : View) (J : List Item) → KnowsAsMuch U V J → Within (all_constants (known U J)) (all_constants (known V J))
known_in U V J h c w =
    let i = item_of (known U J) c w in
    let k = known_of U J i.0 i.1 in
    of_item (known V J) i.0 c (known_if V J i.0 k.0 (h i.0 k.0 k.1)) i.2

-- ---- Headers and values.

-- The level of a header is at the constant's own levels.
header_level : (J : List Item) → Standing J → (c : ConstInfo) (V : View) (h : HeaderAccepted J c V) → ParametersBelow (length c.levels) h.level
header_level J d c V h =
    let E : Environment = all_constants (known V J) in
    let n : ℕ = length c.levels in
    let a : Accepts V E h.depth = accepted_is_derived V E (d.derived V h.reads.earlier) (list_known V J h.reads) (list_beside V J h.reads d.beside) h.depth in
    (done_has (λ l. HasType E [] c.ty (sort l) × ParametersBelow n l) (add_header V h.depth c.name c.ty h.units) h.level h.left h.accepted
    (a.header c.name c.ty h.units n (asked_known V J h.reads n c.ty h.asked).names)).1

header_checked : (J : List Item) → Standing J → (c : ConstInfo) (V : View) (h : HeaderAccepted J c V)
    → Checked (all_constants (known V J)) c c.ty (sort h.level)
header_checked J d c V h =
    let E : Environment = all_constants (known V J) in
    let a : Accepts V E h.depth = accepted_is_derived V E (d.derived V h.reads.earlier) (list_known V J h.reads) (list_beside V J h.reads d.beside) h.depth in
    done_has (λ l. Checked E c c.ty (sort l)) (add_header V h.depth c.name c.ty h.units) h.level h.left h.accepted
    (a.checked_type c h.units (asked_known V J h.reads (length c.levels) c.ty h.asked))

value_checked : (J : List Item) → Standing J → (c : ConstInfo) (v : Term) (V : View) (l : Universe) → c.value ≡ Some v
    → Checked (all_constants (known V J)) c c.ty (sort l) → ValueAccepted J c v V → Checked (all_constants (known V J)) c v c.ty
value_checked J d c v V l q t h =
    let E : Environment = all_constants (known V J) in
    let a : Accepts V E h.depth = accepted_is_derived V E (d.derived V h.reads.earlier) (list_known V J h.reads) (list_beside V J h.reads d.beside) h.depth in
    done_has (λ x. Checked E c v c.ty) (add_decl V h.depth c h.units) h.height h.left h.accepted
    (a.checked_value c v l h.units q t (asked_known V J h.reads (length c.levels) v h.asked))

-- ---- A value that failed.

raise-none : (d : ℕ) (t : Term) → raise d 0 t ≡ t
raise-none d (bound i) = by_lt (λ x. x ≡ bound i) i d (bound i) (bound (i + 0)) (λ e. refl) (λ e. ap bound (omega arith))
raise-none d (free k) = refl
raise-none d (meta k) = refl
raise-none d (sort l) = refl
raise-none d (const n ls) = refl
raise-none d (app f a) = ap₂ app (raise-none d f) (raise-none d a)
raise-none d (lam x A b) = ap₂ (λ y z. lam x y z) (raise-none d A) (raise-none (suc d) b)
raise-none d (pi x A b) = ap₂ (λ y z. pi x y z) (raise-none d A) (raise-none (suc d) b)
raise-none d (letin x A v b) = cc (raise-none d A, raise-none d v, raise-none (suc d) b)
raise-none d (lit n) = refl
raise-none d (proj S i t) = ap (proj S i) (raise-none d t)

sorry_checked : (J : List Item) → (c : ConstInfo) (V : View) (l : Universe) → Reads V J → Checked (all_constants (known V J)) c c.ty (sort l)
    → ParametersBelow (length c.levels) l → (f : FailedAt J c l V)
    → Checked (all_constants (known V J)) c (app (const f.sorry.name (l ∷ [])) c.ty) c.ty
sorry_checked J c V l r t b f =
    let E : Environment = all_constants (known V J) in
    let w : Contains E f.sorry = known_by V J r f.sorry f.sorry f.within f.known_there in
    let h : HasType E [] (const f.sorry.name (l ∷ [])) (level_instantiate (l ∷ []) f.sorry.ty) = constant f.sorry (l ∷ []) w (sym f.one_level) in
    let h' : HasType E [] (const f.sorry.name (l ∷ [])) (pi f.binder (sort l) (bound 0)) =
    subst (λ A. HasType E [] (const f.sorry.name (l ∷ [])) (level_instantiate (l ∷ []) A)) f.form h in
    record {
      typed = subst (HasType E [] (app (const f.sorry.name (l ∷ [])) c.ty)) (raise-none 0 c.ty) (application h' t.typed);
      named = ((f.sorry, w, refl), t.named);
      levels = ((b, tt), t.levels);
    }

-- ---- Declarations.

pub no_entry_needed : (V : View) (E : Environment) (n : Path) → Fresh E n → HasEntry V E n
no_entry_needed V E n f c w e = absurd (f (c, w, e))

longer : {X : Type 0} (E F : List X) (c : X) → Within E F → Within E (F ++ c ∷ [])
longer E F c h d w = Contains-append_left F (c ∷ []) d (h d w)

record NewNames (V : View) (E : Environment) (cs : List CtorInfo) (r : ConstInfo) : Type 0 where
  constructors : ConstructorsHaveEntries V E cs
  recursor : Fresh E r.name

new_names : (V : View) (E G : Environment) (d : IndDecl) (index : ℕ) (cs : List CtorInfo) (r : ConstInfo) → Within E G
    → AllFresh G (constructors_from d index cs ++ r ∷ []) → NewNames V E cs r
new_names V E G d index [] r h f = record { constructors = tt; recursor = fresh_within E G r.name h f.0 }
new_names V E G d index (c ∷ cs) r h f =
    let k : ConstInfo = constructor_constant d index c in
    let rest : NewNames V E cs r = new_names V E (G ++ k ∷ []) d (suc index) cs r (longer E G k h) f.1 in
    record { constructors = (no_entry_needed V E c.name (fresh_within E G c.name h f.0), rest.constructors); recursor = rest.recursor }

pub names_new : (V : View) (depth : ℕ) (d : IndDecl) (u : ℕ) → Post (λ given. NamesNew V d) (add_inductive V depth d u)
names_new V depth d u =
    let Q : List ConstInfo → Type 0 = λ given. NamesNew V d in
    post_choose Q (is_closed d.ty && are_closed d.ctors) (unless_declared V d (admit V depth d)) (refuse NotClosed) u
    (λ e. declared_sound Q V d (admit V depth d) u λ n. post_map (λ x. Unit {0}) Q (admit V depth d u) (post_any (admit V depth d u)) λ x z. n)
    (λ e. tt)

pub declaration_new : (J : List Item) (d : IndDecl) (large : Bool) (V : View) → DeclarationAccepted J d large V → NamesNew V d
declaration_new J d large V h = done_has (λ g. NamesNew V d) (add_inductive V h.depth d h.units) (declared_constants d large) h.left h.accepted
    (names_new V h.depth d h.units)

-- With the type of a declaration added, the list has what the view with the type finds.
held_with_type : (V : View) (J : List Item) → Reads V J → (d : IndDecl) → there_of V d.name ≡ not_there → (n : Path)
    → Held (view_with_type V d) (with_type (all_constants J) d) n → Held (view_with_type V d) (with_type (all_constants (known V J)) d) n
held_with_type V J r d new n h c q = at (Contains-append_cases (all_constants J) (type_alone d ∷ []) c (h c q)) (found_before V d n c new q)
  where
    E : Environment
    E = all_constants (known V J)

    at : Contains (all_constants J) c ⊎ Contains (type_alone d ∷ []) c → (lookup_of V n ≡ found c) ⊎ ((type_alone d ≡ c) × (d.name ≡ n))
        → Contains (with_type E d) c
    at (inr w) b = Contains-append_right E (type_alone d ∷ []) c w
    at (inl w) (inl e) = Contains-append_left E (type_alone d ∷ []) c (known_by V J r c c w (subst (λ m. lookup_of V m ≡ found c) (sym (r.own_name n c e)) e))
    at (inl w) (inr e) = subst (Contains (with_type E d)) e.0 (Contains-append_right E (type_alone d ∷ []) (type_alone d) (first_contained (type_alone d) []))

-- With the type of a declaration added, what stands there is held.
declared_with_type : (V : View) (J : List Item) → Reads V J → (d : IndDecl) → there_of V d.name ≡ not_there → (n : Path)
    → Declared (with_type (all_constants J) d) n → Held (view_with_type V d) (with_type (all_constants J) d) n
declared_with_type V J r d new n (x, w, e) c q = at (Contains-append_cases (all_constants J) (type_alone d ∷ []) x w)
  where
    G : Environment
    G = with_type (all_constants J) d

    own : Contains G (type_alone d)
    own = Contains-append_right (all_constants J) (type_alone d ∷ []) (type_alone d) (first_contained (type_alone d) [])

    old : Contains (all_constants J) x → (lookup_of V n ≡ found c) ⊎ ((type_alone d ≡ c) × (d.name ≡ n)) → Contains G c
    old v (inl b) = Contains-append_left (all_constants J) (type_alone d ∷ []) c (held_if_declared V J r n (x, v, e) c b)
    old v (inr b) = subst (Contains G) b.0 own

    at : Contains (all_constants J) x ⊎ Contains (type_alone d ∷ []) x → Contains G c
    at (inl v) = old v (found_before V d n c new q)
    at (inr v) =
        let name : d.name ≡ n = ap (λ y. y.name) (last_contained (type_alone d) x v) ∙ e in
        let s : same_path d.name n ≡ true = subst (λ m. same_path d.name m ≡ true) name (path_same d.name) in
        subst (Contains G) (found_is (type_alone d) c (sym (lookup_own V d n new s) ∙ q)) own

all_asked : (V : View) (E F : Environment) (top : ℕ) → ((n : Path) → Held V E n → Held V F n) → (cs : List CtorInfo) → ConstructorsAsked V E top cs
    → ConstructorsAsked V F top cs
all_asked V E F top m [] h = tt
all_asked V E F top m (c ∷ cs) h = (record { names = names_in V E F top m c.ty h.0.names; literals = h.0.literals }, all_asked V E F top m cs h.1)

declaration_admitted : (J : List Item) → Standing J → (d : IndDecl) (large : Bool) (V : View) → AllFresh (all_constants J) (declared_constants d large)
    → DeclarationAccepted J d large V → Admits (all_constants (known V J)) d (declared_constants d large)
declaration_admitted J dj d large V fresh h =
    let E : Environment = all_constants (known V J) in
    let W : View = view_with_type V d in
    let new : there_of V d.name ≡ not_there = (declaration_new J d large V h).type in
    let f : AllFresh E (declared_constants d large) = all_fresh_within E (all_constants J) (declared_constants d large) (known_within V J) fresh in
    let t : ConstInfo = type_constant d large in
    let ns : NewNames V E d.ctors (recursor_of d large) = new_names V E (E ++ t ∷ []) d 0 d.ctors (recursor_of d large)
    (λ c w. Contains-append_left E (t ∷ []) c w) f.1 in
    let held = held_with_type V J h.reads d new in
    let names : Names V E d = record {
      type = asked_known V J h.reads (length d.levels) d.ty h.asked;
      constructors = all_asked W (with_type (all_constants J) d) (with_type E d) (length d.levels) held d.ctors h.constructors;
      beside = beside_in W (with_type (all_constants J) d) (with_type E d) held d.name
          (held_beside W (with_type (all_constants J) d) (declared_with_type V J h.reads d new) d.name h.beside);
      type_entry = no_entry_needed V E d.name f.0;
      constructor_entries = ns.constructors;
      recursor_entry = no_entry_needed V E (recursor_name d) ns.recursor;
    } in
    let a = admission_is_sound V E (dj.derived V h.reads.earlier) (list_known V J h.reads) (list_beside V J h.reads dj.beside) h.depth in
    done_has (Admits E d) (add_inductive V h.depth d h.units) (declared_constants d large) h.left h.accepted (a.admitted d h.units names)

-- ---- An item over each list that has what its view knows.

item_added : (J : List Item) → Standing J → (i : Item) → AllFresh (all_constants J) (constants_of i) → Accepted J i → (F : Environment) → Derived F
    → AllFresh F (constants_of i) → Within (all_constants (known (view_of i) J)) F → Derived (F ++ constants_of i)
item_added J dj (assumed c V) fresh a F df new within =
    let E : Environment = all_constants (known V J) in
    let t : Checked F c c.ty (sort a.0.level) = checked_grows E F c c.ty (sort a.0.level) (within_grows E F within) (header_checked J dj c V a.0) in
    with_axiom c df (record { fresh = new.0; plain = a.1; level = a.0.level; type = t }) a.2 a.3
item_added J dj (defined c v H B) fresh a F df new within =
    let D : Environment = all_constants (known H J) in
    let E : Environment = all_constants (known B J) in
    let l : Universe = a.0.level in
    let t : Checked E c c.ty (sort l) = checked_grows D E c c.ty (sort l) (within_grows D E (known_in H B J a.2)) (header_checked J dj c H a.0) in
    let x : Checked E c v c.ty = value_checked J dj c v B l a.5 t a.1 in
    let g : Grows E F = within_grows E F within in
    with_value c v df (record { fresh = new.0; plain = a.3; level = l; type = checked_grows E F c c.ty (sort l) g t }) a.4 a.5 (checked_grows E F c v c.ty g x)
item_added J dj (failed c V) fresh a F df new within =
    let E : Environment = all_constants (known V J) in
    let h : HeaderAccepted J c V = a.0 in
    let l : Universe = h.level in
    let v : Term = app (const a.1.sorry.name (l ∷ [])) c.ty in
    let t : Checked E c c.ty (sort l) = header_checked J dj c V h in
    let x : Checked E c v c.ty = sorry_checked J c V l h.reads t (header_level J dj c V h) a.1 in
    let g : Grows E F = within_grows E F within in
    with_value c v df (record { fresh = new.0; plain = a.2; level = l; type = checked_grows E F c c.ty (sort l) g t }) a.3 a.1.value
    (checked_grows E F c v c.ty g x)
item_added J dj (introduced d large V) fresh a F df new within =
    let E : Environment = all_constants (known V J) in
    let m : Admits E d (declared_constants d large) = declaration_admitted J dj d large V fresh a in
    let n : AllFresh F (declared_constants d m.large) = subst (AllFresh F) m.is new in
    subst (λ cs. Derived (F ++ cs)) (sym m.is)
    (with_inductive d m.large df (grow_derivations.introduced E F d m.large (within_grows E F within) n m.introduced))

-- ---- Along the list.

inherits_before : (V : View) (J : List Item) (i : Item) → Inherits V (J ++ i ∷ []) → Inherits V J
inherits_before V J i h before after k e = h before (after ++ i ∷ []) k (ap (λ x. x ++ i ∷ []) e ∙ append_assoc before (k ∷ after) (i ∷ []))

pub all_beside : (J : List Item) → Reported J → AllBeside (all_constants J) (all_constants J)
all_beside [] nothing c w = absurd (none_contained c w)
all_beside K (then_item {J = J} i r fresh b a) c w =
    let E : Environment = all_constants J in
    let D : List ConstInfo = constants_of i in
    let e = all-last J i in
    subst (λ x. Beside x c.name) (sym e) (at (all_beside J r) (Contains-append_cases E D c (subst (λ x. Contains x c) e w)))
  where
    more : (n : Path) → Declared (all_constants J) n → Declared (all_constants J ++ constants_of i) n
    more n (x, v, q) = (x, Contains-append_left (all_constants J) (constants_of i) x v, q)

    value_more : (v : LitOut) → DeclaredValue (all_constants J) v → DeclaredValue (all_constants J ++ constants_of i) v
    value_more (literal.Nat k) h = tt
    value_more (literal.Bool true) h = more _ h
    value_more (literal.Bool false) h = more _ h

    at : AllBeside (all_constants J) (all_constants J) → Contains (all_constants J) c ⊎ Contains (constants_of i) c
        → Beside (all_constants J ++ constants_of i) c.name
    at before (inl v) = let s = before c v in record { zero = λ e. more nat (s.zero e); operation = λ m n v' e. value_more v' (s.operation m n v' e) }
    at before (inr v) = b c v

known_derived : (J : List Item) → Reported J → DerivedFor J
known_derived [] nothing V h = empty
known_derived K (then_item {J = J} i r fresh b a) V h = at (record { derived = known_derived J r; beside = all_beside J r }) (knows V i) refl
  where
    F : Environment
    F = all_constants (known V J)

    at : Standing J → (x : Bool) → knows V i ≡ x → Derived (all_constants (known V (J ++ i ∷ [])))
    at dj false e = subst (λ x. Derived (all_constants x)) (sym (known-without V J i e)) (dj.derived V (inherits_before V J i h))
    at dj true e =
        subst Derived (sym (ap all_constants (known-with V J i e) ∙ all-last (known V J) i))
        (item_added J dj i fresh a F (dj.derived V (inherits_before V J i h)) (all_fresh_within F (all_constants J) (constants_of i) (known_within V J) fresh)
        (known_in (view_of i) V J (h J [] i refl e)))

pub reported_is_derived : ReportedIsDerived
reported_is_derived [] nothing = empty
reported_is_derived K (then_item {J = J} i r fresh b a) =
    subst Derived (sym (all-last J i))
    (item_added J (record { derived = known_derived J r; beside = all_beside J r }) i fresh a (all_constants J) (reported_is_derived J r) fresh
    (known_within (view_of i) J))

beside_with_type : (J : List Item) → Reported J → (d : IndDecl) → Beside (with_type (all_constants J) d) d.name
    → AllBeside (with_type (all_constants J) d) (with_type (all_constants J) d)
beside_with_type J r d own c w = at (Contains-append_cases (all_constants J) (type_alone d ∷ []) c w)
  where
    G : Environment
    G = with_type (all_constants J) d

    more : (n : Path) → Declared (all_constants J) n → Declared G n
    more n (x, v, q) = (x, Contains-append_left (all_constants J) (type_alone d ∷ []) x v, q)

    value_more : (v : LitOut) → DeclaredValue (all_constants J) v → DeclaredValue G v
    value_more (literal.Nat k) h = tt
    value_more (literal.Bool true) h = more _ h
    value_more (literal.Bool false) h = more _ h

    at : Contains (all_constants J) c ⊎ Contains (type_alone d ∷ []) c → Beside G c.name
    at (inl v) = let s = all_beside J r c v in record { zero = λ e. more nat (s.zero e); operation = λ m n x e. value_more x (s.operation m n x e) }
    at (inr v) = subst (λ x. Beside G x.name) (last_contained (type_alone d) c v) own

pub standing_names : StandingNames
standing_names J r V reads = record {
  term = λ n t h l. names_held V (all_constants J) (held_if_declared V J reads) (all_beside J r) n t h l;
  constructor = λ d new own n t h l. names_held (view_with_type V d) (with_type (all_constants J) d) (declared_with_type V J reads d new)
      (beside_with_type J r d own) n t h l;
}
