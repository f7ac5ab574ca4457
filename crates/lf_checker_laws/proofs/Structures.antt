-- What the checker finds to be a structure is one; its rules for projections.
use Rattle.std.proofs.Common.{
  ◌≡◌,
  ℕ,
  zero,
  suc,
  ◌+◌,
  ◌<◌,
  nat_eq,
  nat_lt,
  Bool,
  true,
  false,
  not,
  ◌&&◌,
  ◌||◌,
  List,
  [],
  ◌∷◌,
  ◌++◌,
  length,
  drop,
  slice_get,
  refl,
  sym,
  ap,
  subst,
  ◌∙◌,
  arith,
  Option,
  Some,
  None,
  Contains,
  true≢false,
}
use Rattle.std.proofs.lemmas.Bool.{cond_both, eqb-true, ltb-true, and_parts, or_parts, not-true}
use Rattle.lf_core.specs.Term.{
  Path,
  Universe,
  level_zero,
  level_succ,
  level_max,
  level_imax,
  level_param,
  level_meta,
  Term,
  bound,
  free,
  meta,
  sort,
  const,
  app,
  lam,
  pi,
  letin,
  lit,
  proj,
}
use Rattle.lf_core.specs.Same.{same_path}
use Rattle.lf_core.specs.Substitution.{instantiate, level_instantiate}
use Rattle.lf_core.specs.Spine.{apply, head_of, arguments_of}
use Rattle.lf_core.specs.Scope.{Scoped}
use Rattle.lf_rules.specs.Environment.{Environment, Context, AllParametersBelow}
use Rattle.lf_rules.specs.Structure.{Without, result_level, FieldsWithout, IsStructure, projections, DomainAt, here, there}
use Rattle.lf_rules.specs.Step.{Step, projection as projection_step}
use Rattle.lf_rules.specs.Judgment.{
  Equal,
  transitive,
  step,
  projected as projected_terms,
  HasType,
  projection,
  conversion,
  Formed,
  is_type,
  equal_to,
  projected_part,
}
use Rattle.lf_core.specs.declared.constant.ConstInfo.{ConstInfo}
use Rattle.lf_core.specs.declared.constant.Detail.{Detail}
use Rattle.lf_core.specs.declared.constant.Detail.TheVariants.{Plain, Ind, Ctor, Rec}
use Rattle.lf_judgment_laws.proofs.Variables.{rebuilt}
use Rattle.lf_checker.specs.View.{View, Lookup, found, absent, need_body, need_real, lookup_of}
use Rattle.lf_checker.specs.Extends.{shape_of}
use Rattle.lf_checker.specs.Run.{Run, ◌>>=◌, gives, refuse, put}
use Rattle.lf_checker.specs.declared.fault.TypeFault.TheVariants.{NotStructure}
use Rattle.lf_checker.specs.Calls.{checked, Calls, seen_as}
use Rattle.lf_checker.specs.Structures.{
  mentions,
  fields_without,
  Structure,
  is_successor,
  by_constructor,
  constructor_seen,
  by_type,
  structure_seen,
  structure_of,
  is_built,
}
use Rattle.lf_checker.specs.Whnf.{Progress, next, field_at, projected, by_field, projection_turn}
use Rattle.lf_checker.specs.Infer.{domain_at, of_structure, on_structure}
use Rattle.lf_name.proofs.Names.{path_is, path_equivalence}
use Rattle.lf_checker_laws.specs.Soundness.{Held, Names, Fits, AllFit, ContextFits, ClosedList, Post, Typed, Reduct, Sound}
use Rattle.lf_checker_laws.proofs.Tests.{no_false}
use Rattle.lf_checker_laws.proofs.Runs.{post_then, post_map, Maybe, post_choose, post_put, post_made_then}
use Rattle.lf_checker_laws.proofs.Fitting.{head_fits, instantiate_fits, levels_fit, apply_fits, arguments_fit, all_append, all_drop, all_get}
use Rattle.lf_checker_laws.proofs.Forming.{formed_parts, equal_apply}
use Rattle.lf_checker_laws.proofs.Reduces.{Fit, Goes}

-- ---- Tests.

pub path_same : (n : Path) → same_path n n ≡ true
path_same n = path_equivalence.refl n

other_name : (c n : Path) → same_path c n ≡ false → c ≡ n → ⊥
other_name c n e q = true≢false (sym (subst (λ m. same_path c m ≡ true) q (path_same c)) ∙ e)

pub without : (n : Path) (t : Term) → mentions n t ≡ false → Without n t
without n (const c ls) e = other_name c n e
without n (app f a) e = let p = or_parts (mentions n f) (mentions n a) e in (without n f p.0, without n a p.1)
without n (lam x A b) e = let p = or_parts (mentions n A) (mentions n b) e in (without n A p.0, without n b p.1)
without n (pi x A B) e = let p = or_parts (mentions n A) (mentions n B) e in (without n A p.0, without n B p.1)
without n (letin x A v b) e =
    let p = or_parts (mentions n A) (mentions n v || mentions n b) e in
    let q = or_parts (mentions n v) (mentions n b) p.1 in
    (without n A p.0, without n v q.0, without n b q.1)
without n (proj s i t) e = let p = or_parts (same_path s n) (mentions n t) e in (other_name s n p.0, without n t p.1)
without n (bound i) e = tt
without n (free k) e = tt
without n (meta k) e = tt
without n (sort l) e = tt
without n (lit k) e = tt

fields_without_is : (S : Path) (n : ℕ) (t : Term) → fields_without S n t ≡ true → FieldsWithout S n t
fields_without_is S zero (pi x A B) e =
    let p = and_parts (not (mentions S A)) (fields_without S zero B) e in
    (without S A (not-true (mentions S A) p.0), fields_without_is S zero B p.1)
fields_without_is S (suc n) (pi x A B) e = fields_without_is S n B e
fields_without_is S zero t e = tt
fields_without_is S (suc n) t e = tt

successor_is : (o : Option Universe) → is_successor o ≡ true → (l : Universe) × (o ≡ Some (level_succ l))
successor_is (Some (level_succ l)) e = (l, refl)
successor_is (Some level_zero) e = no_false e
successor_is (Some (level_max l m)) e = no_false e
successor_is (Some (level_imax l m)) e = no_false e
successor_is (Some (level_param k)) e = no_false e
successor_is (Some (level_meta k)) e = no_false e
successor_is None e = no_false e

-- ---- What a view tells of a structure.

pub record Shows (E : Environment) (S : Path) (s : Structure) : Type 0 where
  pub is : IsStructure E S
  pub constructor : is.constructor.name ≡ s.constructor
  pub ty : is.constructor.ty ≡ s.ty
  pub levels : length is.type.levels ≡ s.levels
  pub params : is.params ≡ s.params
  pub fields : is.fields ≡ s.fields

-- Where the list has the type.
abbrev pub IfHeld : View → Environment → Path → Structure → Type 0
IfHeld V E S s = Held V E S → Shows E S s

constructor_shows : (V : View) (E : Environment) → ClosedList V E → (S n : Path) (k c : ConstInfo) (params indices : ℕ) (large : Bool) (e : Detail)
    → lookup_of V S ≡ found k → k.detail ≡ Ind params indices (n ∷ []) large → (nat_eq indices 0 && is_successor (result_level k.ty)) ≡ true
    → lookup_of V n ≡ found c → c.detail ≡ e → Maybe (IfHeld V E S) (by_constructor S (length k.levels) params n c.ty e)
constructor_shows V E cl S n k c params indices large (Ctor ind index own fields) qk dk test qc dc =
    let s : Structure = record { constructor = n; ty = c.ty; levels = length k.levels; params = params; fields = fields } in
    let t = and_parts (nat_eq indices 0) (is_successor (result_level k.ty)) test in
    let l = successor_is (result_level k.ty) t.1 in
    cond_both (same_path ind S && (nat_eq index 0 && (nat_eq own params && fields_without S params c.ty))) (Some s) None (Maybe (IfHeld V E S))
    (λ b held.
    let p1 = and_parts (same_path ind S) (nat_eq index 0 && (nat_eq own params && fields_without S params c.ty)) b in
    let p2 = and_parts (nat_eq index 0) (nat_eq own params && fields_without S params c.ty) p1.1 in
    let p3 = and_parts (nat_eq own params) (fields_without S params c.ty) p2.1 in
    let e0 : indices ≡ 0 = eqb-true indices 0 t.0 in
    let e1 : ind ≡ S = path_is ind S p1.0 in
    let e2 : index ≡ 0 = eqb-true index 0 p2.0 in
    let e3 : own ≡ params = eqb-true own params p3.0 in
    let dc' : c.detail ≡ Ctor S 0 params fields = dc ∙ (λ j. Ctor (e1 j) (e2 j) (e3 j) fields) in
    let wk : Contains E k = held k qk in
    let nk : k.name ≡ S = cl.own_name S k qk in
    let nc : c.name ≡ n = cl.own_name n c qc in
    record {
      is = record {
        type = k;
        constructor = c;
        params = params;
        fields = fields;
        large = large;
        level = l.0;
        within = wk;
        named = nk;
        detail = dk ∙ (λ j. Ind params (e0 j) (sym nc j ∷ []) large);
        result = l.1;
        constructor_within = cl.whole k c n params indices 0 params fields large wk dk qc (dc' ∙ ap (λ j. Ctor j 0 params fields) (sym nk));
        constructs = dc';
        flat = fields_without_is S params c.ty p3.1;
      };
      constructor = nc;
      ty = refl;
      levels = refl;
      params = refl;
      fields = refl;
    })
    (λ b. tt)
constructor_shows V E cl S n k c params indices large Plain qk dk test qc dc = tt
constructor_shows V E cl S n k c params indices large (Ind a b g h) qk dk test qc dc = tt
constructor_shows V E cl S n k c params indices large (Rec a b g h j) qk dk test qc dc = tt

seen_shows : (V : View) (E : Environment) → ClosedList V E → (S n : Path) (k : ConstInfo) (params indices : ℕ) (large : Bool) (l : Lookup) (u : ℕ)
    → lookup_of V S ≡ found k → k.detail ≡ Ind params indices (n ∷ []) large → (nat_eq indices 0 && is_successor (result_level k.ty)) ≡ true
    → lookup_of V n ≡ l → Post (Maybe (IfHeld V E S)) (constructor_seen S (length k.levels) params n (seen_as n l) u)
seen_shows V E cl S n k params indices large (found c) u qk dk test qc = constructor_shows V E cl S n k c params indices large c.detail qk dk test qc refl
seen_shows V E cl S n k params indices large absent u qk dk test qc = tt
seen_shows V E cl S n k params indices large (need_body p) u qk dk test qc = tt
seen_shows V E cl S n k params indices large need_real u qk dk test qc = tt

type_shows : (V : View) (E : Environment) → ClosedList V E → (S : Path) (k : ConstInfo) (e : Detail) (u : ℕ) → lookup_of V S ≡ found k → k.detail ≡ e
    → Post (Maybe (IfHeld V E S)) (by_type V S (shape_of k) e u)
type_shows V E cl S k (Ind params indices (n ∷ []) large) u q d =
    post_choose (Maybe (IfHeld V E S)) (nat_eq indices 0 && is_successor (result_level k.ty))
    (constructor_seen S (length k.levels) params n (seen_as n (lookup_of V n))) (gives None) u
    (λ b. seen_shows V E cl S n k params indices large (lookup_of V n) u q d b refl) (λ b. tt)
type_shows V E cl S k (Ind params indices [] large) u q d = tt
type_shows V E cl S k (Ind params indices (n ∷ m ∷ ns) large) u q d = tt
type_shows V E cl S k Plain u q d = tt
type_shows V E cl S k (Ctor a b g h) u q d = tt
type_shows V E cl S k (Rec a b g h j) u q d = tt

lookup_shows : (V : View) (E : Environment) → ClosedList V E → (S : Path) (l : Lookup) (u : ℕ) → lookup_of V S ≡ l
    → Post (Maybe (IfHeld V E S)) (structure_seen V S (seen_as S l) u)
lookup_shows V E cl S (found k) u q = type_shows V E cl S k k.detail u q refl
lookup_shows V E cl S absent u q = tt
lookup_shows V E cl S (need_body p) u q = tt
lookup_shows V E cl S need_real u q = tt

pub structure_if_held : (V : View) (E : Environment) → ClosedList V E → (S : Path) (u : ℕ) → Post (Maybe (IfHeld V E S)) (structure_of V S u)
structure_if_held V E cl S u = lookup_shows V E cl S (lookup_of V S) u refl

shows_of : (V : View) (E : Environment) (S : Path) → Held V E S → (o : Option Structure) → Maybe (IfHeld V E S) o → Maybe (Shows E S) o
shows_of V E S held (Some s) h = h held
shows_of V E S held None h = tt

pub structure_shows : (V : View) (E : Environment) → ClosedList V E → (S : Path) (u : ℕ) → Held V E S → Post (Maybe (Shows E S)) (structure_of V S u)
structure_shows V E cl S u held = post_map (Maybe (IfHeld V E S)) (Maybe (Shows E S)) (structure_of V S u) (structure_if_held V E cl S u)
    (λ o h. shows_of V E S held o h)

-- The constructor's arguments are as many as it takes.
pub built_is : (E : Environment) (S : Path) (s : Structure) → Shows E S s → (n : Path) (ys : List Term) → is_built s n ys ≡ true
    → (h : Shows E S s) × (h.is.constructor.name ≡ n) × (length ys ≡ h.is.params + h.is.fields)
built_is E S s h n ys b =
    let p = and_parts (same_path n s.constructor) (nat_eq (length ys) (s.params + s.fields)) b in
    (h, h.constructor ∙ sym (path_is n s.constructor p.0), omega (arith, h.params, h.fields, eqb-true (length ys) (s.params + s.fields) p.1))

-- ---- A field in place of a projection.

pub projections_fit : (V : View) (E : Environment) (top : ℕ) (k : ℕ) (S : Path) (n : ℕ) (t : Term) → Held V E S → Fits V E top 0 k t
    → AllFit V E top k (projections S n t)
projections_fit V E top k S zero t held h = tt
projections_fit V E top k S (suc n) t held h = all_append V E top k (projections S n t) (proj S n t ∷ []) (projections_fit V E top k S n t held h)
    ((h.0, (held, h.1)), tt)

field_sound : (V : View) (E : Environment) (top : ℕ) (C : Context) (S : Path) (i : ℕ) (t : Term) (xs : List Term) (s : Structure) (h : Term) (ys : List Term)
    (u : ℕ) → Shows E S s → Equal E C t (apply h ys) → Scoped 0 (length C) (apply h ys) → AllFit V E top (length C) ys
    → AllFit V E top (length C) xs → Formed E C (apply (proj S i t) xs) → Post (Goes V E top C (apply (proj S i t) xs)) (projected xs (field_at s i h ys) u)
field_sound V E top C S i t xs s (const n ms) ys u sh e sy fy fx ft =
    cond_both (is_built s n ys) (slice_get (drop s.params ys) i) None (λ o. Post (Goes V E top C (apply (proj S i t) xs)) (projected xs o u))
    (λ b. at b (slice_get (drop s.params ys) i) refl) (λ b. tt)
  where
    at : is_built s n ys ≡ true → (o : Option Term) → slice_get (drop s.params ys) i ≡ o → Post (Goes V E top C (apply (proj S i t) xs)) (projected xs o u)
    at b None q = tt
    at b (Some x) q =
        let r = built_is E S s sh n ys b in
        let whole : Term = apply (proj S i t) xs in
        let src : Term = proj S i (apply (const n ms) ys) in
        let get : slice_get (drop r.0.is.params ys) i ≡ Some x = subst (λ m. slice_get (drop m ys) i ≡ Some x) (sym r.0.params) q in
        let st : Step E src x = subst (λ m. Step E (proj S i (apply (const m ms) ys)) x) r.1 (projection_step r.0.is i x ms ys r.2 get) in
        let e1 : Equal E C (proj S i t) src = projected_terms S i e in
        let e2 : Equal E C src x = step st sy (equal_to (formed_parts E C (proj S i t) xs ft).0 e1) in
        let red : Reduct V E top C whole (apply x xs) = (
          equal_apply E C (proj S i t) x xs (transitive e1 e2),
          apply_fits V E top (length C) x xs
              (all_get V E top (length C) (drop s.params ys) i x (all_drop V E top (length C) s.params ys fy) q) fx,
        ) in
        post_then (Reduct V E top C whole) (Goes V E top C whole) (put (apply x xs) u) (λ z. gives (next z))
        (post_put (Reduct V E top C whole) (apply x xs) u red) λ z v k. k
field_sound V E top C S i t xs s h ys u sh e sy fy fx ft = tt

by_field_sound : (V : View) (E : Environment) (top : ℕ) (C : Context) (S : Path) (i : ℕ) (t : Term) (xs : List Term) (w : Term) (o : Option Structure) (u : ℕ)
    → Maybe (Shows E S) o → Reduct V E top C t w
    → AllFit V E top (length C) xs → Formed E C (apply (proj S i t) xs) → Post (Goes V E top C (apply (proj S i t) xs)) (by_field i xs w o u)
by_field_sound V E top C S i t xs w (Some s) u sh h fx ft =
    field_sound V E top C S i t xs s (head_of w) (arguments_of w) u sh (subst (Equal E C t) (rebuilt w) h.0) (subst (Scoped 0 (length C)) (rebuilt w) h.1.0)
    (arguments_fit V E top (length C) w h.1) fx ft
by_field_sound V E top C S i t xs w None u sh h fx ft = tt

pub projection_turn_sound : (V : View) (E : Environment) (top : ℕ) → ClosedList V E → (c : Calls) → Sound V E top c
    → (C : Context) (S : Path) (i : ℕ) (t : Term) (xs : List Term) (u : ℕ) → ContextFits V E top C → Fit V E top C (proj S i t) → AllFit V E top (length C) xs
    → Formed E C (apply (proj S i t) xs)
    → Post (Goes V E top C (apply (proj S i t) xs)) (projection_turn V c C S i t xs u)
projection_turn_sound V E top cl c so C S i t xs u fine fi fx ft =
    let Q : Progress → Type 0 = Goes V E top C (apply (proj S i t) xs) in
    post_then (Reduct V E top C t) Q (c.whnf true C t u) _ (so.whnf true C t u fine (fi.0, fi.1.1) (projected_part (formed_parts E C (proj S i t) xs ft).0))
    λ w v hw.
    post_then (Maybe (Shows E S)) Q (structure_of V S v) (λ s. by_field i xs w s) (structure_shows V E cl S v fi.1.0) λ o z ho.
    by_field_sound V E top C S i t xs w o z ho hw fx ft

-- ---- The type of a projection.

domain_sound : (V : View) (E : Environment) (top : ℕ) (C : Context) (has T : Term) (ys : List Term) (u : ℕ) → Fit V E top C T → AllFit V E top (length C) ys
    → Post (λ A. DomainAt T ys A × Fit V E top C A) (domain_at has T ys u)
domain_sound V E top C has (pi x A B) [] u fT fy = (here, (fT.0.0, fT.1.0))
domain_sound V E top C has (pi x A B) (y ∷ ys) u fT fy =
    let Q : Term → Type 0 = λ D. DomainAt (pi x A B) (y ∷ ys) D × Fit V E top C D in
    post_made_then Q (instantiate B y) (λ D. domain_at has D ys) u λ v.
    post_map (λ D. DomainAt (instantiate B y) ys D × Fit V E top C D) Q (domain_at has (instantiate B y) ys v)
    (domain_sound V E top C has (instantiate B y) ys v (instantiate_fits V E top (length C) B y (fT.0.1, fT.1.1) fy.0) fy.1) λ D h. (there h.0, h.1)
domain_sound V E top C has _ ys u fT fy = tt

of_structure_sound : (V : View) (E : Environment) (top : ℕ) → ClosedList V E
    → (C : Context) (has : Term) (S : Path) (i : ℕ) (t : Term) (ls : List Universe) (ps : List Term) (o : Option Structure) (u : ℕ) → Held V E S
    → Maybe (Shows E S) o → AllParametersBelow top ls → HasType E C t (apply (const S ls) ps)
    → Fit V E top C t → AllFit V E top (length C) ps → Post (Typed V E top C (proj S i t)) (of_structure has S i t ls ps o u)
of_structure_sound V E top cl C has S i t ls ps (Some s) u held sh below h ft fp =
    let Q : Term → Type 0 = Typed V E top C (proj S i t) in
    let T : Term = level_instantiate ls s.ty in
    post_choose Q (nat_eq (length ls) s.levels && (nat_eq (length ps) s.params && nat_lt i s.fields)) _ (refuse (NotStructure has)) u
    (λ b.
    let p = and_parts (nat_eq (length ls) s.levels) (nat_eq (length ps) s.params && nat_lt i s.fields) b in
    let q = and_parts (nat_eq (length ps) s.params) (nat_lt i s.fields) p.1 in
    let el : length ls ≡ length sh.is.type.levels = eqb-true (length ls) s.levels p.0 ∙ sym sh.levels in
    let ep : length ps ≡ sh.is.params = eqb-true (length ps) s.params q.0 ∙ sym sh.params in
    let il : i < s.fields = ltb-true i s.fields q.1 in
    let il' : i < sh.is.fields = subst (λ n. i < n) (sym sh.fields) il in
    let w : Contains E sh.is.constructor = sh.is.constructor_within in
    let closed : Scoped 0 0 s.ty = subst (Scoped 0 0) sh.ty (cl.closed sh.is.constructor w).ty in
    let own : length sh.is.constructor.levels ≡ length sh.is.type.levels =
    (cl.constructors sh.is.type sh.is.constructor sh.is.params 0 0 sh.is.params sh.is.fields (sh.is.constructor.name ∷ []) sh.is.large sh.is.within w
    sh.is.detail (sh.is.constructs ∙ ap (λ n. Ctor n 0 sh.is.params sh.is.fields) (sym sh.is.named))).1 in
    let named : Names V E (length sh.is.constructor.levels) s.ty = subst (Names V E (length sh.is.constructor.levels)) sh.ty (cl.types sh.is.constructor w) in
    post_made_then Q T (λ D. domain_at has D (ps ++ projections S i t)) u λ v.
    post_map (λ A. DomainAt T (ps ++ projections S i t) A × Fit V E top C A) Q (domain_at has T (ps ++ projections S i t) v)
    (domain_sound V E top C has T (ps ++ projections S i t) v
    (levels_fit V E top (length C) (length sh.is.constructor.levels) ls s.ty (el ∙ sym own) below closed named)
    (all_append V E top (length C) ps (projections S i t) fp (projections_fit V E top (length C) S i t held ft))) λ A d.
    (projection sh.is i ls ps h el ep il' (subst (λ z. DomainAt (level_instantiate ls z) (ps ++ projections S i t) A) (sym sh.ty) d.0), d.1))
    (λ b. tt)
of_structure_sound V E top cl C has S i t ls ps None u held sh below h ft fp = tt

on_structure_sound : (V : View) (E : Environment) (top : ℕ) → ClosedList V E
    → (C : Context) (has : Term) (S : Path) (i : ℕ) (t h : Term) (ps : List Term) (u : ℕ) → Held V E S → Names V E top h → HasType E C t (apply h ps)
    → Fit V E top C t → AllFit V E top (length C) ps → Post (Typed V E top C (proj S i t)) (on_structure V has S i t h ps u)
on_structure_sound V E top cl C has S i t (const n ls) ps u held nh h ft fp =
    let Q : Term → Type 0 = Typed V E top C (proj S i t) in
    post_choose Q (same_path n S) _ (refuse (NotStructure has)) u
    (λ b.
    post_then (Maybe (Shows E S)) Q (structure_of V S u) (λ s. of_structure has S i t ls ps s) (structure_shows V E cl S u held) λ o v ho.
    of_structure_sound V E top cl C has S i t ls ps o v held ho nh.2 (subst (λ m. HasType E C t (apply (const m ls) ps)) (path_is n S b) h) ft fp)
    (λ b. tt)
on_structure_sound V E top cl C has S i t _ ps u held nh h ft fp = tt

abbrev pub inferred : View → Calls → Context → Path → ℕ → Term → Run Term
inferred V c C S i t = c.infer checked C t >>= λ T. c.whnf true C T >>= λ W. on_structure V T S i t (head_of W) (arguments_of W)

pub projection_sound : (V : View) (E : Environment) (top : ℕ) → ClosedList V E → (c : Calls) → Sound V E top c
    → (C : Context) (S : Path) (i : ℕ) (t : Term) (u : ℕ) → ContextFits V E top C → Fit V E top C (proj S i t)
    → Post (Typed V E top C (proj S i t)) (inferred V c C S i t u)
projection_sound V E top cl c so C S i t u fine fi =
    let Q : Term → Type 0 = Typed V E top C (proj S i t) in
    let ft : Fit V E top C t = (fi.0, fi.1.1) in
    post_then (Typed V E top C t) Q (c.infer checked C t u) _ (so.infer C t u fine ft) λ T v hT.
    post_then (Reduct V E top C T) Q (c.whnf true C T v) _ (so.whnf true C T v fine hT.1 (is_type hT.0)) λ W z hW.
    on_structure_sound V E top cl C T S i t (head_of W) (arguments_of W) z fi.1.0 (head_fits V E top (length C) W hW.1).1
    (subst (HasType E C t) (rebuilt W) (conversion hT.0 hW.0)) ft (arguments_fit V E top (length C) W hW.1)
