-- Eta for structures: a constructor with all its arguments against a term of its type.
use Rattle.std.proofs.Common.{
  ◌≡◌,
  ℕ,
  zero,
  suc,
  ◌+◌,
  nat_eq,
  Bool,
  true,
  false,
  ◌&&◌,
  List,
  [],
  ◌∷◌,
  ◌++◌,
  length,
  length-drop,
  take-append-drop,
  take,
  drop,
  refl,
  sym,
  ap,
  subst,
  ◌∙◌,
  arith,
  Option,
  Some,
  None,
}
use Rattle.std.proofs.lemmas.Bool.{cond_both, eqb-true, and_parts}
use Rattle.lf_core.specs.Term.{Path, Universe, Term, const, app, proj}
use Rattle.lf_core.specs.Same.{same_path}
use Rattle.lf_core.specs.Spine.{apply, head_of, arguments_of}
use Rattle.lf_rules.specs.Environment.{Environment, Context}
use Rattle.lf_rules.specs.Structure.{projections}
use Rattle.lf_rules.specs.Judgment.{Equal, symmetric, transitive, applications, constants, eta_structure, HasType, conversion, Formed, is_type, equal_to}
use Rattle.lf_core.specs.declared.constant.Detail.{Detail}
use Rattle.lf_core.specs.declared.constant.Detail.TheVariants.{Plain, Ind, Ctor, Rec}
use Rattle.lf_judgment_laws.proofs.Variables.{rebuilt, apply-append}
use Rattle.lf_checker.specs.View.{View, Lookup, found, absent, need_body, need_real, lookup_of}
use Rattle.lf_checker.specs.LevelTest.{are_same}
use Rattle.lf_checker.specs.Run.{◌>>=◌, gives}
use Rattle.lf_checker.specs.Calls.{checked, Calls, seen_as}
use Rattle.lf_checker.specs.Structures.{Structure, structure_of, is_built}
use Rattle.lf_checker.specs.Equal.{
  and_then,
  equal_all,
  Built,
  built_by,
  built_detail,
  built_seen,
  built_of,
  is_headed,
  equal_fields,
  eta_at,
  eta_against,
  type_form,
  eta_built,
  against_built,
}
use Rattle.lf_name.proofs.Names.{path_is}
use Rattle.lf_checker_laws.specs.Soundness.{Held, Names, AllFit, ContextFits, ClosedList, Post, Typed, Reduct, Sound}
use Rattle.lf_checker_laws.proofs.Tests.{no_false, levels_same}
use Rattle.lf_checker_laws.proofs.Runs.{post_then, post_map, Maybe, post_caught, post_choose, post_made_then, Yes, post_and}
use Rattle.lf_checker_laws.proofs.Fitting.{head_fits, arguments_fit, all_take, all_drop}
use Rattle.lf_checker_laws.proofs.Forming.{AllFormed, formed_parts, formed_arguments}
use Rattle.lf_checker_laws.proofs.Reduces.{Fit}
use Rattle.lf_checker_laws.proofs.Normals.{ArgumentsEqual}
use Rattle.lf_checker_laws.proofs.Structures.{Shows, IfHeld, structure_if_held}

pub all_sound : (V : View) (E : Environment) (top : ℕ) (c : Calls) → Sound V E top c → (C : Context) (xs ys : List Term) (u : ℕ) → ContextFits V E top C
    → AllFit V E top (length C) xs → AllFit V E top (length C) ys → AllFormed E C xs → AllFormed E C ys
    → Post (Yes (ArgumentsEqual E C xs ys)) (equal_all c C xs ys u)
all_sound V E top c s C [] [] u fine fx fy gx gy = λ e f g h. h
all_sound V E top c s C (x ∷ xs) (y ∷ ys) u fine fx fy gx gy =
    post_then (Yes (Equal E C x y)) (Yes (ArgumentsEqual E C (x ∷ xs) (y ∷ ys))) (c.equal C x y u) (λ r. and_then r (equal_all c C xs ys))
    (s.equal C x y u fine fx.0 fy.0 gx.0 gy.0) λ r v h.
    post_and (Equal E C x y) (ArgumentsEqual E C (x ∷ xs) (y ∷ ys)) r (equal_all c C xs ys) v h λ p.
    post_map (Yes (ArgumentsEqual E C xs ys)) (Yes (ArgumentsEqual E C (x ∷ xs) (y ∷ ys))) (equal_all c C xs ys v)
    (all_sound V E top c s C xs ys v fine fx.1 fy.1 gx.1 gy.1) λ r' k e f g h'.
    k e (app f x) (app g y) (applications h' p)
all_sound V E top c s C [] (y ∷ ys) u fine fx fy gx gy = λ e. no_false e
all_sound V E top c s C (x ∷ xs) [] u fine fx fy gx gy = λ e. no_false e

-- ---- The projections in order, from the first.

abbrev from_field : Path → ℕ → ℕ → Term → List Term
from_field S i zero t = []
from_field S i (suc n) t = proj S i t ∷ from_field S (suc i) n t

one_more : (S : Path) (i n : ℕ) (t : Term) → from_field S i (suc n) t ≡ from_field S i n t ++ proj S (i + n) t ∷ []
one_more S i zero t = let e : i ≡ i + 0 = omega arith in ap (λ j. proj S j t ∷ []) e
one_more S i (suc n) t =
    let e : suc i + n ≡ i + suc n = omega arith in
    ap (λ xs. proj S i t ∷ xs) (one_more S (suc i) n t ∙ ap (λ j. from_field S (suc i) n t ++ proj S j t ∷ []) e)

projections_are : (S : Path) (n : ℕ) (t : Term) → projections S n t ≡ from_field S 0 n t
projections_are S zero t = refl
projections_are S (suc n) t =
    let e : n ≡ 0 + n = omega arith in
    ap (λ xs. xs ++ proj S n t ∷ []) (projections_are S n t) ∙ ap (λ j. from_field S 0 n t ++ proj S j t ∷ []) e ∙ sym (one_more S 0 n t)

formed_front : (E : Environment) (C : Context) (xs ys : List Term) → AllFormed E C (xs ++ ys) → AllFormed E C xs × AllFormed E C ys
formed_front E C [] ys h = (tt, h)
formed_front E C (x ∷ xs) ys h = let r = formed_front E C xs ys h.1 in ((h.0, r.0), r.1)

fields_sound : (V : View) (E : Environment) (top : ℕ) (c : Calls) → Sound V E top c → (C : Context) (S : Path) (i : ℕ) (y : Term) (xs : List Term) (u : ℕ)
    → ContextFits V E top C → Held V E S → Fit V E top C y → AllFit V E top (length C) xs → AllFormed E C (from_field S i (length xs) y) → AllFormed E C xs
    → Post (Yes (ArgumentsEqual E C (from_field S i (length xs) y) xs)) (equal_fields c C S i y xs u)
fields_sound V E top c s C S i y [] u fine held fy fx gp gx = λ e f g h. h
fields_sound V E top c s C S i y (x ∷ xs) u fine held fy fx gp gx =
    let P : List Term = from_field S (suc i) (length xs) y in
    let Q : Bool → Type 0 = Yes (ArgumentsEqual E C (proj S i y ∷ P) (x ∷ xs)) in
    post_made_then Q (proj S i y) (λ p. c.equal C p x >>= λ r. and_then r (equal_fields c C S (suc i) y xs)) u λ v.
    post_then (Yes (Equal E C (proj S i y) x)) Q (c.equal C (proj S i y) x v) (λ r. and_then r (equal_fields c C S (suc i) y xs))
    (s.equal C (proj S i y) x v fine (fy.0, (held, fy.1)) fx.0 gp.0 gx.0) λ r w h.
    post_and (Equal E C (proj S i y) x) (ArgumentsEqual E C (proj S i y ∷ P) (x ∷ xs)) r (equal_fields c C S (suc i) y xs) w h λ p.
    post_map (Yes (ArgumentsEqual E C P xs)) Q (equal_fields c C S (suc i) y xs w) (fields_sound V E top c s C S (suc i) y xs w fine held fy fx.1 gp.1 gx.1)
    λ r' k e f g h'.
    k e (app f (proj S i y)) (app g x) (applications h' p)

-- ---- What is built.

record IsBuilt (V : View) (E : Environment) (x : Term) (b : Built) : Type 0 where
  form : x ≡ apply (const b.structure.constructor b.levels) b.arguments
  whole : length b.arguments ≡ b.structure.params + b.structure.fields
  shows : IfHeld V E b.name b.structure

built_by_is : (V : View) (E : Environment) (S n : Path) (ms : List Universe) (ys : List Term) (o : Option Structure) → Maybe (IfHeld V E S) o
    → Maybe (IsBuilt V E (apply (const n ms) ys)) (built_by S n ms ys o)
built_by_is V E S n ms ys (Some s) h =
    let r : Built = record { name = S; structure = s; levels = ms; arguments = ys } in
    cond_both (is_built s n ys) (Some r) None (Maybe (IsBuilt V E (apply (const n ms) ys)))
    (λ b.
    let p = and_parts (same_path n s.constructor) (nat_eq (length ys) (s.params + s.fields)) b in
    record { form = ap (λ m. apply (const m ms) ys) (path_is n s.constructor p.0); whole = eqb-true (length ys) (s.params + s.fields) p.1; shows = h })
    (λ b. tt)
built_by_is V E S n ms ys None h = tt

detail_built : (V : View) (E : Environment) → ClosedList V E → (n : Path) (ms : List Universe) (ys : List Term) (e : Detail) (u : ℕ)
    → Post (Maybe (IsBuilt V E (apply (const n ms) ys))) (built_detail V n ms ys e u)
detail_built V E cl n ms ys (Ctor ind index own fields) u =
    post_then (Maybe (IfHeld V E ind)) (Maybe (IsBuilt V E (apply (const n ms) ys))) (structure_of V ind u) (λ s. gives (built_by ind n ms ys s))
    (structure_if_held V E cl ind u) λ o v h. built_by_is V E ind n ms ys o h
detail_built V E cl n ms ys Plain u = tt
detail_built V E cl n ms ys (Ind a b g h) u = tt
detail_built V E cl n ms ys (Rec a b g h j) u = tt

seen_built : (V : View) (E : Environment) → ClosedList V E → (n : Path) (ms : List Universe) (ys : List Term) (l : Lookup) (u : ℕ)
    → Post (Maybe (IsBuilt V E (apply (const n ms) ys))) (built_seen V n ms ys (seen_as n l) u)
seen_built V E cl n ms ys (found k) u = detail_built V E cl n ms ys k.detail u
seen_built V E cl n ms ys absent u = tt
seen_built V E cl n ms ys (need_body p) u = tt
seen_built V E cl n ms ys need_real u = tt

head_built : (V : View) (E : Environment) → ClosedList V E → (h : Term) (ys : List Term) (u : ℕ) → Post (Maybe (IsBuilt V E (apply h ys))) (built_of V h ys u)
head_built V E cl (const n ms) ys u = seen_built V E cl n ms ys (lookup_of V n) u
head_built V E cl _ ys u = tt

-- ---- The other side.

eta_at_sound : (V : View) (E : Environment) (top : ℕ) (c : Calls) → Sound V E top c → (C : Context) (b : Built) (x y h : Term) (ps : List Term) (u : ℕ)
    → ContextFits V E top C → IsBuilt V E x b → Fit V E top C x → Fit V E top C y → Formed E C x → Formed E C y
    → HasType E C y (apply h ps) → Names V E top h → AllFit V E top (length C) ps → AllFormed E C ps → Post (Yes (Equal E C y x)) (eta_at c C b y h ps u)
eta_at_sound V E top c so C b x y (const n ls) ps u fine i fx fy gx gy ty hn fp gp =
    let s : Structure = b.structure in
    let test : Bool = same_path n b.name && (nat_eq (length ls) s.levels && (nat_eq (length ps) s.params && are_same b.levels ls)) in
    let Q : Bool → Type 0 = Yes (Equal E C y x) in
    let front : List Term = take s.params b.arguments in
    let back : List Term = drop s.params b.arguments in
    post_choose Q test _ (gives false) u
    (λ t.
    let p1 = and_parts (same_path n b.name) (nat_eq (length ls) s.levels && (nat_eq (length ps) s.params && are_same b.levels ls)) t in
    let p2 = and_parts (nat_eq (length ls) s.levels) (nat_eq (length ps) s.params && are_same b.levels ls) p1.1 in
    let p3 = and_parts (nat_eq (length ps) s.params) (are_same b.levels ls) p2.1 in
    let en : n ≡ b.name = path_is n b.name p1.0 in
    let held : Held V E b.name = subst (Held V E) en hn.0 in
    let sh : Shows E b.name s = i.shows held in
    let el : length ls ≡ length sh.is.type.levels = eqb-true (length ls) s.levels p2.0 ∙ sym sh.levels in
    let ep : length ps ≡ sh.is.params = eqb-true (length ps) s.params p3.0 ∙ sym sh.params in
    let k : Term = const s.constructor ls in
    let eta : Equal E C y (apply (const sh.is.constructor.name ls) (ps ++ projections b.name sh.is.fields y)) = eta_structure sh.is ls ps
    (subst (λ m. HasType E C y (apply (const m ls) ps)) en ty) el ep in
    let lb : length back ≡ s.fields = omega (arith, length-drop s.params b.arguments, i.whole) in
    let pr : projections b.name sh.is.fields y ≡ from_field b.name 0 (length back) y = projections_are b.name sh.is.fields y ∙ ap (λ m. from_field b.name 0 m y)
    (sh.fields ∙ sym lb) in
    let P : List Term = from_field b.name 0 (length back) y in
    let eta' : Equal E C y (apply k (ps ++ P)) = subst (λ m. Equal E C y (apply (const m ls) (ps ++ P))) sh.constructor
    (subst (λ zs. Equal E C y (apply (const sh.is.constructor.name ls) (ps ++ zs))) pr eta) in
    let gP : AllFormed E C P = (formed_front E C ps P (formed_parts E C k (ps ++ P) (equal_to gy eta')).1).1 in
    let all : x ≡ apply (const s.constructor b.levels) (front ++ back) = i.form ∙ ap (apply (const s.constructor b.levels))
    (sym (take-append-drop s.params b.arguments)) in
    let gs = formed_front E C front back (formed_parts E C (const s.constructor b.levels) (front ++ back) (subst (Formed E C) all gx)).1 in
    let fargs : AllFit V E top (length C) b.arguments = spine_fit (const s.constructor b.levels) b.arguments (subst (Fit V E top C) i.form fx) in
    post_then (Yes (ArgumentsEqual E C front ps)) Q (equal_all c C front ps u) (λ r. and_then r (equal_fields c C b.name 0 y back))
    (all_sound V E top c so C front ps u fine (all_take V E top (length C) s.params b.arguments fargs) fp gs.0 gp) λ r v h1.
    post_and (ArgumentsEqual E C front ps) (Equal E C y x) r (equal_fields c C b.name 0 y back) v h1 λ a1.
    post_map (Yes (ArgumentsEqual E C P back)) Q (equal_fields c C b.name 0 y back v)
    (fields_sound V E top c so C b.name 0 y back v fine held fy (all_drop V E top (length C) s.params b.arguments fargs) gP gs.1) λ r' a2 e.
    let heads : Equal E C (apply (const s.constructor b.levels) front) (apply k ps) = a1 (const s.constructor b.levels) k
    (constants s.constructor (levels_same b.levels ls p3.1)) in
    let whole : Equal E C (apply (apply k ps) P) (apply (apply (const s.constructor b.levels) front) back) = a2 e (apply k ps)
    (apply (const s.constructor b.levels) front) (symmetric heads) in
    let eta'' : Equal E C y (apply (apply k ps) P) = subst (Equal E C y) (apply-append k ps P) eta' in
    subst (Equal E C y) (sym (all ∙ apply-append (const s.constructor b.levels) front back)) (transitive eta'' whole))
    (λ t e. no_false e)
  where
    spine_fit : (f : Term) (zs : List Term) → Fit V E top C (apply f zs) → AllFit V E top (length C) zs
    spine_fit f zs h = (spine_parts f zs h).1
      where
        spine_parts : (f : Term) (zs : List Term) → Fit V E top C (apply f zs) → Fit V E top C f × AllFit V E top (length C) zs
        spine_parts f [] h = (h, tt)
        spine_parts f (z ∷ zs) h = let r = spine_parts (app f z) zs h in ((r.0.0.0, r.0.1.0), ((r.0.0.1, r.0.1.1), r.1))
eta_at_sound V E top c so C b x y _ ps u fine i fx fy gx gy ty hn fp gp = λ e. no_false e

record TypeForm (V : View) (E : Environment) (top : ℕ) (C : Context) (y W : Term) : Type 0 where
  typed : HasType E C y W
  fits : Fit V E top C W
  formed : Formed E C W

form_of : (V : View) (E : Environment) (top : ℕ) (c : Calls) → Sound V E top c → (C : Context) (y : Term) (u : ℕ) → ContextFits V E top C → Fit V E top C y
    → Post (Maybe (TypeForm V E top C y)) (type_form c C y u)
form_of V E top c so C y u fine fy =
    post_caught (TypeForm V E top C y) _
    (post_then (Typed V E top C y) (TypeForm V E top C y) (c.infer checked C y u) _ (so.infer C y u fine fy) λ T v hT.
    post_map (Reduct V E top C T) (TypeForm V E top C y) (c.whnf true C T v) (so.whnf true C T v fine hT.1 (is_type hT.0)) λ W h.
    record { typed = conversion hT.0 h.0; fits = h.1; formed = equal_to (is_type hT.0) h.0 })

against_sound : (V : View) (E : Environment) (top : ℕ) (c : Calls) → Sound V E top c → (C : Context) (b : Built) (x y : Term) (o : Option Term) (u : ℕ)
    → ContextFits V E top C → IsBuilt V E x b → Fit V E top C x → Fit V E top C y → Formed E C x → Formed E C y
    → Maybe (TypeForm V E top C y) o → Post (Yes (Equal E C y x)) (eta_against c C b y o u)
against_sound V E top c so C b x y (Some W) u fine i fx fy gx gy h =
    eta_at_sound V E top c so C b x y (head_of W) (arguments_of W) u fine i fx fy gx gy (subst (HasType E C y) (rebuilt W) h.typed)
    (head_fits V E top (length C) W h.fits).1 (arguments_fit V E top (length C) W h.fits) (formed_arguments E C W h.formed)
against_sound V E top c so C b x y None u fine i fx fy gx gy h = λ e. no_false e

built_sound : (V : View) (E : Environment) (top : ℕ) (c : Calls) → Sound V E top c → (C : Context) (x y : Term) (o : Option Built) (u : ℕ)
    → ContextFits V E top C → Maybe (IsBuilt V E x) o → Fit V E top C x → Fit V E top C y → Formed E C x → Formed E C y
    → Post (Yes (Equal E C y x)) (eta_built c C y o u)
built_sound V E top c so C x y (Some b) u fine i fx fy gx gy =
    post_choose (Yes (Equal E C y x)) (is_headed b.structure.constructor (head_of y)) (gives false) _ u (λ t e. no_false e)
    (λ t. post_then (Maybe (TypeForm V E top C y)) (Yes (Equal E C y x)) (type_form c C y u) (λ W. eta_against c C b y W) (form_of V E top c so C y u fine fy)
    λ o v h. against_sound V E top c so C b x y o v fine i fx fy gx gy h)
built_sound V E top c so C x y None u fine i fx fy gx gy = λ e. no_false e

pub against_built_sound : (V : View) (E : Environment) (top : ℕ) → ClosedList V E → (c : Calls) → Sound V E top c → (C : Context) (x y : Term) (u : ℕ)
    → ContextFits V E top C → Fit V E top C x → Fit V E top C y → Formed E C x → Formed E C y → Post (Yes (Equal E C y x)) (against_built V c C x y u)
against_built_sound V E top cl c so C x y u fine fx fy gx gy =
    post_then (Maybe (IsBuilt V E x)) (Yes (Equal E C y x)) (built_of V (head_of x) (arguments_of x) u) (λ b. eta_built c C y b)
    (subst (λ z. Post (Maybe (IsBuilt V E z)) (built_of V (head_of x) (arguments_of x) u)) (sym (rebuilt x)) (head_built V E cl (head_of x) (arguments_of x) u))
    λ o v h.
    built_sound V E top c so C x y o v fine h fx fy gx gy
