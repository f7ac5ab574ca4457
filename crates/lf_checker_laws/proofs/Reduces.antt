-- What a turn of `whnf` gives is equal to what it began with.
use Rattle.std.proofs.Common.{
  ◌≡◌,
  ◌^◌,
  ℕ,
  zero,
  suc,
  ◌+◌,
  nat_eq,
  nat_lt,
  Bool,
  true,
  false,
  ◌&&◌,
  List,
  [],
  ◌∷◌,
  ◌++◌,
  length,
  take,
  drop,
  slice_get,
  refl,
  sym,
  ap,
  subst,
  ◌∙◌,
  arith,
  Option,
  Some,
  None,
  length-take-le,
  Contains,
}
use Rattle.std.proofs.lemmas.Bool.{cond_both, eqb-true, ltb-true, and_parts}
use Rattle.lf_core.specs.Term.{Path, Universe, level_zero, Term, bound, free, meta, sort, const, app, lam, pi, letin, lit, proj}
use Rattle.lf_core.specs.Level.{Same}
use Rattle.lf_core.specs.Same.{same_path}
use Rattle.lf_core.specs.Substitution.{level_instantiate}
use Rattle.lf_core.specs.Spine.{apply, head_of, arguments_of}
use Rattle.lf_core.specs.Scope.{Scoped}
use Rattle.lf_rules.specs.Environment.{Environment, Context, nat_succ, AllParametersBelow}
use Rattle.lf_rules.specs.Step.{Step, iota, literal_zero, literal_succ, by_rule}
use Rattle.lf_rules.specs.Structure.{result_level}
use Rattle.lf_rules.specs.Judgment.{
  IsDeclaredProposition,
  Equal,
  reflexive,
  transitive,
  applications,
  step,
  declared_irrelevance,
  literal,
  conversion,
  Formed,
  has_type,
  is_type,
  equal_to,
}
use Rattle.lf_core.specs.declared.constant.ConstInfo.{ConstInfo}
use Rattle.lf_core.specs.declared.constant.Detail.{Detail}
use Rattle.lf_core.specs.declared.constant.Detail.TheVariants.{Plain, Ind, Ctor, Rec}
use Rattle.lf_judgment_laws.specs.InScope.{RulesClosed}
use Rattle.lf_judgment_laws.proofs.Variables.{rebuilt}
use Rattle.lf_checker.specs.View.{View, Lookup, found, absent, need_body, need_real, lookup_of}
use Rattle.lf_checker.specs.Run.{Run, go_on, gives, choose, caught, put, made_before}
use Rattle.lf_checker.specs.Calls.{checked, Calls, seen_as}
use Rattle.lf_checker.specs.Whnf.{
  Progress,
  stays,
  next,
  ends,
  goes,
  Recursor,
  Split,
  one_before,
  split,
  literal_constructor,
  shared,
  fire_rule,
  fire_detail,
  fire_seen,
  fire_head,
  fire,
  is_true,
  put_in,
  is_prop_level,
}
use Rattle.lf_inductive_laws.specs.Declarations.{EndsIn}
use Rattle.lf_checker_laws.specs.Soundness.{Held, HeldBeside, Names, Fits, AllFit, ContextFits, PartsHeld, ClosedList, Post, Typed, Reduct, Sound}
use Rattle.lf_name.proofs.Names.{path_is}
use Rattle.lf_checker_laws.proofs.Tests.{no_false, level_same}
use Rattle.lf_checker_laws.proofs.Runs.{post_then, post_map, post_both, Maybe, post_caught, post_choose, post_put, post_made_before, Yes}
use Rattle.lf_checker_laws.proofs.Fitting.{levels_fit, apply_fits, arguments_fit, all_append, all_take, all_drop}
use Rattle.lf_checker_laws.proofs.Forming.{formed_as, equal_apply}
use Rattle.lf_checker_laws.proofs.Ends.{spine_of, Spine, TypeEnds, Ends}
use Rattle.lf_checker_laws.proofs.Views.{found_is}

abbrev pub Fit : View → Environment → ℕ → Context → Term → Type 0
Fit V E top C t = Fits V E top 0 (length C) t

abbrev pub Goes : View → Environment → ℕ → Context → Term → Progress → Type 0
Goes V E top C t stays = Unit {0}
Goes V E top C t (next s) = Reduct V E top C t s
Goes V E top C t (ends s) = Reduct V E top C t s

pub goes_from : (V : View) (E : Environment) (top : ℕ) (C : Context) (t s : Term) (p : Progress) → Equal E C t s → Goes V E top C s p → Goes V E top C t p
goes_from V E top C t s stays e h = tt
goes_from V E top C t s (next r) e h = (transitive e h.0, h.1)
goes_from V E top C t s (ends r) e h = (transitive e h.0, h.1)

pub goes_made : (V : View) (E : Environment) (top : ℕ) (C : Context) (t g : Term) (xs : List Term) (u : ℕ) → Reduct V E top C t (apply g xs)
    → Post (Goes V E top C t) (goes (made_before xs g) u)
goes_made V E top C t g xs u h = post_then (Reduct V E top C t) (Goes V E top C t) (made_before xs g u) (λ s. gives (next s))
    (post_made_before (Reduct V E top C t) xs g u h) λ s v k. k

-- A step at the head.
pub stepped : (V : View) (E : Environment) (top : ℕ) (C : Context) (t h g : Term) (xs : List Term) → t ≡ apply h xs → Step E h g → Scoped 0 (length C) h
    → Fit V E top C g → AllFit V E top (length C) xs → Formed E C t → Reduct V E top C t (apply g xs)
stepped V E top C t h g xs e st sh fg fx ft = (
  subst (λ w. Equal E C w (apply g xs)) (sym e) (equal_apply E C h g xs (step st sh (formed_as E C t h xs e ft).0)),
  apply_fits V E top (length C) g xs fg
      fx,
)

-- ---- The parts of a recursor's arguments.

abbrev pub SplitIs : ℕ → List Term → Option Split → Type 0
SplitIs n xs None = Unit {0}
SplitIs n xs (Some s) = (xs ≡ s.before ++ (s.major ∷ s.after)) × (length s.before ≡ n)

split_more : (x : Term) (n : ℕ) (xs : List Term) (o : Option Split) → SplitIs n xs o → SplitIs (suc n) (x ∷ xs) (one_before x o)
split_more x n xs None h = tt
split_more x n xs (Some s) h = (ap (λ ys. x ∷ ys) h.0, ap suc h.1)

pub split_is : (n : ℕ) (xs : List Term) → SplitIs n xs (split n xs)
split_is n [] = tt
split_is zero (x ∷ xs) = (refl, refl)
split_is (suc n) (x ∷ xs) = split_more x n xs (split n xs) (split_is n xs)

below_drop : (top n : ℕ) (ls : List Universe) → AllParametersBelow top ls → AllParametersBelow top (drop n ls)
below_drop top zero ls h = h
below_drop top (suc n) [] h = tt
below_drop top (suc n) (l ∷ ls) h = below_drop top n ls h.1

-- What a recursor is, where its rule fires.
pub record IsRecursor (V : View) (E : Environment) (top : ℕ) (C : Context) (c : ConstInfo) (r : Recursor) (ls : List Universe) (s : Split) : Type 0 where
  pub within : Contains E c
  pub detail : c.detail ≡ Rec r.ind r.params r.minors r.indices r.rules
  pub levels : length ls ≡ length c.levels
  pub below : AllParametersBelow top ls
  pub lead : length s.before ≡ shared r + r.indices
  pub before : AllFit V E top (length C) s.before
  pub after : AllFit V E top (length C) s.after

abbrev pub Whole : ConstInfo → List Universe → Split → Term → Term
Whole c ls s m = apply (app (apply (const c.name ls) s.before) m) s.after

rule_sound : (V : View) (E : Environment) (top : ℕ) → ClosedList V E
    → (C : Context) (c d : ConstInfo) (r : Recursor) (ls ms : List Universe) (s : Split) (index own fields : ℕ) (ys : List Term) (o : Option Term) (u : ℕ)
    → IsRecursor V E top C c r ls s
    → Contains E d → d.detail ≡ Ctor r.ind index own fields → length ys ≡ own + fields → slice_get r.rules index ≡ o → AllFit V E top (length C) ys
    → Scoped 0 (length C) (apply (const d.name ms) ys)
    → Formed E C (Whole c ls s (apply (const d.name ms) ys)) → Post (Goes V E top C (Whole c ls s (apply (const d.name ms) ys))) (fire_rule r ls s own ys o u)
rule_sound V E top cl C c d r ls ms s index own fields ys None u i wd qd n q fy sy ft = tt
rule_sound V E top cl C c d r ls ms s index own fields ys (Some rule) u i wd qd n q fy sy ft =
    let src : Term = app (apply (const c.name ls) s.before) (apply (const d.name ms) ys) in
    let g : Term = by_rule rule ls (shared r) s.before (drop own ys) in
    let st : Step E src g = iota c d r.ind r.params r.minors r.indices index own fields r.rules rule ls ms s.before ys i.within i.detail i.levels i.lead wd qd q
    n in
    let closed : Scoped 0 0 rule = (subst RulesClosed i.detail (cl.closed c i.within).rules) index rule q in
    let named : Names V E (length c.levels) rule = (subst (PartsHeld V E (length c.levels)) i.detail (cl.parts c i.within)).2 index rule q in
    let fc : Scoped 0 (length C) (apply (const c.name ls) s.before) = scoped_before (const c.name ls) s.before tt i.before in
    let fg : Fit V E top C g =
    apply_fits V E top (length C) (level_instantiate ls rule) (take (shared r) s.before ++ drop own ys)
    (levels_fit V E top (length C) (length c.levels) ls rule i.levels i.below closed named)
    (all_append V E top (length C) (take (shared r) s.before) (drop own ys) (all_take V E top (length C) (shared r) s.before i.before)
    (all_drop V E top (length C) own ys fy)) in
    goes_made V E top C (Whole c ls s (apply (const d.name ms) ys)) (apply g s.after) [] u
    (stepped V E top C (Whole c ls s (apply (const d.name ms) ys)) src g s.after refl st (fc, sy) fg i.after ft)
  where
    scoped_before : (f : Term) (xs : List Term) → Scoped 0 (length C) f → AllFit V E top (length C) xs → Scoped 0 (length C) (apply f xs)
    scoped_before f [] h g = h
    scoped_before f (x ∷ xs) h g = scoped_before (app f x) xs (h, g.0.0) g.1

detail_sound : (V : View) (E : Environment) (top : ℕ) → ClosedList V E
    → (C : Context) (c d : ConstInfo) (r : Recursor) (ls ms : List Universe) (s : Split) (n : Path) (ys : List Term) (e : Detail) (u : ℕ)
    → IsRecursor V E top C c r ls s
    → lookup_of V n ≡ found d → d.detail ≡ e → AllFit V E top (length C) ys → Scoped 0 (length C) (apply (const n ms) ys)
    → Formed E C (Whole c ls s (apply (const n ms) ys)) → Post (Goes V E top C (Whole c ls s (apply (const n ms) ys))) (fire_detail r ls s ys e u)
detail_sound V E top cl C c d r ls ms s n ys (Ctor ind index own fields) u i q e fy sy ft =
    let t : Term = Whole c ls s (apply (const n ms) ys) in
    post_choose (Goes V E top C t) (same_path ind r.ind && nat_eq (length ys) (own + fields)) (fire_rule r ls s own ys (slice_get r.rules index)) (gives stays)
    u
    (λ b.
    let p = and_parts (same_path ind r.ind) (nat_eq (length ys) (own + fields)) b in
    let e' : d.detail ≡ Ctor r.ind index own fields = e ∙ ap (λ j. Ctor j index own fields) (path_is ind r.ind p.0) in
    let wd : Contains E d = (subst (PartsHeld V E (length c.levels)) i.detail (cl.parts c i.within)).1 n d index own fields q e' in
    let name : d.name ≡ n = cl.own_name n d q in
    subst (λ k. Post (Goes V E top C (Whole c ls s (apply (const k ms) ys))) (fire_rule r ls s own ys (slice_get r.rules index) u)) name
    (rule_sound V E top cl C c d r ls ms s index own fields ys (slice_get r.rules index) u i wd e' (eqb-true (length ys) (own + fields) p.1) refl fy
    (subst (λ k. Scoped 0 (length C) (apply (const k ms) ys)) (sym name) sy) (subst (λ k. Formed E C (Whole c ls s (apply (const k ms) ys))) (sym name) ft)))
    (λ b. tt)
detail_sound V E top cl C c d r ls ms s n ys Plain u i q e fy sy ft = tt
detail_sound V E top cl C c d r ls ms s n ys (Ind params indices names large) u i q e fy sy ft = tt
detail_sound V E top cl C c d r ls ms s n ys (Rec ind params minors indices rules) u i q e fy sy ft = tt

seen_sound : (V : View) (E : Environment) (top : ℕ) → ClosedList V E
    → (C : Context) (c : ConstInfo) (r : Recursor) (ls ms : List Universe) (s : Split) (n : Path) (ys : List Term) (l : Lookup) (u : ℕ)
    → IsRecursor V E top C c r ls s
    → lookup_of V n ≡ l → AllFit V E top (length C) ys → Scoped 0 (length C) (apply (const n ms) ys)
    → Formed E C (Whole c ls s (apply (const n ms) ys)) → Post (Goes V E top C (Whole c ls s (apply (const n ms) ys))) (fire_seen r ls s ys (seen_as n l) u)
seen_sound V E top cl C c r ls ms s n ys (found d) u i q fy sy ft = detail_sound V E top cl C c d r ls ms s n ys d.detail u i q refl fy sy ft
seen_sound V E top cl C c r ls ms s n ys absent u i q fy sy ft = tt
seen_sound V E top cl C c r ls ms s n ys (need_body p) u i q fy sy ft = tt
seen_sound V E top cl C c r ls ms s n ys need_real u i q fy sy ft = tt

head_fires : (V : View) (E : Environment) (top : ℕ) → ClosedList V E
    → (C : Context) (c : ConstInfo) (r : Recursor) (ls : List Universe) (s : Split) (h : Term) (ys : List Term) (u : ℕ) → IsRecursor V E top C c r ls s
    → AllFit V E top (length C) ys → Scoped 0 (length C) (apply h ys) → Formed E C (Whole c ls s (apply h ys))
    → Post (Goes V E top C (Whole c ls s (apply h ys))) (fire_head V r ls s h ys u)
head_fires V E top cl C c r ls s (const n ms) ys u i fy sy ft = seen_sound V E top cl C c r ls ms s n ys (lookup_of V n) u i refl fy sy ft
head_fires V E top cl C c r ls s _ ys u i fy sy ft = tt

-- The arguments alone need fit: a literal's constructor may be none of the list.
pub fire_sound : (V : View) (E : Environment) (top : ℕ) → ClosedList V E
    → (C : Context) (c : ConstInfo) (r : Recursor) (ls : List Universe) (s : Split) (m : Term) (u : ℕ) → IsRecursor V E top C c r ls s
    → AllFit V E top (length C) (arguments_of m) → Scoped 0 (length C) m → Formed E C (Whole c ls s m)
    → Post (Goes V E top C (Whole c ls s m)) (fire V r ls s m u)
fire_sound V E top cl C c r ls s m u i fy sm ft =
    subst (λ k. Post (Goes V E top C (Whole c ls s k)) (fire V r ls s m u)) (sym (rebuilt m))
    (head_fires V E top cl C c r ls s (head_of m) (arguments_of m) u i fy (subst (Scoped 0 (length C)) (rebuilt m) sm)
    (subst (λ k. Formed E C (Whole c ls s k)) (rebuilt m) ft))

-- ---- The constructor that a literal is.

pub constructor_equal : (V : View) (E : Environment) (top : ℕ) (C : Context) (w : Term) → Fit V E top C w → Equal E C w (literal_constructor w)
constructor_equal V E top C (lit zero) h = step literal_zero tt (has_type (literal 0))
constructor_equal V E top C (lit (suc n)) h =
    cond_both (nat_lt (suc n) (2 ^ 128)) (app nat_succ (lit n)) (lit (suc n)) (Equal E C (lit (suc n)))
    (λ e. step (literal_succ n (ltb-true (suc n) (2 ^ 128) e)) tt (has_type (literal (suc n)))) (λ e. reflexive (lit (suc n)))
constructor_equal V E top C (bound i) h = reflexive (bound i)
constructor_equal V E top C (free i) h = reflexive (free i)
constructor_equal V E top C (meta i) h = reflexive (meta i)
constructor_equal V E top C (sort l) h = reflexive (sort l)
constructor_equal V E top C (const n ls) h = reflexive (const n ls)
constructor_equal V E top C (app f a) h = reflexive (app f a)
constructor_equal V E top C (lam x A b) h = reflexive (lam x A b)
constructor_equal V E top C (pi x A b) h = reflexive (pi x A b)
constructor_equal V E top C (letin x A v b) h = reflexive (letin x A v b)
constructor_equal V E top C (proj s i t) h = reflexive (proj s i t)

pub constructor_arguments : (V : View) (E : Environment) (top : ℕ) (C : Context) (w : Term) → Fit V E top C w
    → AllFit V E top (length C) (arguments_of (literal_constructor w))
constructor_arguments V E top C (lit zero) h = tt
constructor_arguments V E top C (lit (suc n)) h =
    cond_both (nat_lt (suc n) (2 ^ 128)) (app nat_succ (lit n)) (lit (suc n)) (λ t. AllFit V E top (length C) (arguments_of t)) (λ e. ((tt, h.1), tt)) (λ e. tt)
constructor_arguments V E top C (bound i) h = tt
constructor_arguments V E top C (free i) h = tt
constructor_arguments V E top C (meta i) h = tt
constructor_arguments V E top C (sort l) h = tt
constructor_arguments V E top C (const n ls) h = tt
constructor_arguments V E top C (app f a) h = arguments_fit V E top (length C) (app f a) h
constructor_arguments V E top C (lam x A b) h = tt
constructor_arguments V E top C (pi x A b) h = tt
constructor_arguments V E top C (letin x A v b) h = tt
constructor_arguments V E top C (proj s i t) h = tt

pub constructor_scoped : (V : View) (E : Environment) (top : ℕ) (C : Context) (w : Term) → Fit V E top C w → Scoped 0 (length C) (literal_constructor w)
constructor_scoped V E top C (lit zero) h = tt
constructor_scoped V E top C (lit (suc n)) h = cond_both (nat_lt (suc n) (2 ^ 128)) (app nat_succ (lit n)) (lit (suc n)) (Scoped 0 (length C)) (λ e. (tt, tt))
    (λ e. tt)
constructor_scoped V E top C (bound i) h = h.0
constructor_scoped V E top C (free i) h = h.0
constructor_scoped V E top C (meta i) h = h.0
constructor_scoped V E top C (sort l) h = h.0
constructor_scoped V E top C (const n ls) h = h.0
constructor_scoped V E top C (app f a) h = h.0
constructor_scoped V E top C (lam x A b) h = h.0
constructor_scoped V E top C (pi x A b) h = h.0
constructor_scoped V E top C (letin x A v b) h = h.0
constructor_scoped V E top C (proj s i t) h = h.0

-- ---- A constructor put in for a proof.

true_is : (P : Type 0) (o : Option Bool) → Maybe (Yes P) o → is_true o ≡ true → P
true_is P (Some true) h e = h refl
true_is P (Some false) h e = no_false e
true_is P None h e = no_false e

pub prop_is : (o : Option Universe) → is_prop_level o ≡ true → (l : Universe) × (o ≡ Some l) × Same l level_zero
prop_is (Some l) e = (l, refl, level_same l level_zero e)
prop_is None e = no_false e

-- What is known of the type and of its constructor.
pub record IsLikeK (V : View) (E : Environment) (r : Recursor) (t d : ConstInfo) (n : Path) : Type 0 where
  pub type : Contains E t
  pub type_name : t.name ≡ r.ind
  pub params : ℕ
  pub indices : ℕ
  pub names : List Path
  pub large : Bool
  pub detail : t.detail ≡ Ind params indices names large
  pub level : Universe
  pub result : result_level t.ty ≡ Some level
  pub prop : Same level level_zero
  pub constructor : lookup_of V n ≡ found d
  pub within : Contains E d
  pub index : ℕ
  pub fieldless : d.detail ≡ Ctor r.ind index r.params 0

proposition_of : (V : View) (E : Environment) (r : Recursor) (t d : ConstInfo) (n : Path) (P : Term) → (k : IsLikeK V E r t d n)
    → EndsIn t.name 0 (k.params + k.indices) P → IsDeclaredProposition E P
proposition_of V E r t d n P k (ls, xs, e, l) = record {
  type = t;
  result = k.level;
  params = k.params;
  indices = k.indices;
  constructors = k.names;
  large = k.large;
  levels = ls;
  arguments = xs;
  within = k.type;
  detail = k.detail;
  declared = k.result;
  in_prop = k.prop;
  whole = l;
  form = e;
}

type_ends : (V : View) (E : Environment) → ClosedList V E → (r : Recursor) (t d : ConstInfo) (n : Path) → (k : IsLikeK V E r t d n)
    → TypeEnds V n t.name r.params (k.params + k.indices)
type_ends V E cl r t d n k c q =
    let same' : d ≡ c = found_is d c (sym k.constructor ∙ q) in
    let h : EndsIn t.name (r.params + 0) (k.params + k.indices) d.ty =
    (cl.constructors t d k.params k.indices k.index r.params 0 k.names k.large k.type k.within k.detail
    (k.fieldless ∙ ap (λ j. Ctor j k.index r.params 0) (sym k.type_name))).0 in
    let e : r.params + 0 ≡ r.params = omega arith in
    subst (λ z. EndsIn t.name r.params (k.params + k.indices) z.ty) same' (subst (λ m. EndsIn t.name m (k.params + k.indices) d.ty) e h)

pub put_in_sound : (V : View) (E : Environment) (top : ℕ) → ClosedList V E → (c : Calls) → Sound V E top c → Ends V c
    → (C : Context) (k t d : ConstInfo) (r : Recursor) (ls : List Universe) (s : Split) (w : Term) (n : Path) (u : ℕ) → ContextFits V E top C
    → IsRecursor V E top C k r ls s → IsLikeK V E r t d n → Fit V E top C w → Formed E C (Whole k ls s w) → Formed E C w
    → Post (Goes V E top C (Whole k ls s w)) (put_in V c C ls r s w n u)
put_in_sound V E top cl c so en C k t d r ls s w n u fine i a fw ft fo =
    let ct : Term = apply (const n (drop 1 ls)) (take r.params s.before) in
    let held : Held V E n = λ e q. subst (Contains E) (found_is d e (sym a.constructor ∙ q)) a.within in
    let beside : HeldBeside V E n = subst (HeldBeside V E) (cl.own_name n d a.constructor) (cl.beside d a.within) in
    let fct : Fit V E top C ct = apply_fits V E top (length C) (const n (drop 1 ls)) (take r.params s.before) (tt, (held, beside, below_drop top 1 ls i.below))
    (all_take V E top (length C) r.params s.before i.before) in
    let len : length (take r.params s.before) ≡ r.params = length-take-le r.params s.before (omega (arith, i.lead)) in
    let sp : Spine n r.params 0 ct = subst (λ m. Spine n m 0 ct) len (spine_of n (drop 1 ls) (take r.params s.before)) in
    let Q : Progress → Type 0 = Goes V E top C (Whole k ls s w) in
    post_then (λ z. z ≡ ct) Q (put ct u) _ (post_put (λ z. z ≡ ct) ct u refl) λ z v e.
    subst (λ z. Post Q (after z v)) (sym e)
    (post_then (Maybe (Yes (Equal E C w ct))) Q (caught _) _
    (post_caught (Yes (Equal E C w ct)) _
    (post_then (Typed V E top C w) (Yes (Equal E C w ct)) (c.infer checked C w v) _ (so.infer C w v fine fw) λ S v1 hS.
    post_then (λ T. Typed V E top C ct T × EndsIn t.name 0 (a.params + a.indices) T) (Yes (Equal E C w ct)) (c.infer checked C ct v1) _
    (post_both (Typed V E top C ct) (EndsIn t.name 0 (a.params + a.indices)) (c.infer checked C ct v1) (so.infer C ct v1 fine fct)
    (en.ends C n t.name r.params (a.params + a.indices) (type_ends V E cl r t d n a) 0 ct v1 sp)) λ T v2 hT.
    post_map (Yes (Equal E C S T)) (Yes (Equal E C w ct)) (c.equal C S T v2) (so.equal C S T v2 fine hS.1 hT.0.1 (is_type hS.0) (is_type hT.0.0)) λ b eq yes'.
    declared_irrelevance (conversion hS.0 (eq yes')) hT.0.0 (proposition_of V E r t d n T a hT.1)))
    λ o v3 ho.
    post_choose Q (is_true o) (fire V r ls s ct) (gives stays) v3
    (λ b.
    let q : Equal E C w ct = true_is (Equal E C w ct) o ho b in
    let whole : Equal E C (Whole k ls s w) (Whole k ls s ct) = equal_apply E C _ _ s.after (applications (reflexive (apply (const k.name ls) s.before)) q) in
    post_map (Goes V E top C (Whole k ls s ct)) Q (fire V r ls s ct v3)
    (fire_sound V E top cl C k r ls s ct v3 i (arguments_fit V E top (length C) ct fct) fct.0 (equal_to ft whole))
    (λ p g. goes_from V E top C (Whole k ls s w) (Whole k ls s ct) p whole g))
    (λ b. tt))
  where
    after : Term → Run Progress
    after ctor = λ v. (go_on (caught (go_on (c.infer checked C w v) (λ S v1. go_on (c.infer checked C ctor v1) (λ T. c.equal C S T))))
        (λ o. choose (is_true o) (fire V r ls s ctor) (gives stays)))
