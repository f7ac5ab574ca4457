-- What `equal` says yes to is equal.
use Rattle.std.proofs.Common.{
  ◌≡◌,
  ◌<◌,
  ◌^◌,
  ℕ,
  zero,
  suc,
  nat_eq,
  nat_lt,
  if◌then◌else◌,
  Bool,
  true,
  false,
  ◌&&◌,
  List,
  length,
  refl,
  sym,
  subst,
  subst₂,
  arith,
  Option,
  Some,
  None,
}
use Rattle.std.proofs.lemmas.Bool.{cond_both, eqb-true, ltb-true, and_parts}
use Rattle.lf_core.specs.Term.{Path, Universe, level_zero, Term, bound, free, meta, sort, const, app, lam, pi, letin, lit, proj}
use Rattle.lf_core.specs.Same.{same, same_path}
use Rattle.lf_core.specs.Substitution.{level_instantiate}
use Rattle.lf_core.specs.Spine.{apply, head_of, arguments_of}
use Rattle.lf_rules.specs.Environment.{Environment, Context, with, opened, nat_zero, nat_succ}
use Rattle.lf_rules.specs.Step.{Step, delta, literal_zero, literal_succ}
use Rattle.lf_rules.specs.Judgment.{
  Equal,
  reflexive,
  symmetric,
  transitive,
  applications,
  lambdas,
  pis,
  sorts,
  constants,
  step,
  eta,
  proof_irrelevance,
  HasType,
  literal,
  conversion,
  Formed,
  has_type,
  is_type,
  equal_to,
  argument,
  lambda_domain,
  lambda_body,
  pi_domain,
  pi_codomain,
  projected,
  projected_part,
}
use Rattle.lf_core.specs.declared.constant.ConstInfo.{ConstInfo}
use Rattle.lf_judgment_laws.proofs.Variables.{rebuilt, scoped_up}
use Rattle.lf_checker.specs.View.{View, Lookup, found, absent, need_body, need_real, lookup_of, KnownBody, value, opaque, unresolved, body_of}
use Rattle.lf_checker.specs.LevelTest.{are_same}
use Rattle.lf_checker.specs.Run.{Run, ◌>>=◌, gives, choose, caught}
use Rattle.lf_checker.specs.Calls.{checked, Calls, seen_as}
use Rattle.lf_checker.specs.Whnf.{turn_limit, is_true}
use Rattle.lf_checker.specs.Equal.{
  Verdict,
  decided,
  again,
  undecided,
  decided_by,
  or_else,
  decides,
  when_true,
  if_true,
  and_then,
  equal_binders,
  by_form,
  by_whnf,
  is_prop,
  flat,
  proposition_of,
  proves,
  by_proofs,
  expanded,
  expansion_of,
  eta_expansion,
  against_left,
  against_right,
  by_eta,
  by_predecessors,
  by_literals,
  equal_heads,
  equal_all,
  against_built,
  by_structures,
  by_arguments,
  Definition,
  of_body,
  definition_seen,
  definition_of,
  levels_of,
  unfolded,
  unfold_left,
  unfold_right,
  unfold_both,
  by_height,
  by_unfolding,
  by_types,
  by_heads,
  equal_turn,
  equal_loop,
  equal_body,
}
use Rattle.lf_checker_laws.specs.Soundness.{Names, Fits, AllFit, ContextFits, ClosedList, Post, Typed, Reduct, Sound}
use Rattle.lf_name.proofs.Names.{path_is}
use Rattle.lf_core.proofs.Trees.{term_is}
use Rattle.lf_checker_laws.proofs.Tests.{no_false, level_same, levels_same}
use Rattle.lf_checker_laws.proofs.Runs.{
  post_then,
  post_map,
  Maybe,
  post_caught,
  post_choose,
  post_made_then,
  post_made_before,
  post_opening_then,
  Yes,
  post_and,
}
use Rattle.lf_checker_laws.proofs.Fitting.{opened_fits, context_with, head_fits, arguments_fit, levels_fit}
use Rattle.lf_checker_laws.proofs.Forming.{formed_as, formed_arguments}
use Rattle.lf_checker_laws.proofs.Views.{body_is}
use Rattle.lf_checker_laws.proofs.Reduces.{Fit, stepped}
use Rattle.lf_checker_laws.proofs.Normals.{ArgumentsEqual}
use Rattle.lf_checker_laws.proofs.Built.{all_sound, against_built_sound}

-- A verdict on a and b.
abbrev Judged : View → Environment → ℕ → Context → Term → Term → Verdict → Type 0
Judged V E top C a b (decided r) = Yes (Equal E C a b) r
Judged V E top C a b (again x y) = Reduct V E top C a x × Reduct V E top C b y
Judged V E top C a b undecided = Unit {0}

decided_sound : (V : View) (E : Environment) (top : ℕ) (C : Context) (a b : Term) (v : Verdict) (n : Run Verdict) (u : ℕ) → Judged V E top C a b v
    → Post (Judged V E top C a b) (n u) → Post (Judged V E top C a b) (decided_by v n u)
decided_sound V E top C a b undecided n u h g = g
decided_sound V E top C a b (decided r) n u h g = h
decided_sound V E top C a b (again x y) n u h g = h

or_sound : (V : View) (E : Environment) (top : ℕ) (C : Context) (a b : Term) (m n : Run Verdict) (u : ℕ) → Post (Judged V E top C a b) (m u)
    → ((v : ℕ) → Post (Judged V E top C a b) (n v)) → Post (Judged V E top C a b) (or_else m n u)
or_sound V E top C a b m n u h g = post_then (Judged V E top C a b) (Judged V E top C a b) (m u) (λ v. decided_by v n) h λ v w k. decided_sound V E top C a b v
    n w k (g w)

decides_sound : (V : View) (E : Environment) (top : ℕ) (C : Context) (a b : Term) (m : Run Bool) (u : ℕ) → Post (Yes (Equal E C a b)) (m u)
    → Post (Judged V E top C a b) (decides m u)
decides_sound V E top C a b m u h = post_then (Yes (Equal E C a b)) (Judged V E top C a b) (m u) (λ r. gives (decided r)) h λ r v k. k

when_sound : (V : View) (E : Environment) (top : ℕ) (C : Context) (a b : Term) (r : Bool) → Yes (Equal E C a b) r → Judged V E top C a b (when_true r)
when_sound V E top C a b true h = h
when_sound V E top C a b false h = tt

if_sound : (V : View) (E : Environment) (top : ℕ) (C : Context) (a b : Term) (m : Run Bool) (u : ℕ) → Post (Yes (Equal E C a b)) (m u)
    → Post (Judged V E top C a b) (if_true m u)
if_sound V E top C a b m u h = post_then (Yes (Equal E C a b)) (Judged V E top C a b) (m u) (λ r. gives (when_true r)) h λ r v k. when_sound V E top C a b r k

-- ---- Forms.

-- By the congruence that is given.
binders_sound : (V : View) (E : Environment) (top : ℕ) (c : Calls) → Sound V E top c → (C : Context) (Q : Type 0) (A b B d : Term) (u : ℕ)
    → ContextFits V E top C → Fit V E top C A → Fits V E top 1 (length C) b → Fit V E top C B → Fits V E top 1 (length C) d → Formed E C A → Formed E C B
    → Formed E (with C A) (opened C b) → (Equal E C A B → Formed E (with C A) (opened C d)) → (Equal E C A B → Equal E (with C A) (opened C b) (opened C d) → Q)
    → Post (Yes Q) (equal_binders c C A b B d u)
binders_sound V E top c s C Q A b B d u fine fA fb fB fd gA gB gb gd k =
    post_then (Yes (Equal E C A B)) (Yes Q) (c.equal C A B u) _ (s.equal C A B u fine fA fB gA gB) λ r v h.
    post_and (Equal E C A B) Q r _ v h λ p.
    post_opening_then (Yes Q) C b _ v λ v1.
    post_opening_then (Yes Q) C d _ v1 λ v2.
    post_map (Yes (Equal E (with C A) (opened C b) (opened C d))) (Yes Q) (c.equal (with C A) (opened C b) (opened C d) v2)
    (s.equal (with C A) (opened C b) (opened C d) v2 (context_with V E top C A fine fA) (opened_fits V E top C A b fb) (opened_fits V E top C A d fd) gb (gd p))
    λ r' q e.
    k p (q e)

form_sound : (V : View) (E : Environment) (top : ℕ) (c : Calls) → Sound V E top c → (C : Context) (a b : Term) (u : ℕ) → ContextFits V E top C → Fit V E top C a
    → Fit V E top C b → Formed E C a → Formed E C b → Post (Judged V E top C a b) (by_form c C a b u)
form_sound V E top c s C (sort l) (sort m) u fine fa fb ga gb = λ e. sorts (level_same l m e)
form_sound V E top c s C (pi x A b) (pi y B d) u fine fa fb ga gb =
    decides_sound V E top C (pi x A b) (pi y B d) (equal_binders c C A b B d) u
    (binders_sound V E top c s C (Equal E C (pi x A b) (pi y B d)) A b B d u fine (fa.0.0, fa.1.0) (fa.0.1, fa.1.1) (fb.0.0, fb.1.0) (fb.0.1, fb.1.1)
    (pi_domain ga) (pi_domain gb) (pi_codomain ga)
    (λ h. pi_codomain {B = d} (equal_to gb (pis {x = y} {y = y} (pi_domain gb) (symmetric h) fb.0.1 fb.0.1 (reflexive (opened C d))))) λ h k. pis (pi_domain ga)
    h fa.0.1 fb.0.1 k)
form_sound V E top c s C (lam x A b) (lam y B d) u fine fa fb ga gb =
    decides_sound V E top C (lam x A b) (lam y B d) (equal_binders c C A b B d) u
    (binders_sound V E top c s C (Equal E C (lam x A b) (lam y B d)) A b B d u fine (fa.0.0, fa.1.0) (fa.0.1, fa.1.1) (fb.0.0, fb.1.0) (fb.0.1, fb.1.1)
    (lambda_domain ga) (lambda_domain gb) (lambda_body ga)
    (λ h. lambda_body {b = d} (equal_to gb (lambdas {x = y} {y = y} (lambda_domain gb) (symmetric h) fb.0.1 fb.0.1 (reflexive (opened C d))))) λ h k. lambdas
    (lambda_domain ga) h fa.0.1 fb.0.1 k)
form_sound V E top c s C _ _ u fine fa fb ga gb = tt

whnf_sound : (V : View) (E : Environment) (top : ℕ) (c : Calls) → Sound V E top c → (C : Context) (a b : Term) (u : ℕ) → ContextFits V E top C → Fit V E top C a
    → Fit V E top C b → Formed E C a → Formed E C b → Post (Judged V E top C a b) (by_whnf c C a b u)
whnf_sound V E top c s C a b u fine fa fb ga gb =
    post_then (Reduct V E top C a) (Judged V E top C a b) (c.whnf false C a u) _ (s.whnf false C a u fine fa ga) λ a' v ha.
    post_then (Reduct V E top C b) (Judged V E top C a b) (c.whnf false C b v) _ (s.whnf false C b v fine fb gb) λ b' w hb.
    cond_both (same a a' && same b b') undecided (again a' b') (Judged V E top C a b) (λ e. tt) (λ e. (ha, hb))

-- ---- Proofs.

to_prop : (E : Environment) (C : Context) (W : Term) → is_prop W ≡ true → Equal E C W (sort level_zero)
to_prop E C (sort l) e = sorts (level_same l level_zero e)
to_prop E C (bound i) e = no_false e
to_prop E C (free i) e = no_false e
to_prop E C (meta i) e = no_false e
to_prop E C (const n ls) e = no_false e
to_prop E C (app f a) e = no_false e
to_prop E C (lam x A b) e = no_false e
to_prop E C (pi x A b) e = no_false e
to_prop E C (letin x A v b) e = no_false e
to_prop E C (lit n) e = no_false e
to_prop E C (proj S i t) e = no_false e

record Proof (V : View) (E : Environment) (top : ℕ) (C : Context) (a P : Term) : Type 0 where
  typed : HasType E C a P
  prop : HasType E C P (sort level_zero)
  fits : Fit V E top C P

proposition_sound : (V : View) (E : Environment) (top : ℕ) (c : Calls) → Sound V E top c → (C : Context) (a : Term) (u : ℕ) → ContextFits V E top C
    → Fit V E top C a → Post (Maybe (Maybe (Proof V E top C a))) (proposition_of c C a u)
proposition_sound V E top c s C a u fine fa =
    post_caught (Maybe (Proof V E top C a)) _
    (post_then (Typed V E top C a) (Maybe (Proof V E top C a)) (c.infer checked C a u) _ (s.infer C a u fine fa) λ P v hP.
    post_then (Typed V E top C P) (Maybe (Proof V E top C a)) (c.infer checked C P v) _ (s.infer C P v fine hP.1) λ S w hS.
    post_then (Reduct V E top C S) (Maybe (Proof V E top C a)) (c.whnf true C S w) (λ W. gives (if is_prop W then Some P else None))
    (s.whnf true C S w fine hS.1 (is_type hS.0)) λ W x hW.
    cond_both (is_prop W) (Some P) None (Maybe (Proof V E top C a))
    (λ e. record { typed = hP.0; prop = conversion hS.0 (transitive hW.0 (to_prop E C W e)); fits = hP.1 }) (λ e. tt))

flat_sound : {A : Type 0} (P : A → Type 0) (o : Option (Option A)) → Maybe (Maybe P) o → Maybe P (flat o)
flat_sound P (Some o) h = h
flat_sound P None h = tt

true_is : (P : Type 0) (o : Option Bool) → Maybe (Yes P) o → Yes P (is_true o)
true_is P (Some true) h = h
true_is P (Some false) h = λ e. no_false e
true_is P None h = λ e. no_false e

proves_sound : (V : View) (E : Environment) (top : ℕ) (c : Calls) → Sound V E top c → (C : Context) (a b : Term) (o : Option Term) (u : ℕ)
    → ContextFits V E top C → Fit V E top C b → Maybe (Proof V E top C a) o → Post (Yes (Equal E C a b)) (proves c C b o u)
proves_sound V E top c s C a b None u fine fb h = λ e. no_false e
proves_sound V E top c s C a b (Some P) u fine fb h =
    post_then (Maybe (Yes (Equal E C a b))) (Yes (Equal E C a b)) (caught _) (λ r. gives (is_true r))
    (post_caught (Yes (Equal E C a b)) _
    (post_then (Typed V E top C b) (Yes (Equal E C a b)) (c.infer checked C b u) _ (s.infer C b u fine fb) λ R v hR.
    post_map (Yes (Equal E C P R)) (Yes (Equal E C a b)) (c.equal C P R v) (s.equal C P R v fine h.fits hR.1 (is_type h.typed) (is_type hR.0)) λ r k e.
    proof_irrelevance h.typed (conversion hR.0 (symmetric (k e))) h.prop))
    λ r v k. true_is (Equal E C a b) r k

proofs_sound : (V : View) (E : Environment) (top : ℕ) (c : Calls) → Sound V E top c → (C : Context) (a b : Term) (u : ℕ) → ContextFits V E top C
    → Fit V E top C a → Fit V E top C b → Post (Judged V E top C a b) (by_proofs c C a b u)
proofs_sound V E top c s C a b u fine fa fb =
    if_sound V E top C a b (proposition_of c C a >>= λ P. proves c C b (flat P)) u
    (post_then (Maybe (Maybe (Proof V E top C a))) (Yes (Equal E C a b)) (proposition_of c C a u) (λ P. proves c C b (flat P))
    (proposition_sound V E top c s C a u fine fa) λ P v h.
    proves_sound V E top c s C a b (flat P) v fine fb (flat_sound (Proof V E top C a) P h))

-- ---- Eta.

abbrev Expands : View → Environment → ℕ → Context → Term → Term → Type 0
Expands V E top C t e = Equal E C t e × Fit V E top C e

expanded_sound : (V : View) (E : Environment) (top : ℕ) (C : Context) (t T W : Term) (u : ℕ) → Fit V E top C t → HasType E C t T → Reduct V E top C T W
    → Post (Maybe (Expands V E top C t)) (expanded t W u)
expanded_sound V E top C t T (pi x A B) u ft h r =
    let e : Term = lam x A (app t (bound 0)) in
    post_made_then (Maybe (Expands V E top C t)) e (λ z. gives (Some z)) u λ v.
    (eta (conversion h r.0), ((r.1.0.0, (scoped_up t (omega arith) (omega arith) ft.0, omega arith)), (r.1.1.0, (ft.1, tt))))
expanded_sound V E top C t T _ u ft h r = tt

expansion_of_sound : (V : View) (E : Environment) (top : ℕ) (c : Calls) → Sound V E top c → (C : Context) (t : Term) (o : Option Term) (u : ℕ)
    → ContextFits V E top C → Fit V E top C t → Maybe (Typed V E top C t) o → Post (Maybe (Expands V E top C t)) (expansion_of c C t o u)
expansion_of_sound V E top c s C t (Some T) u fine ft h =
    post_then (Reduct V E top C T) (Maybe (Expands V E top C t)) (c.whnf true C T u) (λ W. expanded t W) (s.whnf true C T u fine h.1 (is_type h.0)) λ W v r.
    expanded_sound V E top C t T W v ft h.0 r
expansion_of_sound V E top c s C t None u fine ft h = tt

expansion_sound : (V : View) (E : Environment) (top : ℕ) (c : Calls) → Sound V E top c → (C : Context) (t : Term) (u : ℕ) → ContextFits V E top C
    → Fit V E top C t → Post (Maybe (Expands V E top C t)) (eta_expansion c C t u)
expansion_sound V E top c s C t u fine ft =
    post_then (Maybe (Typed V E top C t)) (Maybe (Expands V E top C t)) (caught (c.infer checked C t u)) (λ T. expansion_of c C t T)
    (post_caught (Typed V E top C t) (c.infer checked C t u) (s.infer C t u fine ft)) λ T v h.
    expansion_of_sound V E top c s C t T v fine ft h

left_sound : (V : View) (E : Environment) (top : ℕ) (c : Calls) → Sound V E top c → (C : Context) (a b : Term) (o : Option Term) (u : ℕ) → ContextFits V E top C
    → Fit V E top C a → Formed E C a → Formed E C b → Maybe (Expands V E top C b) o → Post (Judged V E top C a b) (against_left c C a o u)
left_sound V E top c s C a b (Some e) u fine fa ga gb h =
    decides_sound V E top C a b (c.equal C a e) u
    (post_map (Yes (Equal E C a e)) (Yes (Equal E C a b)) (c.equal C a e u) (s.equal C a e u fine fa h.1 ga (equal_to gb h.0)) λ r k y. transitive (k y)
    (symmetric h.0))
left_sound V E top c s C a b None u fine fa ga gb h = tt

right_sound : (V : View) (E : Environment) (top : ℕ) (c : Calls) → Sound V E top c → (C : Context) (a b : Term) (o : Option Term) (u : ℕ)
    → ContextFits V E top C → Fit V E top C b → Formed E C a → Formed E C b → Maybe (Expands V E top C a) o
    → Post (Judged V E top C a b) (against_right c C b o u)
right_sound V E top c s C a b (Some e) u fine fb ga gb h =
    decides_sound V E top C a b (c.equal C e b) u
    (post_map (Yes (Equal E C e b)) (Yes (Equal E C a b)) (c.equal C e b u) (s.equal C e b u fine h.1 fb (equal_to ga h.0) gb) λ r k y. transitive h.0
    (k y))
right_sound V E top c s C a b None u fine fb ga gb h = tt

to_left_sound : (V : View) (E : Environment) (top : ℕ) (c : Calls) → Sound V E top c → (C : Context) (a b : Term) (u : ℕ) → ContextFits V E top C
    → Fit V E top C a → Fit V E top C b → Formed E C a → Formed E C b → Post (Judged V E top C a b) ((eta_expansion c C b >>= λ e. against_left c C a e) u)
to_left_sound V E top c s C a b u fine fa fb ga gb = post_then (Maybe (Expands V E top C b)) (Judged V E top C a b) (eta_expansion c C b u)
    (λ e. against_left c C a e) (expansion_sound V E top c s C b u fine fb) λ e v h. left_sound V E top c s C a b e v fine fa ga gb h

to_right_sound : (V : View) (E : Environment) (top : ℕ) (c : Calls) → Sound V E top c → (C : Context) (a b : Term) (u : ℕ) → ContextFits V E top C
    → Fit V E top C a → Fit V E top C b → Formed E C a → Formed E C b → Post (Judged V E top C a b) ((eta_expansion c C a >>= λ e. against_right c C b e) u)
to_right_sound V E top c s C a b u fine fa fb ga gb = post_then (Maybe (Expands V E top C a)) (Judged V E top C a b) (eta_expansion c C a u)
    (λ e. against_right c C b e) (expansion_sound V E top c s C a u fine fa) λ e v h. right_sound V E top c s C a b e v fine fb ga gb h

eta_sound : (V : View) (E : Environment) (top : ℕ) (c : Calls) → Sound V E top c → (C : Context) (a b : Term) (u : ℕ) → ContextFits V E top C → Fit V E top C a
    → Fit V E top C b → Formed E C a → Formed E C b → Post (Judged V E top C a b) (by_eta c C a b u)
eta_sound V E top c s C (lam x A d) (lam y B e) u fine fa fb ga gb = tt
eta_sound V E top c s C (lam x A d) b u fine fa fb ga gb = to_left_sound V E top c s C (lam x A d) b u fine fa fb ga gb
eta_sound V E top c s C a (lam y B e) u fine fa fb ga gb = to_right_sound V E top c s C a (lam y B e) u fine fa fb ga gb
eta_sound V E top c s C a b u fine fa fb ga gb = tt

-- ---- Eta for structures.

structures_sound : (V : View) (E : Environment) (top : ℕ) → ClosedList V E → (c : Calls) → Sound V E top c → (C : Context) (a b : Term) (u : ℕ)
    → ContextFits V E top C → Fit V E top C a → Fit V E top C b → Formed E C a → Formed E C b → Post (Judged V E top C a b) (by_structures V c C a b u)
structures_sound V E top cl c s C a b u fine fa fb ga gb =
    or_sound V E top C a b (if_true (against_built V c C a b)) (if_true (against_built V c C b a)) u
    (if_sound V E top C a b (against_built V c C a b) u
    (post_map (Yes (Equal E C b a)) (Yes (Equal E C a b)) (against_built V c C a b u) (against_built_sound V E top cl c s C a b u fine fa fb ga gb)
    (λ r h e. symmetric (h e)))) λ v.
    if_sound V E top C a b (against_built V c C b a) v (against_built_sound V E top cl c s C b a v fine fb fa gb ga)

-- ---- Literals.

zero_sound : (E : Environment) (C : Context) (n : Path) (ls : List Universe) → Yes (Equal E C (lit 0) (const n ls)) (same (const n ls) nat_zero)
zero_sound E C n ls e = subst (Equal E C (lit 0)) (sym (term_is (const n ls) nat_zero e)) (step literal_zero tt (has_type (literal 0)))

succ_equal : (E : Environment) (C : Context) (n : ℕ) (f t : Term) → suc n < 2 ^ 128 → same f nat_succ ≡ true → Equal E C (lit n) t
    → Equal E C (lit (suc n)) (app f t)
succ_equal E C n f t l e h =
    subst (λ z. Equal E C (lit (suc n)) (app z t)) (sym (term_is f nat_succ e))
    (transitive (step (literal_succ n l) tt (has_type (literal (suc n)))) (applications (reflexive nat_succ) h))

left_predecessors : (V : View) (E : Environment) (top : ℕ) (c : Calls) → Sound V E top c → (C : Context) (n : ℕ) (f t : Term) (u : ℕ) → ContextFits V E top C
    → Fit V E top C (lit (suc n)) → Fit V E top C (app f t) → Formed E C (app f t)
    → Post (Judged V E top C (lit (suc n)) (app f t)) (by_predecessors (suc n) f (c.equal C (lit n) t) u)
left_predecessors V E top c s C n f t u fine fa fb gb =
    post_choose (Judged V E top C (lit (suc n)) (app f t)) (same f nat_succ && nat_lt (suc n) (2 ^ 128)) (decides (c.equal C (lit n) t)) (gives undecided) u
    (λ e.
    let p = and_parts (same f nat_succ) (nat_lt (suc n) (2 ^ 128)) e in
    decides_sound V E top C (lit (suc n)) (app f t) (c.equal C (lit n) t) u
    (post_map (Yes (Equal E C (lit n) t)) (Yes (Equal E C (lit (suc n)) (app f t))) (c.equal C (lit n) t u)
    (s.equal C (lit n) t u fine (tt, fa.1) (fb.0.1, fb.1.1) (has_type (literal n)) (argument gb)) λ r k y. succ_equal E C n f t
    (ltb-true (suc n) (2 ^ 128) p.1) p.0 (k y)))
    (λ e. tt)

right_predecessors : (V : View) (E : Environment) (top : ℕ) (c : Calls) → Sound V E top c → (C : Context) (n : ℕ) (f t : Term) (u : ℕ) → ContextFits V E top C
    → Fit V E top C (lit (suc n)) → Fit V E top C (app f t) → Formed E C (app f t)
    → Post (Judged V E top C (app f t) (lit (suc n))) (by_predecessors (suc n) f (c.equal C t (lit n)) u)
right_predecessors V E top c s C n f t u fine fa fb gb =
    post_choose (Judged V E top C (app f t) (lit (suc n))) (same f nat_succ && nat_lt (suc n) (2 ^ 128)) (decides (c.equal C t (lit n))) (gives undecided) u
    (λ e.
    let p = and_parts (same f nat_succ) (nat_lt (suc n) (2 ^ 128)) e in
    decides_sound V E top C (app f t) (lit (suc n)) (c.equal C t (lit n)) u
    (post_map (Yes (Equal E C t (lit n))) (Yes (Equal E C (app f t) (lit (suc n)))) (c.equal C t (lit n) u)
    (s.equal C t (lit n) u fine (fb.0.1, fb.1.1) (tt, fa.1) (argument gb) (has_type (literal n))) λ r k y. symmetric
    (succ_equal E C n f t (ltb-true (suc n) (2 ^ 128) p.1) p.0 (symmetric (k y)))))
    (λ e. tt)

literals_sound : (V : View) (E : Environment) (top : ℕ) (c : Calls) → Sound V E top c → (C : Context) (a b : Term) (u : ℕ) → ContextFits V E top C
    → Fit V E top C a → Fit V E top C b → Formed E C a → Formed E C b → Post (Judged V E top C a b) (by_literals c C a b u)
literals_sound V E top c s C (lit m) (lit n) u fine fa fb ga gb = λ e. no_false e
literals_sound V E top c s C (lit zero) (const n ls) u fine fa fb ga gb = when_sound V E top C (lit 0) (const n ls) (same (const n ls) nat_zero)
    (zero_sound E C n ls)
literals_sound V E top c s C (const n ls) (lit zero) u fine fa fb ga gb = when_sound V E top C (const n ls) (lit 0) (same (const n ls) nat_zero)
    (λ e. symmetric (zero_sound E C n ls e))
literals_sound V E top c s C (lit (suc n)) (app f t) u fine fa fb ga gb = left_predecessors V E top c s C n f t u fine fa fb gb
literals_sound V E top c s C (app f t) (lit (suc n)) u fine fa fb ga gb = right_predecessors V E top c s C n f t u fine fb fa ga
literals_sound V E top c s C _ _ u fine fa fb ga gb = tt

-- ---- Heads and arguments.

head_is : (E : Environment) (C : Context) (a b : Term) → Yes (Equal E C a b) (same a b)
head_is E C a b e = subst (Equal E C a) (term_is a b e) (reflexive a)

heads_sound : (V : View) (E : Environment) (top : ℕ) (c : Calls) → Sound V E top c → (C : Context) (a b : Term) (u : ℕ) → ContextFits V E top C
    → Fit V E top C a → Fit V E top C b → Formed E C a → Formed E C b → Post (Yes (Equal E C a b)) (equal_heads c C a b u)
heads_sound V E top c s C (const n ls) (const k ms) u fine fa fb ga gb = λ e.
    let p = and_parts (same_path n k) (are_same ls ms) e in
    subst (λ m. Equal E C (const n ls) (const m ms)) (path_is n k p.0) (constants n (levels_same ls ms p.1))
heads_sound V E top c s C (proj S i t) (proj R j r) u fine fa fb ga gb =
    let Q : Bool → Type 0 = Yes (Equal E C (proj S i t) (proj R j r)) in
    post_choose Q (same_path S R && nat_eq i j) (c.equal C t r) (gives false) u
    (λ b.
    let p = and_parts (same_path S R) (nat_eq i j) b in
    post_map (Yes (Equal E C t r)) Q (c.equal C t r u) (s.equal C t r u fine (fa.0, fa.1.1) (fb.0, fb.1.1) (projected_part ga) (projected_part gb)) λ q k e.
    subst₂ (λ m l. Equal E C (proj S i t) (proj m l r)) (path_is S R p.0) (eqb-true i j p.1) (projected S i (k e)))
    (λ b e. no_false e)
heads_sound V E top c s C a b u fine fa fb ga gb = head_is E C a b

arguments_sound : (V : View) (E : Environment) (top : ℕ) (c : Calls) → Sound V E top c → (C : Context) (a b : Term) (u : ℕ) → ContextFits V E top C
    → Fit V E top C a → Fit V E top C b → Formed E C a → Formed E C b → Post (Judged V E top C a b) (by_arguments c C a b u)
arguments_sound V E top c s C a b u fine fa fb ga gb =
    let test : Bool = nat_eq (length (arguments_of a)) (length (arguments_of b)) in
    let both : Run Bool = equal_heads c C (head_of a) (head_of b) >>= λ r. and_then r (equal_all c C (arguments_of a) (arguments_of b)) in
    if_sound V E top C a b (choose test both (gives false)) u
    (post_choose (Yes (Equal E C a b)) test both (gives false) u
    (λ e.
    post_then (Yes (Equal E C (head_of a) (head_of b))) (Yes (Equal E C a b)) (equal_heads c C (head_of a) (head_of b) u)
    (λ r. and_then r (equal_all c C (arguments_of a) (arguments_of b)))
    (heads_sound V E top c s C (head_of a) (head_of b) u fine (head_fits V E top (length C) a fa) (head_fits V E top (length C) b fb) (formed_head a ga)
    (formed_head b gb)) λ r v h.
    post_and (Equal E C (head_of a) (head_of b)) (Equal E C a b) r (equal_all c C (arguments_of a) (arguments_of b)) v h λ p.
    post_map (Yes (ArgumentsEqual E C (arguments_of a) (arguments_of b))) (Yes (Equal E C a b)) (equal_all c C (arguments_of a) (arguments_of b) v)
    (all_sound V E top c s C (arguments_of a) (arguments_of b) v fine (arguments_fit V E top (length C) a fa) (arguments_fit V E top (length C) b fb)
    (formed_arguments E C a ga) (formed_arguments E C b gb)) λ r' k er.
    subst₂ (λ x y. Equal E C x y) (sym (rebuilt a)) (sym (rebuilt b)) (k er (head_of a) (head_of b) p))
    (λ e y. no_false y))
  where
    formed_head : (t : Term) → Formed E C t → Formed E C (head_of t)
    formed_head t g = (formed_as E C t (head_of t) (arguments_of t) (rebuilt t) g).0

-- ---- Definitions.

-- What a term unfolds to.
abbrev UnfoldsTo : View → Environment → ℕ → Context → Term → List Term → Option Definition → Type 0
UnfoldsTo V E top C h xs None = Unit {0}
UnfoldsTo V E top C h xs (Some d) = Reduct V E top C (apply h xs) (apply (level_instantiate (levels_of h) d.value) xs)

body_sound : (V : View) (E : Environment) (top : ℕ) → ClosedList V E
    → (C : Context) (k : ConstInfo) (n : Path) (ls : List Universe) (xs : List Term) (b : KnownBody) (u : ℕ) → Names V E top (const n ls)
    → lookup_of V n ≡ found k → length ls ≡ length k.levels → body_of V n ≡ b → AllFit V E top (length C) xs → Formed E C (apply (const n ls) xs)
    → Post (UnfoldsTo V E top C (const n ls) xs) (of_body b u)
body_sound V E top cl C k n ls xs (value v i) u hn q l e fx ft =
    let wk = hn.0 k q in
    let b = body_is V n k v i q e in
    let st : Step E (const n ls) (level_instantiate ls v) = subst (λ m. Step E (const m ls) (level_instantiate ls v)) (cl.own_name n k q)
    (delta k v ls wk b.0 b.1 l) in
    stepped V E top C (apply (const n ls) xs) (const n ls) (level_instantiate ls v) xs refl st tt
    (levels_fit V E top (length C) (length k.levels) ls v l hn.2 ((cl.closed k wk).value v b.1) (cl.values k v wk b.1)) fx ft
body_sound V E top cl C k n ls xs opaque u hn q l e fx ft = tt
body_sound V E top cl C k n ls xs (unresolved j) u hn q l e fx ft = tt

seen_sound : (V : View) (E : Environment) (top : ℕ) → ClosedList V E → (C : Context) (n : Path) (ls : List Universe) (xs : List Term) (l : Lookup) (u : ℕ)
    → Names V E top (const n ls) → lookup_of V n ≡ l → AllFit V E top (length C) xs → Formed E C (apply (const n ls) xs)
    → Post (UnfoldsTo V E top C (const n ls) xs) (definition_seen V n ls (seen_as n l) u)
seen_sound V E top cl C n ls xs (found k) u hn q fx ft =
    post_choose (UnfoldsTo V E top C (const n ls) xs) (nat_eq (length ls) (length k.levels)) (of_body (body_of V n)) (gives None) u
    (λ e. body_sound V E top cl C k n ls xs (body_of V n) u hn q (eqb-true (length ls) (length k.levels) e) refl fx ft) (λ e. tt)
seen_sound V E top cl C n ls xs absent u hn q fx ft = tt
seen_sound V E top cl C n ls xs (need_body p) u hn q fx ft = tt
seen_sound V E top cl C n ls xs need_real u hn q fx ft = tt

head_unfolds : (V : View) (E : Environment) (top : ℕ) → ClosedList V E → (C : Context) (h : Term) (xs : List Term) (u : ℕ) → Fit V E top C h
    → AllFit V E top (length C) xs → Formed E C (apply h xs) → Post (UnfoldsTo V E top C h xs) (definition_of V h u)
head_unfolds V E top cl C (const n ls) xs u fh fx ft = seen_sound V E top cl C n ls xs (lookup_of V n) u fh.1 refl fx ft
head_unfolds V E top cl C _ xs u fh fx ft = tt

abbrev Unfolds : View → Environment → ℕ → Context → Term → Option Definition → Type 0
Unfolds V E top C a None = Unit {0}
Unfolds V E top C a (Some d) = Reduct V E top C a (apply (level_instantiate (levels_of (head_of a)) d.value) (arguments_of a))

unfolds_from : (V : View) (E : Environment) (top : ℕ) (C : Context) (a : Term) (o : Option Definition) → UnfoldsTo V E top C (head_of a) (arguments_of a) o
    → Unfolds V E top C a o
unfolds_from V E top C a None h = tt
unfolds_from V E top C a (Some d) h = subst (λ z. Reduct V E top C z (apply (level_instantiate (levels_of (head_of a)) d.value) (arguments_of a)))
    (sym (rebuilt a)) h

unfolded_sound : (V : View) (E : Environment) (top : ℕ) (C : Context) (a : Term) (d : Definition) (u : ℕ) → Unfolds V E top C a (Some d)
    → Post (Reduct V E top C a) (unfolded a d u)
unfolded_sound V E top C a d u h = post_made_before (Reduct V E top C a) (arguments_of a) (level_instantiate (levels_of (head_of a)) d.value) u h

left_unfolds : (V : View) (E : Environment) (top : ℕ) (C : Context) (a b : Term) (d : Definition) (u : ℕ) → Fit V E top C b → Unfolds V E top C a (Some d)
    → Post (Judged V E top C a b) (unfold_left a b d u)
left_unfolds V E top C a b d u fb h = post_then (Reduct V E top C a) (Judged V E top C a b) (unfolded a d u) (λ z. gives (again z b))
    (unfolded_sound V E top C a d u h) λ z v k. (k, (reflexive b, fb))

right_unfolds : (V : View) (E : Environment) (top : ℕ) (C : Context) (a b : Term) (e : Definition) (u : ℕ) → Fit V E top C a → Unfolds V E top C b (Some e)
    → Post (Judged V E top C a b) (unfold_right a b e u)
right_unfolds V E top C a b e u fa h = post_then (Reduct V E top C b) (Judged V E top C a b) (unfolded b e u) (λ z. gives (again a z))
    (unfolded_sound V E top C b e u h) λ z v k. ((reflexive a, fa), k)

both_unfold : (V : View) (E : Environment) (top : ℕ) (C : Context) (a b : Term) (d e : Definition) (u : ℕ) → Unfolds V E top C a (Some d)
    → Unfolds V E top C b (Some e) → Post (Judged V E top C a b) (unfold_both a b d e u)
both_unfold V E top C a b d e u h g =
    post_then (Reduct V E top C a) (Judged V E top C a b) (unfolded a d u) _ (unfolded_sound V E top C a d u h) λ y v k.
    post_then (Reduct V E top C b) (Judged V E top C a b) (unfolded b e v) (λ z. gives (again y z)) (unfolded_sound V E top C b e v g) λ z w k'. (k, k')

height_sound : (V : View) (E : Environment) (top : ℕ) (C : Context) (a b : Term) (x y : Option Definition) (u : ℕ) → Fit V E top C a → Fit V E top C b
    → Unfolds V E top C a x → Unfolds V E top C b y → Post (Judged V E top C a b) (by_height a b x y u)
height_sound V E top C a b None None u fa fb hx hy = tt
height_sound V E top C a b (Some d) None u fa fb hx hy = left_unfolds V E top C a b d u fb hx
height_sound V E top C a b None (Some e) u fa fb hx hy = right_unfolds V E top C a b e u fa hy
height_sound V E top C a b (Some d) (Some e) u fa fb hx hy =
    let Q : Verdict → Type 0 = Judged V E top C a b in
    post_choose Q (nat_lt d.height e.height) (unfold_right a b e) (choose (nat_lt e.height d.height) (unfold_left a b d) (unfold_both a b d e)) u
    (λ w. right_unfolds V E top C a b e u fa hy)
    (λ w. post_choose Q (nat_lt e.height d.height) (unfold_left a b d) (unfold_both a b d e) u (λ z. left_unfolds V E top C a b d u fb hx)
    (λ z. both_unfold V E top C a b d e u hx hy))

definition_sound : (V : View) (E : Environment) (top : ℕ) → ClosedList V E → (C : Context) (a : Term) (u : ℕ) → Fit V E top C a → Formed E C a
    → Post (Unfolds V E top C a) (definition_of V (head_of a) u)
definition_sound V E top cl C a u fa ga =
    post_map (UnfoldsTo V E top C (head_of a) (arguments_of a)) (Unfolds V E top C a) (definition_of V (head_of a) u)
    (head_unfolds V E top cl C (head_of a) (arguments_of a) u (head_fits V E top (length C) a fa) (arguments_fit V E top (length C) a fa)
    (subst (Formed E C) (rebuilt a) ga)) (λ o h. unfolds_from V E top C a o h)

unfolding_sound : (V : View) (E : Environment) (top : ℕ) → ClosedList V E → (C : Context) (a b : Term) (u : ℕ) → Fit V E top C a → Fit V E top C b
    → Formed E C a → Formed E C b → Post (Judged V E top C a b) (by_unfolding V a b u)
unfolding_sound V E top cl C a b u fa fb ga gb =
    post_then (Unfolds V E top C a) (Judged V E top C a b) (definition_of V (head_of a) u) _ (definition_sound V E top cl C a u fa ga) λ x v hx.
    post_then (Unfolds V E top C b) (Judged V E top C a b) (definition_of V (head_of b) v) (λ y. by_height a b x y) (definition_sound V E top cl C b v fb gb)
    λ y w hy.
    height_sound V E top C a b x y w fa fb hx hy

-- ---- The whole.

turn_sound : (V : View) (E : Environment) (top : ℕ) → ClosedList V E → (c : Calls) → Sound V E top c → (C : Context) (a b : Term) (u : ℕ)
    → ContextFits V E top C → Fit V E top C a → Fit V E top C b → Formed E C a → Formed E C b → Post (Judged V E top C a b) (equal_turn V c C a b u)
turn_sound V E top cl c s C a b u fine fa fb ga gb =
    let m5 : Run Verdict = by_heads V c C a b in
    let m4 : Run Verdict = or_else (by_types V c C a b) m5 in
    let m3 : Run Verdict = or_else (by_whnf c C a b) m4 in
    let m2 : Run Verdict = or_else (by_form c C a b) m3 in
    or_sound V E top C a b (gives (when_true (same a b))) m2 u (when_sound V E top C a b (same a b) (head_is E C a b)) λ v1.
    or_sound V E top C a b (by_form c C a b) m3 v1 (form_sound V E top c s C a b v1 fine fa fb ga gb) λ v2.
    or_sound V E top C a b (by_whnf c C a b) m4 v2 (whnf_sound V E top c s C a b v2 fine fa fb ga gb) λ v3.
    or_sound V E top C a b (by_types V c C a b) m5 v3
    (or_sound V E top C a b (by_proofs c C a b) (or_else (by_eta c C a b) (by_structures V c C a b)) v3 (proofs_sound V E top c s C a b v3 fine fa fb) λ w.
    or_sound V E top C a b (by_eta c C a b) (by_structures V c C a b) w (eta_sound V E top c s C a b w fine fa fb ga gb)
    (λ z. structures_sound V E top cl c s C a b z fine fa fb ga gb)) λ v4.
    or_sound V E top C a b (by_literals c C a b) (or_else (by_arguments c C a b) (by_unfolding V a b)) v4 (literals_sound V E top c s C a b v4 fine fa fb ga gb)
    λ v5.
    or_sound V E top C a b (by_arguments c C a b) (by_unfolding V a b) v5 (arguments_sound V E top c s C a b v5 fine fa fb ga gb) λ v6.
    unfolding_sound V E top cl C a b v6 fa fb ga gb

loop_sound : (V : View) (E : Environment) (top : ℕ) → ClosedList V E → (c : Calls) → Sound V E top c → (C : Context) (n : ℕ) (a b : Term) (u : ℕ)
    → ContextFits V E top C → Fit V E top C a → Fit V E top C b → Formed E C a → Formed E C b → Post (Yes (Equal E C a b)) (equal_loop V c C n a b u)
loop_sound V E top cl c s C zero a b u fine fa fb ga gb = tt
loop_sound V E top cl c s C (suc n) a b u fine fa fb ga gb =
    post_then (Judged V E top C a b) (Yes (Equal E C a b)) (equal_turn V c C a b u) _ (turn_sound V E top cl c s C a b u fine fa fb ga gb)
    (verdict (λ x y v fx fy gx gy. loop_sound V E top cl c s C n x y v fine fx fy gx gy))
  where
    verdict : ((x y : Term) (v : ℕ) → Fit V E top C x → Fit V E top C y → Formed E C x → Formed E C y → Post (Yes (Equal E C x y)) (equal_loop V c C n x y v))
        → (p : Verdict) (v : ℕ) → Judged V E top C a b p
        → Post (Yes (Equal E C a b)) ((elim p as (λ z. Run Bool) [ decided r ↦ gives r | again x y ↦ equal_loop V c C n x y | undecided ↦ gives false ]) v)
    verdict more (decided r) v h = h
    verdict more (again x y) v h = post_map (Yes (Equal E C x y)) (Yes (Equal E C a b)) (equal_loop V c C n x y v)
        (more x y v h.0.1 h.1.1 (equal_to ga h.0.0) (equal_to gb h.1.0)) λ q k e. transitive h.0.0 (transitive (k e) (symmetric h.1.0))
    verdict more undecided v h = λ e. no_false e

pub equal_sound : (V : View) (E : Environment) (top : ℕ) → ClosedList V E → (c : Calls) → Sound V E top c → (C : Context) (a b : Term) (u : ℕ)
    → ContextFits V E top C → Fit V E top C a → Fit V E top C b → Formed E C a → Formed E C b → Post (Yes (Equal E C a b)) (equal_body V c C a b u)
unfolding equal_body
equal_sound V E top cl c s C a b u fine fa fb ga gb = loop_sound V E top cl c s C turn_limit a b u fine fa fb ga gb
