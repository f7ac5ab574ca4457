-- The extension law of the walk.
use Rattle.std.proofs.Common.{ℕ, zero, suc, Bool, true, false, Option, Some, None, List, [], ◌∷◌, slice_get, refl, subst}
use Rattle.lf_core.specs.Term.{Term}
use Rattle.lf_core.specs.Spine.{head_of}
use Rattle.lf_rules.specs.Environment.{Context}
use Rattle.lf_rules.specs.Recursor.{is_among}
use Rattle.lf_checker.specs.View.{View}
use Rattle.lf_checker.specs.Extends.{Tells}
use Rattle.lf_checker.specs.Run.{Run, gives}
use Rattle.lf_checker.specs.Calls.{Calls, see}
use Rattle.lf_checker.specs.Checker.{calls}
use Rattle.lf_extension_laws.specs.Extension.{Kept, Agree}
use Rattle.lf_extension_laws.proofs.Kept.{kept_self, kept_then, kept_choose, kept_spend, kept_seen, see_kept}
use Rattle.lf_extension_laws.proofs.Extended.{calls_kept}
use Rattle.lf_elaboration.specs.Scope.{Scope}
use Rattle.lf_elaboration.specs.Forms.{Instance, as_constant}
use Rattle.lf_elaboration.specs.Metavariables.{Changes}
use Rattle.lf_elaboration.specs.Run as run
use Rattle.lf_elaboration.specs.Unifier.{Unify, unify}
use Rattle.lf_elaboration_laws.specs.Extension as elaborating
use Rattle.lf_elaboration_laws.specs.Extension.{AgreeUnify}
use Rattle.lf_elaboration_laws.proofs.Extended.{unifier_extends}
use Rattle.lf_resolution.specs.Candidate.{Source, of_local, of_instance, Candidate}
use Rattle.lf_resolution.specs.Attempt.{Attempt}
use Rattle.lf_resolution.specs.Tree.{greatest_tree}
use Rattle.lf_resolution.specs.Walk.{
  seen,
  names_class,
  has_class,
  local_at,
  instance_seen,
  candidate_at,
  unified,
  unifies,
  on_found,
  instances,
  Resolve,
  settled,
  by_candidate,
  try,
  or_next,
  try_all,
  walk_body,
  walk,
}
use Rattle.lf_resolution_laws.specs.Extension.{ResolutionExtends}

ruleset kept = (kept_self, kept_then, kept_choose, kept_spend)

kept_unified : (o p : run.Answer Changes Bool) → elaborating.Kept o p → Kept (unified o) (unified p)
kept_unified (run.done true u cs) p h = subst (λ q. Kept (unified (run.done true u cs)) (unified q)) h refl
kept_unified (run.done false u cs) p h = subst (λ q. Kept (unified (run.done false u cs)) (unified q)) h refl
kept_unified (run.failed m u cs) p h = subst (λ q. Kept (unified (run.failed m u cs)) (unified q)) h refl
kept_unified (run.out cs) p h = subst (λ q. Kept (unified (run.out cs)) (unified q)) h refl
kept_unified (run.need k) p h = tt

kept_found : {A B : Type 0} (o : Option A) (f g : A → Run (Option B)) (u : ℕ) → ((x : A) (v : ℕ) → Kept (f x v) (g x v))
    → Kept (on_found o f u) (on_found o g u)
kept_found None f g u h = refl
kept_found (Some x) f g u h = h x u

kept_next : (o : Option Term) (m n : Run (Option Term)) (u : ℕ) → ((v : ℕ) → Kept (m v) (n v)) → Kept (or_next o m u) (or_next o n u)
kept_next (Some t) m n u h = refl
kept_next None m n u h = h u

module _ (U V : View) (x : Tells V U) (S : Scope) where
  kept_names : (o : Option Instance) (u : ℕ) → Kept (names_class U S o u) (names_class V S o u)
  kept_names None u = refl
  kept_names (Some c) u = kept_choose (is_among c.name S.classes) (seen (see U c.name)) (gives false) (seen (see V c.name)) (gives false) u
      (kept_seen (see U c.name) (see V c.name) (λ q. seen q u) (λ q. seen q u) (λ k. refl) (λ q. kept_self (seen q u)) (see_kept U V x c.name)) refl

  kept_class : (t : Term) (u : ℕ) → Kept (has_class U S t u) (has_class V S t u)
  kept_class t u = kept_names (as_constant (head_of t)) u

  kept_local : (k : ℕ) (o : Option Term) (u : ℕ) → Kept (local_at U S k o u) (local_at V S k o u)
  kept_local k None u = refl
  kept_local k (Some A) u = search (kept, kept_class) depth 10

  kept_candidate : (C : Context) (s : Source) (u : ℕ) → Kept (candidate_at U S C s u) (candidate_at V S C s u)
  kept_candidate C (of_local k) u = kept_local k (slice_get C k) u
  kept_candidate C (of_instance n) u = kept_seen (see U n) (see V n) (λ q. instance_seen n q u) (λ q. instance_seen n q u) (λ k. refl)
      (λ q. kept_self (instance_seen n q u)) (see_kept U V x n)

  module _ (f g : Unify) (h : AgreeUnify f g) (r s : Resolve) (i : (t : Term) (u : ℕ) → Kept (r t u) (s t u)) (C : Context) where
    kept_unifies : (a : Attempt) (goal : Term) (u : ℕ) → Kept (unifies f C a goal u) (unifies g C a goal u)
    kept_unifies a goal u = kept_unified (f C a.rest goal u a.changes) (g C a.rest goal u a.changes) (h C a.rest goal u a.changes)

    kept_instances : (ts : List Term) (u : ℕ) → Kept (instances r ts u) (instances s ts u)
    kept_instances [] u = refl
    kept_instances (t ∷ ts) u =
        kept_then (r t u) (s t u) _ _ (i t u) (λ o v. kept_found o _ _ v (λ y w. kept_then (instances r ts w) (instances s ts w) _ _ (kept_instances ts w)
        (λ p z. refl)))

    kept_settled : (a : Attempt) (cs : Changes) (u : ℕ) → Kept (settled r a cs u) (settled s a cs u)
    kept_settled a cs u = search (kept, kept_found, kept_instances) depth 12

    kept_by_candidate : (goal : Term) (e : Candidate) (u : ℕ) → Kept (by_candidate f r C goal e u) (by_candidate g s C goal e u)
    kept_by_candidate goal e u = search (kept, kept_found, kept_unifies, kept_settled) depth 12

    kept_try : (goal : Term) (q : Source) (u : ℕ) → Kept (try U S f r C goal q u) (try V S g s C goal q u)
    kept_try goal q u = search (kept, kept_found, kept_candidate, kept_by_candidate) depth 12

    kept_all : (goal : Term) (qs : List Source) (u : ℕ) → Kept (try_all U S f r C goal qs u) (try_all V S g s C goal qs u)
    kept_all goal [] u = refl
    kept_all goal (q ∷ qs) u = kept_then (try U S f r C goal q u) (try V S g s C goal q u) _ _ (kept_try goal q u)
        (λ o v. kept_next o _ _ v (λ w. kept_all goal qs w))

    kept_walk_body : (c d : Calls) → Agree c d → (goal : Term) (u : ℕ) → Kept (walk_body U S c f r C goal u) (walk_body V S d g s C goal u)
    kept_walk_body c d a goal u = search (kept, a.whnf, kept_class, kept_all) depth 14

  kept_walk : (depth d : ℕ) (C : Context) (goal : Term) (u : ℕ) → Kept (walk U S depth d C goal u) (walk V S depth d C goal u)
  kept_walk depth zero C goal u = refl
  kept_walk zero (suc d) C goal u = refl
  kept_walk (suc depth) (suc d) C goal u =
      kept_walk_body (unify U depth) (unify V depth) (unifier_extends U V x depth) (walk U S depth d C) (walk V S depth d C)
      (λ t v. kept_walk depth d C t v) C (calls U depth) (calls V depth) (calls_kept U V x depth) goal u

pub resolution_extends : ResolutionExtends
resolution_extends U V x S depth C goal u = kept_walk U V x S depth greatest_tree C goal u
