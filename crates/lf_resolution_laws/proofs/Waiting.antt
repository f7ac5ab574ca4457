-- What the walk waits for.
use Rattle.std.proofs.Common.{ℕ, zero, suc, Bool, true, false, Option, Some, None, List, [], ◌∷◌, slice_get}
use Rattle.lf_core.specs.Term.{Path, Term}
use Rattle.lf_core.specs.Spine.{head_of}
use Rattle.lf_core.specs.declared.constant.TaskKey.{TaskKey}
use Rattle.lf_rules.specs.Environment.{Context}
use Rattle.lf_checker.specs.View.{View}
use Rattle.lf_checker.specs.Run.{Answer, done, refused, out, need, Run}
use Rattle.lf_checker.specs.Calls.{Calls, Seen, known, unknown, missing, see}
use Rattle.lf_checker.specs.Checker.{calls}
use Rattle.lf_extension_laws.specs.Needs.{IsWanted, Waits}
use Rattle.lf_extension_laws.proofs.Only.{Only, SeenIn, Reads, Asks, only_then, only_spend, only_choose, only_put, only_made}
use Rattle.lf_extension_laws.proofs.OnlyInfer.{calls_ask}
use Rattle.lf_extension_laws.proofs.Wanted.{reads_wanted}
use Rattle.lf_elaboration.specs.Scope.{Scope}
use Rattle.lf_elaboration.specs.Forms.{Binding, Instance, as_pi, as_constant}
use Rattle.lf_elaboration.specs.Metavariables.{Changes}
use Rattle.lf_elaboration.specs.Apply.{Given}
use Rattle.lf_elaboration.specs.Run as run
use Rattle.lf_elaboration.specs.Unifier.{Unify, unify}
use Rattle.lf_elaboration_laws.proofs.Calm.{Left}
use Rattle.lf_elaboration_laws.proofs.CalmUnifier.{unifier_left}
use Rattle.lf_resolution.specs.Candidate.{Source, of_local, of_instance, Candidate}
use Rattle.lf_resolution.specs.Attempt.{Attempt}
use Rattle.lf_resolution.specs.Tree.{greatest_tree}
use Rattle.lf_resolution.specs.Walk.{
  seen,
  names_class,
  has_class,
  local_at,
  instance_seen,
  candidate_at,
  with_pi,
  for_pis,
  unified,
  unifies,
  goals_left,
  on_found,
  instances,
  Resolve,
  settled,
  by_candidate,
  try,
  or_next,
  try_all,
  walk_body,
  walk,
  resolve,
}
use Rattle.lf_resolution_laws.specs.Needs.{ResolutionWaits}

ruleset only = (only_then, only_spend, only_choose, only_put, only_made)

module _ (Key : TaskKey → Type 0) where
  only_seen : (q : Seen) (u : ℕ) → SeenIn Key q → Only true Key (seen q u)
  only_seen (known k) u h = tt
  only_seen unknown u h = tt
  only_seen (missing k) u h = h

  only_instance_seen : (n : Path) (q : Seen) (u : ℕ) → SeenIn Key q → Only true Key (instance_seen n q u)
  only_instance_seen n (known k) u h = search (only) depth 8
  only_instance_seen n unknown u h = tt
  only_instance_seen n (missing k) u h = h

  only_unified : (cs : Changes) (o : run.Answer Changes Bool) → Left Key cs o → Only true Key (unified o)
  only_unified cs (run.done true u ds) h = tt
  only_unified cs (run.done false u ds) h = tt
  only_unified cs (run.failed m u ds) h = tt
  only_unified cs (run.out ds) h = tt
  only_unified cs (run.need k) h = h

  only_found : {A B : Type 0} (o : Option A) (f : A → Run (Option B)) (u : ℕ) → ((x : A) (v : ℕ) → Only true Key (f x v))
      → Only true Key (on_found o f u)
  only_found None f u h = tt
  only_found (Some x) f u h = h x u

  only_next : (o : Option Term) (m : Run (Option Term)) (u : ℕ) → ((v : ℕ) → Only true Key (m v)) → Only true Key (or_next o m u)
  only_next (Some t) m u h = tt
  only_next None m u h = h u

  only_pi : (locals : ℕ) (a : Attempt) (o : Option Binding) (f : Attempt → Run Attempt) → ((b : Attempt) (u : ℕ) → Only true Key (f b u)) → (u : ℕ)
      → Only true Key (with_pi locals a o f u)
  only_pi locals a None f h u = tt
  only_pi locals a (Some p) f h u = search (only, h) depth 12

  only_pis : (locals n : ℕ) (a : Attempt) (u : ℕ) → Only true Key (for_pis locals n a u)
  only_pis locals zero a u = tt
  only_pis locals (suc n) a u = only_pi locals a (as_pi a.rest) (for_pis locals n) (only_pis locals n) u

  only_goals : (cs : Changes) (gs : List Given) (u : ℕ) → Only true Key (goals_left cs gs u)
  only_goals cs [] u = tt
  only_goals cs (g ∷ gs) u = search (only, only_goals cs gs) depth 12

  module _ (V : View) (reads : Reads V Key) (S : Scope) where
    only_names : (o : Option Instance) (u : ℕ) → Only true Key (names_class V S o u)
    only_names None u = tt
    only_names (Some c) u = search (only, only_seen, reads.sees) depth 8

    only_class : (t : Term) (u : ℕ) → Only true Key (has_class V S t u)
    only_class t u = only_names (as_constant (head_of t)) u

    only_local : (k : ℕ) (o : Option Term) (u : ℕ) → Only true Key (local_at V S k o u)
    only_local k None u = tt
    only_local k (Some A) u = search (only, only_class) depth 10

    only_candidate : (C : Context) (s : Source) (u : ℕ) → Only true Key (candidate_at V S C s u)
    only_candidate C (of_local k) u = only_local k (slice_get C k) u
    only_candidate C (of_instance n) u = only_instance_seen n (see V n) u (reads.sees n)

    module _ (f : Unify) (h : (C : Context) (s t : Term) (u : ℕ) (cs : Changes) → Left Key cs (f C s t u cs)) (r : Resolve)
        (i : (t : Term) (u : ℕ) → Only true Key (r t u)) (C : Context) where
      only_unifies : (a : Attempt) (goal : Term) (u : ℕ) → Only true Key (unifies f C a goal u)
      only_unifies a goal u = only_unified a.changes (f C a.rest goal u a.changes) (h C a.rest goal u a.changes)

      only_instances : (ts : List Term) (u : ℕ) → Only true Key (instances r ts u)
      only_instances [] u = tt
      only_instances (t ∷ ts) u =
          only_then true Key (r t u) _ (i t u) (λ o v. only_found o _ v (λ y w. only_then true Key (instances r ts w) _ (only_instances ts w) (λ p z. tt)))

      only_settled : (a : Attempt) (cs : Changes) (u : ℕ) → Only true Key (settled r a cs u)
      only_settled a cs u = search (only, only_found, only_goals, only_instances) depth 14

      only_by_candidate : (goal : Term) (e : Candidate) (u : ℕ) → Only true Key (by_candidate f r C goal e u)
      only_by_candidate goal e u = search (only, only_pis, only_found, only_unifies, only_settled) depth 12

      only_try : (goal : Term) (q : Source) (u : ℕ) → Only true Key (try V S f r C goal q u)
      only_try goal q u = search (only, only_found, only_candidate, only_by_candidate) depth 12

      only_all : (goal : Term) (qs : List Source) (u : ℕ) → Only true Key (try_all V S f r C goal qs u)
      only_all goal [] u = tt
      only_all goal (q ∷ qs) u = only_then true Key (try V S f r C goal q u) _ (only_try goal q u) (λ o v. only_next o _ v (λ w. only_all goal qs w))

      only_body : (c : Calls) → Asks Key c → (goal : Term) (u : ℕ) → Only true Key (walk_body V S c f r C goal u)
      only_body c a goal u = search (only, a.whnf, only_class, only_all) depth 14

    only_walk : (depth d : ℕ) (C : Context) (goal : Term) (u : ℕ) → Only true Key (walk V S depth d C goal u)
    only_walk depth zero C goal u = tt
    only_walk zero (suc d) C goal u = tt
    only_walk (suc depth) (suc d) C goal u =
        only_body (unify V depth) (unifier_left V Key reads depth) (walk V S depth d C) (λ t v. only_walk depth d C t v) C (calls V depth)
        (calls_ask V Key reads depth) goal u

waits : {A : Type 0} (V : View) (o : Answer A) → Only true (IsWanted V) o → Waits V o
waits V (done x u) h = tt
waits V (refused e u) h = tt
waits V out h = tt
waits V (need k) h = h

pub resolution_waits : ResolutionWaits
resolution_waits V S depth C t u = waits V (resolve V S depth C t u) (only_walk (IsWanted V) V (reads_wanted V) S depth greatest_tree C t u)
