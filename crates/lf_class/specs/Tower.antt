-- The walk's functions once more, by what the code reads, each opened by its name alone: devices of the proof. `proofs/Towers` shows that they are the
-- definition's.
use Rattle.std.specs.Prelude.{ℕ, true, Option, Some, None, List, length, map, reverse}
use Rattle.lf_core.specs.Term.{Path, Term}
use Rattle.lf_rules.specs.Environment.{Context}
use Rattle.lf_rules.specs.Telescope.{pi_count}
use Rattle.lf_checker.specs.Checker.{calls}
use Rattle.lf_checker.specs.Run.{Run, ◌>>=◌, gives, choose}
use Rattle.lf_elaboration.specs.Metavariables.{Changes}
use Rattle.lf_elaboration.specs.Scope.{Scope}
use Rattle.lf_elaboration.specs.Unifier.{unify}
use Rattle.lf_elaboration.specs.Apply.{Given}
use Rattle.lf_resolution.specs.Attempt.{Attempt, before_pis, is_settled, in_brackets, with_terms}
use Rattle.lf_resolution.specs.Candidate.{Candidate, Source, of_instance, locals_down}
use Rattle.lf_resolution.specs.Walk as spec
use Rattle.lf_resolution.specs.Walk.{Resolve, has_class, for_pis, unifies, goals_left, instantiated, on_found, or_next}
use Rattle.lf_class.specs.declared.search.Search.{Search}
use Rattle.lf_class.specs.Named.{scope}
use Rattle.lf_class.specs.Into as into

abbrev pub names : Search → Scope
names s = scope s.classes.now s.instances.now

unfoldable pub resolves : Search → Context → Resolve
resolves s C = spec.walk s.check.view.now (names s) s.check.depth s.trees C

-- ---- The instances of goals

unfoldable pub instances : Search → Context → List Term → Run (Option (List Term))
instances s C goals = spec.instances (resolves s C) goals

unfoldable pub instances_into : Search → Context → List Term → List Term → Run (Option (List Term))
instances_into s C ready goals = into.instances_into (resolves s C) ready goals

-- ---- One candidate

-- A term with the instances of the types of these metavariables.
unfoldable pub answered : Search → Context → Term → List Given → Changes → Run (Option Term)
answered s C t gs cs = do
  goals ← goals_left cs gs
  on_found goals λ wanted. instances s C wanted >>= (λ o. on_found o (λ ts. instantiated (with_terms cs gs ts) t >>= (λ T. gives (Some T))))

unfoldable pub settled : Search → Context → Attempt → Changes → Run (Option Term)
settled s C a cs = choose (is_settled cs a.given) (answered s C a.term (in_brackets a.given) cs) (gives None)

unfoldable pub by_candidate : Search → Context → Term → Candidate → Run (Option Term)
by_candidate s C goal e = do
  a ← for_pis (length C) (pi_count e.ty) (before_pis e)
  cs ← unifies (unify s.check.view.now s.check.depth) C a goal
  on_found cs (settled s C a)

abbrev pub tried : Search → Context → Term → Option Candidate → Run (Option Term)
tried s C goal None = gives None
tried s C goal (Some e) = by_candidate s C goal e

-- ---- All candidates

-- The first so many locals, the latest first.
unfoldable pub try_locals : Search → Context → Term → ℕ → Run (Option Term)
try_locals s C goal n = spec.try_all s.check.view.now (names s) (unify s.check.view.now s.check.depth) (resolves s C) C goal (locals_down n)

abbrev pub latest_of : List Path → List Source
latest_of is = map (λ n. of_instance n) (reverse is)

-- The instances of these names, the latest first.
unfoldable pub try_instances : Search → Context → Term → List Path → Run (Option Term)
try_instances s C goal is = spec.try_all s.check.view.now (names s) (unify s.check.view.now s.check.depth) (resolves s C) C goal (latest_of is)

unfoldable pub try_all : Search → Context → Term → Run (Option Term)
try_all s C goal = do
  o ← try_locals s C goal (length C)
  or_next o (try_instances s C goal s.instances.now)

-- ---- A goal

unfoldable pub walk_goal : Search → Context → Term → Run (Option Term)
walk_goal s C goal = do
  W ← (calls s.check.view.now s.check.depth).whnf true C goal
  b ← has_class s.check.view.now (names s) W
  choose b (try_all s C goal) (gives None)
