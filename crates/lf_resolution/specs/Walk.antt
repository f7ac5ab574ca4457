-- What the resolution of an instance costs: a walk over the candidates in order, which gives each up at its first failure. Each goal that is
-- walked nests one deeper, and each candidate that is tried costs a unit, beside the calls that the walk makes and the terms that it makes.
-- Which term is the answer is said by trees, which the walk finds.
use Rattle.std.specs.Prelude.{ℕ, zero, suc, Bool, true, false, nat_lt, Option, Some, None, List, [], ◌∷◌, length, slice_get}
use Rattle.lf_core.specs.Term.{Path, Term}
use Rattle.lf_core.specs.Spine.{head_of}
use Rattle.lf_rules.specs.Environment.{Context}
use Rattle.lf_rules.specs.Recursor.{is_among}
use Rattle.lf_rules.specs.Telescope.{pi_count}
use Rattle.lf_checker.specs.View.{View}
use Rattle.lf_checker.specs.Run.{Answer, out, need, greatest_variable, Run, ◌>>=◌, gives, gives_up, needs, choose, spend, put, made}
use Rattle.lf_checker.specs.Run as checker
use Rattle.lf_checker.specs.Calls.{Calls, Seen, known, unknown, missing, see}
use Rattle.lf_checker.specs.Checker.{calls}
use Rattle.lf_elaboration.specs.Scope.{Scope}
use Rattle.lf_elaboration.specs.Forms.{Binding, Instance, as_pi, as_constant}
use Rattle.lf_elaboration.specs.Metavariables.{Changes, count, put_in, has_assigned}
use Rattle.lf_elaboration.specs.Run as run
use Rattle.lf_elaboration.specs.Unifier.{Unify, unify, has_any_metavariable}
use Rattle.lf_elaboration.specs.Apply.{Given}
use Rattle.lf_resolution.specs.Candidate.{Source, of_local, of_instance, sources, Candidate, as_local, at_fresh_levels}
use Rattle.lf_resolution.specs.Attempt.{Attempt, before_pis, with_given, is_settled, in_brackets, with_terms}
use Rattle.lf_resolution.specs.Tree.{greatest_tree}

-- ---- Classes and candidates: what the view doesn't know yet is waited for.

abbrev pub seen : Seen → Run Bool
seen (known k) = gives true
seen unknown = gives false
seen (missing k) = needs k

abbrev pub names_class : View → Scope → Option Instance → Run Bool
names_class V S None = gives false
names_class V S (Some c) = choose (is_among c.name S.classes) (seen (see V c.name)) (gives false)

abbrev pub has_class : View → Scope → Term → Run Bool
has_class V S t = names_class V S (as_constant (head_of t))

-- A candidate that is tried costs a unit, and the type of an instance at its levels its nodes.
abbrev pub tried : Candidate → Run (Option Candidate)
tried e = spend 1 (gives (Some e))

abbrev pub tried_constant : Candidate → Run (Option Candidate)
tried_constant e = spend 1 (made e.ty >>= (λ T. gives (Some e)))

abbrev pub local_at : View → Scope → ℕ → Option Term → Run (Option Candidate)
local_at V S k None = gives None
local_at V S k (Some A) = do
  b ← has_class V S A
  choose b (choose (has_any_metavariable A) (gives None) (tried (as_local k A))) (gives None)

abbrev pub instance_seen : Path → Seen → Run (Option Candidate)
instance_seen n (known k) = tried_constant (at_fresh_levels n k)
instance_seen n unknown = gives None
instance_seen n (missing k) = needs k

abbrev pub candidate_at : View → Scope → Context → Source → Run (Option Candidate)
candidate_at V S C (of_local k) = local_at V S k (slice_get C k)
candidate_at V S C (of_instance n) = instance_seen n (see V n)

-- ---- Metavariables for the pis of the type: each application is put together, and what is left of the type is made.

abbrev pub with_pi : ℕ → Attempt → Option Binding → (Attempt → Run Attempt) → Run Attempt
with_pi locals a None next = gives a
with_pi locals a (Some p) next = choose (nat_lt greatest_variable (count a.changes)) gives_up do
  f ← put (with_given locals a p).term
  B ← made (with_given locals a p).rest
  next (with_given locals a p)

abbrev pub for_pis : ℕ → ℕ → Attempt → Run Attempt
for_pis locals zero a = gives a
for_pis locals (suc n) a = with_pi locals a (as_pi a.rest) (for_pis locals n)

-- ---- Unification with the goal, which has no error: the changes after it, where it is true.

abbrev pub unified : run.Answer Changes Bool → Answer (Option Changes)
unified (run.done true u cs) = checker.done (Some cs) u
unified (run.done false u cs) = checker.done None u
unified (run.failed m u cs) = out
unified (run.out cs) = out
unified (run.need k) = need k

abbrev pub unifies : Unify → Context → Attempt → Term → Run (Option Changes)
unifies f C a goal = λ u. unified (f C a.rest goal u a.changes)

-- A term with its assigned metavariables put in costs its nodes, where one stands in it.
abbrev pub instantiated : Changes → Term → Run Term
instantiated cs t = choose (has_assigned cs t) (made (put_in cs t)) (gives (put_in cs t))

-- ---- The goals that are left, each without metavariables; then their instances, in order. At the first failure there is none.

abbrev pub and_next : {A : Type 0} → A → Option (List A) → Option (List A)
and_next x None = None
and_next x (Some xs) = Some (x ∷ xs)

abbrev pub goals_left : Changes → List Given → Run (Option (List Term))
goals_left cs [] = gives (Some [])
goals_left cs (g ∷ gs) = do
  t ← instantiated cs g.ty
  choose (has_any_metavariable t) (gives None) (goals_left cs gs >>= (λ o. gives (and_next t o)))

-- The instance of a type in the context, one goal deeper.
abbrev pub Resolve : Type 0
Resolve = Term → Run (Option Term)

abbrev pub on_found : {A B : Type 0} → Option A → (A → Run (Option B)) → Run (Option B)
on_found None f = gives None
on_found (Some x) f = f x

abbrev pub instances : Resolve → List Term → Run (Option (List Term))
instances self [] = gives (Some [])
instances self (goal ∷ goals) = do
  t ← self goal
  on_found t λ x. instances self goals >>= (λ o. gives (and_next x o))

abbrev pub whole_term : Attempt → Changes → List Term → Run (Option Term)
whole_term a cs ts = do
  t ← instantiated (with_terms cs (in_brackets a.given) ts) a.term
  gives (Some t)

abbrev pub settled : Resolve → Attempt → Changes → Run (Option Term)
settled self a cs = choose (is_settled cs a.given) (do
  goals ← goals_left cs (in_brackets a.given)
  on_found goals λ gs. instances self gs >>= (λ o. on_found o (whole_term a cs))) (gives None)

-- ---- A candidate, all candidates in order, and a goal

abbrev pub by_candidate : Unify → Resolve → Context → Term → Candidate → Run (Option Term)
by_candidate f self C goal e = do
  a ← for_pis (length C) (pi_count e.ty) (before_pis e)
  cs ← unifies f C a goal
  on_found cs (settled self a)

abbrev pub try : View → Scope → Unify → Resolve → Context → Term → Source → Run (Option Term)
try V S f self C goal s = do
  e ← candidate_at V S C s
  on_found e (by_candidate f self C goal)

abbrev pub or_next : Option Term → Run (Option Term) → Run (Option Term)
or_next (Some t) rest = gives (Some t)
or_next None rest = rest

abbrev pub try_all : View → Scope → Unify → Resolve → Context → Term → List Source → Run (Option Term)
try_all V S f self C goal [] = gives None
try_all V S f self C goal (s ∷ ss) = do
  o ← try V S f self C goal s
  or_next o (try_all V S f self C goal ss)

abbrev pub walk_body : View → Scope → Calls → Unify → Resolve → Context → Term → Run (Option Term)
walk_body V S c f self C goal = do
  W ← c.whnf true C goal
  b ← has_class V S W
  choose b (try_all V S f self C goal (sources S C)) (gives None)

-- Where so many nested calls are still allowed, and trees of so great a depth: a goal below it isn't walked and has no tree.
abbrev pub walk : View → Scope → ℕ → ℕ → Context → Resolve
walk V S depth zero C goal = gives None
walk V S zero (suc d) C goal = gives_up
walk V S (suc depth) (suc d) C goal = walk_body V S (calls V depth) (unify V depth) (walk V S depth d C) C goal

-- The resolution of instances, as a part of a command has it.
abbrev pub resolve : View → Scope → ℕ → Context → Resolve
resolve V S depth C goal = walk V S depth greatest_tree C goal
