-- The unifier's functions once more, each opened by its name alone. A device of the proof: that they are the definition's is in proofs/Towers.
use Rattle.std.specs.Prelude.{ℕ, zero, suc, ◌-◌, Bool, false, nat_eq, Option, Some, None, List, [], ◌∷◌, length}
use Rattle.lf_core.specs.Term.{Universe, Term}
use Rattle.lf_core.specs.Same.{same}
use Rattle.lf_core.specs.Spine.{head_of, arguments_of}
use Rattle.lf_core.specs.Substitution.{abstract}
use Rattle.lf_core.specs.Term.{lam, lit}
use Rattle.lf_rules.specs.Environment.{Context}
use Rattle.lf_checker.specs.View.{View}
use Rattle.lf_checker.specs.Run as checker
use Rattle.lf_checker.specs.Calls.{Calls}
use Rattle.lf_checker.specs.Checker.{calls}
use Rattle.lf_checker.specs.Whnf.{turn_limit}
use Rattle.lf_checker.specs.Equal.{Verdict, decided, again, undecided, when_true}
use Rattle.lf_checker.specs.Equal as equal
use Rattle.lf_steps.specs.Runs as steps
use Rattle.lf_elaboration.specs.Forms.{Binding, as_sort, as_pi, as_lambda, as_application, as_literal, as_level_metavariable}
use Rattle.lf_unify.specs.Pairs.{both, predecessors}
use Rattle.lf_elaboration.specs.Metavariables.{Changes}
use Rattle.lf_elaboration.specs.Run.{Run, ◌>>=◌, gives, gives_up, choose, reading, checks, instantiated, type_unchecked, assign, or_as_before}
use Rattle.lf_elaboration.specs.LevelUnifier as levels
use Rattle.lf_elaboration.specs.LevelUnifier.{and_then}
use Rattle.lf_elaboration.specs.Unifier as unifier
use Rattle.lf_elaboration.specs.Unifier.{
  Unify,
  or_else,
  decides,
  if_true,
  has_any_metavariable,
  Pattern,
  pattern_of,
  binder_in,
  behind,
  type_in,
  made_type,
  pattern_type,
  types_unify,
  unify_all,
}

-- ---- Levels

unfoldable pub unify_level_within : ℕ → Universe → Universe → Run Changes Bool
unify_level_within n l m = levels.unify_level_within n l m

-- The parts of two levels: the first of each, and then the second.
unfoldable pub both_levels : ℕ → Universe → Universe → Universe → Universe → Run Changes Bool
both_levels n l j m k = do
  r ← unify_level_within n l m
  and_then r (unify_level_within n j k)

unfoldable pub by_level_parts : ℕ → Universe → Universe → Run Changes Bool
by_level_parts n l m = levels.by_level_parts (levels.unify_level_within n) l m

unfoldable pub by_level_form : ℕ → Universe → Universe → Run Changes Bool
by_level_form n l m = levels.by_level_form (levels.unify_level_within n) l m (as_level_metavariable l) (as_level_metavariable m)

unfoldable pub level_rule : ℕ → Universe → Universe → Run Changes Bool
level_rule n l m = levels.level_rule (levels.unify_level_within n) l m

unfoldable pub unify_level : Universe → Universe → Run Changes Bool
unify_level l m = unify_level_within turn_limit l m

-- ---- Patterns

-- Abstraction changes nothing, so it is a run of the checker.
abbrev pub abstraction : Context → Term → List ℕ → Term → checker.Run Term
abstraction C T [] t = checker.gives t
abstraction C T (k ∷ ks) t = checker.◌>>=◌ (abstraction C (behind T (as_pi T)) ks t) λ b.
    checker.◌>>=◌ (checker.made (abstract b k)) λ d. checker.put (lam (binder_in (as_pi T)) (type_in C k) d)

unfoldable pub assigned : Context → Pattern → Term → Run Changes Bool
assigned C p t = do
  v ← reading λ cs. unifier.abstraction C (made_type cs p) p.variables t
  assign p.metavariable v

unfoldable pub solve : Calls → Unify → Context → Pattern → Term → Term → Run Changes Bool
solve c self C p q t = do
  B ← type_unchecked c C t
  A ← pattern_type c C p p.variables q
  r ← types_unify self C A B
  and_then r (assigned C p t)

unfoldable pub by_solving : Calls → Unify → Context → Pattern → Term → Term → Run Changes Verdict
by_solving c self C p q t = decides (solve c self C p q t)

-- ---- Forms

unfoldable pub unify_bodies : Unify → Context → Term → Term → Term → Run Changes Bool
unify_bodies self C A b d = unifier.unify_bodies self C A b d

unfoldable pub unify_binders : Unify → Context → Term → Term → Term → Term → Run Changes Bool
unify_binders self C A b B d = do
  r ← self C A B
  and_then r (unify_bodies self C A b d)

unfoldable pub lambda_left : Unify → Context → Term → Term → Term → Run Changes Bool
lambda_left self C A b t = unifier.lambda_left self C A b t

unfoldable pub lambda_right : Unify → Context → Term → Term → Term → Run Changes Bool
lambda_right self C t A b = unifier.lambda_right self C t A b

abbrev pub left_or : Unify → Context → Option (Term × ℕ) → Run Changes Verdict → Run Changes Verdict
left_or self C (Some p) n = decides (self C p.0 (lit p.1))
left_or self C None n = n

abbrev pub right_or : Unify → Context → Option (Term × ℕ) → Run Changes Verdict → Run Changes Verdict
right_or self C (Some p) n = decides (self C (lit p.1) p.0)
right_or self C None n = n

unfoldable pub by_successors : Unify → Context → Term → Term → Run Changes Verdict
by_successors self C a b = left_or self C (predecessors (as_application a) (as_literal b))
    (right_or self C (predecessors (as_application b) (as_literal a)) (gives undecided))

abbrev pub lambdas_or : Unify → Context → Term → Term → Option Binding → Option Binding → Run Changes Verdict → Run Changes Verdict
lambdas_or self C a b (Some p) (Some q) n = decides (unify_binders self C p.domain p.body q.domain q.body)
lambdas_or self C a b (Some p) None n = decides (lambda_left self C p.domain p.body b)
lambdas_or self C a b None (Some q) n = decides (lambda_right self C a q.domain q.body)
lambdas_or self C a b None None n = n

unfoldable pub by_lambdas : Unify → Context → Term → Term → Run Changes Verdict
by_lambdas self C a b = lambdas_or self C a b (as_lambda a) (as_lambda b) (by_successors self C a b)

abbrev pub pis_or : Unify → Context → Option (Binding × Binding) → Run Changes Verdict → Run Changes Verdict
pis_or self C (Some p) n = decides (unify_binders self C p.0.domain p.0.body p.1.domain p.1.body)
pis_or self C None n = n

unfoldable pub by_pis : Unify → Context → Term → Term → Run Changes Verdict
by_pis self C a b = pis_or self C (both (as_pi a) (as_pi b)) (by_lambdas self C a b)

abbrev pub sorts_or : Option (Universe × Universe) → Run Changes Verdict → Run Changes Verdict
sorts_or (Some p) n = decides (unify_level p.0 p.1)
sorts_or None n = n

unfoldable pub by_form : Unify → Context → Term → Term → Run Changes Verdict
by_form self C a b = sorts_or (both (as_sort a) (as_sort b)) (by_pis self C a b)

-- ---- Heads with their arguments

unfoldable pub unify_heads : Unify → Context → Term → Term → Run Changes Bool
unify_heads self C h k = unifier.unify_heads self C h k

unfoldable pub unify_spines : Unify → Context → Term → Term → List Term → List Term → Run Changes Bool
unify_spines self C h k xs ys = do
  r ← unify_heads self C h k
  and_then r (unify_all self C xs ys)

unfoldable pub spines_or_as_before : Unify → Context → Term → Term → List Term → List Term → Run Changes Bool
spines_or_as_before self C h k xs ys = or_as_before (unify_spines self C h k xs ys)

unfoldable pub by_heads : Unify → Context → Term → Term → Run Changes Verdict
by_heads self C a b = choose (nat_eq (length (arguments_of a)) (length (arguments_of b)))
    (if_true (spines_or_as_before self C (head_of a) (head_of b) (arguments_of a) (arguments_of b))) (gives undecided)

-- ---- Turns

unfoldable pub by_unfolding : View → Term → Term → Run Changes Verdict
by_unfolding V a b = checks (equal.by_unfolding V a b)

unfoldable pub by_last : View → Unify → Context → Term → Term → Run Changes Verdict
by_last V self C a b = or_else (by_heads self C a b) (by_unfolding V a b)

unfoldable pub by_forms : View → Unify → Context → Term → Term → Run Changes Verdict
by_forms V self C a b = or_else (by_form self C a b) (by_last V self C a b)

unfoldable pub by_whnf : Calls → Context → Term → Term → Run Changes Verdict
by_whnf c C a b = unifier.by_whnf c C a b

unfoldable pub by_rest : View → Calls → Unify → Context → Term → Term → Run Changes Verdict
by_rest V c self C a b = or_else (by_whnf c C a b) (by_forms V self C a b)

abbrev pub pattern_or : Calls → Unify → Context → Option Pattern → Term → Term → Run Changes Verdict → Run Changes Verdict
pattern_or c self C (Some p) q t n = by_solving c self C p q t
pattern_or c self C None q t n = n

unfoldable pub by_patterns : View → Calls → Unify → Context → Term → Term → Run Changes Verdict
by_patterns V c self C a b = pattern_or c self C (pattern_of a) a b (pattern_or c self C (pattern_of b) b a (by_rest V c self C a b))

unfoldable pub without_metavariables : Calls → Context → Term → Term → Run Changes Verdict
without_metavariables c C a b = unifier.without_metavariables c C a b

unfoldable pub unify_turn : View → Calls → Unify → Context → Term → Term → Run Changes Verdict
unify_turn V c self C a b = or_else (without_metavariables c C a b) (or_else (gives (when_true (same a b))) (by_patterns V c self C a b))

unfoldable pub unify_loop : View → Calls → Unify → Context → ℕ → Term → Term → Run Changes Bool
unify_loop V c self C zero a b = gives_up
unify_loop V c self C (suc n) a b = do
  v ← unify_turn V c self C a b
  elim v [ decided r ↦ gives r | again x y ↦ unify_loop V c self C n x y | undecided ↦ gives false ]

unfoldable pub unify_body : View → Calls → Unify → Context → Term → Term → Run Changes Bool
unify_body V c self C a b = unify_loop V c self C turn_limit a b

-- The start of a call, and then its body over calls that are nested one deeper.
unfoldable pub entered : View → ℕ → Context → Term → Term → Run Changes Bool
entered V d C a b = do
  start ← checks (steps.enter d)
  x ← instantiated a
  y ← instantiated b
  unify_body V (calls V (d - 1)) (unifier.unify V (d - 1)) C x y
