-- A level of nesting outweighs every rank and every count of arguments.
use Rattle.std.proofs.Common.{◌≡◌, ◌≤◌, ℕ, ◌+◌, ◌*◌, length}
use Rattle.std.specs.Prelude.{take}
use Rattle.lf_checker.specs.Checker.{calls}
use Rattle.lf_checker.specs.Whnf.{turn_limit}
use Rattle.lf_elaboration.specs.Unifier as spec
use Rattle.lf_unify.specs.Tower.{unify_loop}
use Rattle.lf_unify.proofs.unifier.+unifier.Given as goal

abbrev level : ℕ → ℕ → ℕ
level d rank = d * 147573952589676412928 + rank

abbrev pub decreases-unify : goal.decreases-unify
decreases-unify g l = level l.cx.check.depth 1

abbrev pub decreases-under : goal.decreases-under
decreases-under g l = level l.cx.check.depth 2

abbrev pub decreases-unify_types : goal.decreases-unify_types
decreases-unify_types g l = level l.cx.check.depth 2

abbrev pub decreases-unify_heads : goal.decreases-unify_heads
decreases-unify_heads g l = level l.cx.check.depth 2

abbrev pub decreases-unify_binders : goal.decreases-unify_binders
decreases-unify_binders g l = level l.cx.check.depth 4

abbrev pub decreases-lambda_left : goal.decreases-lambda_left
decreases-lambda_left g l = level l.cx.check.depth 3

abbrev pub decreases-lambda_right : goal.decreases-lambda_right
decreases-lambda_right g l = level l.cx.check.depth 3

abbrev pub decreases-solve : goal.decreases-solve
decreases-solve g l = level l.cx.check.depth 3

abbrev pub decreases-by_pattern : goal.decreases-by_pattern
decreases-by_pattern g l = level l.cx.check.depth 4

abbrev pub decreases-by_form : goal.decreases-by_form
decreases-by_form g l = level l.cx.check.depth 7

abbrev pub decreases-unify_all : goal.decreases-unify_all
decreases-unify_all g l = level l.cx.check.depth (2 + length l.xs.now)

abbrev pub decreases-spines : goal.decreases-spines
decreases-spines g l = level l.cx.check.depth 36893488147419103232

abbrev pub decreases-unify_spines : goal.decreases-unify_spines
decreases-unify_spines g l = level l.cx.check.depth 36893488147419103233

abbrev pub decreases-by_heads : goal.decreases-by_heads
decreases-by_heads g l = level l.cx.check.depth 36893488147419103234

abbrev pub decreases-by_last : goal.decreases-by_last
decreases-by_last g l = level l.cx.check.depth 36893488147419103235

abbrev pub decreases-by_rest : goal.decreases-by_rest
decreases-by_rest g l = level l.cx.check.depth 36893488147419103237

abbrev pub decreases-by_patterns : goal.decreases-by_patterns
decreases-by_patterns g l = level l.cx.check.depth 36893488147419103238

abbrev pub decreases-unify_turn : goal.decreases-unify_turn
decreases-unify_turn g l = level l.cx.check.depth 36893488147419103239

abbrev pub decreases-unify_loop : goal.decreases-unify_loop
decreases-unify_loop g l = level l.cx.check.depth 36893488147419103240

abbrev pub invariant-unify_loop-turns : goal.invariant-unify_loop-turns
invariant-unify_loop-turns g l = record {
  meaning : unify_loop l.cx.check.view.now (calls l.cx.check.view.now l.cx.check.depth) (spec.unify l.cx.check.view.now l.cx.check.depth) l.fn.locals.items
      turn_limit l.a l.b l.fn.units l.fn.metas
      ≡ unify_loop l.cx.check.view.now (calls l.cx.check.view.now l.cx.check.depth) (spec.unify l.cx.check.view.now l.cx.check.depth) l.fn.locals.items
      l.left l.x l.y l.units l.metas;
  kept : l.locals.items ≡ l.fn.locals.items;
  floor : l.cx.floor ≤ length l.metas;
  below : take l.cx.floor l.metas ≡ take l.cx.floor l.fn.metas;
  count : g.P.Stop.stops l.fn.stop ≤ g.P.Stop.stops l.stop;
}

abbrev pub decreases-unify_loop-turns : goal.decreases-unify_loop-turns
decreases-unify_loop-turns g l = l.left

abbrev pub decreases-entered : goal.decreases-entered
decreases-entered g l = level l.cx.check.depth 0

abbrev pub decreases-by_successors : goal.decreases-by_successors
decreases-by_successors g l = level l.cx.check.depth 4

abbrev pub decreases-by_lambdas : goal.decreases-by_lambdas
decreases-by_lambdas g l = level l.cx.check.depth 5

abbrev pub decreases-by_pis : goal.decreases-by_pis
decreases-by_pis g l = level l.cx.check.depth 6

abbrev pub decreases-by_forms : goal.decreases-by_forms
decreases-by_forms g l = level l.cx.check.depth 36893488147419103236

abbrev pub decreases-unify_bodies : goal.decreases-unify_bodies
decreases-unify_bodies g l = level l.cx.check.depth 3
