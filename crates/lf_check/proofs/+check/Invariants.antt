-- A level of nesting outweighs every rank and every count of arguments.
use Rattle.std.proofs.Common.{◌≡◌, ◌≤◌, ℕ, ◌+◌, ◌*◌, length}
use Rattle.lf_checker.specs.Checker.{calls}
use Rattle.lf_checker.specs.Whnf.{turn_limit}
use Rattle.lf_check.specs.Tower.{whnf_loop, equal_loop}
use Rattle.lf_check.proofs.+check.Given as goal

abbrev level : ℕ → ℕ → ℕ
level d rank = d * 147573952589676412928 + rank

abbrev pub decreases-reduce::whnf : goal.decreases-reduce::whnf
decreases-reduce::whnf g l = level l.cx.depth 0

abbrev pub decreases-compare::equal : goal.decreases-compare::equal
decreases-compare::equal g l = level l.cx.depth 0

abbrev pub decreases-judge::infer : goal.decreases-judge::infer
decreases-judge::infer g l = level l.cx.depth 0

abbrev pub decreases-reduce::same_type : goal.decreases-reduce::same_type
decreases-reduce::same_type g l = level l.cx.depth 1

abbrev pub decreases-reduce::operands : goal.decreases-reduce::operands
decreases-reduce::operands g l = level l.cx.depth 1

abbrev pub decreases-reduce::projection : goal.decreases-reduce::projection
decreases-reduce::projection g l = level l.cx.depth 1

abbrev pub decreases-reduce::put_in : goal.decreases-reduce::put_in
decreases-reduce::put_in g l = level l.cx.depth 2

abbrev pub decreases-reduce::like_k : goal.decreases-reduce::like_k
decreases-reduce::like_k g l = level l.cx.depth 3

abbrev pub decreases-reduce::at_type : goal.decreases-reduce::at_type
decreases-reduce::at_type g l = level l.cx.depth 4

abbrev pub decreases-reduce::recursor_turn : goal.decreases-reduce::recursor_turn
decreases-reduce::recursor_turn g l = level l.cx.depth 5

abbrev pub decreases-reduce::whnf_turn : goal.decreases-reduce::whnf_turn
decreases-reduce::whnf_turn g l = level l.cx.depth 6

abbrev pub decreases-reduce::whnf_loop : goal.decreases-reduce::whnf_loop
decreases-reduce::whnf_loop g l = level l.cx.depth 7

abbrev pub decreases-compare::equal_binders : goal.decreases-compare::equal_binders
decreases-compare::equal_binders g l = level l.cx.depth 1

abbrev pub decreases-compare::by_whnf : goal.decreases-compare::by_whnf
decreases-compare::by_whnf g l = level l.cx.depth 1

abbrev pub decreases-compare::proposition : goal.decreases-compare::proposition
decreases-compare::proposition g l = level l.cx.depth 1

abbrev pub decreases-compare::proves : goal.decreases-compare::proves
decreases-compare::proves g l = level l.cx.depth 1

abbrev pub decreases-compare::type_form : goal.decreases-compare::type_form
decreases-compare::type_form g l = level l.cx.depth 1

abbrev pub decreases-compare::eta_expansion : goal.decreases-compare::eta_expansion
decreases-compare::eta_expansion g l = level l.cx.depth 1

abbrev pub decreases-compare::equal_heads : goal.decreases-compare::equal_heads
decreases-compare::equal_heads g l = level l.cx.depth 1

abbrev pub decreases-compare::by_literals : goal.decreases-compare::by_literals
decreases-compare::by_literals g l = level l.cx.depth 1

abbrev pub decreases-compare::by_proofs : goal.decreases-compare::by_proofs
decreases-compare::by_proofs g l = level l.cx.depth 2

abbrev pub decreases-compare::by_eta : goal.decreases-compare::by_eta
decreases-compare::by_eta g l = level l.cx.depth 2

abbrev pub decreases-compare::by_arguments : goal.decreases-compare::by_arguments
decreases-compare::by_arguments g l = level l.cx.depth 36893488147419103232

abbrev pub decreases-compare::eta_at : goal.decreases-compare::eta_at
decreases-compare::eta_at g l = level l.cx.depth 36893488147419103232

abbrev pub decreases-compare::against_built : goal.decreases-compare::against_built
decreases-compare::against_built g l = level l.cx.depth 36893488147419103233

abbrev pub decreases-compare::by_structures : goal.decreases-compare::by_structures
decreases-compare::by_structures g l = level l.cx.depth 36893488147419103234

abbrev pub decreases-compare::by_types : goal.decreases-compare::by_types
decreases-compare::by_types g l = level l.cx.depth 36893488147419103235

abbrev pub decreases-compare::by_heads : goal.decreases-compare::by_heads
decreases-compare::by_heads g l = level l.cx.depth 36893488147419103233

abbrev pub decreases-compare::by_rest : goal.decreases-compare::by_rest
decreases-compare::by_rest g l = level l.cx.depth 36893488147419103236

abbrev pub decreases-compare::equal_turn : goal.decreases-compare::equal_turn
decreases-compare::equal_turn g l = level l.cx.depth 36893488147419103237

abbrev pub decreases-compare::equal_loop : goal.decreases-compare::equal_loop
decreases-compare::equal_loop g l = level l.cx.depth 36893488147419103238

abbrev pub decreases-judge::formed : goal.decreases-judge::formed
decreases-judge::formed g l = level l.cx.depth 1

abbrev pub decreases-judge::fits : goal.decreases-judge::fits
decreases-judge::fits g l = level l.cx.depth 1

abbrev pub decreases-judge::sort_of : goal.decreases-judge::sort_of
decreases-judge::sort_of g l = level l.cx.depth 2

abbrev pub decreases-judge::is_type : goal.decreases-judge::is_type
decreases-judge::is_type g l = level l.cx.depth 3

abbrev pub decreases-judge::has_type : goal.decreases-judge::has_type
decreases-judge::has_type g l = level l.cx.depth 3

abbrev pub decreases-judge::infer_application : goal.decreases-judge::infer_application
decreases-judge::infer_application g l = level l.cx.depth 4

abbrev pub decreases-judge::infer_lambda : goal.decreases-judge::infer_lambda
decreases-judge::infer_lambda g l = level l.cx.depth 4

abbrev pub decreases-judge::infer_pi : goal.decreases-judge::infer_pi
decreases-judge::infer_pi g l = level l.cx.depth 4

abbrev pub decreases-judge::infer_let : goal.decreases-judge::infer_let
decreases-judge::infer_let g l = level l.cx.depth 4

abbrev pub decreases-judge::infer_projection : goal.decreases-judge::infer_projection
decreases-judge::infer_projection g l = level l.cx.depth 4

abbrev pub decreases-judge::infer_form : goal.decreases-judge::infer_form
decreases-judge::infer_form g l = level l.cx.depth 5

abbrev pub decreases-compare::equal_all : goal.decreases-compare::equal_all
decreases-compare::equal_all g l = level l.cx.depth (1 + length l.xs.now)

abbrev pub decreases-compare::equal_fields : goal.decreases-compare::equal_fields
decreases-compare::equal_fields g l = level l.cx.depth (1 + length l.xs.now)

abbrev pub invariant-reduce::whnf_loop-turns : goal.invariant-reduce::whnf_loop-turns
invariant-reduce::whnf_loop-turns g l = record {
  meaning : whnf_loop l.cx.view.now (calls l.cx.view.now l.cx.depth) l.delta l.fn.locals.items turn_limit l.term l.fn.units
      ≡ whnf_loop l.cx.view.now (calls l.cx.view.now l.cx.depth) l.delta l.fn.locals.items l.left l.current l.units;
  kept : l.locals.items ≡ l.fn.locals.items;
  count : g.P.Stop.stops l.fn.stop ≤ g.P.Stop.stops l.stop;
}

abbrev pub decreases-reduce::whnf_loop-turns : goal.decreases-reduce::whnf_loop-turns
decreases-reduce::whnf_loop-turns g l = l.left

abbrev pub invariant-compare::equal_loop-turns : goal.invariant-compare::equal_loop-turns
invariant-compare::equal_loop-turns g l = record {
  meaning : equal_loop l.cx.view.now (calls l.cx.view.now l.cx.depth) l.fn.locals.items turn_limit l.a l.b l.fn.units
      ≡ equal_loop l.cx.view.now (calls l.cx.view.now l.cx.depth) l.fn.locals.items l.left l.x l.y l.units;
  kept : l.locals.items ≡ l.fn.locals.items;
  count : g.P.Stop.stops l.fn.stop ≤ g.P.Stop.stops l.stop;
}

abbrev pub decreases-compare::equal_loop-turns : goal.decreases-compare::equal_loop-turns
decreases-compare::equal_loop-turns g l = l.left
