-- A level of nesting outweighs every rank and every count of arguments.
use Rattle.std.proofs.Common.{ℕ, ◌+◌, ◌*◌, length}
use Rattle.lf_check.proofs.normal.+normalize.Given as goal

abbrev level : ℕ → ℕ → ℕ
level d rank = d * 147573952589676412928 + rank

abbrev pub decreases-normalize : goal.decreases-normalize
decreases-normalize g l = level l.cx.depth 0

abbrev pub decreases-normalize_form : goal.decreases-normalize_form
decreases-normalize_form g l = level l.cx.depth 36893488147419103234

abbrev pub decreases-normalize_parts : goal.decreases-normalize_parts
decreases-normalize_parts g l = level l.cx.depth 36893488147419103233

abbrev pub decreases-normalize_inside : goal.decreases-normalize_inside
decreases-normalize_inside g l = level l.cx.depth 1

abbrev pub decreases-normalize_head : goal.decreases-normalize_head
decreases-normalize_head g l = level l.cx.depth 1

abbrev pub decreases-normalize_arguments : goal.decreases-normalize_arguments
decreases-normalize_arguments g l = level l.cx.depth 36893488147419103232

abbrev pub decreases-normalize_all : goal.decreases-normalize_all
decreases-normalize_all g l = level l.cx.depth (1 + length l.xs.now)
