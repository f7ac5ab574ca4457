-- A level of trees outweighs every rank.
use Rattle.std.proofs.Common.{◌≡◌, ◌≤◌, ℕ, ◌+◌, ◌*◌, length, drop}
use Rattle.std.specs.Prelude.{take}
use Rattle.lf_class.specs.Tower.{instances, instances_into, try_locals, try_instances}
use Rattle.lf_class.proofs.walk.+walk.Given as goal

abbrev level : ℕ → ℕ → ℕ
level trees rank = trees * 8 + rank

abbrev pub decreases-walk : goal.decreases-walk
decreases-walk g l = level l.search.trees 0

abbrev pub decreases-instances : goal.decreases-instances
decreases-instances g l = level l.search.trees 1

abbrev pub decreases-answered : goal.decreases-answered
decreases-answered g l = level l.search.trees 2

abbrev pub decreases-settled : goal.decreases-settled
decreases-settled g l = level l.search.trees 3

abbrev pub decreases-tried : goal.decreases-tried
decreases-tried g l = level l.search.trees 4

abbrev pub decreases-try_instances : goal.decreases-try_instances
decreases-try_instances g l = level l.search.trees 5

abbrev pub decreases-try_locals : goal.decreases-try_locals
decreases-try_locals g l = level l.search.trees 5

abbrev pub decreases-try_all : goal.decreases-try_all
decreases-try_all g l = level l.search.trees 6

abbrev pub decreases-walk_goal : goal.decreases-walk_goal
decreases-walk_goal g l = level l.search.trees 7

abbrev pub invariant-instances-loop-goal : goal.invariant-instances-loop-goal
invariant-instances-loop-goal g l = record {
  meaning : instances l.search l.fn.locals.items l.goals l.fn.units
      ≡ instances_into l.search l.locals.items l.terms (drop l.goal-index l.goals) l.units;
  kept : l.locals.items ≡ l.fn.locals.items;
  count : g.P.Stop.stops l.fn.stop ≤ g.P.Stop.stops l.stop;
}

abbrev pub invariant-try_instances-instances : goal.invariant-try_instances-instances
invariant-try_instances-instances g l = record {
  meaning : try_instances l.search l.fn.locals.items l.goal l.search.instances.now l.fn.units
      ≡ try_instances l.search l.locals.items l.goal (take l.left l.search.instances.now) l.units;
  kept : l.locals.items ≡ l.fn.locals.items;
  within : l.left ≤ length l.search.instances.now;
  count : g.P.Stop.stops l.fn.stop ≤ g.P.Stop.stops l.stop;
}

abbrev pub decreases-try_instances-instances : goal.decreases-try_instances-instances
decreases-try_instances-instances g l = l.left

abbrev pub invariant-try_locals-locals : goal.invariant-try_locals-locals
invariant-try_locals-locals g l = record {
  meaning : try_locals l.search l.fn.locals.items l.goal (length l.fn.locals.items) l.fn.units
      ≡ try_locals l.search l.locals.items l.goal l.left l.units;
  kept : l.locals.items ≡ l.fn.locals.items;
  within : l.left ≤ length l.locals.items;
  count : g.P.Stop.stops l.fn.stop ≤ g.P.Stop.stops l.stop;
}

abbrev pub decreases-try_locals-locals : goal.decreases-try_locals-locals
decreases-try_locals-locals g l = l.left
