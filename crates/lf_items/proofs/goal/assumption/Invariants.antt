use Rattle.std.proofs.Common.{◌≡◌, ◌≤◌, length}
use Rattle.lf_checker.specs.Checker.{calls}
use Rattle.lf_elaboration.specs.Step.{assumption}
use Rattle.lf_items.specs.Parts.{latest_within}
use Rattle.lf_items.proofs.goal.assumption.Given as goal

abbrev pub invariant-locals : goal.invariant-locals
invariant-locals g l = record {
  meaning : assumption (calls l.cx.view.now l.cx.depth) l.fn.locals.items l.goal l.fn.units
      ≡ latest_within (calls l.cx.view.now l.cx.depth) l.locals.items l.goal l.left l.units;
  context : l.locals.items ≡ l.fn.locals.items;
  within : l.left ≤ length l.locals.items;
  count : g.P.Stop.stops l.fn.stop ≤ g.P.Stop.stops l.stop;
}

abbrev pub decreases-locals : goal.decreases-locals
decreases-locals g l = l.left
