use Rattle.std.proofs.Common.{◌∙◌, arith}
use Rattle.lf_closes.proofs.Loops.{hole_passed, holes_over}
use Rattle.lf_closes.proofs.closing.run_holes.Goals as goal

pub holes-preserved : goal.holes-preserved
holes-preserved g c = record {
  meaning =
      c.holes.invariant.meaning
      ∙ hole_passed _ _ _ _ _ _ _ _ _ _ _ _ c.holes.invariant.kept c.holes-test.true c.hole-item.is c.in_ok-run_hole.ensures.value;
  kept = c.run_hole.ensures.kept ∙ c.holes.invariant.kept;
  floor = c.run_hole.ensures.floor;
  below = c.run_hole.ensures.below ∙ c.holes.invariant.below;
  count = omega (arith, c.holes.invariant.count, c.run_hole.ensures.count);
}

pub returns-clause-value : goal.returns-clause-value
returns-clause-value g c = c.holes.invariant.meaning ∙ holes_over _ _ _ _ _ _ _ c.holes-test.false
