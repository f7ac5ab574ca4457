use Rattle.std.proofs.Common.{◌∙◌, arith}
use Rattle.lf_opening.proofs.Places.{this_unifies, next_unifies, none_unifies}
use Rattle.lf_opening.proofs.rewriting.first_unified.Goals as goal

pub places-preserved : goal.places-preserved
places-preserved g c = record {
  meaning =
      c.places.invariant.meaning
      ∙ next_unifies _ _ _ _ _ _ _ _ _ _ _ _ c.places.invariant.kept c.places-test.true c.place-item.is c.in_ok-unify.ensures.value c.if-branch.false;
  kept = c.unify.ensures.kept ∙ c.places.invariant.kept;
  floor = c.unify.ensures.floor;
  below = c.unify.ensures.below ∙ c.places.invariant.below;
  count = omega (arith, c.places.invariant.count, c.unify.ensures.count);
}

pub returns-then-branch-clause-value : goal.returns-then-branch-clause-value
returns-then-branch-clause-value g c =
    c.places.invariant.meaning
    ∙ this_unifies _ _ _ _ _ _ _ _ _ _ _ _ c.places.invariant.kept c.places-test.true c.place-item.is c.in_ok-unify.ensures.value c.if-branch.true

pub returns-clause-value : goal.returns-clause-value
returns-clause-value g c = c.places.invariant.meaning ∙ none_unifies _ _ _ _ _ _ _ c.places-test.false
