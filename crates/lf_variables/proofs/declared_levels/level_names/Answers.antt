use Rattle.lf_elaboration.specs.Variables.{any, names_level}
use Rattle.lf_variables.proofs.Once.{once_step}
use Rattle.lf_variables.proofs.declared_levels.level_names.Goals as goal

pub loop-level-preserved : goal.loop-level-preserved
loop-level-preserved c =
    once_step
    (λ u. any (names_level u) c.args.references.now)
    c.args.universes.now
    c.loop-level.level-index
    c.level-item.result
    c.loop-level.all.items
    c.add_level.new.all.items
    _
    c.loop-level-test.true
    c.level-item.is
    c.in_ok-add_level.ensures
    c.loop-level.invariant
