use Rattle.std.proofs.Common.{◌≡◌, ◌∙◌, false, take, arith}
use Rattle.std.proofs.lemmas.Grind.{common_steps}
use Rattle.lf_rules.specs.Recursor.{is_among}
use Rattle.lf_elaboration.specs.Scope.{names_of}
use Rattle.lf_variables.proofs.Once.{repeated_step}
use Rattle.lf_variables.proofs.declared_levels.repeated_level.Goals as goal

pub loop-i-preserved : goal.loop-i-preserved
loop-i-preserved c =
    let ls = c.args.levels.now in
    let x = c.index-levels-i.result in
    let none : is_among x.name (names_of (take c.loop-i.i ls)) ≡ false = grind (arith, common_steps) in
    repeated_step ls c.loop-i.i x c.loop-i-test.true c.index-levels-i.is none ∙ c.loop-i.invariant
