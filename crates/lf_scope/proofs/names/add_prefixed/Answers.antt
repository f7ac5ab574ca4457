use Rattle.std.proofs.Common.{◌≡◌, ◌++◌, take, arith}
use Rattle.std.proofs.lemmas.Grind.{common_steps}
use Rattle.lf_scope.proofs.Lists.{prefixed_step}
use Rattle.lf_scope.proofs.names.add_prefixed.Goals as goal

pub prefixes-preserved : goal.prefixes-preserved
prefixes-preserved c =
    let e : c.in_ok-joined.field-0 ≡ take c.prefixes.count c.args.first.now ++ c.args.name.now = grind (arith, common_steps) in
    record {
      within = omega arith;
      told =
          prefixed_step
          c.args.first.now
          c.prefixes.count
          c.args.name.now
          c.prefixes.all.items
          _
          _
          c.in_ok-joined.field-0
          (omega arith)
          (omega arith)
          e
          c.in_ok-push.ensures.items
          c.prefixes.invariant.told;
    }
