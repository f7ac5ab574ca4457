use Rattle.lf_checker.specs.View.{Entry, stands_before}
use Rattle.lf_env.proofs.Turns.{before_turn}
use Rattle.lf_env.proofs.layers.before.Goals as goal

pub loop-layer-preserved : goal.loop-layer-preserved
loop-layer-preserved c =
    before_turn (λ (e : Entry). stands_before c.args.limit e.position) c.loop-layer.all.items c.push.new.self.items c.args.layers.now c.loop-layer.layer-index
    c.layer-item.result c.in_ok-before.field-0 c.loop-layer-test.true c.layer-item.is c.in_ok-before.ensures c.in_ok-push.ensures.items c.loop-layer.invariant
