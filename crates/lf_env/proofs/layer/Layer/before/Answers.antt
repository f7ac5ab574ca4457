use Rattle.std.proofs.Common.{◌∙◌, ap}
use Rattle.lf_env.proofs.Entries.{first_limit, nearer_limit}
use Rattle.lf_env.proofs.layer.Layer.before.Goals as goal
use Rattle.lf_env.proofs.layer.Layer.before.Goals.{in-None, in-Some}

pub returns : goal.returns
returns c =
    c.within.ensures
    ∙ elim c.match-self.branch [
      | in-None w ↦
          first_limit c.args.limit c.match-self.nearer c.self.inside.limit c.args.self.now c.self.inside.table.value.keys c.in_ok-table.table.value.keys
          w.nearer-is w.in-None.is (ap (λ t. t.keys) c.in_ok-table.ensures) c.self.view_is
      | in-Some w ↦
          nearer_limit c.args.limit w.in-Some.other c.match-self.nearer c.self.inside.limit c.args.self.now c.self.inside.table.value.keys
          c.in_ok-table.table.value.keys (w.nearer-is ∙ w.min-nearer.ensures) w.in-Some.is (ap (λ t. t.keys) c.in_ok-table.ensures) c.self.view_is
    ]
