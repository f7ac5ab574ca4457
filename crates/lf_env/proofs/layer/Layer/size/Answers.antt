use Rattle.std.proofs.Common.{ap, ◌∙◌, length}
use Rattle.lf_env.specs.Layer.{is_within}
use Rattle.lf_env.proofs.Entries.{fewer}
use Rattle.lf_env.proofs.layer.Layer.size.Goals as goal

pub returns : goal.returns
returns c =
    fewer (is_within c.self.inside.limit) c.args.self.now c.self.inside.table.value.keys c.len.result c.self.view_is
    (c.len.ensures.len ∙ ap (λ t. length t.keys) c.deref.ensures)
