use Rattle.std.proofs.Common.{◌∙◌, ap}
use Rattle.lf_env.proofs.Entries.{all_of}
use Rattle.lf_env.proofs.layer.Layer.new.Goals as goal

pub returns : goal.returns
returns c = c.within.ensures ∙ all_of c.args.table.keys c.in_ok-table.table.value.keys (ap (λ t. t.keys) c.in_ok-table.ensures.ok)
