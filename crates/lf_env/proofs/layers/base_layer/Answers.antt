use Rattle.std.proofs.Common.{◌≡◌, ◌∙◌, [], subst, IfOk}
use Rattle.lf_checker.specs.View.{base_entries}
use Rattle.lf_env.proofs.Entries.{insert_all_distinct, IsDistinct-base}
use Rattle.lf_env.proofs.layers.base_layer.Goals as goal

pub returns : goal.returns
returns c =
    subst (λ ks. IfOk c.new.result (λ l. l ≡ ks))
    (c.in_ok-table.ensures ∙ insert_all_distinct [] (base_entries c.args.base.items) (IsDistinct-base c.args.base.items c.requires)) c.new.ensures
