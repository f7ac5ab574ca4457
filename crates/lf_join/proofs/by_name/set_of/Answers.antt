use Rattle.std.proofs.Common.{◌≡◌, ◌∙◌, ap, ◌||◌}
use Rattle.lf_rules.specs.Recursor.{is_among}
use Rattle.lf_join.proofs.by_name.set_of.Goals as goal

pub returns : goal.returns
returns c n = c.in_ok-add_all.ensures n ∙ ap (λ b. b || is_among n c.args.names.now) (c.empty-set.ensures n)
