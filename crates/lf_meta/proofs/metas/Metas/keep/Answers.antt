use Rattle.std.proofs.Common.{◌≡◌, ap, ◌∙◌, rules}
use Rattle.lf_elaboration.specs.Metavariables.{value}
use Rattle.lf_meta.proofs.Changing.{assigned_kept}
use Rattle.lf_meta.proofs.metas.Metas.keep.Goals as goal

pub invariant_of-self-2 : goal.invariant_of-self-2
invariant_of-self-2 c =
    assigned_kept c.self.inside.changes c.push.new.self c.self.inside.values c.reach.new.rows c.set.new.self c.args.m c.args.value c.in_ok-kept.kept
    c.self.invariant (ap (λ x. value x c.args.m) c.self.view_is ∙ c.requires) (search rules) c.reach.ensures.same (search rules) (search rules)
    (search rules)
