use Rattle.std.proofs.Common.{◌≡◌, ◌<◌, sym, subst, rules}
use Rattle.lf_elaboration.specs.Metavariables.{count}
use Rattle.lf_meta.proofs.Changing.{made_kept}
use Rattle.lf_meta.proofs.metas.Metas.fresh.Goals as goal

pub invariant_of-self-else-is_err : goal.invariant_of-self-else-is_err
invariant_of-self-else-is_err c =
    made_kept c.self.inside.changes c.push-2.new.self c.self.inside.made.types c.push.new.self.types c.self.inside.made.origins c.push.new.self.origins
    c.args.ty c.args.locals c.args.at c.self.invariant (subst (λ x. count x < 4294967295) (sym c.self.view_is) c.requires)
    (search rules) (search rules) (search rules)
