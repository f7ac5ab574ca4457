use Rattle.std.proofs.Common.{◌≡◌, ◌<◌, ◌∙◌, refl, ap, sym, subst, Some, None, List, [], ◌∷◌, ◌++◌, length, arith}
use Rattle.lf_checker.specs.View.{placed_from, placed_of}
use Rattle.lf_env.proofs.Shown.{placed_settled}
use Rattle.lf_env.proofs.view.View.placed.Goals as goal

pub returns : goal.returns
returns c =
    let v = c.self.inside in
    c.placed.ensures ∙ ap (placed_from 0 v.entries) c.parts.ensures.parts ∙ sym (placed_settled v.joined 0 v.entries c.args.name.now)
    ∙ ap (λ s. placed_of s c.args.name.now) c.self.view_is
