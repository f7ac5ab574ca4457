use Rattle.std.specs.Prelude.{map}
use Rattle.std.proofs.Common.{◌≡◌, ◌<◌, ◌∙◌, refl, ap, sym, subst, Some, None, List, [], ◌∷◌, ◌++◌, length, arith}
use Rattle.lf_checker.specs.View.{entries_before, failed_before}
use Rattle.lf_env.specs.Layer.{failed_of}
use Rattle.lf_env.proofs.Changes.{failed_shown}
use Rattle.lf_env.proofs.view.View.answers_before.Goals as goal

pub returns : goal.returns
returns c =
    let v = c.self.inside in (
      c.in_ok-realized.ensures.kept ∙ ap (λ s. entries_before c.args.limit s.realized) c.self.view_is,
      ap (map failed_of) c.in_ok-failed.ensures.kept ∙ sym (failed_shown c.args.limit v.failed) ∙ ap (λ s. failed_before c.args.limit s.failed) c.self.view_is,
    )
