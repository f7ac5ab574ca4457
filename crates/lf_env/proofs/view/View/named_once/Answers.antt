use Rattle.std.proofs.Common.{ap, subst}
use Rattle.std.specs.List.{IsDistinct}
use Rattle.lf_env.specs.Names.{same_entry}
use Rattle.lf_env.proofs.Shown.{settled_distinct}
use Rattle.lf_env.proofs.view.View.named_once.Goals as goal

pub returns : goal.returns
returns c =
    subst (IsDistinct same_entry) (ap (λ v. v.entries) c.self.view_is)
    (settled_distinct c.self.inside.joined c.self.inside.entries c.named_once.ensures)
