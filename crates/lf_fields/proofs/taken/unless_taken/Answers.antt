use Rattle.std.proofs.Common.{◌∙◌, ap, sym}
use Rattle.lf_fields.specs.Meant as values
use Rattle.lf_fields.proofs.Told.{told_means}
use Rattle.lf_fields.proofs.taken.unless_taken.Goals as goal

pub returns : goal.returns
returns c = λ D m h.
    let told = c.in_ok-told.ensures ∙ (λ i. values.all c.args.view.now c.args.owner.now (c.in_ok-taken.ensures i) c.args.fields.now) in
    told_means c.args.view.now D c.args.owner.now c.args.fields.now m h ∙ ap (λ v. values.meant v m) (sym told)
