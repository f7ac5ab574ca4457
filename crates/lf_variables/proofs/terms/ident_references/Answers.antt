use Rattle.std.proofs.lemmas.Result.{on_ok_weaker}
use Rattle.lf_variables.proofs.Lists.{behind_name}
use Rattle.lf_variables.proofs.terms.ident_references.Goals as goal

pub returns : goal.returns
returns c =
    on_ok_weaker c.levels_references.result (λ told.
    behind_name
    c.args.all.now.items
    c.push.new.self.items
    c.levels_references.new.all.items
    c.args.name.now.name
    c.in_ok-copy.field-0
    c.args.levels.now
    c.as_slice.result.now
    c.in_ok-push.ensures.items
    c.in_ok-copy.ensures
    c.as_slice.ensures
    told) c.levels_references.ensures
