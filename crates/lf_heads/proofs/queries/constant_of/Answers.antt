use Rattle.std.proofs.Common.{subst}
use Rattle.lf_document.specs.Queries as spec
use Rattle.lf_part.specs.Values as own
use Rattle.lf_part.specs.Runs.{Runs}
use Rattle.lf_heads.proofs.queries.constant_of.Goals as goal

pub returns-clause-value : goal.returns-clause-value
returns-clause-value g c =
    let P = own.part g.S.Synth.meaning c.args.part in
    let s = own.state c.args.state.now in
    let t = own.state c.constant_by.new.state in
    λ u. subst (λ m. Runs (spec.constant_by P c.args.x.now m u s) c.constant_by.result u t) c.in_ok-meaning.ensures (c.constant_by.ensures.value u)
