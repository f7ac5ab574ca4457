use Rattle.std.proofs.Common.{rules}
use Rattle.std.proofs.lemmas.Result.{err_from_is_err_and}
use Rattle.lf_level.proofs.Collecting.{collects_both, collects_fails}
use Rattle.lf_level.proofs.parameters.+collect.Goals as goal

pub returns-in_err-collect-in-Max : goal.returns-in_err-collect-in-Max
returns-in_err-collect-in-Max t c =
    let p = err_from_is_err_and c.from_residual.result c.from_residual.ensures.1 in
    rw (p.1, p.2) (search (rules, collects_fails, c.in_err-collect-in-Max.ensures))

pub returns-in_ok-collect-in-Max : goal.returns-in_ok-collect-in-Max
returns-in_ok-collect-in-Max t c = search (rules, collects_both)
