use Rattle.std.proofs.lemmas.Result.{err_from_is_err_and}
use Rattle.lf_level.proofs.Collecting.{lists_fails, lists_fails_later, lists_both}
use Rattle.lf_level.proofs.order.parameters.Goals as goal

pub returns-in_err-collect : goal.returns-in_err-collect
returns-in_err-collect c =
    let p = err_from_is_err_and c.from_residual.result c.from_residual.ensures.1 in
    rw (p.1, p.2) (lists_fails c.args.u.now c.args.v.now c.new-seen.result c.collect.new.seen c.in_err-collect.field-0.0 c.new-seen.ensures
    c.in_err-collect.ensures)

pub returns-in_err-collect-2 : goal.returns-in_err-collect-2
returns-in_err-collect-2 c =
    let p = err_from_is_err_and c.from_residual-in_err-collect-2.result c.from_residual-in_err-collect-2.ensures.1 in
    rw (p.1, p.2) (lists_fails_later c.args.u.now c.args.v.now c.new-seen.result c.collect.new.seen c.collect-2.new.seen c.in_err-collect-2.field-0.0
    c.new-seen.ensures c.in_ok-collect.ensures.0 c.in_err-collect-2.ensures)

pub returns : goal.returns
returns c = (
  lists_both c.args.u.now c.args.v.now c.new-seen.result c.collect.new.seen c.collect-2.new.seen c.new-seen.ensures c.in_ok-collect.ensures.0
      c.in_ok-collect-2.ensures.0,
  c.in_ok-collect-2.ensures.1,
)
