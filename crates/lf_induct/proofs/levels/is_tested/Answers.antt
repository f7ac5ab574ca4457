use Rattle.std.proofs.Common.{arith}
use Rattle.lf_induct.proofs.Orders.{tested_is}
use Rattle.lf_induct.proofs.levels.is_tested.Goals as goal

pub returns-in-Ok : goal.returns-in-Ok
returns-in-Ok c =
    tested_is c.args.l.now c.args.m.now c.in-Ok.known c.requires.left c.requires.right (omega arith) (omega arith) c.in-Ok.ensures.0 c.in-Ok.ensures.1
