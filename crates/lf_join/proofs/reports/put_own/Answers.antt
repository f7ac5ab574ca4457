use Rattle.std.proofs.Common.{not, string_bytes}
use Rattle.lf_document.specs.Report.{constant_line}
use Rattle.lf_join.specs.Sets.{has}
use Rattle.lf_join.proofs.Further.{further}
use Rattle.lf_join.proofs.reports.put_own.Goals as goal

pub loop-constant-preserved : goal.loop-constant-preserved
loop-constant-preserved c =
    further constant_line (λ d. not (has c.args.realized.now.keys d.name)) c.args.constants.now c.loop-constant.constant-index c.constant-item.result (string_bytes c.args.out.now)
    (string_bytes c.loop-constant.out) (string_bytes c.put_own_line.new.out) c.loop-constant-test.true c.constant-item.is c.loop-constant.invariant
    c.in_ok-put_own_line.ensures
