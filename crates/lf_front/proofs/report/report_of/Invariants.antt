use Rattle.std.proofs.Common.{◌≡◌, take, flat_map}
use Rattle.lf_front.specs.Report.{line_of}
use Rattle.lf_front.proofs.report.report_of.Given as goal

abbrev pub invariant-loop-constant : goal.invariant-loop-constant
invariant-loop-constant l = l.out.items ≡ flat_map line_of (take l.constant-index l.constants)
