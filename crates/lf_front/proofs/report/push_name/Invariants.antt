use Rattle.std.proofs.Common.{◌≡◌, ◌++◌, take, flat_map}
use Rattle.lf_front.specs.Report.{behind_dot}
use Rattle.lf_front.proofs.report.push_name.Given as goal

abbrev pub invariant-loop-part : goal.invariant-loop-part
invariant-loop-part l = l.out.items ≡ l.initial.out.items ++ flat_map behind_dot (take l.part-index l.rest)
