use Rattle.std.proofs.Common.{◌≡◌, ◌++◌, take, flat_map, filter, not, string_bytes}
use Rattle.lf_document.specs.Report.{realized_line}
use Rattle.lf_join.specs.Sets.{has}
use Rattle.lf_join.proofs.reports.put_realized.Given as goal

abbrev pub invariant-loop-constant : goal.invariant-loop-constant
invariant-loop-constant l =
    string_bytes l.out
    ≡ string_bytes l.fn.out ++ flat_map realized_line (filter (λ c. has l.realized.keys c.name) (take l.constant-index l.constants))
