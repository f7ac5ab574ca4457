use Rattle.std.proofs.Common.{◌≡◌, ◌++◌, take, flat_map, string_bytes}
use Rattle.lf_document.specs.Report.{message_line}
use Rattle.lf_join.proofs.reports.put_messages.Given as goal

abbrev pub invariant-loop-message : goal.invariant-loop-message
invariant-loop-message l = string_bytes l.out ≡ string_bytes l.fn.out ++ flat_map (message_line l.text) (take l.message-index l.messages)
