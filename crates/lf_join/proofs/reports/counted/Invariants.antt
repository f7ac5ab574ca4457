use Rattle.std.proofs.Common.{◌≡◌, take, count_by}
use Rattle.lf_document.specs.Report.{is_error, is_warning}
use Rattle.lf_join.proofs.reports.counted.Given as goal

abbrev pub invariant-loop-message : goal.invariant-loop-message
invariant-loop-message l = record {
  errors : l.errors ≡ count_by is_error (take l.message-index l.messages);
  warnings : l.warnings ≡ count_by is_warning (take l.message-index l.messages);
}
