use Rattle.std.proofs.Common.{◌≡◌, drop}
use Rattle.lf_document.specs.Asking.{ask_all, names_of_constants}
use Rattle.lf_task.proofs.asking.ask_constants.Given as goal

abbrev pub invariant-loop-constant : goal.invariant-loop-constant
invariant-loop-constant l =
    ask_all l.view (names_of_constants (drop l.constant-index l.constants)) l.log ≡ ask_all l.view (names_of_constants l.constants) l.fn.log
