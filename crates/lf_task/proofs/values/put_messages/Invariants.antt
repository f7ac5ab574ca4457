use Rattle.std.proofs.Common.{◌≡◌, ◌++◌, map}
use Rattle.lf_document.specs.Diagnoses as diagnoses
use Rattle.lf_part.specs.Says as says
use Rattle.lf_task.proofs.values.put_messages.Given as goal

abbrev pub invariant-loop-message : goal.invariant-loop-message
invariant-loop-message l =
    l.all.items ++ map diagnoses.message (map says.message l.message-iterator.rest.items)
    ≡ l.fn.all.items ++ map diagnoses.message (map says.message l.fn.messages.items)
