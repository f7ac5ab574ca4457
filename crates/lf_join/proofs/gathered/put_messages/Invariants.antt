use Rattle.std.proofs.Common.{◌≡◌, ◌++◌, take}
use Rattle.lf_join.proofs.gathered.put_messages.Given as goal

abbrev pub invariant-messages : goal.invariant-messages
invariant-messages l = l.all.items ≡ l.fn.all.items ++ take l.message-index l.messages
