use Rattle.std.proofs.Common.{◌≡◌, ◌++◌}
use Rattle.lf_heads.proofs.declaration.put_binders.Given as goal

abbrev pub invariant-loop-binder : goal.invariant-loop-binder
invariant-loop-binder l = l.all.items ++ l.binder-iterator.rest.items ≡ l.fn.all.items ++ l.fn.binders.items
