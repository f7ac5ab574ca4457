use Rattle.std.proofs.Common.{◌≡◌, ◌++◌, drop}
use Rattle.lf_elaboration.specs.Scope.{start}
use Rattle.lf_task.specs.Plans.{scopes_from}
use Rattle.lf_task.proofs.plan.scopes_of.Given as goal

abbrev pub invariant-loop-command : goal.invariant-loop-command
invariant-loop-command l = l.all.items ++ scopes_from l.scope (drop l.command-index l.commands) ≡ scopes_from start l.commands
