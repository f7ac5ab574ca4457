use Rattle.std.proofs.Common.{◌≡◌, ◌∙◌, ap}
use Rattle.lf_task.proofs.Befores.{within, found_before}
use Rattle.lf_task.proofs.plan.Plan.scope.Goals as goal

pub bounds-scopes-i : goal.bounds-scopes-i
bounds-scopes-i c =
    within c.self.inside.commands.items c.args.self.now.commands c.as_slice-scopes.result.now c.args.i
    (c.as_slice-scopes.ensures.value ∙ c.self.invariant.1) (ap (λ p. p.commands) c.self.view_is) c.requires

pub returns : goal.returns
returns c =
    found_before c.self.inside.commands.items c.args.self.now.commands c.as_slice-scopes.result.now c.args.i c.index-scopes-i.result
    (c.as_slice-scopes.ensures.value ∙ c.self.invariant.1) (ap (λ p. p.commands) c.self.view_is) c.requires c.index-scopes-i.is
