use Rattle.std.proofs.Common.{◌≡◌, ◌++◌, ◌∷◌, []}
use Rattle.lf_scope.proofs.Lists.{opened_step}
use Rattle.lf_scope.proofs.names.add_opened.Goals as goal

pub commands-preserved : goal.commands-preserved
commands-preserved c =
    let xs = c.as_slice.result.now in
    let rest : c.commands.rest.now ≡ c.in-Some.before.now ++ xs ∷ [] = cc (c.in-Some.ensures, c.as_slice.ensures) in
    opened_step
    c.commands.rest.now
    c.in-Some.before.now
    xs
    c.args.name.now
    c.commands.all.items
    c.add_behind.new.all.items
    _
    rest
    c.in_ok-add_behind.ensures
    c.commands.invariant
