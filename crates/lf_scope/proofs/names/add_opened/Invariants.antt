use Rattle.std.proofs.Common.{◌≡◌, ◌++◌, map, flat_map, reverse, length}
use Rattle.lf_elaboration.specs.Scope.{names_of}
use Rattle.lf_scope.proofs.names.add_opened.Given as goal

abbrev pub invariant-commands : goal.invariant-commands
invariant-commands l =
    l.all.items ++ map (λ o. o ++ l.name) (reverse (flat_map names_of l.rest))
    ≡ l.fn.all.items ++ map (λ o. o ++ l.name) (reverse (flat_map names_of l.opened))

abbrev pub decreases-commands : goal.decreases-commands
decreases-commands l = length l.rest
