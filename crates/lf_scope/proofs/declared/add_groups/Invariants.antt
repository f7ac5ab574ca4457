use Rattle.std.proofs.Common.{◌≡◌, ◌++◌, drop, map, flat_map}
use Rattle.lf_syntax.specs.TermNode.{binders_tree}
use Rattle.lf_elaboration.specs.Variables.{in_group}
use Rattle.lf_scope.proofs.declared.add_groups.Given as goal

abbrev pub invariant-loop-group : goal.invariant-loop-group
invariant-loop-group l =
    l.all.items ++ flat_map in_group (map binders_tree (drop l.group-index l.groups))
    ≡ l.fn.all.items ++ flat_map in_group (map binders_tree l.groups)
