use Rattle.std.proofs.Common.{◌≡◌, ◌++◌, drop, map, flat_map}
use Rattle.lf_syntax.specs.TermNode.{binders_tree}
use Rattle.lf_elaboration.specs.Variables.{in_group}
use Rattle.lf_scope.proofs.declared.variable_list.Given as goal

abbrev pub invariant-loop-groups : goal.invariant-loop-groups
invariant-loop-groups l =
    l.all.items ++ flat_map (λ bs. flat_map in_group (map binders_tree bs)) (drop l.groups-index l.groups-items)
    ≡ flat_map (λ bs. flat_map in_group (map binders_tree bs)) l.chain
