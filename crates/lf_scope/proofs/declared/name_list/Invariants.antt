use Rattle.std.proofs.Common.{◌≡◌, ◌++◌, drop, flat_map}
use Rattle.lf_elaboration.specs.Scope.{names_of}
use Rattle.lf_scope.proofs.declared.name_list.Given as goal

abbrev pub invariant-loop-idents : goal.invariant-loop-idents
invariant-loop-idents l = l.all.items ++ flat_map names_of (drop l.idents-index l.idents-items) ≡ flat_map names_of l.chain
