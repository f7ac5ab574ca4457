use Rattle.std.proofs.Common.{◌≡◌, ◌++◌, drop, flat_map}
use Rattle.lf_elaboration.specs.References.{constructor_references}
use Rattle.lf_variables.proofs.header.constructors_references.Given as goal

abbrev pub invariant-loop-ctor : goal.invariant-loop-ctor
invariant-loop-ctor l =
    l.all.items ++ flat_map constructor_references (drop l.ctor-index l.ctors) ≡ l.fn.all.items ++ flat_map constructor_references l.ctors
