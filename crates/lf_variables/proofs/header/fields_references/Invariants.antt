use Rattle.std.proofs.Common.{◌≡◌, ◌++◌, drop, flat_map}
use Rattle.lf_elaboration.specs.References.{field_references}
use Rattle.lf_variables.proofs.header.fields_references.Given as goal

abbrev pub invariant-loop-field : goal.invariant-loop-field
invariant-loop-field l =
    l.all.items ++ flat_map field_references (drop l.field-index l.fields) ≡ l.fn.all.items ++ flat_map field_references l.fields
