use Rattle.std.proofs.Common.{◌≡◌, ◌++◌, drop, flat_map}
use Rattle.lf_document.specs.StructureCommand.{field_binders}
use Rattle.lf_fields.proofs.binders.constructor_binders.Given as goal

abbrev pub invariant-loop-field : goal.invariant-loop-field
invariant-loop-field l = l.all.items ++ flat_map field_binders (drop l.field-index l.fields) ≡ flat_map field_binders l.fields
