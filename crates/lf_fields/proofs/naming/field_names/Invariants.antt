use Rattle.std.proofs.Common.{◌≡◌, ◌++◌, drop}
use Rattle.lf_document.specs.StructureCommand.{field_names}
use Rattle.lf_fields.proofs.naming.field_names.Given as goal

abbrev pub invariant-loop-field : goal.invariant-loop-field
invariant-loop-field l = l.all.items ++ field_names (drop l.field-index l.fields) ≡ field_names l.fields
