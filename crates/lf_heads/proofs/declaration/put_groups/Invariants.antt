use Rattle.std.proofs.Common.{◌≡◌, ◌++◌, drop}
use Rattle.lf_document.specs.Setting.{of_groups}
use Rattle.lf_heads.proofs.declaration.put_groups.Given as goal

abbrev pub invariant-groups : goal.invariant-groups
invariant-groups l = l.all.items ++ of_groups (drop l.one-index l.groups) ≡ l.fn.all.items ++ of_groups l.groups
