use Rattle.std.proofs.Common.{◌≡◌, ◌++◌, drop}
use Rattle.lf_elaboration.specs.Scope.{names_of}
use Rattle.lf_scope.proofs.declared.add_names.Given as goal

abbrev pub invariant-loop-ident : goal.invariant-loop-ident
invariant-loop-ident l = l.all.items ++ names_of (drop l.ident-index l.idents) ≡ l.fn.all.items ++ names_of l.idents
