use Rattle.std.proofs.Common.{◌≡◌, ◌++◌, drop, map}
use Rattle.lf_elaboration.specs.declared.variable.Variable.{Variable}
use Rattle.lf_syntax.specs.declared.leaf.Ident.{Ident}
use Rattle.lf_scope.proofs.declared.add_group.Given as goal

abbrev pub invariant-loop-name : goal.invariant-loop-name
invariant-loop-name l =
    let make : Ident → Variable = λ x. record { kind = l.group.kind; name = x; ty = l.group.ty } in
    l.all.items ++ map make (drop l.name-index l.group.names) ≡ l.fn.all.items ++ map make l.group.names
