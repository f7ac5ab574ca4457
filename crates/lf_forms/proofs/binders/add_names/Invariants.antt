use Rattle.std.proofs.Common.{◌≡◌, ◌++◌, drop, map}
use Rattle.std.specs.Option.{option_copied}
use Rattle.lf_syntax.specs.declared.leaf.Ident.{Ident}
use Rattle.lf_elaboration.specs.Terms.{OneBinder}
use Rattle.lf_forms.proofs.binders.add_names.Given as goal

abbrev pub invariant-names : goal.invariant-names
invariant-names l =
    let make : Ident → OneBinder = λ x. record { kind = l.kind; name = x; ty = option_copied l.ty } in
    l.all.items ++ map make (drop l.name-index l.names) ≡ l.fn.all.items ++ map make l.names
