use Rattle.std.proofs.Common.{◌≡◌, ◌++◌, drop, map}
use Rattle.std.specs.Prelude.{Some}
use Rattle.lf_name.specs.declared.binder.BinderKind.TheVariants.{Explicit}
use Rattle.lf_syntax.specs.declared.leaf.Ident.{Ident}
use Rattle.lf_elaboration.specs.Terms.{OneBinder}
use Rattle.lf_fields.proofs.binders.push_binders.Given as goal

abbrev pub invariant-loop-name : goal.invariant-loop-name
invariant-loop-name l =
    let make : Ident → OneBinder = λ x. record { kind = Explicit; name = x; ty = Some l.field.ty } in
    l.all.items ++ map make (drop l.name-index l.field.names) ≡ l.fn.all.items ++ map make l.field.names
