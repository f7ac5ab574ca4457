-- Whether two names or two binders are the same.
use Rattle.std.specs.Prelude.{Bool, true, false, ◌&&◌, [], ◌∷◌}
use Rattle.std.specs.Str.{bytes_eq}
use Rattle.lf_name.specs.declared.binder.Binder.{Binder}
use Rattle.lf_name.specs.declared.binder.BinderKind.{BinderKind}
use Rattle.lf_name.specs.declared.binder.BinderKind.TheVariants.{Explicit, Implicit, Inst}
use Rattle.lf_name.specs.Name.{Path}

abbrev pub same_path : Path → Path → Bool
same_path [] [] = true
same_path (x ∷ xs) (y ∷ ys) = bytes_eq x y && same_path xs ys
same_path _ _ = false

abbrev pub same_kind : BinderKind → BinderKind → Bool
same_kind Explicit Explicit = true
same_kind Implicit Implicit = true
same_kind Inst Inst = true
same_kind _ _ = false

abbrev pub same_binder : Binder → Binder → Bool
same_binder x y = same_path x.name y.name && same_kind x.kind y.kind
