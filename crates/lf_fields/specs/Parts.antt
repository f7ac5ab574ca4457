-- The definitions of fields over what they read of the declaration, its name, its level names and the number of its parameters, and at any
-- nesting. Devices of the proof: that they are the command's is proofs/Parts.
use Rattle.std.specs.Prelude.{ℕ, suc, ◌+◌, Option, Some, None, List, [], ◌∷◌, ◌++◌, codes, length, drop}
use Rattle.lf_core.specs.Term.{Path, Term, free, const, proj}
use Rattle.lf_core.specs.Spine.{apply}
use Rattle.lf_core.specs.Substitution.{instantiate}
use Rattle.lf_core.specs.declared.constant.ConstInfo.{ConstInfo}
use Rattle.lf_core.specs.declared.constant.ConstKind.TheVariants.{Def}
use Rattle.lf_core.specs.declared.constant.CtorInfo.{CtorInfo}
use Rattle.lf_core.specs.declared.constant.Detail.TheVariants.{Plain}
use Rattle.lf_core.specs.declared.constant.IndDecl.{IndDecl}
use Rattle.lf_name.specs.declared.binder.BinderKind.{BinderKind}
use Rattle.lf_rules.specs.Telescope.{Telescope}
use Rattle.lf_rules.specs.Recursor.{named, parameters_from}
use Rattle.lf_syntax.specs.declared.leaf.Ident.{Ident}
use Rattle.lf_checker.specs.View.{View, pushed}
use Rattle.lf_checker.specs.Run.{Run, ◌>>=◌, gives, gives_up, made}
use Rattle.lf_checker.specs.Checker.{add_header, add_decl}
use Rattle.lf_elaboration.specs.Forms.{Binding, as_pi}
use Rattle.lf_elaboration.specs.Statement.{self, open_pis, pis_closed, lambdas_closed}
use Rattle.lf_document.specs.Inductives.{first_locals}

abbrev pub at_parameters : Path → List Path → ℕ → Term
at_parameters n ls k = apply (const n (parameters_from 0 (length ls))) (first_locals 0 k)

abbrev pub declaring : Path → List Path → ℕ → Term → List CtorInfo → IndDecl
declaring n ls k T ks = record { name = n; levels = ls; params = k; ty = T; ctors = ks }

abbrev pub with_self : BinderKind → Path → List Path → ℕ → Telescope → Telescope
with_self kind n ls k ps = ps ++ record { binder = record { name = named (codes "self"); kind = kind }; ty = at_parameters n ls k } ∷ []

abbrev pub projection : Path → ℕ → ℕ → Term
projection n k i = proj n i (free k)

-- Under this name.
abbrev pub field_constant : Path → List Path → Term → Term → ℕ → ConstInfo
field_constant f ls A t h = record { name = f; kind = Def; levels = ls; ty = A; value = Some t; height = h; detail = Plain }

unfoldable pub field_definition : ℕ → View → Path → List Path → ℕ → Telescope → ℕ → Path → Term → Run ConstInfo
field_definition depth W n ls k xs i f A = do
  T ← pis_closed 0 xs A
  t ← lambdas_closed 0 xs (projection n k i)
  l ← add_header W depth f T
  h ← add_decl W depth (field_constant f ls T t 0)
  gives (field_constant f ls T t h)

-- A field's definition, and what is left of the constructor's type behind the field.
abbrev pub step : ℕ → View → Path → List Path → ℕ → Telescope → ℕ → Path → Binding → Run (ConstInfo × Term)
step depth W n ls k xs i f b = do
  c ← field_definition depth W n ls k xs i f b.domain
  B ← made (instantiate b.body (self f ls xs))
  gives (c, B)

-- The definitions behind these.
abbrev pub onto : List ConstInfo → Run (List ConstInfo) → Run (List ConstInfo)
onto cs m = do
  ds ← m
  gives (cs ++ ds)

abbrev pub at_field : ℕ → View → ℕ → Path → List Path → ℕ → Telescope → ℕ → Path → Option Binding → (View → Term → Run (List ConstInfo))
    → Run (List ConstInfo)
at_field depth W p n ls k xs i f (Some b) rest = do
  r ← step depth W n ls k xs i f b
  onto (r.0 ∷ []) (rest (pushed W r.0 p) r.1)
at_field depth W p n ls k xs i f None rest = gives_up

unfoldable pub definitions : ℕ → ℕ → Path → List Path → ℕ → Telescope → ℕ → List Ident → View → Term → Run (List ConstInfo)
definitions depth p n ls k xs i [] W t = gives []
definitions depth p n ls k xs i (f ∷ fs) W t =
    at_field depth W p n ls k xs i (n ++ f.name) (as_pi t) (definitions depth p n ls k xs (suc i) fs)

-- ---- The same, one field at a time

abbrev pub defined : ℕ → View → Path → List Path → ℕ → Telescope → ℕ → Path → Option Binding → Run (Option (ConstInfo × Term))
defined depth W n ls k xs i f None = gives_up
defined depth W n ls k xs i f (Some b) = do
  r ← step depth W n ls k xs i f b
  gives (Some r)

-- The definition of the first of these fields, where there is one.
unfoldable pub first : ℕ → View → Path → List Path → ℕ → Telescope → ℕ → List Ident → Term → Run (Option (ConstInfo × Term))
first depth W n ls k xs i [] t = gives None
first depth W n ls k xs i (f ∷ fs) t = defined depth W n ls k xs i (n ++ f.name) (as_pi t)

-- The definitions behind those that were made before.
unfoldable pub behind : List ConstInfo → ℕ → ℕ → Path → List Path → ℕ → Telescope → ℕ → List Ident → View → Term → Run (List ConstInfo)
behind cs depth p n ls k xs i fs W t = onto cs (definitions depth p n ls k xs i fs W t)

-- Behind the first.
abbrev pub after : List ConstInfo → ℕ → ℕ → Path → List Path → ℕ → Telescope → ℕ → List Ident → View → Option (ConstInfo × Term)
    → Run (List ConstInfo)
after cs depth p n ls k xs i fs W None = gives cs
after cs depth p n ls k xs i fs W (Some r) = behind (cs ++ r.0 ∷ []) depth p n ls k xs (i + 1) (drop 1 fs) (pushed W r.0 p) r.1

abbrev pub all_fields : ℕ → BinderKind → View → ℕ → Path → List Path → ℕ → List Ident → Term → Run (List ConstInfo)
all_fields depth kind W p n ls k fs A = do
  o ← open_pis k [] A
  definitions depth p n ls k (with_self kind n ls k o.locals) 0 fs W o.rest
