-- The command `inductive`: the type, behind its own binders; each constructor behind the type's parameters; and the declaration that the kernel
-- admits.
use Rattle.std.specs.Prelude.{ℕ, zero, suc, Option, Some, None, List, [], ◌∷◌, ◌++◌, length, map}
use Rattle.lf_core.specs.Term.{Path, Term, free, const, pi}
use Rattle.lf_core.specs.Spine.{apply}
use Rattle.lf_core.specs.declared.constant.ConstInfo.{ConstInfo}
use Rattle.lf_core.specs.declared.constant.CtorInfo.{CtorInfo}
use Rattle.lf_core.specs.declared.constant.IndDecl.{IndDecl}
use Rattle.lf_name.specs.declared.binder.Binder.{Binder}
use Rattle.lf_name.specs.declared.binder.BinderKind.TheVariants.{Implicit}
use Rattle.lf_rules.specs.Recursor.{parameters_from}
use Rattle.lf_syntax.specs.Tree.{TermTree}
use Rattle.lf_syntax.specs.declared.command.CtorDecl.{CtorDecl}
use Rattle.lf_checker.specs.Admission.{view_with_type, add_inductive}
use Rattle.lf_elaboration.specs.Run.{◌>>=◌, ◌>>◌, gives, put}
use Rattle.lf_elaboration.specs.Part.{Part, Locals, Run, Calls, instantiated}
use Rattle.lf_elaboration.specs.Closing.{close}
use Rattle.lf_elaboration.specs.Terms.{OneBinder, as_type}
use Rattle.lf_document.specs.Task.{Task, judged}
use Rattle.lf_document.specs.Setting.{Setting, Declaration, nesting, most_levels_of_type, part, calls_of, no_locals, by_kernel, of_groups}
use Rattle.lf_document.specs.Binders.{pi_over, under_binders, under_pis}
use Rattle.lf_document.specs.Constants.{Made}
use Rattle.lf_document.specs.Headers.{type_or_default, in_one_part}

-- The type's own name is found in the command, at its own levels.
abbrev pub own_part : Setting → Declaration → Part
own_part X D = record (part X X.view D.levels None D.at) { own = Some D.name }

-- ---- The type, at the end of which its blocks are run and its metavariables have to be assigned, but for those of levels.

abbrev pub family_type : Part → Declaration → Run Term
family_type P D = do
  T ← under_binders P (calls_of P) pi_over (type_or_default P (calls_of P) D.ty) no_locals D.binders
  close P (calls_of P) no_locals 0 None
  instantiated T

abbrev pub declaring : Declaration → Term → List CtorInfo → IndDecl
declaring D T ks = record { name = D.name; levels = D.levels; params = length D.binders; ty = T; ctors = ks }

-- While constructors are elaborated the type has no constructor.
abbrev pub with_family : Setting → Declaration → Term → Part
with_family X D T = record (part X (view_with_type X.view (declaring D T [])) D.levels None D.at) { own = Some D.name }

-- ---- Constructors, as they are written: behind the parameters, which are implicit in them, pis over the binders; without a written type the
-- type at its parameters.

pub record Constructing : Type 0 where
  pub name : Path
  pub binders : List OneBinder
  pub ty : Option TermTree

abbrev pub constructing : Path → CtorDecl → Constructing
constructing n k = record { name = n ++ k.name.name; binders = of_groups k.binders; ty = k.ty }

abbrev pub first_locals : ℕ → ℕ → List Term
first_locals k zero = []
first_locals k (suc n) = free k ∷ first_locals (suc k) n

abbrev pub at_parameters : Declaration → Term
at_parameters D = apply (const D.name (parameters_from 0 (length D.levels))) (first_locals 0 (length D.binders))

abbrev pub result_type : Part → Calls → Declaration → Option TermTree → Locals → Run Term
result_type Q c D (Some s) L = do
  A ← as_type Q c L s
  gives A.term
result_type Q c D None L = put (at_parameters D)

abbrev pub fields_type : Part → Calls → Declaration → Constructing → Locals → Term → Run Term
fields_type Q c D k L B = under_binders Q c pi_over (result_type Q c D k.ty) L k.binders

abbrev pub implicit_pi : Binder → Term → Term → Term
implicit_pi x A B = pi (record { name = x.name; kind = Implicit }) A B

abbrev pub constructor_type : Part → Declaration → Term → Constructing → Run Term
constructor_type Q D T k = under_pis Q (calls_of Q) implicit_pi (fields_type Q (calls_of Q) D k) (length D.binders) no_locals T

abbrev pub constructors : Part → Declaration → Term → List Constructing → Run (List CtorInfo)
constructors Q D T [] = gives []
constructors Q D T (k ∷ ks) = do
  A ← constructor_type Q D T k
  rest ← constructors Q D T ks
  gives (record { name = k.name; ty = A } ∷ rest)

abbrev pub instantiated_types : List CtorInfo → Run (List CtorInfo)
instantiated_types [] = gives []
instantiated_types (k ∷ ks) = do
  A ← instantiated k.ty
  rest ← instantiated_types ks
  gives (record { name = k.name; ty = A } ∷ rest)

-- ---- The declaration, at the end of the part

abbrev pub whole_declaration : Part → Declaration → Term → List Constructing → Run IndDecl
whole_declaration Q D T ks = do
  cs ← constructors Q D T ks
  close Q (calls_of Q) no_locals 0 (Some 0)
  A ← instantiated T
  types ← instantiated_types cs
  gives (declaring D A types)

abbrev pub declared : Setting → Declaration → List Constructing → Run IndDecl
declared X D ks = do
  T ← family_type (own_part X D) D
  whole_declaration (with_family X D T) D T ks

abbrev pub inductive_constants : Setting → Declaration → List Constructing → Run (List ConstInfo)
inductive_constants X D ks = do
  d ← declared X D ks
  by_kernel (own_part X D) (add_inductive X.view nesting d)

abbrev pub inductive_head : Setting → Declaration → List CtorDecl → Task Made
inductive_head X D ks = in_one_part X most_levels_of_type D (judged (inductive_constants X D (map (constructing D.name) ks)))
