-- The commands `structure` and `class`: an inductive type with the one constructor `mk`, whose explicit binders are the fields; that it is a
-- structure; and for each field the definition of its projection.
use Rattle.std.specs.Prelude.{ℕ, suc, Option, Some, None, List, [], ◌∷◌, ◌++◌, codes, length, map, flat_map}
use Rattle.lf_core.specs.Term.{Path, Term, free, const, proj}
use Rattle.lf_core.specs.Spine.{apply}
use Rattle.lf_core.specs.Substitution.{instantiate}
use Rattle.lf_core.specs.declared.constant.ConstInfo.{ConstInfo}
use Rattle.lf_core.specs.declared.constant.ConstKind.TheVariants.{Def}
use Rattle.lf_name.specs.declared.binder.BinderKind.{BinderKind}
use Rattle.lf_name.specs.declared.binder.BinderKind.TheVariants.{Explicit}
use Rattle.lf_rules.specs.Telescope.{Telescope, variables}
use Rattle.lf_rules.specs.Recursor.{named, is_among, parameters_from}
use Rattle.lf_syntax.specs.declared.leaf.Ident.{Ident}
use Rattle.lf_syntax.specs.declared.command.FieldDecl.{FieldDecl}
use Rattle.lf_checker.specs.View.{View, There, there, not_there, not_known, there_of, pushed}
use Rattle.lf_checker.specs.Run as checker
use Rattle.lf_checker.specs.Structures.{Structure, structure_of}
use Rattle.lf_checker.specs.Checker.{add_header, add_decl}
use Rattle.lf_elaboration.specs.Forms.{Binding, as_pi}
use Rattle.lf_elaboration.specs.Run.{◌>>=◌, gives, needs, choose}
use Rattle.lf_elaboration.specs.Part.{Run}
use Rattle.lf_elaboration.specs.Terms.{OneBinder}
use Rattle.lf_elaboration.specs.Statement.{open_pis, pis_closed, lambdas_closed}
use Rattle.lf_msg.specs.declared.naming.NamingError.TheVariants.{Duplicate}
use Rattle.lf_msg.specs.declared.diagnostic.Diagnostic.TheVariants.{Naming, NotAStructure}
use Rattle.lf_document.specs.Task.{Task, Judged, right, wrong}
use Rattle.lf_document.specs.Setting.{Setting, Declaration, nesting, most_levels_of_type, by_kernel}
use Rattle.lf_document.specs.Constants.{Made, without_value, with_value}
use Rattle.lf_document.specs.Headers.{in_one_part}
use Rattle.lf_document.specs.Inductives.{Constructing, own_part, at_parameters, inductive_constants}

-- ---- The one constructor

abbrev pub field_binders : FieldDecl → List OneBinder
field_binders f = map (λ x. record { kind = Explicit; name = x; ty = Some f.ty }) f.names

abbrev pub constructor_name : Declaration → Path
constructor_name D = D.name ++ codes "mk" ∷ []

abbrev pub recursor_name : Declaration → Path
recursor_name D = D.name ++ codes "rec" ∷ []

abbrev pub constructor_of_fields : Declaration → List FieldDecl → Constructing
constructor_of_fields D fs = record { name = constructor_name D; binders = flat_map field_binders fs; ty = None }

-- ---- The names of the fields' definitions are new: the first that isn't is an error at the field.

abbrev pub field_name : Declaration → Ident → Path
field_name D f = D.name ++ f.name

abbrev pub field_there : {A : Type 0} → Declaration → Ident → There → Run (Judged A) → Run (Judged A)
field_there D f (there p) m = gives (wrong f.at (Naming (Duplicate (field_name D f))))
field_there D f (not_known k) m = needs k
field_there D f not_there m = m

abbrev pub unless_taken : {A : Type 0} → View → Declaration → List Path → List Ident → Run (Judged A) → Run (Judged A)
unless_taken V D taken [] m = m
unless_taken V D taken (f ∷ fs) m = field_there D f (there_of V (field_name D f))
    (choose (is_among (field_name D f) taken) (gives (wrong f.at (Naming (Duplicate (field_name D f)))))
    (unless_taken V D (field_name D f ∷ taken) fs m))

-- ---- The definition of a field over the parameters, which are implicit, and `self`: its type is the field's with the earlier fields' definitions
-- at `self`, its value the projection.

abbrev pub with_self : BinderKind → Declaration → Telescope → Telescope
with_self kind D ps = ps ++ record { binder = record { name = named (codes "self"); kind = kind }; ty = at_parameters D } ∷ []

abbrev pub projection : Declaration → ℕ → Term
projection D i = proj D.name i (free (length D.binders))

abbrev pub at_self : Declaration → Telescope → Ident → Term
at_self D xs f = apply (const (field_name D f) (parameters_from 0 (length D.levels))) (variables 0 xs)

abbrev pub field_constant : Declaration → Ident → Term → Term → ℕ → ConstInfo
field_constant D f A t h = with_value (without_value (field_name D f) Def D.levels A) (record { term = t; height = h })

-- The kernel tests each in turn, with those before it.
abbrev pub field_definition : View → Declaration → Telescope → ℕ → Ident → Term → checker.Run ConstInfo
field_definition W D xs i f A = checker.◌>>=◌ (pis_closed 0 xs A) λ T.
    checker.◌>>=◌ (lambdas_closed 0 xs (projection D i)) λ t.
    checker.◌>>=◌ (add_header W nesting (field_name D f) T) λ l.
    checker.◌>>=◌ (add_decl W nesting (field_constant D f T t 0)) λ h.
    checker.gives (field_constant D f T t h)

abbrev pub and_first : {A : Type 0} → A → checker.Run (List A) → checker.Run (List A)
and_first x m = checker.◌>>=◌ m (λ xs. checker.gives (x ∷ xs))

-- The fields from number i on, the first of which has this pi. Each definition is seen by the later ones.
abbrev pub at_field : View → ℕ → Declaration → Telescope → ℕ → Ident → Option Binding → (View → Term → checker.Run (List ConstInfo)) →
    checker.Run (List ConstInfo)
at_field W p D xs i f (Some b) rest = checker.◌>>=◌ (field_definition W D xs i f b.domain) λ c.
    checker.◌>>=◌ (checker.made (instantiate b.body (at_self D xs f))) λ B.
    and_first c (rest (pushed W c p) B)
at_field W p D xs i f None rest = checker.gives_up

abbrev pub field_definitions : ℕ → Declaration → Telescope → ℕ → List Ident → View → Term → checker.Run (List ConstInfo)
field_definitions p D xs i [] W t = checker.gives []
field_definitions p D xs i (f ∷ fs) W t = at_field W p D xs i f (as_pi t) (field_definitions p D xs (suc i) fs)

-- From the constructor's type.
abbrev pub all_fields : BinderKind → View → ℕ → Declaration → List Ident → Term → checker.Run (List ConstInfo)
all_fields kind W p D fs A = checker.◌>>=◌ (open_pis (length D.binders) [] A)
    (λ o. field_definitions p D (with_self kind D o.locals) 0 fs W o.rest)

-- ---- The command

abbrev pub pushed_all : View → List ConstInfo → ℕ → View
pushed_all V [] p = V
pushed_all V (c ∷ cs) p = pushed_all (pushed V c p) cs p

abbrev pub field_names : List FieldDecl → List Ident
field_names fs = flat_map (λ f. f.names) fs

abbrev pub with_definitions : Setting → BinderKind → Declaration → List Ident → List ConstInfo → Term → Run (Judged (List ConstInfo))
with_definitions X kind D fs cs A = unless_taken X.view D (constructor_name D ∷ recursor_name D ∷ []) fs
    (by_kernel (own_part X D) (all_fields kind (pushed_all X.view cs X.position) X.position D fs A) >>= (λ ds. gives (right (cs ++ ds))))

abbrev pub if_structure : Setting → BinderKind → Declaration → List Ident → List ConstInfo → Option Structure → Run (Judged (List ConstInfo))
if_structure X kind D fs cs (Some s) = with_definitions X kind D fs cs s.ty
if_structure X kind D fs cs None = gives (wrong D.at NotAStructure)

abbrev pub structure_constants : Setting → BinderKind → Declaration → List FieldDecl → Run (Judged (List ConstInfo))
structure_constants X kind D fs = do
  cs ← inductive_constants X D (constructor_of_fields D fs ∷ [])
  s ← by_kernel (own_part X D) (structure_of (pushed_all X.view cs X.position) D.name)
  if_structure X kind D (field_names fs) cs s

-- `self` is explicit in a structure, and in brackets in a class.
abbrev pub structure_head : Setting → BinderKind → Declaration → List FieldDecl → Task Made
structure_head X kind D fs = in_one_part X most_levels_of_type D (structure_constants X kind D fs)
