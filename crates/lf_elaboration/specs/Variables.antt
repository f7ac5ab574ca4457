-- The variables and the level names that a declaration takes, by the names that its header refers to. This project's own.
use Rattle.std.specs.Prelude.{
  ℕ,
  zero,
  suc,
  Bool,
  true,
  false,
  not,
  ◌&&◌,
  ◌||◌,
  nat_eq,
  if◌then◌else◌,
  Option,
  Some,
  None,
  List,
  [],
  ◌∷◌,
  ◌++◌,
  codes,
  length,
  map,
  filter,
  flat_map,
}
use Rattle.lf_name.specs.Name.{Path}
use Rattle.lf_name.specs.Same.{same_path}
use Rattle.lf_rules.specs.Recursor.{is_among}
use Rattle.lf_name.specs.declared.binder.BinderKind.{BinderKind}
use Rattle.lf_name.specs.declared.binder.BinderKind.TheVariants.{Explicit, Implicit, Inst}
use Rattle.lf_syntax.specs.Tree.{BindersTree, binders}
use Rattle.lf_syntax.specs.declared.leaf.Ident.{Ident}
use Rattle.lf_syntax.specs.declared.command.Command.{Command}
use Rattle.lf_elaboration.specs.Scope.{Scope}
use Rattle.lf_elaboration.specs.References.{term_references, header_references}
use Rattle.lf_elaboration.specs.declared.reference.Reference.{Reference}
use Rattle.lf_elaboration.specs.declared.reference.Reference.TheVariants as reference
use Rattle.lf_elaboration.specs.declared.variable.Variable.{Variable}

-- ---- Names in references

-- An identifier of this name, or of more parts that begins with it.
abbrev pub begins_with : Path → Path → Bool
begins_with x [] = false
begins_with x (part ∷ parts) = same_path x (part ∷ [])

abbrev pub names_variable : Path → Reference → Bool
names_variable x (reference.Term n) = begins_with x n
names_variable x (reference.Level n) = false

abbrev pub names_level : Path → Reference → Bool
names_level x (reference.Term n) = same_path x n
names_level x (reference.Level n) = same_path x n

abbrev pub any : {A : Type 0} → (A → Bool) → List A → Bool
any p [] = false
any p (x ∷ xs) = p x || any p xs

abbrev pub all : {A : Type 0} → (A → Bool) → List A → Bool
all p [] = true
all p (x ∷ xs) = p x && all p xs

-- ---- Variables

abbrev pub in_group : BindersTree → List Variable
in_group (binders at k xs t) = map (λ x. record { kind = k; name = x; ty = t }) xs

abbrev pub variables_of : Scope → List Variable
variables_of s = flat_map in_group s.holding.variables

abbrev pub is_hole : Path → Bool
is_hole x = same_path x (codes "_" ∷ [])

-- The references name the variable; nothing names `_`.
abbrev pub is_named : List Reference → Variable → Bool
is_named rs v = not (is_hole v.name.name) && any (names_variable v.name.name) rs

-- The variables that the type of this one names.
abbrev pub named_by : List Variable → Variable → List Variable
named_by vs v = filter (is_named (term_references v.ty)) vs

-- Names may be the same, places are not.
abbrev pub holds : List Variable → Variable → Bool
holds taken v = any (λ w. nat_eq w.name.at v.name.at) taken

abbrev pub is_some_of : List Variable → Bool
is_some_of [] = false
is_some_of (v ∷ vs) = true

-- In brackets: its type names at least one variable, and all that it names are taken.
abbrev pub goes_along : List Variable → List Variable → Bool
goes_along taken named = is_some_of named && all (holds taken) named

-- In parentheses or braces: the header names it, or the type of a taken one does.
abbrev pub is_wanted : List Reference → List Variable → Variable → Bool
is_wanted rs taken v = is_named rs v || any (λ w. is_named (term_references w.ty) v) taken

abbrev pub takes : List Variable → List Reference → List Variable → BinderKind → Variable → Bool
takes vs rs taken Explicit v = is_wanted rs taken v
takes vs rs taken Implicit v = is_wanted rs taken v
takes vs rs taken Inst v = goes_along taken (named_by vs v)

-- Those that are taken for reasons of at most n steps.
abbrev pub taken_within : ℕ → List Variable → List Reference → List Variable
taken_within zero vs rs = []
taken_within (suc n) vs rs = filter (λ v. takes vs rs (taken_within n vs rs) v.kind v) vs

-- All that are taken, in order: no reason is longer than there are variables.
abbrev pub taken : List Variable → List Reference → List Variable
taken vs rs = taken_within (length vs) vs rs

-- The variables that a command takes, which come before its written binders.
abbrev pub variables_taken : Scope → Command → List Variable
variables_taken s c = taken (variables_of s) (header_references c)

-- ---- Level names

abbrev pub each_once : List Path → List Path → List Path
each_once before [] = []
each_once before (x ∷ xs) = if is_among x before then each_once before xs else x ∷ each_once (x ∷ before) xs

-- The references of a header and of the types of the variables that it takes.
abbrev pub all_references : Scope → Command → List Reference
all_references s c = header_references c ++ flat_map (λ v. term_references v.ty) (variables_taken s c)

-- The written ones, and then the universe names that are referred to, in order, each once and none that is written.
abbrev pub level_names : Scope → List Path → Command → List Path
level_names s written c = written ++ each_once written (filter (λ u. any (names_level u) (all_references s c)) s.holding.universes)

-- The first written level name that repeats an earlier one.
abbrev pub repeated_from : List Path → List Ident → Option Ident
repeated_from before [] = None
repeated_from before (x ∷ xs) = if is_among x.name before then Some x else repeated_from (x.name ∷ before) xs

abbrev pub repeated_level : List Ident → Option Ident
repeated_level xs = repeated_from [] xs
