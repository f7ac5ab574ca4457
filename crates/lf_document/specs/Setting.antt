-- What a command is elaborated in, and its declaration as it is written there.
use Rattle.std.specs.Prelude.{ℕ, Option, Some, None, List, [], ◌++◌, map, flat_map}
use Rattle.lf_core.specs.Term.{Path}
use Rattle.lf_syntax.specs.Tree.{TermTree}
use Rattle.lf_syntax.specs.TermNode.{binders_tree}
use Rattle.lf_syntax.specs.declared.leaf.Ident.{Ident}
use Rattle.lf_syntax.specs.declared.term.Binders.{Binders}
use Rattle.lf_syntax.specs.declared.command.Decl.{Decl}
use Rattle.lf_syntax.specs.declared.command.Command.{Command}
use Rattle.lf_checker.specs.View.{View}
use Rattle.lf_checker.specs.Run as checker
use Rattle.lf_elaboration.specs.Scope.{Scope, names_of, declared_name}
use Rattle.lf_elaboration.specs.Variables.{variables_taken, level_names}
use Rattle.lf_elaboration.specs.declared.variable.Variable.{Variable}
use Rattle.lf_elaboration.specs.Run.{checks_or}
use Rattle.lf_elaboration.specs.Part.{Part, Locals, Run, Calls, refusal_at}
use Rattle.lf_elaboration.specs.Terms.{OneBinder, group_in}
use Rattle.lf_elaboration.specs.Elaboration.{calls}
use Rattle.lf_resolution.specs.Walk.{resolve}

-- The view and the scope at the command's position, and the units of each of its parts.
pub record Setting : Type 0 where
  pub view : View
  pub scope : Scope
  pub position : ℕ
  pub budget : ℕ

-- So many calls may be open at once in a part.
abbrev pub nesting : ℕ
nesting = 512

abbrev pub most_levels : ℕ
most_levels = 8

-- A recursor may have a level more than its type.
abbrev pub most_levels_of_type : ℕ
most_levels_of_type = 7

-- A part of the command: over a view, with these level names, within a name where it is a value, with its errors of the whole at a place.
abbrev pub part : Setting → View → List Path → Option Path → ℕ → Part
part X V levels inside at = record {
  view = V;
  scope = X.scope;
  levels = levels;
  inside = inside;
  own = None;
  place = at;
  synthesize = resolve V X.scope;
}

abbrev pub calls_of : Part → Calls
calls_of P = calls P nesting

abbrev pub no_locals : Locals
no_locals = record { types = []; names = [] }

-- What the kernel answers of closed terms; a refusal is an error of the part as a whole.
abbrev pub by_kernel : {A : Type 0} → Part → checker.Run A → Run A
by_kernel P m = checks_or (refusal_at P no_locals P.place) m

-- ---- Binders, one for each name

abbrev pub of_groups : List Binders → List OneBinder
of_groups bs = flat_map (λ b. group_in (binders_tree b)) bs

abbrev pub of_variable : Variable → OneBinder
of_variable v = record { kind = v.kind; name = v.name; ty = Some v.ty }

-- The variables that a command takes come before its written binders.
abbrev pub taken_binders : Scope → Command → List OneBinder
taken_binders s c = map of_variable (variables_taken s c)

-- ---- Declarations

pub record Declaration : Type 0 where
  pub name : Path
  -- the place of the written name
  pub at : ℕ
  pub written : List Ident
  -- all its level names
  pub levels : List Path
  pub binders : List OneBinder
  pub ty : Option TermTree

abbrev pub declaration : Scope → Command → Decl → Declaration
declaration s c d = record {
  name = declared_name s d.name.name;
  at = d.name.at;
  written = d.levels;
  levels = level_names s (names_of d.levels) c;
  binders = taken_binders s c ++ of_groups d.binders;
  ty = d.ty;
}
