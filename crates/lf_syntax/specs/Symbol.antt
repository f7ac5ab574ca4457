-- The symbols of the grammar and their trees. Each is named as the function that reads it.
use Rattle.std.specs.Prelude.{ℕ, List, Option}
use Rattle.lf_syntax.specs.declared.leaf.Ident.{Ident}
use Rattle.lf_syntax.specs.declared.leaf.Num.{Num}
use Rattle.lf_text.specs.declared.operator.Op.{Op}
use Rattle.lf_syntax.specs.Tree.{LevelTree, TermTree, LBinderTree, ItemTree, RuleTree}
use Rattle.lf_syntax.specs.declared.term.Binders.{Binders}
use Rattle.lf_syntax.specs.declared.command.Helper.{Helper}
use Rattle.lf_syntax.specs.declared.command.CtorDecl.{CtorDecl}
use Rattle.lf_syntax.specs.declared.command.FieldDecl.{FieldDecl}
use Rattle.lf_syntax.specs.declared.pattern.Alternative.{Alternative}
use Rattle.lf_syntax.specs.declared.pattern.Pattern.{Pattern}
use Rattle.lf_syntax.specs.declared.command.Command.{Command}
use Rattle.lf_text.specs.declared.word.Word.{Word}

-- A head and its arguments.
pub record Spine : Type 0 where
  pub head : TermTree
  pub arguments : List TermTree

-- Behind the term of `(term`: the type of `(term : type)`, and the arguments behind the parenthesis.
pub record GroupEnd : Type 0 where
  pub ty : Option TermTree
  pub arguments : List TermTree

-- Behind `(names : type)`: the body of an arrow, or arguments.
pub data BinderEnd : Type 0 where
  arrow_to : TermTree → BinderEnd
  arguments_to : List TermTree → BinderEnd

-- What a `def` says of its name: a value and helpers, or alternatives.
pub data DefBody : Type 0 where
  by_value : TermTree → List Helper → DefBody
  by_alternatives : List Alternative → DefBody

-- Behind the binders of a `def`.
pub record DefRest : Type 0 where
  pub ty : Option TermTree
  pub body : DefBody

pub data Symbol : Type 0 where
  command : Symbol
  -- this word; an arrow; a numeral
  token : Word → Symbol
  arrow_token : Symbol
  number_token : Symbol
  -- id; id1; id1 | "_"
  any_name one_part binder_name : Symbol
  -- id?; id*; id1*; (id1 | "_")*
  optional_name any_names one_parts binder_names : Symbol
  -- names?; ("," id1)* "}"
  level_names more_level_names : Symbol
  binder parameters lambda_binder lambda_binders implicit_end : Symbol
  -- behind the `[` at this place; behind `[name`
  bracket : ℕ → Symbol
  bracket_name : ℕ → Ident → Symbol
  def_rest def_body type_option where_option ctors helpers helper more_helpers : Symbol
  fields_option field more_fields axioms_word : Symbol
  -- alternatives of a `def`, their patterns, what is behind a name in them, and `1`
  alternatives pattern : Symbol
  pattern_rest : Ident → Symbol
  numeral_one : Symbol
  -- a term of at least this level
  term : ℕ → Symbol
  -- atom* lead?
  arguments : Symbol
  -- operators of at least this level behind a term of this one
  operators : ℕ → ℕ → Symbol
  -- behind the `(` at this place; behind `(names`, the last one apart
  group : ℕ → Symbol
  group_names : ℕ → List Ident → Ident → Symbol
  group_end group_close binder_end : Symbol
  written_levels more_levels level plus_option level_atom level_atoms : Symbol
  -- behind `max` and `imax`
  max_rest imax_rest : Ident → Symbol
  block more_items item rw_rule more_rules : Symbol

abbrev pub Tree : Symbol → Type 0
Tree command = Command
Tree (token w) = Unit {0}
Tree arrow_token = Unit {0}
Tree number_token = Num
Tree any_name = Ident
Tree one_part = Ident
Tree binder_name = Ident
Tree optional_name = Option Ident
Tree any_names = List Ident
Tree one_parts = List Ident
Tree binder_names = List Ident
Tree level_names = List Ident
Tree more_level_names = List Ident
Tree binder = Binders
Tree parameters = List Binders
Tree lambda_binder = LBinderTree
Tree lambda_binders = List LBinderTree
Tree implicit_end = Option TermTree
Tree (bracket at) = Binders
Tree (bracket_name at x) = Binders
Tree def_rest = DefRest
Tree def_body = DefBody
Tree type_option = Option TermTree
Tree where_option = Unit {0}
Tree ctors = List CtorDecl
Tree helpers = List Helper
Tree helper = Helper
Tree more_helpers = List Helper
Tree fields_option = List FieldDecl
Tree field = FieldDecl
Tree more_fields = List FieldDecl
Tree axioms_word = Unit {0}
Tree alternatives = List Alternative
Tree pattern = Pattern
Tree (pattern_rest x) = Pattern
Tree numeral_one = Unit {0}
Tree (term least) = TermTree
Tree arguments = List TermTree
Tree (operators least level_of_left) = List (Op × TermTree)
Tree (group at) = Spine
Tree (group_names at before x) = Spine
Tree group_end = GroupEnd
Tree group_close = BinderEnd
Tree binder_end = BinderEnd
Tree written_levels = List LevelTree
Tree more_levels = List LevelTree
Tree level = LevelTree
Tree plus_option = Option Num
Tree level_atom = LevelTree
Tree level_atoms = List LevelTree
Tree (max_rest x) = LevelTree
Tree (imax_rest x) = LevelTree
Tree block = List ItemTree
Tree more_items = List ItemTree
Tree item = ItemTree
Tree rw_rule = RuleTree
Tree more_rules = List RuleTree
