-- What may follow each symbol on the machine's stack, so that the stack can be finished.
use Rattle.std.proofs.Common.{List, [], ◌∷◌, Bool, true, false, not, ◌&&◌, ◌||◌}
use Rattle.lf_text.specs.declared.word.Word.TheVariants as words
use Rattle.lf_text.specs.declared.word.Word.{Word}
use Rattle.lf_syntax.specs.Symbol.{
  Symbol,
  any_name,
  any_names,
  arguments,
  arrow_token,
  binder,
  binder_end,
  binder_name,
  binder_names,
  block,
  command,
  ctors,
  def_rest,
  group,
  group_close,
  group_end,
  group_names,
  helper,
  helpers,
  imax_rest,
  implicit_end,
  item,
  lambda_binder,
  lambda_binders,
  level,
  level_atom,
  level_atoms,
  level_names,
  max_rest,
  more_helpers,
  more_items,
  more_level_names,
  more_levels,
  more_rules,
  number_token,
  one_part,
  one_parts,
  operators,
  optional_name,
  parameters,
  plus_option,
  rw_rule,
  term,
  token,
  type_option,
  where_option,
  written_levels,
  alternatives,
  axioms_word,
  bracket,
  bracket_name,
  def_body,
  field,
  fields_option,
  more_fields,
  numeral_one,
  pattern,
  pattern_rest,
}

-- What stands first among the tokens that finish a stack: nothing, a token that nothing optional begins with, a words.Colon, another.
pub data Next : Type 0 where
  at_end closer at_colon other : Next

-- What a symbol asks of it: nothing; no other; neither another nor a words.Colon.
pub data Asks : Type 0 where
  nothing_more calm_next no_colon : Asks

abbrev pub asks : Symbol → Asks
asks command = no_colon
asks (token w) = nothing_more
asks arrow_token = nothing_more
asks number_token = nothing_more
asks any_name = nothing_more
asks one_part = nothing_more
asks binder_name = nothing_more
asks optional_name = calm_next
asks any_names = calm_next
asks one_parts = calm_next
asks binder_names = calm_next
asks level_names = calm_next
asks more_level_names = nothing_more
asks binder = nothing_more
asks parameters = calm_next
asks lambda_binder = nothing_more
asks lambda_binders = calm_next
asks implicit_end = nothing_more
asks def_rest = calm_next
asks type_option = no_colon
asks where_option = calm_next
asks ctors = no_colon
asks helpers = calm_next
asks helper = calm_next
asks more_helpers = nothing_more
asks (term l) = calm_next
asks arguments = calm_next
asks (operators l m) = calm_next
asks (group at) = calm_next
asks (group_names at before x) = calm_next
asks group_end = calm_next
asks group_close = calm_next
asks binder_end = calm_next
asks written_levels = calm_next
asks more_levels = nothing_more
asks level = calm_next
asks plus_option = calm_next
asks level_atom = nothing_more
asks level_atoms = calm_next
asks (max_rest x) = calm_next
asks (imax_rest x) = calm_next
asks block = nothing_more
asks more_items = nothing_more
asks item = calm_next
asks rw_rule = calm_next
asks more_rules = nothing_more
asks (bracket at) = nothing_more
asks (bracket_name at x) = nothing_more
asks def_body = calm_next
asks fields_option = calm_next
asks field = calm_next
asks more_fields = nothing_more
asks axioms_word = nothing_more
asks alternatives = calm_next
asks pattern = calm_next
asks (pattern_rest x) = calm_next
asks numeral_one = nothing_more

abbrev pub allows : Asks → Next → Bool
allows nothing_more n = true
allows calm_next other = false
allows calm_next at_end = true
allows calm_next closer = true
allows calm_next at_colon = true
allows no_colon at_end = true
allows no_colon closer = true
allows no_colon at_colon = false
allows no_colon other = false

abbrev pub word_next : Word → Next
word_next words.Axiom = other
word_next words.Def = other
word_next words.Theorem = other
word_next words.Inductive = other
word_next words.Namespace = other
word_next words.Section = other
word_next words.End = other
word_next words.Open = other
word_next words.Universe = other
word_next words.Variable = other
word_next words.Structure = other
word_next words.Class = other
word_next words.Instance = other
word_next words.Print = other
word_next words.Check = other
word_next words.Reduce = other
word_next words.LeftOut = other
word_next words.Fun = other
word_next words.Forall = other
word_next words.Let = other
word_next words.By = other
word_next words.Where = other
word_next words.PropWord = other
word_next words.TypeWord = other
word_next words.SortWord = other
word_next words.Sorry = other
word_next words.LeftParen = other
word_next words.RightParen = closer
word_next words.LeftBrace = other
word_next words.RightBrace = closer
word_next words.LeftBracket = other
word_next words.RightBracket = closer
word_next words.Colon = at_colon
word_next words.Assign = closer
word_next words.Comma = closer
word_next words.Semicolon = closer
word_next words.FatArrow = closer
word_next words.AtSign = other
word_next words.LevelBrace = other
word_next words.Dot = other
word_next words.Bar = other
word_next words.NotSign = other
word_next words.BackArrow = other
word_next words.Underscore = other
word_next words.LayoutOpen = other
word_next words.LayoutSep = other
word_next words.LayoutClose = closer

-- The first of the tokens that finish a symbol and what is below it.
abbrev pub next_of : Symbol → Next → Next
next_of command n = other
next_of (token w) n = word_next w
next_of arrow_token n = other
next_of number_token n = other
next_of any_name n = other
next_of one_part n = other
next_of binder_name n = other
next_of optional_name n = n
next_of any_names n = n
next_of one_parts n = n
next_of binder_names n = n
next_of level_names n = n
next_of more_level_names n = closer
next_of binder n = other
next_of parameters n = n
next_of lambda_binder n = other
next_of lambda_binders n = n
next_of implicit_end n = closer
next_of def_rest n = closer
next_of type_option n = n
next_of where_option n = n
next_of ctors n = n
next_of helpers n = n
next_of helper n = other
next_of more_helpers n = closer
next_of (term l) n = other
next_of arguments n = n
next_of (operators l m) n = n
next_of (group at) n = other
next_of (group_names at before x) n = closer
next_of group_end n = closer
next_of group_close n = closer
next_of binder_end n = n
next_of written_levels n = n
next_of more_levels n = closer
next_of level n = other
next_of plus_option n = n
next_of level_atom n = other
next_of level_atoms n = n
next_of (max_rest x) n = n
next_of (imax_rest x) n = n
next_of block n = other
next_of more_items n = closer
next_of item n = other
next_of rw_rule n = other
next_of more_rules n = closer
next_of (bracket at) n = other
next_of (bracket_name at x) n = closer
next_of def_body n = closer
next_of fields_option n = n
next_of field n = other
next_of more_fields n = closer
next_of axioms_word n = other
next_of alternatives n = n
next_of pattern n = other
next_of (pattern_rest x) n = n
next_of numeral_one n = other

abbrev pub next : List Symbol → Next → Next
next [] n = n
next (x ∷ xs) n = next_of x (next xs n)

-- Each of these symbols, with n behind them, is followed by what it asks.
abbrev pub settled : List Symbol → Next → Bool
settled [] n = true
settled (x ∷ xs) n = allows (asks x) (next xs n) && settled xs n

-- Whatever a symbol allows behind it, these symbols in its place allow too.
abbrev pub serves : Asks → List Symbol → Bool
serves a xs =
    (not (allows a at_end) || settled xs at_end) && (not (allows a closer) || settled xs closer) &&
    (not (allows a at_colon) || settled xs at_colon) && (not (allows a other) || settled xs other)
