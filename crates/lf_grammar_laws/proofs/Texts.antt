-- The worked texts, by the machine.
use Rattle.std.proofs.Common.{◌≡◌, refl, List, length, subst}
use Rattle.std.specs.Str.{chars}
use Rattle.std.specs.Char.{encode_utf8}
use Rattle.unicode_ident.proofs.Computing.{unicode_ident}
use Rattle.lf_text.specs.Lexemes.{lexemes_of, starts_part, continues_part}
use Rattle.lf_text.specs.Tokens.{tokens_of}
use Rattle.lf_syntax.specs.Piece.{Piece}
use Rattle.lf_syntax.specs.Classes.{pieces_of}
use Rattle.lf_grammar_lemmas.specs.Outcome.{outcome, answer_of, machine_command, machine_commands}
use Rattle.lf_syntax.specs.Document.{CommandsOf, IsCommand}
use Rattle.lf_syntax.specs.declared.command.Command.{Command}
use Rattle.lf_grammar_laws.specs.Worked.{
  Text,
  Right,
  Worked,
  bad_and_good,
  too_short,
  too_wide,
  TooDeep,
  NotTooDeep,
  three_parentheses,
  check_of,
  Document,
  Has,
  def_without_name_text,
  axiom_without_type_text,
  wide_numeral_text,
  bad_character_behind_a_bad_token_text,
  no_command_word_text,
  left_out_command_text,
  attribute_in_a_term_text,
  type_of_an_application_text,
  type_before_written_levels_text,
  type_of_a_sum_text,
  type_of_a_maximum_text,
  type_of_no_level_text,
  sort_of_a_bare_maximum_text,
  maximum_of_one_level_text,
  levels_in_braces_text,
  sides_text,
  arrows_and_connectives_text,
  equality_of_three_text,
  iff_of_three_text,
  lead_as_the_left_side_text,
  not_reaches_over_an_equality_text,
  not_behind_a_sum_text,
  not_stops_before_and_text,
  arrow_behind_a_binder_text,
  arrow_as_an_argument_text,
  arrow_behind_an_equality_text,
  two_groups_and_an_arrow_text,
  braces_and_an_arrow_text,
  names_with_a_type_text,
  names_that_go_on_text,
  braces_without_a_type_text,
  binders_of_fun_text,
  let_in_a_let_text,
  by_at_the_end_text,
  exact_at_the_end_text,
  items_text,
  nested_dots_text,
  where_behind_a_value_text,
  definition_without_a_type_text,
  helpers_text,
  theorem_text,
  constructors_text,
  no_constructors_text,
  axiom_with_levels_text,
  namespace_text,
  section_without_a_name_text,
  end_with_a_name_text,
  open_names_text,
  universe_names_text,
  variables_text,
  reduction_text,
}
use Rattle.lf_grammar_lemmas.proofs.Grammar.{machine_answers}
use Rattle.lf_grammar_lemmas.proofs.Document.{machine_document, machine_finds}

right : (t : Text) → answer_of (outcome (pieces_of t.bytes)) ≡ t.answer (pieces_of t.bytes) → Right t
right t e = (machine_answers (pieces_of t.bytes) (t.answer (pieces_of t.bytes))).1 e

has : (d : Document) → machine_commands (length (pieces_of d.bytes)) (pieces_of d.bytes) ≡ d.commands → Has d
has d e = subst (CommandsOf d.bytes) e (machine_document d.bytes)

command_is : (ts : List Piece) (c : Command) → machine_command ts ≡ c → IsCommand ts c
command_is ts c e = subst (IsCommand ts) e (machine_finds ts)

def_without_name_text_right : Right def_without_name_text
unfolding lexemes_of tokens_of chars starts_part continues_part unicode_ident encode_utf8
def_without_name_text_right = right def_without_name_text refl

axiom_without_type_text_right : Right axiom_without_type_text
unfolding lexemes_of tokens_of chars starts_part continues_part unicode_ident encode_utf8
axiom_without_type_text_right = right axiom_without_type_text refl

wide_numeral_text_right : Right wide_numeral_text
unfolding lexemes_of tokens_of chars starts_part continues_part unicode_ident encode_utf8
wide_numeral_text_right = right wide_numeral_text refl

bad_character_behind_a_bad_token_text_right : Right bad_character_behind_a_bad_token_text
unfolding lexemes_of tokens_of chars starts_part continues_part unicode_ident encode_utf8
bad_character_behind_a_bad_token_text_right = right bad_character_behind_a_bad_token_text refl

no_command_word_text_right : Right no_command_word_text
unfolding lexemes_of tokens_of chars starts_part continues_part unicode_ident encode_utf8
no_command_word_text_right = right no_command_word_text refl

left_out_command_text_right : Right left_out_command_text
unfolding lexemes_of tokens_of chars starts_part continues_part unicode_ident encode_utf8
left_out_command_text_right = right left_out_command_text refl

attribute_in_a_term_text_right : Right attribute_in_a_term_text
unfolding lexemes_of tokens_of chars starts_part continues_part unicode_ident encode_utf8
attribute_in_a_term_text_right = right attribute_in_a_term_text refl

type_of_an_application_text_right : Right type_of_an_application_text
unfolding lexemes_of tokens_of chars starts_part continues_part unicode_ident encode_utf8
type_of_an_application_text_right = right type_of_an_application_text refl

type_before_written_levels_text_right : Right type_before_written_levels_text
unfolding lexemes_of tokens_of chars starts_part continues_part unicode_ident encode_utf8
type_before_written_levels_text_right = right type_before_written_levels_text refl

type_of_a_sum_text_right : Right type_of_a_sum_text
unfolding lexemes_of tokens_of chars starts_part continues_part unicode_ident encode_utf8
type_of_a_sum_text_right = right type_of_a_sum_text refl

type_of_a_maximum_text_right : Right type_of_a_maximum_text
unfolding lexemes_of tokens_of chars starts_part continues_part unicode_ident encode_utf8
type_of_a_maximum_text_right = right type_of_a_maximum_text refl

type_of_no_level_text_right : Right type_of_no_level_text
unfolding lexemes_of tokens_of chars starts_part continues_part unicode_ident encode_utf8
type_of_no_level_text_right = right type_of_no_level_text refl

sort_of_a_bare_maximum_text_right : Right sort_of_a_bare_maximum_text
unfolding lexemes_of tokens_of chars starts_part continues_part unicode_ident encode_utf8
sort_of_a_bare_maximum_text_right = right sort_of_a_bare_maximum_text refl

maximum_of_one_level_text_right : Right maximum_of_one_level_text
unfolding lexemes_of tokens_of chars starts_part continues_part unicode_ident encode_utf8
maximum_of_one_level_text_right = right maximum_of_one_level_text refl

levels_in_braces_text_right : Right levels_in_braces_text
unfolding lexemes_of tokens_of chars starts_part continues_part unicode_ident encode_utf8
levels_in_braces_text_right = right levels_in_braces_text refl

sides_text_right : Right sides_text
unfolding lexemes_of tokens_of chars starts_part continues_part unicode_ident encode_utf8
sides_text_right = right sides_text refl

arrows_and_connectives_text_right : Right arrows_and_connectives_text
unfolding lexemes_of tokens_of chars starts_part continues_part unicode_ident encode_utf8
arrows_and_connectives_text_right = right arrows_and_connectives_text refl

equality_of_three_text_right : Right equality_of_three_text
unfolding lexemes_of tokens_of chars starts_part continues_part unicode_ident encode_utf8
equality_of_three_text_right = right equality_of_three_text refl

iff_of_three_text_right : Right iff_of_three_text
unfolding lexemes_of tokens_of chars starts_part continues_part unicode_ident encode_utf8
iff_of_three_text_right = right iff_of_three_text refl

lead_as_the_left_side_text_right : Right lead_as_the_left_side_text
unfolding lexemes_of tokens_of chars starts_part continues_part unicode_ident encode_utf8
lead_as_the_left_side_text_right = right lead_as_the_left_side_text refl

not_reaches_over_an_equality_text_right : Right not_reaches_over_an_equality_text
unfolding lexemes_of tokens_of chars starts_part continues_part unicode_ident encode_utf8
not_reaches_over_an_equality_text_right = right not_reaches_over_an_equality_text refl

not_behind_a_sum_text_right : Right not_behind_a_sum_text
unfolding lexemes_of tokens_of chars starts_part continues_part unicode_ident encode_utf8
not_behind_a_sum_text_right = right not_behind_a_sum_text refl

not_stops_before_and_text_right : Right not_stops_before_and_text
unfolding lexemes_of tokens_of chars starts_part continues_part unicode_ident encode_utf8
not_stops_before_and_text_right = right not_stops_before_and_text refl

arrow_behind_a_binder_text_right : Right arrow_behind_a_binder_text
unfolding lexemes_of tokens_of chars starts_part continues_part unicode_ident encode_utf8
arrow_behind_a_binder_text_right = right arrow_behind_a_binder_text refl

arrow_as_an_argument_text_right : Right arrow_as_an_argument_text
unfolding lexemes_of tokens_of chars starts_part continues_part unicode_ident encode_utf8
arrow_as_an_argument_text_right = right arrow_as_an_argument_text refl

arrow_behind_an_equality_text_right : Right arrow_behind_an_equality_text
unfolding lexemes_of tokens_of chars starts_part continues_part unicode_ident encode_utf8
arrow_behind_an_equality_text_right = right arrow_behind_an_equality_text refl

two_groups_and_an_arrow_text_right : Right two_groups_and_an_arrow_text
unfolding lexemes_of tokens_of chars starts_part continues_part unicode_ident encode_utf8
two_groups_and_an_arrow_text_right = right two_groups_and_an_arrow_text refl

braces_and_an_arrow_text_right : Right braces_and_an_arrow_text
unfolding lexemes_of tokens_of chars starts_part continues_part unicode_ident encode_utf8
braces_and_an_arrow_text_right = right braces_and_an_arrow_text refl

names_with_a_type_text_right : Right names_with_a_type_text
unfolding lexemes_of tokens_of chars starts_part continues_part unicode_ident encode_utf8
names_with_a_type_text_right = right names_with_a_type_text refl

names_that_go_on_text_right : Right names_that_go_on_text
unfolding lexemes_of tokens_of chars starts_part continues_part unicode_ident encode_utf8
names_that_go_on_text_right = right names_that_go_on_text refl

braces_without_a_type_text_right : Right braces_without_a_type_text
unfolding lexemes_of tokens_of chars starts_part continues_part unicode_ident encode_utf8
braces_without_a_type_text_right = right braces_without_a_type_text refl

binders_of_fun_text_right : Right binders_of_fun_text
unfolding lexemes_of tokens_of chars starts_part continues_part unicode_ident encode_utf8
binders_of_fun_text_right = right binders_of_fun_text refl

let_in_a_let_text_right : Right let_in_a_let_text
unfolding lexemes_of tokens_of chars starts_part continues_part unicode_ident encode_utf8
let_in_a_let_text_right = right let_in_a_let_text refl

by_at_the_end_text_right : Right by_at_the_end_text
unfolding lexemes_of tokens_of chars starts_part continues_part unicode_ident encode_utf8
by_at_the_end_text_right = right by_at_the_end_text refl

exact_at_the_end_text_right : Right exact_at_the_end_text
unfolding lexemes_of tokens_of chars starts_part continues_part unicode_ident encode_utf8
exact_at_the_end_text_right = right exact_at_the_end_text refl

items_text_right : Right items_text
unfolding lexemes_of tokens_of chars starts_part continues_part unicode_ident encode_utf8
items_text_right = right items_text refl

nested_dots_text_right : Right nested_dots_text
unfolding lexemes_of tokens_of chars starts_part continues_part unicode_ident encode_utf8
nested_dots_text_right = right nested_dots_text refl

where_behind_a_value_text_right : Right where_behind_a_value_text
unfolding lexemes_of tokens_of chars starts_part continues_part unicode_ident encode_utf8
where_behind_a_value_text_right = right where_behind_a_value_text refl

definition_without_a_type_text_right : Right definition_without_a_type_text
unfolding lexemes_of tokens_of chars starts_part continues_part unicode_ident encode_utf8
definition_without_a_type_text_right = right definition_without_a_type_text refl

helpers_text_right : Right helpers_text
unfolding lexemes_of tokens_of chars starts_part continues_part unicode_ident encode_utf8
helpers_text_right = right helpers_text refl

theorem_text_right : Right theorem_text
unfolding lexemes_of tokens_of chars starts_part continues_part unicode_ident encode_utf8
theorem_text_right = right theorem_text refl

constructors_text_right : Right constructors_text
unfolding lexemes_of tokens_of chars starts_part continues_part unicode_ident encode_utf8
constructors_text_right = right constructors_text refl

no_constructors_text_right : Right no_constructors_text
unfolding lexemes_of tokens_of chars starts_part continues_part unicode_ident encode_utf8
no_constructors_text_right = right no_constructors_text refl

axiom_with_levels_text_right : Right axiom_with_levels_text
unfolding lexemes_of tokens_of chars starts_part continues_part unicode_ident encode_utf8
axiom_with_levels_text_right = right axiom_with_levels_text refl

namespace_text_right : Right namespace_text
unfolding lexemes_of tokens_of chars starts_part continues_part unicode_ident encode_utf8
namespace_text_right = right namespace_text refl

section_without_a_name_text_right : Right section_without_a_name_text
unfolding lexemes_of tokens_of chars starts_part continues_part unicode_ident encode_utf8
section_without_a_name_text_right = right section_without_a_name_text refl

end_with_a_name_text_right : Right end_with_a_name_text
unfolding lexemes_of tokens_of chars starts_part continues_part unicode_ident encode_utf8
end_with_a_name_text_right = right end_with_a_name_text refl

open_names_text_right : Right open_names_text
unfolding lexemes_of tokens_of chars starts_part continues_part unicode_ident encode_utf8
open_names_text_right = right open_names_text refl

universe_names_text_right : Right universe_names_text
unfolding lexemes_of tokens_of chars starts_part continues_part unicode_ident encode_utf8
universe_names_text_right = right universe_names_text refl

variables_text_right : Right variables_text
unfolding lexemes_of tokens_of chars starts_part continues_part unicode_ident encode_utf8
variables_text_right = right variables_text refl

reduction_text_right : Right reduction_text
unfolding lexemes_of tokens_of chars starts_part continues_part unicode_ident encode_utf8
reduction_text_right = right reduction_text refl

bad_and_good_right : Has bad_and_good
unfolding lexemes_of tokens_of chars starts_part continues_part unicode_ident encode_utf8
bad_and_good_right = has bad_and_good refl

too_short_right : Has too_short
unfolding lexemes_of tokens_of chars starts_part continues_part unicode_ident encode_utf8
too_short_right = has too_short refl

too_wide_right : Has too_wide
unfolding lexemes_of tokens_of chars starts_part continues_part unicode_ident encode_utf8
too_wide_right = has too_wide refl

deep_right : TooDeep
deep_right = command_is (check_of 257) _ refl

not_deep_right : NotTooDeep
not_deep_right = command_is (check_of 256) _ refl

three_right : three_parentheses
unfolding lexemes_of tokens_of chars starts_part continues_part unicode_ident encode_utf8
three_right = refl

pub worked : Worked
worked = (
  def_without_name_text_right,
  axiom_without_type_text_right,
  wide_numeral_text_right,
  bad_character_behind_a_bad_token_text_right,
  no_command_word_text_right,
  left_out_command_text_right,
  attribute_in_a_term_text_right,
  type_of_an_application_text_right,
  type_before_written_levels_text_right,
  type_of_a_sum_text_right,
  type_of_a_maximum_text_right,
  type_of_no_level_text_right,
  sort_of_a_bare_maximum_text_right,
  maximum_of_one_level_text_right,
  levels_in_braces_text_right,
  sides_text_right,
  arrows_and_connectives_text_right,
  equality_of_three_text_right,
  iff_of_three_text_right,
  lead_as_the_left_side_text_right,
  not_reaches_over_an_equality_text_right,
  not_behind_a_sum_text_right,
  not_stops_before_and_text_right,
  arrow_behind_a_binder_text_right,
  arrow_as_an_argument_text_right,
  arrow_behind_an_equality_text_right,
  two_groups_and_an_arrow_text_right,
  braces_and_an_arrow_text_right,
  names_with_a_type_text_right,
  names_that_go_on_text_right,
  braces_without_a_type_text_right,
  binders_of_fun_text_right,
  let_in_a_let_text_right,
  by_at_the_end_text_right,
  exact_at_the_end_text_right,
  items_text_right,
  nested_dots_text_right,
  where_behind_a_value_text_right,
  definition_without_a_type_text_right,
  helpers_text_right,
  theorem_text_right,
  constructors_text_right,
  no_constructors_text_right,
  axiom_with_levels_text_right,
  namespace_text_right,
  section_without_a_name_text_right,
  end_with_a_name_text_right,
  open_names_text_right,
  universe_names_text_right,
  variables_text_right,
  reduction_text_right,
  bad_and_good_right,
  too_short_right,
  too_wide_right,
  deep_right,
  not_deep_right,
  three_right,
)
