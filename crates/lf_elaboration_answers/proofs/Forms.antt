use Rattle.std.proofs.Common.{refl}
use Rattle.std.specs.Char.{encode_utf8}
use Rattle.std.specs.Fmt.{digits}
use Rattle.lf_core.specs.Suffix.{suffix_of, equation_of}
use Rattle.lf_print.specs.Mark.{mark_text}
use Rattle.lf_checker.specs.LevelTest.{is_same}
use Rattle.lf_checker.specs.Whnf.{turn_limit, whnf_body}
use Rattle.lf_checker.specs.Infer.{infer_body}
use Rattle.lf_checker.specs.Equal.{equal_body}
use Rattle.lf_checker.specs.Normalize.{normalize_body}
use Rattle.lf_elaboration.specs.Metavariables.{level_at, term_at, chain_limit}
use Rattle.lf_elaboration.specs.Unifier.{unify_body}
use Rattle.lf_elaboration.specs.Terms.{elaborate_body}
use Rattle.lf_elaboration.specs.Proof.{prove_body}
use Rattle.lf_elaboration_answers.specs.Forms.{FormAnswers}

pub form : FormAnswers
unfolding encode_utf8 digits suffix_of equation_of mark_text is_same turn_limit whnf_body
    infer_body equal_body normalize_body level_at term_at chain_limit unify_body elaborate_body prove_body
form = record {
  type_as_made = refl;
  left_first = refl;
  right_pattern = refl;
  literal_heads = refl;
  no_sort = refl;
  sort_of_pi = refl;
  type_of_each = refl;
  greatest_level = refl;
  level_above = refl;
  written_stays = refl;
  any_kind = refl;
  own_binder = refl;
  let_body = refl;
  let_without_value = refl;
  stated_type = refl;
  numeral_costs = refl;
  parentheses_cost = refl;
  walk_goes_on = refl;
  unified_twice = refl;
  behind_definition = refl;
  operator_itself = refl;
  at_left_operand = refl;
  arrow_opens_nothing = refl;
  unknown_goal = refl;
  context_untested = refl;
  blocks_first = refl;
  unknown_level = refl;
  level_around_block = refl;
  level_in_block = refl;
  level_in_block_alone = refl;
  alone_costs = refl;
  pattern_costs = refl;
  type_for_each = refl;
  binders_cost = refl;
  let_type = refl;
  no_function_behind = refl;
  passed_over = refl;
  hole_left = refl;
  levels_added = refl;
}
