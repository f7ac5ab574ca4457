use Rattle.std.proofs.Common.{refl}
use Rattle.std.specs.Char.{encode_utf8}
use Rattle.std.specs.Fmt.{digits}
use Rattle.lf_core.specs.Suffix.{suffix_of, equation_of}
use Rattle.lf_checker.specs.LevelTest.{is_same}
use Rattle.lf_checker.specs.Whnf.{turn_limit, whnf_body}
use Rattle.lf_checker.specs.Infer.{infer_body}
use Rattle.lf_checker.specs.Equal.{equal_body}
use Rattle.lf_checker.specs.Normalize.{normalize_body}
use Rattle.lf_checker_answers.specs.Worked.{Answers}

pub answers : Answers
unfolding encode_utf8 digits suffix_of equation_of is_same turn_limit whnf_body infer_body equal_body normalize_body
answers = record {
  infer_prop = refl;
  infer_without_units = refl;
  whnf_beta = refl;
  whnf_too_few = refl;
  sum_of_literals = refl;
  sum_too_great = refl;
  nested = refl;
  nested_too_deep = refl;
  by_height = refl;
  another_number = refl;
  eta = refl;
  proofs = refl;
  members = refl;
  recursor = refl;
  units_per_number = refl;
  stuck = refl;
  like_k = refl;
  not_like_k = refl;
  under_binders = refl;
  first_need = refl;
  tested = refl;
  untested = refl;
  not_like_several = refl;
  proofs_before_eta = refl;
  proofs_before_eta_too_few = refl;
  normal_domain = refl;
  height_of_bound = refl;
  sort_of_metavariable = refl;
  metavariable_is_not_closed = refl;
  whnf_let = refl;
  sum_without_definitions = refl;
  operand_unfolds = refl;
  operands_in_order = refl;
  zero_operand = refl;
  major_unfolds = refl;
  greatest_successor = refl;
  greatest_normal = refl;
  greatest_left = refl;
  greatest_right = refl;
  zero_left = refl;
  zero_right = refl;
  definition_left = refl;
  definition_right = refl;
  same_sorts = refl;
  same_constants = refl;
  higher_left = refl;
  higher_right = refl;
  as_high = refl;
  arguments_first = refl;
  other_arguments = refl;
  eta_units = refl;
  eta_right_units = refl;
  no_level = refl;
  no_variable = refl;
  loose = refl;
  no_metavariable = refl;
  no_function = refl;
  no_type = refl;
  let_no_type = refl;
  let_value = refl;
  type_of_metavariable = refl;
  untested_lambda = refl;
  untested_pi = refl;
  untested_let = refl;
  normal_lambda = refl;
  normal_codomain = refl;
  header = refl;
  header_nested = refl;
  header_open = refl;
  header_there = refl;
  constant_at_metavariable = refl;
  declaration = refl;
  declaration_too_few = refl;
  no_value = refl;
  declaration_open = refl;
  declaration_there = refl;
  other_value = refl;
  sort_as_deep = refl;
  sort_too_deep = refl;
  pi_too_deep = refl;
  lambda_too_deep = refl;
  before_arguments_too_deep = refl;
  normal_lambda_too_deep = refl;
  normal_pi_too_deep = refl;
  normal_application_too_deep = refl;
  proofs_by_definition = refl;
  function_by_definition = refl;
  eta_by_definition = refl;
  other_sorts = refl;
  other_domain = refl;
  other_lambda_domain = refl;
  other_binder = refl;
  let_units = refl;
  heights = refl;
  height_of_unknown = refl;
  height_of_axiom = refl;
  greatest_height = refl;
  other_value_units = refl;
  let_value_units = refl;
  other_proposition = refl;
}
