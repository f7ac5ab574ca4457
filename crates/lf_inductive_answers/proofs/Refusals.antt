use Rattle.std.proofs.Common.{refl}
use Rattle.std.specs.Char.{encode_utf8}
use Rattle.std.specs.Fmt.{digits}
use Rattle.lf_core.specs.Suffix.{suffix_of, equation_of}
use Rattle.lf_checker.specs.LevelTest.{is_same, is_at_most}
use Rattle.lf_checker.specs.Whnf.{turn_limit, whnf_body}
use Rattle.lf_checker.specs.Infer.{infer_body}
use Rattle.lf_checker.specs.Equal.{equal_body}
use Rattle.lf_checker.specs.Normalize.{normalize_body}
use Rattle.lf_inductive_answers.specs.Refusals.{Refusals}

pub refusals : Refusals
unfolding encode_utf8 digits suffix_of equation_of is_same is_at_most turn_limit whnf_body infer_body equal_body normalize_body
refusals = record {
  negative = refl;
  negative_deeper = refl;
  in_index = refl;
  in_lists = refl;
  at_another_parameter = refl;
  at_other_levels = refl;
  ends_at_other_levels = refl;
  ends_at_another_parameter = refl;
  ends_elsewhere = refl;
  ends_with_own_index = refl;
  ends_with_too_few_indices = refl;
  ends_with_too_many_indices = refl;
  too_few_not_positive = refl;
  too_many_not_positive = refl;
  too_few_no_type = refl;
  too_many_no_function = refl;
  parameter_renamed_inside = refl;
  parameter_not_taken = refl;
  field_too_high = refl;
  second_field_too_high = refl;
  field_is_no_type = refl;
  field_holds_no_type = refl;
  field_unknown = refl;
  no_sort = refl;
  sort_not_written = refl;
  too_few_pis = refl;
  no_type = refl;
  variable_in_type = refl;
  loose_in_type = refl;
  variable_in_constructor = refl;
  metavariable_in_constructor = refl;
  variable_under_a_taken_name = refl;
  type_is_there = refl;
  type_is_in_base = refl;
  constructor_is_there = refl;
  recursor_is_there = refl;
  constructor_twice = refl;
  constructor_as_type = refl;
  constructor_as_recursor = refl;
  first_twice = refl;
  twice_before_waiting = refl;
  positive_before_low = refl;
  new_before_typed = refl;
  type_before_constructor = refl;
  constructor_before_recursor = refl;
  first_constructor = refl;
  constructor_there_as_recursor = refl;
}
