use Rattle.std.proofs.Common.{refl}
use Rattle.std.specs.Char.{encode_utf8}
use Rattle.std.specs.Fmt.{digits}
use Rattle.lf_core.specs.Suffix.{suffix_of, equation_of}
use Rattle.lf_checker.specs.LevelTest.{is_same, is_at_most}
use Rattle.lf_checker.specs.Whnf.{turn_limit, whnf_body}
use Rattle.lf_checker.specs.Infer.{infer_body}
use Rattle.lf_checker.specs.Equal.{equal_body}
use Rattle.lf_checker.specs.Normalize.{normalize_body}
use Rattle.lf_inductive_answers.specs.Structures.{Structures}

pub structures : Structures
unfolding encode_utf8 digits suffix_of equation_of is_same is_at_most turn_limit whnf_body infer_body equal_body normalize_body
structures = record {
  of_constructor = refl;
  of_constructor_too_few = refl;
  of_constructor_applied = refl;
  of_variable = refl;
  too_high = refl;
  of_definition = refl;
  first_field = refl;
  first_field_too_few = refl;
  second_field = refl;
  after_an_earlier_field = refl;
  at_parameters = refl;
  tested = refl;
  untested = refl;
  field_too_high = refl;
  of_another = refl;
  with_index = refl;
  recursive = refl;
  several_constructors = refl;
  proposition = refl;
  other_number_of_levels = refl;
  parameter_missing = refl;
  normal = refl;
  normal_applied = refl;
  under_a_projection = refl;
  another_under_a_projection = refl;
  own_projection_untyped = refl;
  eta_left = refl;
  eta_left_too_few = refl;
  eta_right = refl;
  eta_right_too_few = refl;
  exchanged_left = refl;
  exchanged_right = refl;
  unit_left = refl;
  unit_right = refl;
  units = refl;
  boxed_left = refl;
  boxed_right = refl;
  boxed_at_another_level = refl;
  boxed_at_another_type = refl;
  no_eta = refl;
  one_field = refl;
  two_fields = refl;
  two_terms = refl;
  both_built = refl;
  field_by_definition = refl;
  eta_by_definition = refl;
}
