use Rattle.std.proofs.Common.{refl}
use Rattle.std.specs.Char.{encode_utf8}
use Rattle.std.specs.Fmt.{digits}
use Rattle.lf_core.specs.Suffix.{suffix_of, equation_of}
use Rattle.lf_checker.specs.LevelTest.{is_same, is_at_most as is_low}
use Rattle.lf_checker.specs.Whnf.{turn_limit, whnf_body}
use Rattle.lf_checker.specs.Infer.{infer_body}
use Rattle.lf_checker.specs.Equal.{equal_body}
use Rattle.lf_checker.specs.Normalize.{normalize_body}
use Rattle.lf_checker_answers.specs.Ordinary.{OrdinaryAnswers}

pub ordinary_answers : OrdinaryAnswers
unfolding encode_utf8 digits suffix_of equation_of is_same is_low turn_limit whnf_body infer_body equal_body normalize_body
ordinary_answers = record {
  truth_values = refl;
  numbers = refl;
  predecessor_height = refl;
  sum_height = refl;
  difference_height = refl;
  product_height = refl;
  equal_height = refl;
  at_most_height = refl;
  three_and_four = refl;
  three_less_five = refl;
  five_less_three = refl;
  three_times_four = refl;
  three_is_three = refl;
  three_is_not_two = refl;
  two_is_not_three = refl;
  two_at_most_three = refl;
  three_at_most_three = refl;
  not_three_at_most_two = refl;
  literal_sum = refl;
  literal_difference = refl;
  literal_difference_stops = refl;
  literal_product = refl;
  literal_quotient = refl;
  literal_quotient_by_zero = refl;
  literal_remainder = refl;
  literal_remainder_by_zero = refl;
  literal_and = refl;
  literal_or = refl;
  literal_xor = refl;
  literal_same = refl;
  literal_not_same = refl;
  literal_at_most = refl;
  literal_not_at_most = refl;
}
