use Rattle.std.proofs.Common.{refl}
use Rattle.std.specs.Char.{encode_utf8}
use Rattle.std.specs.Fmt.{digits}
use Rattle.lf_core.specs.Suffix.{suffix_of, equation_of}
use Rattle.lf_print.specs.Mark.{mark_text}
use Rattle.lf_checker.specs.LevelTest.{is_same, is_at_most}
use Rattle.lf_checker.specs.Whnf.{turn_limit, whnf_body}
use Rattle.lf_checker.specs.Infer.{infer_body}
use Rattle.lf_checker.specs.Equal.{equal_body}
use Rattle.lf_checker.specs.Normalize.{normalize_body}
use Rattle.lf_elaboration_answers.specs.Realized.{RealizedAnswers}

pub realized : RealizedAnswers
unfolding encode_utf8 digits suffix_of equation_of mark_text is_same is_at_most turn_limit whnf_body infer_body equal_body normalize_body
realized = record {
  unfolding_of_constant = refl;
  unfolding_of_function = refl;
  unfolding_by_other_name = refl;
  unfolding_of_unproved = refl;
  injectivity = refl;
  injectivity_of_proofs = refl;
  without_fields = refl;
  equivalence = refl;
  equivalence_of_two = refl;
  first_case = refl;
  second_case = refl;
  list_of_lists = refl;
  no_third_case = refl;
  no_recursion = refl;
  too_few_units = refl;
  axioms_of_definition = refl;
  no_axioms = refl;
}
