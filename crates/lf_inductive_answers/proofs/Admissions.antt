use Rattle.std.proofs.Common.{refl}
use Rattle.std.specs.Char.{encode_utf8}
use Rattle.std.specs.Fmt.{digits}
use Rattle.lf_core.specs.Suffix.{suffix_of, equation_of}
use Rattle.lf_checker.specs.LevelTest.{is_same, is_at_most}
use Rattle.lf_checker.specs.Whnf.{turn_limit, whnf_body}
use Rattle.lf_checker.specs.Infer.{infer_body}
use Rattle.lf_checker.specs.Equal.{equal_body}
use Rattle.lf_checker.specs.Normalize.{normalize_body}
use Rattle.lf_inductive_answers.specs.Admissions.{Admissions}

pub admissions : Admissions
unfolding encode_utf8 digits suffix_of equation_of is_same is_at_most turn_limit whnf_body infer_body equal_body normalize_body
admissions = record {
  numbers = refl;
  numbers_too_few = refl;
  truth = refl;
  truth_too_few = refl;
  conjunction = refl;
  conjunction_too_few = refl;
  nested_enough = refl;
  nested_too_deep = refl;
  names_of_lists = refl;
  details_of_lists = refl;
  details_of_equality = refl;
  details_of_vectors = refl;
  details_of_disjunction = refl;
  recursor_deep = refl;
  recursor_too_deep = refl;
  lists = refl;
  trees = refl;
  families = refl;
  fans = refl;
  vectors = refl;
  pairs = refl;
  dependent_field = refl;
  never_a_proposition = refl;
  falsity = refl;
  equality = refl;
  access = refl;
  field_is_index = refl;
  maybe_a_proposition = refl;
  disjunction = refl;
  existence = refl;
  number_held = refl;
  field_in_index = refl;
  field_hidden_in_index = refl;
  hidden_has_no_motive_level = refl;
  two_maybe_propositions = refl;
}
