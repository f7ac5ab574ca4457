use Rattle.std.proofs.Common.{refl}
use Rattle.std.specs.Char.{encode_utf8}
use Rattle.std.specs.Fmt.{digits}
use Rattle.lf_core.specs.Suffix.{suffix_of, equation_of}
use Rattle.lf_checker.specs.LevelTest.{is_same}
use Rattle.lf_checker.specs.Whnf.{turn_limit, whnf_body}
use Rattle.lf_checker.specs.Infer.{infer_body}
use Rattle.lf_checker.specs.Equal.{equal_body}
use Rattle.lf_checker.specs.Normalize.{normalize_body}
use Rattle.lf_equations_answers.specs.Compiled.{CompiledAnswers}

pub answers : CompiledAnswers
unfolding encode_utf8 digits suffix_of equation_of is_same turn_limit whnf_body infer_body equal_body normalize_body
answers = record {
  term = refl;
  is_accepted = refl;
  doubled = refl;
  plus_accepted = refl;
  added = refl;
  tree_accepted = refl;
  lists_accepted = refl;
  head_of_lists = refl;
  swap_accepted = refl;
  of_sort = refl;
  of_indices = refl;
  no_pi = refl;
  not_a_case = refl;
  other_fields = refl;
  comes_twice = refl;
  is_missing = refl;
  alone = refl;
  at_number = refl;
  of_zero = refl;
  at_label = refl;
  at_function = refl;
  first_fault = refl;
  costs = refl;
  too_few = refl;
}
