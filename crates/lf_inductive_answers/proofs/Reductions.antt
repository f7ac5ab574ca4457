use Rattle.std.proofs.Common.{refl}
use Rattle.std.specs.Char.{encode_utf8}
use Rattle.std.specs.Fmt.{digits}
use Rattle.lf_core.specs.Suffix.{suffix_of, equation_of}
use Rattle.lf_checker.specs.LevelTest.{is_same, is_at_most}
use Rattle.lf_checker.specs.Whnf.{turn_limit, whnf_body}
use Rattle.lf_checker.specs.Infer.{infer_body}
use Rattle.lf_checker.specs.Equal.{equal_body}
use Rattle.lf_checker.specs.Normalize.{normalize_body}
use Rattle.lf_inductive_answers.specs.Reductions.{Reductions}

pub reductions : Reductions
unfolding encode_utf8 digits suffix_of equation_of is_same is_at_most turn_limit whnf_body infer_body equal_body normalize_body
reductions = record {
  counts_literal = refl;
  counts_successors = refl;
  at_successor = refl;
  at_successor_too_few = refl;
  at_literal = refl;
  at_zero = refl;
  at_zero_literal = refl;
  at_variable = refl;
  no_argument = refl;
  another_type = refl;
  no_level = refl;
  along_refl = refl;
  along_loop = refl;
  along_path = refl;
  along_number = refl;
  along_wrong_number = refl;
  any_truth = refl;
  any_unit = refl;
  the_unit = refl;
  list_length = refl;
  left_proof = refl;
  access = refl;
  tree = refl;
  at_greatest_literal = refl;
  any_truth_units = refl;
  any_conjunction = refl;
}
