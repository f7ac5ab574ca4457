use Rattle.std.proofs.Common.{refl}
use Rattle.std.specs.Char.{encode_utf8}
use Rattle.lf_core.specs.Suffix.{suffix_of, equation_of}
use Rattle.lf_checker.specs.LevelTest.{is_same}
use Rattle.lf_checker.specs.Whnf.{turn_limit, whnf_body}
use Rattle.lf_checker.specs.Infer.{infer_body}
use Rattle.lf_checker.specs.Equal.{equal_body}
use Rattle.lf_elaboration.specs.Metavariables.{level_at, term_at, chain_limit}
use Rattle.lf_elaboration.specs.Unifier.{unify_body}
use Rattle.lf_resolution_answers.specs.Instances.{InstanceAnswers}

pub answers : InstanceAnswers
unfolding encode_utf8 suffix_of equation_of is_same turn_limit whnf_body infer_body equal_body level_at term_at chain_limit unify_body
answers = record {
  one = refl;
  the_later = refl;
  local_first = refl;
  other_type = refl;
  no_class = refl;
  of_pair = refl;
  of_pair_of_pairs = refl;
  given_up = refl;
  left_open = refl;
  level_left_open = refl;
  by_unification = refl;
  endless = refl;
  costs = refl;
  too_few = refl;
  unknown = refl;
  waited_for = refl;
  not_waited_for = refl;
}
