use Rattle.std.proofs.Common.{refl}
use Rattle.std.specs.Char.{encode_utf8}
use Rattle.std.specs.Fmt.{digits}
use Rattle.lf_core.specs.Suffix.{suffix_of, equation_of}
use Rattle.lf_print.specs.Mark.{mark_text}
use Rattle.lf_checker.specs.LevelTest.{is_same}
use Rattle.lf_checker.specs.Whnf.{turn_limit, whnf_body}
use Rattle.lf_checker.specs.Infer.{infer_body}
use Rattle.lf_checker.specs.Equal.{equal_body}
use Rattle.lf_checker.specs.Normalize.{normalize_body}
use Rattle.lf_elaboration.specs.Metavariables.{level_at, term_at, chain_limit}
use Rattle.lf_elaboration.specs.Unifier.{unify_body}
use Rattle.lf_elaboration.specs.Terms.{elaborate_body}
use Rattle.lf_elaboration.specs.Proof.{prove_body}
use Rattle.lf_elaboration_answers.specs.Settled.{SettledAnswers}

pub settled : SettledAnswers
unfolding encode_utf8 digits suffix_of equation_of mark_text is_same turn_limit whnf_body
    infer_body equal_body normalize_body level_at term_at chain_limit unify_body elaborate_body prove_body
settled = record {
  abstraction = refl;
  lambda = refl;
  literals_first = refl;
  left_level = refl;
  same_level = refl;
  level_tree = refl;
  maximum = refl;
  rw_by_tree = refl;
  cases_term = refl;
  cases_on_pi = refl;
  goals_in_order = refl;
  written_type = refl;
  one_binder_more = refl;
  no_function_by_name = refl;
  no_type_by_name = refl;
  sorry_proof = refl;
  sorry_number = refl;
  block_too_late = refl;
}
