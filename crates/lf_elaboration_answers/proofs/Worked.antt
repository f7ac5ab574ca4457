use Rattle.std.proofs.Common.{refl}
use Rattle.std.specs.Char.{encode_utf8}
use Rattle.std.specs.Fmt.{digits}
use Rattle.lf_core.specs.Suffix.{suffix_of, equation_of}
use Rattle.lf_print.specs.Mark.{mark_text}
use Rattle.lf_checker.specs.LevelTest.{is_same}
use Rattle.lf_checker.specs.Whnf.{turn_limit, whnf_body}
use Rattle.lf_checker.specs.Infer.{infer_body}
use Rattle.lf_checker.specs.Equal.{equal_body}
use Rattle.lf_checker.specs.Normalize.{normalize_body}
use Rattle.lf_elaboration.specs.Metavariables.{level_at, term_at, chain_limit}
use Rattle.lf_elaboration.specs.Unifier.{unify_body}
use Rattle.lf_elaboration.specs.Terms.{elaborate_body}
use Rattle.lf_elaboration.specs.Proof.{prove_body}
use Rattle.lf_elaboration_answers.specs.Worked.{Answers}

pub answers : Answers
unfolding encode_utf8 digits suffix_of equation_of mark_text is_same turn_limit whnf_body
    infer_body equal_body normalize_body level_at term_at chain_limit unify_body elaborate_body prove_body
answers = record {
  occurs = refl;
  scope = refl;
  arrow = refl;
  undone = refl;
  motive_twice = refl;
  motive_nowhere = refl;
  by_exact = refl;
  by_assumption = refl;
  no_goals = refl;
  two_messages = refl;
  two_sorries = refl;
  by_rw = refl;
  rw_nowhere = refl;
  by_induction = refl;
  by_cases = refl;
  two_blocks_expected = refl;
  by_injection = refl;
  injection_asks = refl;
  injection_on_literal = refl;
  by_unfold = refl;
  unfold_nowhere = refl;
  unfold_asks = refl;
  by_apply = refl;
  by_have = refl;
  unsolved = refl;
  no_pi = refl;
  no_assumption = refl;
  untyped_binder = refl;
  binder_by_expected = refl;
  no_variable_escapes = refl;
  no_identifier = refl;
  no_function = refl;
  by_without_type = refl;
}
