use Rattle.std.proofs.Common.{refl}
use Rattle.std.specs.Char.{encode_utf8}
use Rattle.std.specs.Fmt.{digits}
use Rattle.lf_core.specs.Suffix.{spelling, suffix_of, equation_of}
use Rattle.lf_print.specs.Mark.{mark_text}
use Rattle.lf_checker.specs.LevelTest.{is_same, is_at_most}
use Rattle.lf_checker.specs.Whnf.{turn_limit, whnf_body}
use Rattle.lf_checker.specs.Infer.{infer_body}
use Rattle.lf_checker.specs.Equal.{equal_body}
use Rattle.lf_checker.specs.Normalize.{normalize_body}
use Rattle.lf_elaboration.specs.Metavariables.{level_at, term_at, chain_limit}
use Rattle.lf_elaboration.specs.Unifier.{unify_body}
use Rattle.lf_elaboration.specs.Terms.{elaborate_body}
use Rattle.lf_elaboration.specs.Proof.{prove_body}
use Rattle.lf_document_answers.specs.Parts.{PartAnswers}

pub parts : PartAnswers
unfolding encode_utf8 digits spelling suffix_of equation_of mark_text is_same is_at_most turn_limit whnf_body
    infer_body equal_body normalize_body level_at term_at chain_limit unify_body elaborate_body prove_body
parts = record {
  head = refl;
  body = refl;
  no_body = refl;
  failing_body = refl;
  head_asks = refl;
  body_gives = refl;
  real_makes = refl;
  published = refl;
  no_value = refl;
  child = refl;
  ranks = refl;
  head_first = refl;
  then_body = refl;
  then_next = refl;
  not_back = refl;
}
