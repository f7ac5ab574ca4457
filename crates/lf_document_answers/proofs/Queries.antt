use Rattle.std.proofs.Common.{refl}
use Rattle.std.specs.Char.{encode_utf8}
use Rattle.std.specs.Str.{chars}
use Rattle.std.specs.Fmt.{digits}
use Rattle.lf_core.specs.Suffix.{spelling, suffix_of, equation_of}
use Rattle.lf_print.specs.Mark.{mark_text}
use Rattle.lf_checker.specs.LevelTest.{is_same, is_at_most}
use Rattle.lf_checker.specs.Whnf.{turn_limit, whnf_body}
use Rattle.lf_checker.specs.Infer.{infer_body}
use Rattle.lf_checker.specs.Equal.{equal_body}
use Rattle.lf_checker.specs.Normalize.{normalize_body}
use Rattle.lf_elaboration.specs.Metavariables.{level_at, term_at, chain_limit}
use Rattle.lf_elaboration.specs.Unifier.{unify_body}
use Rattle.lf_elaboration.specs.Terms.{elaborate_body}
use Rattle.lf_elaboration.specs.Proof.{prove_body}
use Rattle.lf_document_answers.specs.Queries.{QueryAnswers}

pub queries : QueryAnswers
unfolding encode_utf8 chars digits spelling suffix_of equation_of mark_text is_same is_at_most turn_limit whnf_body
    infer_body equal_body normalize_body level_at term_at chain_limit unify_body elaborate_body prove_body
queries = record {
  variable_taken_report = refl;
  wrong_variable_report = refl;
  no_axioms_report = refl;
  open_term_report = refl;
  reduced_variable_report = refl;
  level_taken_report = refl;
  axioms_of_nothing_report = refl;
  block_on_variable_report = refl;
}
