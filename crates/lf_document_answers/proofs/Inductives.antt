use Rattle.std.proofs.Common.{refl}
use Rattle.std.specs.Char.{encode_utf8}
use Rattle.std.specs.Str.{chars}
use Rattle.std.specs.Fmt.{digits}
use Rattle.lf_core.specs.Suffix.{spelling, suffix_of, equation_of}
use Rattle.lf_print.specs.Mark.{mark_text}
use Rattle.lf_checker.specs.LevelTest.{is_same, is_at_most}
use Rattle.lf_checker.specs.Whnf.{turn_limit, whnf_body}
use Rattle.lf_checker.specs.Infer.{infer_body}
use Rattle.lf_checker.specs.Equal.{equal_body}
use Rattle.lf_checker.specs.Normalize.{normalize_body}
use Rattle.lf_elaboration.specs.Metavariables.{level_at, term_at, chain_limit}
use Rattle.lf_elaboration.specs.Unifier.{unify_body}
use Rattle.lf_elaboration.specs.Terms.{elaborate_body}
use Rattle.lf_elaboration.specs.Proof.{prove_body}
use Rattle.lf_document_answers.specs.Inductives.{InductiveAnswers}

pub inductives : InductiveAnswers
unfolding encode_utf8 chars digits spelling suffix_of equation_of mark_text is_same is_at_most turn_limit whnf_body
    infer_body equal_body normalize_body level_at term_at chain_limit unify_body elaborate_body prove_body
inductives = record {
  polymorphic_report = refl;
  variable_hidden_report = refl;
  own_type_report = refl;
  not_positive_report = refl;
  two_of_a_name_report = refl;
  warned_once_report = refl;
  level_by_constructor_report = refl;
  open_parameter_report = refl;
  bad_type_last_report = refl;
}
