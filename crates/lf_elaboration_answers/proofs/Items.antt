use Rattle.std.proofs.Common.{refl}
use Rattle.std.specs.Char.{encode_utf8}
use Rattle.std.specs.Fmt.{digits}
use Rattle.lf_core.specs.Suffix.{suffix_of, equation_of}
use Rattle.lf_print.specs.Mark.{mark_text}
use Rattle.lf_checker.specs.LevelTest.{is_same}
use Rattle.lf_checker.specs.Whnf.{turn_limit, whnf_body}
use Rattle.lf_checker.specs.Infer.{infer_body}
use Rattle.lf_checker.specs.Equal.{equal_body}
use Rattle.lf_checker.specs.Normalize.{normalize_body}
use Rattle.lf_elaboration.specs.Metavariables.{level_at, term_at, chain_limit}
use Rattle.lf_elaboration.specs.Unifier.{unify_body}
use Rattle.lf_elaboration.specs.Terms.{elaborate_body}
use Rattle.lf_elaboration.specs.Proof.{prove_body}
use Rattle.lf_elaboration_answers.specs.Items.{ItemAnswers}

pub item : ItemAnswers
unfolding encode_utf8 digits suffix_of equation_of mark_text is_same turn_limit whnf_body
    infer_body equal_body normalize_body level_at term_at chain_limit unify_body elaborate_body prove_body
item = record {
  kind_of_pi = refl;
  apply_refutation = refl;
  apply_mismatch = refl;
  apply_implicit = refl;
  apply_inner = refl;
  rw_no_proposition = refl;
  rw_under_pi = refl;
  rw_unfixed = refl;
  rw_anywhere = refl;
  rw_later = refl;
  rw_turned = refl;
  unfold_unknown = refl;
  unfold_hidden = refl;
  spoken_of_stays = refl;
  by_other_name = refl;
  own_rfl_taken = refl;
  latest = refl;
  behind_block = refl;
  unsolved_in_block = refl;
  rest_beside = refl;
  block_within = refl;
  block_one_deeper = refl;
  induction_costs = refl;
  cases_cost = refl;
  injection_costs = refl;
  injection_binder = refl;
  variable_stays = refl;
  apply_unknown = refl;
  rw_first_alone = refl;
  cases_on_equation = refl;
  index_spoken_of = refl;
  proofs_equal = refl;
  had_variable_stays = refl;
  rw_by_definition = refl;
}
