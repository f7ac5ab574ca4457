use Rattle.std.proofs.Common.{refl}
use Rattle.std.specs.Char.{encode_utf8}
use Rattle.std.specs.Fmt.{digits}
use Rattle.lf_print.specs.Mark.{mark_text}
use Rattle.lf_core.specs.Suffix.{suffix_of, equation_of}
use Rattle.lf_checker.specs.LevelTest.{is_same, is_at_most}
use Rattle.lf_checker.specs.Whnf.{turn_limit, whnf_body}
use Rattle.lf_checker.specs.Infer.{infer_body}
use Rattle.lf_checker.specs.Equal.{equal_body}
use Rattle.lf_checker.specs.Normalize.{normalize_body}
use Rattle.lf_inductive_answers.specs.Typed.{Typed}

pub typed : Typed
unfolding encode_utf8 digits mark_text suffix_of equation_of is_same is_at_most turn_limit whnf_body infer_body equal_body normalize_body
typed = record {
  nat_header = refl;
  list_header = refl;
  eq_header = refl;
  acc_header = refl;
  w_header = refl;
  vec_header = refl;
  tree_header = refl;
  zero_rule = refl;
  succ_rule = refl;
  cons_rule = refl;
  refl_rule = refl;
  acc_rule = refl;
  w_rule = refl;
  vec_rule = refl;
  node_rule = refl;
}
