use Rattle.std.proofs.Common.{refl}
use Rattle.std.specs.Char.{encode_utf8}
use Rattle.std.specs.Fmt.{digits}
use Rattle.lf_print.specs.Mark.{mark_text}
use Rattle.lf_inductive_answers.specs.Recursors.{Recursors}

pub recursors : Recursors
unfolding encode_utf8 digits mark_text
recursors = record {
  nat_constant = refl;
  nat_type = refl;
  list_type = refl;
  list_name = refl;
  list_levels = refl;
  list_counts = refl;
  cons_rule = refl;
  eq_type = refl;
  eq_levels = refl;
  eq_counts = refl;
  refl_rule = refl;
  false_type = refl;
  false_counts = refl;
  and_type = refl;
  and_counts = refl;
  or_type = refl;
  or_levels = refl;
  d_type = refl;
  sigma_type = refl;
  sigma_levels = refl;
  acc_type = refl;
  acc_counts = refl;
  acc_rule = refl;
  w_type = refl;
  w_rule = refl;
  w_rule_text = refl;
  tree_type = refl;
  node_minor = refl;
  node_rule = refl;
  fan_type = refl;
  fan_rule = refl;
  vec_type = refl;
  level_free = refl;
  level_taken = refl;
  levels_taken = refl;
  two_taken = refl;
  six_taken = refl;
}
