use Rattle.std.proofs.Common.{refl}
use Rattle.std.specs.Char.{encode_utf8}
use Rattle.lf_elaboration_answers.specs.Scopes.{ScopeAnswers}

pub scopes : ScopeAnswers
unfolding encode_utf8
scopes = record {
  in_header = refl;
  in_value = refl;
  innermost = refl;
  no_local = refl;
  part_of_a_name = refl;
  whole_name = refl;
  nothing_open = refl;
  given_up = refl;
  namespace_within = refl;
  bound_name = refl;
  used_name = refl;
  instance_along = refl;
  no_instance = refl;
  namesake_left = refl;
  namesakes_taken = refl;
  by_type = refl;
  no_level = refl;
  named_level = refl;
  written_level = refl;
}
