use Rattle.std.proofs.Common.{refl}
use Rattle.std.specs.Char.{encode_utf8}
use Rattle.std.specs.Fmt.{digits}
use Rattle.lf_core.specs.Suffix.{suffix_of, equation_of}
use Rattle.lf_checker.specs.LevelTest.{is_same, is_at_most}
use Rattle.lf_checker.specs.Whnf.{turn_limit, whnf_body}
use Rattle.lf_checker.specs.Infer.{infer_body}
use Rattle.lf_checker.specs.Equal.{equal_body}
use Rattle.lf_checker.specs.Normalize.{normalize_body}
use Rattle.lf_inductive_answers.specs.Needs.{Needs}

pub needs : Needs
unfolding encode_utf8 digits suffix_of equation_of is_same is_at_most turn_limit whnf_body infer_body equal_body normalize_body
needs = record {
  body_of_type = refl;
  child_in_field = refl;
  realized_in_field = refl;
  child_as_type = refl;
  child_as_constructor = refl;
}
