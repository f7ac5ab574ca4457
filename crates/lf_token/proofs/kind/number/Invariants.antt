use Rattle.std.proofs.Common.{◌≡◌, ◌<◌, ◌^◌, drop}
use Rattle.std.specs.Str.Parse.{digits_value, digits_value_after}
use Rattle.lf_token.proofs.kind.number.Given as goal

abbrev pub invariant-digits : goal.invariant-digits
invariant-digits l = record {
  fits : l.value < 2 ^ 128;
  same : digits_value_after 10 l.value (drop l.c-index l.cs) ≡ digits_value 10 l.cs;
}
