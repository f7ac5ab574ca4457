use Rattle.std.proofs.Common.{◌≡◌, ◌≤◌, take, drop, true}
use Rattle.std.specs.List.{list_all}
use Rattle.lf_front.specs.Lexemes.{is_digit, value_after}
use Rattle.lf_front.proofs.token.small_value.Given as goal

abbrev pub invariant-digits : goal.invariant-digits
invariant-digits l =
    (l.n ≤ 1000) × (value_after l.n (drop l.c-index l.cs) ≡ value_after 0 l.cs) × (list_all is_digit (take l.c-index l.cs) ≡ true)
