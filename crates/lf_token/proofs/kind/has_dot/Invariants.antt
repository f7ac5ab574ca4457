use Rattle.std.proofs.Common.{◌≡◌, ◌==◌, drop}
use Rattle.std.specs.List.{list_any}
use Rattle.lf_token.proofs.kind.has_dot.Given as goal

abbrev pub invariant-characters : goal.invariant-characters
invariant-characters l = list_any (λ c. c == 46) (drop l.c-index l.cs) ≡ list_any (λ c. c == 46) l.cs
