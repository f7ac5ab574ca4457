use Rattle.std.proofs.Common.{◌≡◌, ℕ, [], take, map}
use Rattle.lf_syntax.specs.Build.{name_term}
use Rattle.lf_parse_term.proofs.build.name_terms.Given as goal

abbrev pub invariant-names : goal.invariant-names
invariant-names l = l.all.items ≡ map (λ y. name_term y []) (take l.name-index l.fn.before.items)
