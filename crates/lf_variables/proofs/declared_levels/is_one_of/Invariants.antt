use Rattle.std.proofs.Common.{◌≡◌, drop}
use Rattle.lf_rules.specs.Recursor.{is_among}
use Rattle.lf_elaboration.specs.Scope.{names_of}
use Rattle.lf_variables.proofs.declared_levels.is_one_of.Given as goal

abbrev pub invariant-loop-ident : goal.invariant-loop-ident
invariant-loop-ident l = is_among l.name (names_of (drop l.ident-index l.idents)) ≡ is_among l.name (names_of l.idents)
