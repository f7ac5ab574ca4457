-- The code's values as the definition's.
use Rattle.lf_elaboration.specs.Unifier as unifier
use Rattle.lf_unify.specs.declared.pattern.Pattern.{Pattern}

abbrev pub pattern : Pattern → unifier.Pattern
pattern p = record { metavariable = p.metavariable; variables = p.variables.items }
