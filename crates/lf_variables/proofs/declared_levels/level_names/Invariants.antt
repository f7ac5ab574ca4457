use Rattle.std.proofs.Common.{◌≡◌, ◌++◌, drop, filter}
use Rattle.lf_elaboration.specs.Scope.{names_of}
use Rattle.lf_elaboration.specs.Variables.{any, each_once, names_level}
use Rattle.lf_variables.proofs.declared_levels.level_names.Given as goal

-- the names so far, and those of what is left that aren't among them, are those of all
abbrev pub invariant-loop-level : goal.invariant-loop-level
invariant-loop-level l =
    l.all.items ++ each_once l.all.items (filter (λ u. any (names_level u) l.references) (drop l.level-index l.universes))
    ≡ names_of l.written ++ each_once (names_of l.written) (filter (λ u. any (names_level u) l.references) l.universes)
