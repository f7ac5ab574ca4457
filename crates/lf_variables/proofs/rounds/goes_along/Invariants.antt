use Rattle.std.proofs.Common.{◌≡◌, ◌||◌, drop, filter}
use Rattle.lf_elaboration.specs.Variables.{all, holds, is_named, is_some_of}
use Rattle.lf_variables.proofs.rounds.goes_along.Given as goal

-- those that are named so far are taken, and `some` tells whether there are any
abbrev pub invariant-loop-variable : goal.invariant-loop-variable
invariant-loop-variable l =
    record {
      taken : all (holds l.taken) (filter (is_named l.references) (drop l.variable-index l.variables))
          ≡ all (holds l.taken) (filter (is_named l.references) l.variables);
      named : l.some || is_some_of (filter (is_named l.references) (drop l.variable-index l.variables))
          ≡ is_some_of (filter (is_named l.references) l.variables);
    }
