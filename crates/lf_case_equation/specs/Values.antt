-- The code's values as the definition's, and parts of the definition that are functions of their own in the code.
use Rattle.std.specs.Prelude.{ℕ, suc, ◌+◌, ◌-◌, Bool, ◌&&◌, nat_eq, nat_lt, if◌then◌else◌, Option, Some, None, List, length, take, drop, slice_get, unwrap_or}
use Rattle.lf_core.specs.Same.{same}
use Rattle.lf_core.specs.Term.{Path, Term, bound, free}
use Rattle.lf_rules.specs.Telescope.{Telescope}
use Rattle.lf_elaboration.specs.CaseEquation as definition
use Rattle.lf_elaboration.specs.CaseEquation.{all_but_last, none_speaks}
use Rattle.lf_elaboration.specs.Forms.{Instance}
use Rattle.lf_elaboration.specs.Metavariables as metavariables
use Rattle.lf_case_equation.specs.declared.recursion.Recursion.{Recursion}
use Rattle.lf_case_equation.specs.declared.putting.Put.{Put}

abbrev pub recursion : Recursion → definition.Recursion
recursion r = record { binders = r.binders.now; ind = r.ind.now; levels = r.levels.now; params = r.params.now; minors = r.minors.now }

abbrev pub put : Put → metavariables.Put
put p = record { term = p.term; lambdas = p.lambdas }

-- The argument behind the first n is the last of all, the variable x, which stands nowhere before.
abbrev pub is_at_last : ℕ → List Term → ℕ → Bool
is_at_last x args n = nat_eq (length args) (suc n) && (same (unwrap_or (slice_get args n) (bound 0)) (free x) && none_speaks x (take n args))

-- `recursion_by`, of the recursor of I without indices.
abbrev pub recursion_at : Telescope → Instance → List Term → ℕ → Path → ℕ → ℕ → Option definition.Recursion
recursion_at xs r args extra I params minors =
    if nat_lt 0 (length xs) && is_at_last (length xs - 1) args (params + 1 + minors)
    then Some (record {
      binders = all_but_last xs;
      ind = I;
      levels = drop extra r.levels;
      params = take params args;
      minors = take minors (drop (suc params) args);
    }) else None
