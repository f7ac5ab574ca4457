-- What compiling gives where it gives a term: the form of which the equations of a definition speak.
use Rattle.std.specs.Prelude.{◌≡◌, ℕ, List, length}
use Rattle.lf_core.specs.Term.{Term}
use Rattle.lf_rules.specs.Telescope.{lambdas_over}
use Rattle.lf_checker.specs.View.{View}
use Rattle.lf_checker.specs.Run.{done}
use Rattle.lf_equations.specs.declared.alternative.Case.{Case}
use Rattle.lf_equations.specs.Outcome.{gets}
use Rattle.lf_equations.specs.Argument.{Argument}
use Rattle.lf_equations.specs.Compile.{whole_telescope, recursion, compile}

-- `fun bs x => I.rec ps (fun x => R) minors x`, with one minor premise for each constructor of I.
pub record IsRecursion (t : Term) : Type 0 where
  pub argument : Argument
  pub minors : List Term
  pub one_each : length minors ≡ length argument.ind.constructors
  pub form : t ≡ lambdas_over 0 (whole_telescope argument) (recursion argument minors)

abbrev pub CompilingGivesRecursion : Type 0
CompilingGivesRecursion = (V : View) (depth : ℕ) (ty : Term) (n : ℕ) (alts : List Case) (u v : ℕ) (t : Term) → compile V depth ty n alts u ≡ done (gets t) v
    → IsRecursion t
