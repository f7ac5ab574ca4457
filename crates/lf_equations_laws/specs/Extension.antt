-- The extension law of compiling.
use Rattle.std.specs.Prelude.{ℕ, List}
use Rattle.lf_core.specs.Term.{Term}
use Rattle.lf_checker.specs.View.{View}
use Rattle.lf_checker.specs.Extends.{Tells}
use Rattle.lf_extension_laws.specs.Extension.{Kept}
use Rattle.lf_equations.specs.declared.alternative.Case.{Case}
use Rattle.lf_equations.specs.Compile.{compile}

abbrev pub CompilingExtends : Type 0
CompilingExtends = (U V : View) → Tells V U → (depth : ℕ) (ty : Term) (n : ℕ) (alts : List Case) (u : ℕ)
    → Kept (compile U depth ty n alts u) (compile V depth ty n alts u)
