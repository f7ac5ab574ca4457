use Rattle.std.proofs.Common.{subst}
use Rattle.std.specs.Prelude.{Option}
use Rattle.lf_elaboration.specs.Equations.{Equation}
use Rattle.lf_part.specs.Runs.{Runs}
use Rattle.lf_opening.specs.Rules.{reflexive_with, reflexive_proof}
use Rattle.lf_opening.proofs.proving.reflexive_proof.Goals as goal

pub returns-clause-value : goal.returns-clause-value
unfolding reflexive_proof
returns-clause-value c s =
    let P : Option Equation → Type 0 = λ e. Runs (reflexive_with e c.args.units.now s) c.reflexive_with.result c.reflexive_with.new.units s in
    subst P c.in_ok-equation.ensures (c.reflexive_with.ensures.value s)
