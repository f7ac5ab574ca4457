-- What the unifier leaves.
use Rattle.std.specs.Prelude.{◌≡◌, ℕ, Bool, true, false, List, ◌++◌}
use Rattle.lf_core.specs.Term.{Term}
use Rattle.lf_rules.specs.Environment.{Context}
use Rattle.lf_checker.specs.View.{View}
use Rattle.lf_elaboration.specs.Metavariables.{Changes}
use Rattle.lf_elaboration.specs.Run.{Answer, done, failed, out, need}
use Rattle.lf_elaboration.specs.Unifier.{unify}

-- The second list begins with the first.
abbrev pub Begins : {A : Type 0} → List A → List A → Type 0
Begins {A} xs ys = (more : List A) × (ys ≡ xs ++ more)

-- After false and after a spent budget the changes are these; after true they begin with them. There is no error.
abbrev pub Leaves : Changes → Answer Changes Bool → Type 0
Leaves cs (done true u new) = Begins cs new
Leaves cs (done false u new) = new ≡ cs
Leaves cs (failed m u new) = ⊥
Leaves cs (out new) = new ≡ cs
Leaves cs (need k) = Unit {0}

abbrev pub UnifierIsCalm : Type 0
UnifierIsCalm = (V : View) (depth : ℕ) (C : Context) (a b : Term) (u : ℕ) (cs : Changes) → Leaves cs (unify V depth C a b u cs)
