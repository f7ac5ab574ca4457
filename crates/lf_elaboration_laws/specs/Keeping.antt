-- What elaboration leaves of the state, whatever it answers: the changes, the names asked for and the nodes of blocks begin with those before.
use Rattle.std.specs.Prelude.{ℕ, Option, List}
use Rattle.lf_core.specs.Term.{Term}
use Rattle.lf_syntax.specs.Tree.{TermTree, ItemTree}
use Rattle.lf_elaboration.specs.Run.{Answer, done, failed, out, need}
use Rattle.lf_elaboration.specs.Part.{Part, Locals, State, Trailing}
use Rattle.lf_elaboration.specs.Elaboration.{calls, close, close_binder}
use Rattle.lf_elaboration_laws.specs.Unifier.{Begins}

pub record Grows (s t : State) : Type 0 where
  pub changes : Begins s.changes t.changes
  pub asked : Begins s.asked t.asked
  pub nodes : Begins s.nodes t.nodes

-- After a value, an error and a spent budget.
abbrev pub Keeps : {A : Type 0} → State → Answer State A → Type 0
Keeps s (done x u t) = Grows s t
Keeps s (failed m u t) = Grows s t
Keeps s (out t) = Grows s t
Keeps s (need k) = Unit {0}

abbrev pub TermsKeep : Type 0
TermsKeep = (P : Part) (depth : ℕ) (t : Trailing) (L : Locals) (s : TermTree) (E : Option Term) (u : ℕ) (w : State)
    → Keeps w ((calls P depth).elaborate t L s E u w)

abbrev pub ProofsKeep : Type 0
ProofsKeep = (P : Part) (depth : ℕ) (L : Locals) (goal : Term) (is : List ItemTree) (u : ℕ) (w : State) → Keeps w ((calls P depth).prove L goal is u w)

abbrev pub ClosingKeeps : Type 0
ClosingKeeps = (P : Part) (depth : ℕ) (L : Locals) (k : ℕ) (levels : Option ℕ) (u : ℕ) (w : State) → Keeps w (close P depth L k levels u w)

abbrev pub BinderKeeps : Type 0
BinderKeeps = (P : Part) (depth : ℕ) (L : Locals) (k : ℕ) (u : ℕ) (w : State) → Keeps w (close_binder P depth L k u w)
