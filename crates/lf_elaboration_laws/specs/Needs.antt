-- What is waited for: an open branch of the view, or a realizable name that has no answer there.
use Rattle.std.specs.Prelude.{◌≡◌, ℕ, Option, List}
use Rattle.lf_core.specs.Term.{Path, Term}
use Rattle.lf_core.specs.declared.constant.TaskKey.{TaskKey}
use Rattle.lf_rules.specs.Environment.{Context}
use Rattle.lf_syntax.specs.Tree.{TermTree, ItemTree}
use Rattle.lf_checker.specs.View.{View}
use Rattle.lf_extension_laws.specs.Needs as checking
use Rattle.lf_extension_laws.specs.Needs.{IsWanted}
use Rattle.lf_elaboration.specs.Metavariables.{Changes}
use Rattle.lf_elaboration.specs.Run.{Answer, done, failed, out, need}
use Rattle.lf_elaboration.specs.Unifier.{unify}
use Rattle.lf_elaboration.specs.Part.{Part, Locals, State, Trailing}
use Rattle.lf_elaboration.specs.Elaboration.{calls, close, close_binder}
use Rattle.lf_elaboration.specs.Realizers as realizing
use Rattle.lf_elaboration.specs.Axioms.{waits, reached}

-- An answer waits for nothing but what the view needs.
abbrev pub Waits : View → {S A : Type 0} → Answer S A → Type 0
Waits V (need k) = IsWanted V k
Waits V (done x u s) = Unit {0}
Waits V (failed m u s) = Unit {0}
Waits V (out s) = Unit {0}

abbrev pub UnifierWaits : Type 0
UnifierWaits = (V : View) (depth : ℕ) (C : Context) (a b : Term) (u : ℕ) (cs : Changes) → Waits V (unify V depth C a b u cs)

-- A law on a part whose resolution of instances waits for nothing else.
abbrev pub WhereResolutionWaits : (Part → ℕ → Type 0) → Type 0
WhereResolutionWaits law = (P : Part) → ((n : ℕ) (C : Context) (t : Term) (u : ℕ) → checking.Waits P.view (P.synthesize n C t u)) → (depth : ℕ) → law P depth

abbrev pub TermsWait : Type 0
TermsWait = WhereResolutionWaits λ P depth. (t : Trailing) (L : Locals) (s : TermTree) (E : Option Term) (u : ℕ) (w : State)
    → Waits P.view ((calls P depth).elaborate t L s E u w)

abbrev pub ProofsWait : Type 0
ProofsWait = WhereResolutionWaits λ P depth. (L : Locals) (goal : Term) (is : List ItemTree) (u : ℕ) (w : State)
    → Waits P.view ((calls P depth).prove L goal is u w)

abbrev pub ClosingWaits : Type 0
ClosingWaits = WhereResolutionWaits λ P depth. (L : Locals) (k : ℕ) (levels : Option ℕ) (u : ℕ) (w : State)
    → Waits P.view (close P depth L k levels u w)

abbrev pub BinderWaits : Type 0
BinderWaits = WhereResolutionWaits λ P depth. (L : Locals) (k : ℕ) (u : ℕ) (w : State) → Waits P.view (close_binder P depth L k u w)

abbrev pub RealizingWaits : Type 0
RealizingWaits = (V : View) (units depth : ℕ) (n : Path) (k : TaskKey) → realizing.realize V units depth n ≡ realizing.waits k → IsWanted V k

abbrev pub WalkWants : Type 0
WalkWants = (V : View) (n : Path) (k : TaskKey) → reached V n ≡ waits k → IsWanted V k
