-- The extension law: a view that tells more gives the same answers, with the units that are left and the state.
use Rattle.std.specs.Prelude.{◌≡◌, ℕ, Option, None, List, [], ◌∷◌}
use Rattle.lf_core.specs.Term.{Path, Term}
use Rattle.lf_rules.specs.Environment.{Context}
use Rattle.lf_syntax.specs.Tree.{TermTree, ItemTree}
use Rattle.lf_checker.specs.View.{View, Entry, find_entry}
use Rattle.lf_checker.specs.Extends.{Tells, Extends}
use Rattle.lf_checker.specs.Run as checker
use Rattle.lf_extension_laws.specs.Extension as checking
use Rattle.lf_elaboration.specs.Metavariables.{Changes}
use Rattle.lf_elaboration.specs.Run.{Answer, done, failed, out, need}
use Rattle.lf_elaboration.specs.Unifier.{Unify, unify}
use Rattle.lf_elaboration.specs.Part.{Part, Locals, State, Trailing, Calls}
use Rattle.lf_elaboration.specs.Elaboration.{calls, close, close_binder}
use Rattle.lf_elaboration.specs.Realizers.{Realized, makes, makes_none, waits, realize}
use Rattle.lf_elaboration.specs.Axioms as axioms

-- An answer that isn't a need is the other answer.
abbrev pub Kept : {S A : Type 0} → Answer S A → Answer S A → Type 0
Kept (need k) p = Unit {0}
Kept (done x u s) p = done x u s ≡ p
Kept (failed m u s) p = failed m u s ≡ p
Kept (out s) p = out s ≡ p

abbrev pub AgreeUnify : Unify → Unify → Type 0
AgreeUnify f g = (C : Context) (a b : Term) (u : ℕ) (cs : Changes) → Kept (f C a b u cs) (g C a b u cs)

abbrev pub UnifierExtends : Type 0
UnifierExtends = (U V : View) → Tells V U → (depth : ℕ) → AgreeUnify (unify U depth) (unify V depth)

-- ---- Terms and proofs

-- The instance of a type in a context, where so many nested calls are still allowed.
abbrev pub Synthesis : Type 0
Synthesis = ℕ → Context → Term → checker.Run (Option Term)

abbrev pub AgreeSynthesis : (Context → Term → checker.Run (Option Term)) → (Context → Term → checker.Run (Option Term)) → Type 0
AgreeSynthesis f g = (C : Context) (t : Term) (u : ℕ) → checking.Kept (f C t u) (g C t u)

-- What a call of elaboration may call on the one view and on the other.
pub record Agree (c d : Calls) : Type 0 where
  pub elaborate : (t : Trailing) (L : Locals) (s : TermTree) (E : Option Term) (u : ℕ) (w : State) → Kept (c.elaborate t L s E u w) (d.elaborate t L s E u w)
  pub prove : (L : Locals) (goal : Term) (is : List ItemTree) (u : ℕ) (w : State) → Kept (c.prove L goal is u w) (d.prove L goal is u w)
  pub unify : AgreeUnify c.unify d.unify
  pub check : checking.Agree c.check d.check
  pub synthesize : AgreeSynthesis c.synthesize d.synthesize

-- The part on another view, over which instances are looked for anew.
abbrev pub on_view : Part → View → Synthesis → Part
on_view P V f = record P { view = V; synthesize = f }

-- A law on a part and the same part on a view that tells more, where the resolution of instances obeys the law.
abbrev pub OnLarger : (Part → Part → ℕ → Type 0) → Type 0
OnLarger law = (P : Part) (V : View) (f : Synthesis) → Tells V P.view → ((n : ℕ) → AgreeSynthesis (P.synthesize n) (f n)) → (depth : ℕ)
    → law P (on_view P V f) depth

abbrev pub TermsExtend : Type 0
TermsExtend = OnLarger λ P Q depth. (t : Trailing) (L : Locals) (s : TermTree) (E : Option Term) (u : ℕ) (w : State)
    → Kept ((calls P depth).elaborate t L s E u w) ((calls Q depth).elaborate t L s E u w)

abbrev pub ProofsExtend : Type 0
ProofsExtend = OnLarger λ P Q depth. (L : Locals) (goal : Term) (is : List ItemTree) (u : ℕ) (w : State)
    → Kept ((calls P depth).prove L goal is u w) ((calls Q depth).prove L goal is u w)

abbrev pub ClosingExtends : Type 0
ClosingExtends = OnLarger λ P Q depth. (L : Locals) (k : ℕ) (levels : Option ℕ) (u : ℕ) (w : State)
    → Kept (close P depth L k levels u w) (close Q depth L k levels u w)

abbrev pub BinderExtends : Type 0
BinderExtends = OnLarger λ P Q depth. (L : Locals) (k : ℕ) (u : ℕ) (w : State) → Kept (close_binder P depth L k u w) (close_binder Q depth L k u w)

-- ---- Realized constants

abbrev pub KeptRealized : Realized → Realized → Type 0
KeptRealized (waits k) r = Unit {0}
KeptRealized (makes c) r = makes c ≡ r
KeptRealized makes_none r = makes_none ≡ r

abbrev pub RealizingExtends : Type 0
RealizingExtends = (U V : View) → Tells V U → (units depth : ℕ) (n : Path) → KeptRealized (realize U units depth n) (realize V units depth n)

-- ---- Axioms reached

abbrev pub KeptWalk : axioms.Walk → axioms.Walk → Type 0
KeptWalk (axioms.waits k) w = Unit {0}
KeptWalk (axioms.ended ns) w = axioms.ended ns ≡ w
KeptWalk axioms.unended w = axioms.unended ≡ w

-- No two entries have one name.
abbrev pub AreDistinct : List Entry → Type 0
AreDistinct [] = Unit {0}
AreDistinct (e ∷ es) = (find_entry es e.info.name ≡ None) × AreDistinct es

abbrev pub WalkExtends : Type 0
WalkExtends = (U V : View) → Extends V U → AreDistinct U.entries → AreDistinct V.entries → (n : Path)
    → KeptWalk (axioms.reached U n) (axioms.reached V n)
