-- Runs of proof items that stand between their nested calls, and call nothing nested themselves. A device of the proof.
use Rattle.std.specs.Prelude.{ℕ, Bool, Option, Some, None, List}
use Rattle.lf_core.specs.Term.{Path, Universe, Term, app}
use Rattle.lf_core.specs.Summary.{has_metavariable}
use Rattle.lf_name.specs.declared.binder.Binder.{Binder}
use Rattle.lf_name.specs.declared.binder.BinderKind.TheVariants.{Explicit}
use Rattle.lf_syntax.specs.Tree.{ItemTree}
use Rattle.lf_elaboration.specs.Forms.{Binding}
use Rattle.lf_elaboration.specs.Messages as says
use Rattle.lf_elaboration.specs.Messages.{ProofItem}
use Rattle.lf_elaboration.specs.Run.{◌>>=◌, gives, choose, spend, checks, put}
use Rattle.lf_elaboration.specs.Part.{Part, Locals, Run, Calls, instantiated, error, sort_of}
use Rattle.lf_elaboration.specs.Unifier.{type_in}
use Rattle.lf_elaboration.specs.Step as step
use Rattle.lf_elaboration.specs.Step.{Step, proof_by}
use Rattle.lf_elaboration.specs.Induction.{induct}
use Rattle.lf_elaboration.specs.Injection.{inject}
use Rattle.lf_elaboration.specs.Direct.{fails_as, lambda_over}
use Rattle.lf_elaboration.specs.Rewrite.{step_or_fail}
use Rattle.lf_elaboration.specs.Proof.{item_place}

-- The latest local that proves the goal.
unfoldable pub own_local : Calls → Locals → Term → Run (Option ℕ)
own_local c L goal = checks (step.assumption c.check L.types goal)

-- The pi that the goal's weak head form is.
unfoldable pub goal_pi : Calls → Locals → Term → Run (Option Binding)
goal_pi c L goal = checks (step.intro c.check L.types goal)

-- The proof p over the local of number k, called x and of the type A.
unfoldable pub lambda_of : ℕ → Path → Binder → Term → Term → Run Term
lambda_of k x b A p = lambda_over k (record { name = x; kind = b.kind }) A p

-- The same, applied to the value e.
unfoldable pub lambda_applied : ℕ → Path → Term → Term → Term → Run Term
lambda_applied k x A e p = do
  f ← lambda_over k (record { name = x; kind = Explicit }) A p
  put (app f e)

-- The proof that a step makes of the proofs of its goals.
unfoldable pub step_proof : Step → List Term → Run Term
step_proof s ps = checks (proof_by s ps)

-- The type of a local, with its assigned metavariables put in.
unfoldable pub local_type : Locals → ℕ → Run Term
local_type L x = instantiated (type_in L.types x)

-- The step of induction, or of cases, on a local of the type A: as the checker makes it; or the item fails; and where the item names a local.
unfoldable pub induction : Part → Calls → Locals → Term → Universe → ℕ → Term → Bool → Run (Option Step)
induction P c L goal l x A hyps = checks (induct P.view c.check L.types goal l x A hyps)

abbrev pub induct_on : Part → Calls → Locals → ℕ → ProofItem → Bool → Term → ℕ → Run Step
induct_on P c L at i hyps goal x = do
  l ← sort_of P c L at goal
  A ← local_type L x
  o ← induction P c L goal l x A hyps
  step_or_fail at i o

unfoldable pub eliminate_step : Part → Calls → Locals → ℕ → ProofItem → Bool → Term → Option ℕ → Run Step
eliminate_step P c L at i hyps goal None = fails_as at i
eliminate_step P c L at i hyps goal (Some x) = induct_on P c L at i hyps goal x

-- The step of injection likewise.
unfoldable pub injected : Part → Calls → Locals → Term → ℕ → Term → Run (Option Step)
injected P c L goal x A = checks (inject P.view c.check L.types goal x A)

abbrev pub inject_on : Part → Calls → Locals → ℕ → ProofItem → Term → ℕ → Run Step
inject_on P c L at i goal x = do
  A ← local_type L x
  o ← injected P c L goal x A
  step_or_fail at i o

unfoldable pub injection_step : Part → Calls → Locals → ℕ → Term → Option ℕ → Run Step
injection_step P c L at goal None = fails_as at says.Injection
injection_step P c L at goal (Some x) = inject_on P c L at says.Injection goal x

-- A goal with its assigned metavariables put in, at an item, whose unit is spent.
unfoldable pub ready : ItemTree → Term → Run Term
ready i goal = do
  G ← instantiated goal
  choose (has_metavariable G) (error (item_place i) says.undetermined_placeholder) (spend 1 (gives G))
