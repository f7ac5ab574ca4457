-- What `rw` and `unfold` do before and behind the term of a rule, in parts. A device of the proof.
use Rattle.std.specs.Prelude.{ℕ, Bool, Option, Some, None, List, [], ◌∷◌}
use Rattle.lf_core.specs.Term.{level_zero, Term}
use Rattle.lf_checker.specs.LevelTest.{is_same}
use Rattle.lf_elaboration.specs.Messages.{ProofItem}
use Rattle.lf_elaboration.specs.Run.{◌>>=◌, ◌>>◌, gives, choose, or_else_fail, checks, put}
use Rattle.lf_elaboration.specs.Part.{Part, Locals, Run, Calls, instantiated, sort_of}
use Rattle.lf_elaboration.specs.Closing.{all_assigned, all_levels_assigned}
use Rattle.lf_elaboration.specs.Motive.{places_for}
use Rattle.lf_elaboration.specs.Step.{Step, proof_by}
use Rattle.lf_elaboration.specs.Equations.{Equation, as_equation, equation_term, rewritten}
use Rattle.lf_elaboration.specs.Direct.{fails_as}
use Rattle.lf_elaboration.specs.Apply.{Opened}
use Rattle.lf_elaboration.specs.Rewrite as spec
use Rattle.lf_elaboration.specs.Rewrite.{step_or_fail, sided, proof_sided, is_reflexive, reflexivity}
use Rattle.lf_msg.specs.declared.proof.ProofItem as item
use Rattle.lf_msg.specs.declared.proof.ProofError.TheVariants.{Failed}
use Rattle.lf_part.specs.declared.ended.Ended.{Ended}
use Rattle.lf_part.specs.declared.message.Diagnostic.TheVariants.{Proof}
use Rattle.lf_part.specs.Tells.{failed_at}
use Rattle.lf_opening.specs.Openings.{opened_whole}

abbrev pub failed_as : ℕ → item.ProofItem → Ended
failed_as at i = failed_at at (Proof (Failed i))

-- The goal is a type in `Prop`.
unfoldable pub in_prop : Part → Calls → Locals → ℕ → ProofItem → Term → Run (Unit {0})
in_prop P c L at i goal = do
  l ← sort_of P c L at goal
  or_else_fail (is_same l level_zero) (fails_as at i)

unfoldable pub first_unified : Calls → Locals → Term → List Term → Run Bool
first_unified c L l ts = spec.first_unified c L l ts

-- A subterm of the goal is made this term.
unfoldable pub placed : Calls → Locals → ℕ → ProofItem → Term → Term → Run (Unit {0})
placed c L at i l goal = do
  fits ← first_unified c L l (places_for l goal)
  or_else_fail fits (fails_as at i)

unfoldable pub none_left : Part → ℕ → ℕ → Run (Unit {0})
none_left P terms levels = all_assigned terms >> all_levels_assigned P levels

unfoldable pub equation_in : ℕ → ProofItem → Term → Run Equation
equation_in at i t = step_or_fail at i (as_equation t)

unfoldable pub equation_at : ℕ → ProofItem → Term → Run Equation
equation_at at i t = do
  whole ← instantiated t
  equation_in at i whole

-- The equation, with its assigned metavariables put in.
unfoldable pub fixed : ℕ → ProofItem → Equation → Run Equation
fixed at i e = equation_at at i (equation_term e)

-- The goal rewritten by an equation without metavariables.
unfoldable pub rewritten_by : ℕ → ProofItem → Term → Equation → Term → Run Step
rewritten_by at i goal e h = do
  h' ← instantiated h
  s ← checks (rewritten goal e h')
  step_or_fail at i s

unfoldable pub rewritten_fixed : ℕ → ProofItem → Term → Equation → Term → Run Step
rewritten_fixed at i goal e h = do
  fixed_equation ← fixed at i e
  rewritten_by at i goal fixed_equation h

unfoldable pub rewritten_whole : Part → ℕ → ProofItem → ℕ → ℕ → Term → Equation → Term → Run Step
rewritten_whole P at i terms levels goal e h = do
  none_left P terms levels
  rewritten_fixed at i goal e h

-- The equation e, proved by h.
unfoldable pub rewrite_by : Part → Calls → Locals → ℕ → ProofItem → ℕ → ℕ → Term → Equation → Term → Run Step
rewrite_by P c L at i terms levels goal e h = do
  placed c L at i e.left goal
  rewritten_whole P at i terms levels goal e h

abbrev pub rewrite_with : Part → Calls → Locals → ℕ → ProofItem → Bool → ℕ → ℕ → Term → Term → Option Equation → Run Step
rewrite_with P c L at i back terms levels goal h None = fails_as at i
rewrite_with P c L at i back terms levels goal h (Some e) = do
  proof ← put (proof_sided back e h)
  rewrite_by P c L at i terms levels goal (sided back e) proof

-- A proof of this type, where that is an equation.
unfoldable pub rewrite_opened : Part → Calls → Locals → ℕ → ProofItem → Bool → ℕ → ℕ → Term → Term → Term → Run Step
rewrite_opened P c L at i back terms levels goal h T = rewrite_with P c L at i back terms levels goal h (as_equation T)

-- The term of a rule, for all pis of its type.
unfoldable pub rule_opened : Calls → Locals → ℕ → Term → Term → Run Opened
rule_opened c L at t A = do
  T ← instantiated A
  opened_whole c L at t T

-- What a rule's term of this type makes of the goal.
unfoldable pub by_rule : Part → Calls → Locals → ℕ → ProofItem → ℕ → Bool → ℕ → ℕ → Term → Term → Term → Run Step
by_rule P c L at i term_at back terms levels goal t A = do
  o ← rule_opened c L term_at t A
  rewrite_opened P c L at i back terms levels goal o.term o.ty

unfoldable pub proved : Step → Term → Run Term
proved s p = checks (proof_by s (p ∷ []))

abbrev pub by_reflexivity : Equation → Run (Option Term)
by_reflexivity e = put (reflexivity (Some e)) >>= (λ p. gives (Some p))

abbrev pub reflexive_with : Option Equation → Run (Option Term)
reflexive_with e = choose (is_reflexive e) (put (reflexivity e) >>= (λ p. gives (Some p))) (gives None)

-- The proof of a goal `s = s` of two same trees, where it is one.
unfoldable pub reflexive_proof : Term → Run (Option Term)
reflexive_proof goal = reflexive_with (as_equation goal)
