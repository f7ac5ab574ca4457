-- The items' runs as the runs of this crate and the nested calls in a row.
use Rattle.std.specs.Prelude.{ℕ, Bool, false, Option, Some, None}
use Rattle.lf_core.specs.Term.{Term}
use Rattle.lf_syntax.specs.declared.leaf.Ident.{Ident}
use Rattle.lf_syntax.specs.Tree.{TermTree, place}
use Rattle.lf_elaboration.specs.Messages as says
use Rattle.lf_elaboration.specs.Messages.{ProofItem}
use Rattle.lf_elaboration.specs.Run.{◌>>=◌, ◌>>◌}
use Rattle.lf_elaboration.specs.Part.{Part, Locals, Run, Calls, Typed, left_open, instantiated}
use Rattle.lf_elaboration.specs.Closing.{mark, close}
use Rattle.lf_elaboration.specs.Step.{Step}
use Rattle.lf_elaboration.specs.Direct.{Rest, ends_with, proves_one}
use Rattle.lf_elaboration.specs.Apply.{goals_given}
use Rattle.lf_elaboration.specs.Rewrite.{first_goal, unfolding_term}
use Rattle.lf_opening.specs.Goals.{applied}
use Rattle.lf_opening.specs.Rules.{in_prop, by_rule, proved, reflexive_proof}

abbrev pub apply_by : Part → Calls → Locals → Term → TermTree → Rest → Run Term
apply_by P c L goal s rest = do
  k ← mark
  r ← c.elaborate left_open L s None
  close P c L k.terms None
  o ← applied P c L (place s) k.levels goal r.term r.ty
  rest L (goals_given o.given)
  instantiated o.term

abbrev pub rule_step_by : Part → Calls → Locals → ℕ → ProofItem → ℕ → Bool → Term → Run Typed → Run Step
rule_step_by P c L at i term_at back goal term = do
  in_prop P c L at i goal
  k ← mark
  r ← term
  close P c L k.terms None
  by_rule P c L at i term_at back k.terms k.levels goal r.term r.ty

-- One rule, with what comes behind it.
abbrev pub rw_by : Part → Calls → Locals → ℕ → TermTree → Bool → (Term → Run Term) → Term → Run Term
rw_by P c L at t back next goal = do
  s ← rule_step_by P c L at says.Rw (place t) back goal (c.elaborate left_open L t None)
  p ← next (first_goal s)
  proved s p

abbrev pub unfold_by : Part → Calls → Locals → ℕ → Ident → Rest → Term → Run Term
unfold_by P c L at x rest goal = do
  s ← rule_step_by P c L at says.Unfold x.at false goal (unfolding_term P L at x)
  p ← proves_one rest L (first_goal s)
  proved s p

abbrev pub after_proof : Rest → Locals → Term → Option Term → Run Term
after_proof rest L goal (Some p) = ends_with rest L p
after_proof rest L goal None = proves_one rest L goal

abbrev pub after_rules_by : Rest → Locals → Term → Run Term
after_rules_by rest L goal = reflexive_proof goal >>= after_proof rest L goal
