-- The items' runs are the runs of this crate and the nested calls in a row.
use Rattle.std.proofs.Common.{◌≡◌, ℕ, ◌-◌, Bool, true, false, refl, sym, ap, ◌∙◌}
use Rattle.std.specs.Prelude.{Option, Some, None}
use Rattle.lf_core.specs.Term.{level_zero, Term}
use Rattle.lf_checker.specs.LevelTest.{is_same}
use Rattle.lf_syntax.specs.declared.leaf.Ident.{Ident}
use Rattle.lf_syntax.specs.Tree as written
use Rattle.lf_syntax.specs.Tree.{TermTree, RuleTrees, place}
use Rattle.lf_elaboration.specs.Messages as says
use Rattle.lf_elaboration.specs.Messages.{ProofItem}
use Rattle.lf_elaboration.specs.Run.{◌>>=◌, ◌>>◌, go_on, gives, choose, or_else_fail, put}
use Rattle.lf_elaboration.specs.Part.{Part, State, Locals, Run, Calls, Typed, left_open, instantiated, unify, mismatch, sort_of}
use Rattle.lf_elaboration.specs.Application.{agreed}
use Rattle.lf_elaboration.specs.Closing.{Mark, mark, all_assigned, all_levels_assigned, close}
use Rattle.lf_elaboration.specs.Motive.{places_for}
use Rattle.lf_elaboration.specs.Equations.{Equation, as_equation, equation_term}
use Rattle.lf_elaboration.specs.Direct.{Rest, fails_as, ends_with, proves_one}
use Rattle.lf_elaboration.specs.Apply as applying
use Rattle.lf_elaboration.specs.Apply.{Opened, Given, goals_given}
use Rattle.lf_elaboration.specs.Rewrite as rewriting
use Rattle.lf_elaboration.specs.Rewrite.{step_or_fail, sided, proof_sided, is_reflexive, reflexivity, first_goal, unfolding_term}
use Rattle.lf_terms.proofs.Binds.{bound, joined, joined_as, ended_so}
use Rattle.lf_opening.specs.Openings.{opened_front, open_first, opened_whole, open_within}
use Rattle.lf_opening.specs.Pis.{pis_of}
use Rattle.lf_opening.specs.Goals.{opened_at, opened_against, fitting, goals_of, goals_left, applied}
use Rattle.lf_opening.specs.Rules.{
  in_prop,
  first_unified,
  placed,
  none_left,
  equation_in,
  equation_at,
  fixed,
  rewritten_by,
  rewritten_fixed,
  rewritten_whole,
  rewrite_by,
  rewrite_with,
  rewrite_opened,
  rule_opened,
  by_rule,
  proved,
  reflexive_proof,
}
use Rattle.lf_opening.specs.Cycle as cycle

-- ---- apply

module _ (P : Part) (c : Calls) (L : Locals) (at levels : ℕ) (goal : Term) (next : Opened → Run Term) where
  -- Behind the unification with the goal.
  abbrev behind : Opened → Run Term
  behind o = applying.goals_of at o.given >>= (λ gs. all_levels_assigned P levels >> next (record o { given = gs }))

  abbrev unified : Opened → Run Term
  unified o = unify c L o.ty goal >>= (λ fits. or_else_fail fits (mismatch P L at o.ty goal) >> behind o)

  left_step : (o : Opened) (u : ℕ) (s : State)
      → go_on (go_on (goals_left P at levels o.given u s) (λ gs. gives (record o { given = gs }))) next ≡ behind o u s
  unfolding goals_left goals_of
  left_step o u s =
      joined (goals_left P at levels o.given u s) (λ gs. gives (record o { given = gs })) next
      ∙ ended_so (applying.goals_of at o.given u s) (λ gs. all_levels_assigned P levels) (λ gs. next (record o { given = gs }))

  fit_step : (t A : Term) (u : ℕ) (s : State) → go_on (fitting P c L at goal t A u s) behind ≡ go_on (opened_against c L at goal t A u s) unified
  unfolding fitting
  fit_step t A u s =
      ended_so (opened_against c L at goal t A u s) (λ o. agreed P c L at o.ty (Some goal)) behind
      ∙ bound (opened_against c L at goal t A u s) _ _ (λ o v r.
      joined (unify c L o.ty goal v r) (λ fits. or_else_fail fits (mismatch P L at o.ty goal)) (λ z. behind o))

  front_step : (t A : Term) (u : ℕ) (s : State)
      → go_on (opened_against c L at goal t A u s) unified
      ≡ go_on (instantiated A u s) (λ T v r. go_on (pis_of c L.types T v r) (λ n v r. go_on (pis_of c L.types goal v r) (λ m.
      opened_front c L at (n - m) t T >>= unified)))
  unfolding opened_against opened_at
  front_step t A u s =
      joined_as (instantiated A u s) (λ T. opened_at c L at goal t T) unified _ (λ T v r.
      joined_as (pis_of c L.types T v r) (λ n. pis_of c L.types goal >>= (λ m. opened_front c L at (n - m) t T)) unified _ (λ n v r.
      joined (pis_of c L.types goal v r) (λ m. opened_front c L at (n - m) t T) unified))

  applied_is : (t A : Term) (u : ℕ) (s : State)
      → go_on (applied P c L at levels goal t A u s) next
      ≡ go_on (instantiated A u s) (λ T v r. go_on (pis_of c L.types T v r) (λ n v r. go_on (pis_of c L.types goal v r) (λ m.
      opened_front c L at (n - m) t T >>= unified)))
  unfolding applied
  applied_is t A u s =
      joined_as (fitting P c L at goal t A u s) (λ o. goals_left P at levels o.given >>= (λ gs. gives (record o { given = gs }))) next behind (λ o v r.
      left_step o v r)
      ∙ fit_step t A u s
      ∙ front_step t A u s

pub apply_is : (P : Part) (c : Calls) (L : Locals) (goal : Term) (t : TermTree) (rest : Rest) (u : ℕ) (s : State)
    → applying.apply_item P c L goal t rest u s ≡ cycle.apply_by P c L goal t rest u s
unfolding pis_of opened_front open_first
apply_is P c L goal t rest u s =
    bound (mark u s) _ _ (λ k v r.
    bound (c.elaborate left_open L t None v r) _ _ (λ e v r.
    bound (close P c L k.terms None v r) _ _ (λ z v r.
    sym (applied_is P c L (place t) k.levels goal (λ o. rest L (goals_given o.given) >> instantiated o.term) e.term e.ty v r))))

-- ---- rw

module _ (P : Part) (c : Calls) (L : Locals) (at : ℕ) (i : ProofItem) (k : Mark) (goal : Term) where
  fixed_is : (e : Equation) (h : Term) (u : ℕ) (s : State)
      → rewritten_fixed at i goal e h u s
      ≡ go_on (instantiated (equation_term e) u s) (λ t v r. go_on (step_or_fail at i (as_equation t) v r) (λ f. rewritten_by at i goal f h))
  unfolding rewritten_fixed fixed equation_at equation_in
  fixed_is e h u s =
      joined (instantiated (equation_term e) u s) (λ t. step_or_fail at i (as_equation t)) (λ f. rewritten_by at i goal f h)

  whole_is : (e : Equation) (h : Term) (u : ℕ) (s : State)
      → rewritten_whole P at i k.terms k.levels goal e h u s
      ≡ go_on (all_assigned k.terms u s) (λ z v r. go_on (all_levels_assigned P k.levels v r) (λ z. rewritten_fixed at i goal e h))
  unfolding rewritten_whole none_left
  whole_is e h u s = joined (all_assigned k.terms u s) (λ z. all_levels_assigned P k.levels) (λ z. rewritten_fixed at i goal e h)

  by_is : (e : Equation) (h : Term) (u : ℕ) (s : State)
      → rewrite_by P c L at i k.terms k.levels goal e h u s ≡ rewriting.rewrite_by P c L at i k goal e h u s
  unfolding rewrite_by placed first_unified rewritten_by
  by_is e h u s =
      joined_as (first_unified c L e.left (places_for e.left goal) u s) (λ fits. or_else_fail fits (fails_as at i))
      (λ z. rewritten_whole P at i k.terms k.levels goal e h) _ (λ fits v r.
      bound (or_else_fail fits (fails_as at i) v r) _ _ (λ z v r.
      whole_is e h v r
      ∙ bound (all_assigned k.terms v r) _ _ (λ z v r.
      bound (all_levels_assigned P k.levels v r) _ _ (λ z v r. fixed_is e h v r))))

  with_is : (back : Bool) (h : Term) (e : Option Equation) (u : ℕ) (s : State)
      → rewrite_with P c L at i back k.terms k.levels goal h e u s ≡ rewriting.rewrite_with P c L at i back k goal h e u s
  with_is back h None u s = refl
  with_is back h (Some e) u s = bound (put (proof_sided back e h) u s) _ _ (λ p v r. by_is (sided back e) p v r)

  rule_is : (term_at : ℕ) (back : Bool) (t A : Term) (u : ℕ) (s : State)
      → by_rule P c L at i term_at back k.terms k.levels goal t A u s
      ≡ go_on (instantiated A u s) (λ T v r. go_on (opened_whole c L term_at t T v r) (λ o.
      rewriting.rewrite_with P c L at i back k goal o.term (as_equation o.ty)))
  unfolding by_rule rule_opened rewrite_opened
  rule_is term_at back t A u s =
      joined_as (instantiated A u s) (λ T. opened_whole c L term_at t T) (λ o. rewrite_opened P c L at i back k.terms k.levels goal o.term o.ty) _
      (λ T v r. bound (opened_whole c L term_at t T v r) _ _ (λ o v r. with_is back o.term (as_equation o.ty) v r))

module _ (P : Part) (c : Calls) (L : Locals) (at : ℕ) (i : ProofItem) (term_at : ℕ) (back : Bool) (goal : Term) (term : Run Typed) where
  pub rule_step_is : (u : ℕ) (s : State)
      → rewriting.rule_step P c L at i term_at back goal term u s ≡ cycle.rule_step_by P c L at i term_at back goal term u s
  unfolding in_prop opened_whole open_within
  rule_step_is u s =
      bound (sort_of P c L at goal u s) _ _ (λ l v r.
      bound (or_else_fail (is_same l level_zero) (fails_as at i) v r) _ _ (λ z v r.
      bound (mark v r) _ _ (λ k v r.
      bound (term v r) _ _ (λ e v r.
      bound (close P c L k.terms None v r) _ _ (λ z v r. sym (rule_is P c L at i k goal term_at back e.term e.ty v r))))))
      ∙ sym (joined (sort_of P c L at goal u s) (λ l. or_else_fail (is_same l level_zero) (fails_as at i)) _)

pub rw_none : (P : Part) (c : Calls) (L : Locals) (at : ℕ) (rest : Rest) (goal : Term) (u : ℕ) (s : State)
    → rewriting.rw P c L at written.end_rules rest goal u s ≡ rewriting.after_rules rest L goal u s
rw_none P c L at rest goal u s = refl

pub rw_is : (P : Part) (c : Calls) (L : Locals) (at p : ℕ) (back : Bool) (t : TermTree) (rs : RuleTrees) (rest : Rest) (goal : Term) (u : ℕ) (s : State)
    → rewriting.rw P c L at (written.rule_and (written.rule p back t) rs) rest goal u s
    ≡ cycle.rw_by P c L at t back (rewriting.rw P c L at rs rest) goal u s
unfolding proved
rw_is P c L at p back t rs rest goal u s =
    ap (λ o. go_on o (λ st. rewriting.proved_by st (rewriting.rw P c L at rs rest (first_goal st))))
    (rule_step_is P c L at says.Rw (place t) back goal (c.elaborate left_open L t None) u s)

pub unfold_is : (P : Part) (c : Calls) (L : Locals) (at : ℕ) (x : Ident) (rest : Rest) (goal : Term) (u : ℕ) (s : State)
    → rewriting.unfold_item P c L at x rest goal u s ≡ cycle.unfold_by P c L at x rest goal u s
unfolding proved
unfold_is P c L at x rest goal u s =
    ap (λ o. go_on o (λ st. rewriting.proved_by st (proves_one rest L (first_goal st))))
    (rule_step_is P c L at says.Unfold x.at false goal (unfolding_term P L at x) u s)

-- ---- Behind the rules

after_step : (b : Bool) (t : Term) (rest : Rest) (L : Locals) (goal : Term) (u : ℕ) (s : State)
    → choose b (put t >>= (λ p. ends_with rest L p)) (proves_one rest L goal) u s
    ≡ go_on (choose b (put t >>= (λ p. gives (Some p))) (gives None) u s) (cycle.after_proof rest L goal)
after_step true t rest L goal u s = sym (joined (put t u s) (λ p. gives (Some p)) (cycle.after_proof rest L goal))
after_step false t rest L goal u s = refl

pub after_rules_is : (rest : Rest) (L : Locals) (goal : Term) (u : ℕ) (s : State)
    → rewriting.after_rules rest L goal u s ≡ cycle.after_rules_by rest L goal u s
unfolding reflexive_proof
after_rules_is rest L goal u s = after_step (is_reflexive (as_equation goal)) (reflexivity (as_equation goal)) rest L goal u s
