-- `apply`, `rw` and `unfold`, and the items that leave at most one goal: what they do to the state, and what they wait for.
use Rattle.std.proofs.Common.{ℕ, zero, suc, ◌-◌, Bool, true, false, List, [], ◌∷◌, Option, Some, None, is_some}
use Rattle.lf_core.specs.Term.{Path, level_zero, Term}
use Rattle.lf_name.specs.declared.binder.BinderKind.{BinderKind}
use Rattle.lf_name.specs.declared.binder.BinderKind.TheVariants.{Explicit, Implicit, Inst}
use Rattle.lf_rules.specs.Environment.{Context}
use Rattle.lf_syntax.specs.declared.leaf.Ident.{Ident}
use Rattle.lf_syntax.specs.Tree as written
use Rattle.lf_syntax.specs.Tree.{TermTree, ItemTrees, RuleTrees, place}
use Rattle.lf_checker.specs.Extends.{Shape}
use Rattle.lf_checker.specs.Calls.{Seen, known, unknown, missing}
use Rattle.lf_elaboration.specs.Forms.{Binding, as_pi}
use Rattle.lf_elaboration.specs.Messages.{ProofItem}
use Rattle.lf_elaboration.specs.Messages as says
use Rattle.lf_elaboration.specs.Run.{◌>>=◌, ◌>>◌, or_else_fail, checks}
use Rattle.lf_elaboration.specs.Part.{Part, Locals, State, Run, Calls, Typed, given, left_open, instantiated, unify, mismatch, sort_of}
use Rattle.lf_checker.specs.LevelTest.{is_same}
use Rattle.lf_checker.specs.Whnf.{turn_limit}
use Rattle.lf_elaboration.specs.Terms.{as_type}
use Rattle.lf_elaboration.specs.Identifiers.{Meaning, own_type, constant, nothing, waits, meaning_of, is_realized}
use Rattle.lf_elaboration.specs.Scope.{local_named}
use Rattle.lf_elaboration.specs.Closing.{Mark, all_levels_assigned}
use Rattle.lf_elaboration.specs.Step.{Step}
use Rattle.lf_elaboration.specs.Step as step
use Rattle.lf_elaboration.specs.Equations.{Equation, as_equation}
use Rattle.lf_elaboration.specs.Direct.{
  Goal,
  Rest,
  fails_as,
  sole,
  proves_one,
  ends_with,
  closed_term,
  closed_type,
  block,
  exact,
  by_assumption,
  assumption,
  sorry,
  introduced,
  intro,
  have,
}
use Rattle.lf_elaboration.specs.Metavariables.{count, level_count, value}
use Rattle.lf_elaboration.specs.Apply.{one_and, pis_of, Opened, Given, as_goal, goals_of, goals_given, for_pi, open_first, apply_item}
use Rattle.lf_elaboration.specs.Rewrite as rewrite
use Rattle.lf_elaboration.specs.Rewrite.{
  open_all,
  first_unified,
  rewrite_by,
  rewrite_with,
  rule_step,
  first_goal,
  after_rules,
  rw,
  equation_when,
  made_equation,
  step_or_fail,
  equation_for,
  unfolding_term,
  unfold_item,
}
use Rattle.lf_core.specs.declared.constant.TaskKey.{TaskKey}
use Rattle.lf_extension_laws.proofs.Only.{SeenIn, Reads, only_then, only_spend, only_caught, only_choose, only_put, only_made, only_opening}
use Rattle.lf_elaboration_laws.proofs.Keeping.{
  Leaving,
  Held,
  keeps_weaker,
  keeps_then,
  keeps_choose,
  keeps_or_fail,
  keeps_spend,
  keeps_checks,
  keeps_instantiated,
  keeps_instantiated_all,
  keeps_placeholder,
  keeps_ask,
}
use Rattle.lf_elaboration_laws.proofs.KeepingParts.{
  MeaningIn,
  keeps_means,
  keeps_all_assigned,
  keeps_none_escapes,
  keeps_fresh_levels,
  KeepingCalls,
  keeps_unify,
  keeps_sort_of,
  keeps_closing,
}
use Rattle.lf_elaboration_laws.proofs.OnlySteps.{only_intro, only_assumption, only_rewritten, only_proof}
use Rattle.lf_elaboration_laws.proofs.KeepingTerms.{keeps_as_type}

ruleset keeps = (
  keeps_then,
  keeps_choose,
  keeps_or_fail,
  keeps_spend,
  keeps_checks,
  keeps_instantiated,
  keeps_instantiated_all,
  keeps_placeholder,
  keeps_ask,
  keeps_all_assigned,
  keeps_none_escapes,
)

-- What is asked of the checker.
ruleset only = (only_then, only_spend, only_caught, only_choose, only_put, only_made, only_opening)

-- What is behind an item.
abbrev pub KeepingRest : (State → State → Type 0) → (State → State → Type 0) → (TaskKey → Type 0) → Rest → Type 0
KeepingRest Proofs End Key r = (L : Locals) (gs : List Goal) (u : ℕ) (w : State) → Held Proofs End Key w (r L gs u w)

-- What `apply`, and a rule of `rw`, do behind their terms.
abbrev behind_term : Part → Calls → Locals → Term → TermTree → ℕ → Rest → Typed → Run Term
behind_term P c L goal s levels rest r = do
  T ← instantiated r.ty
  n ← pis_of c turn_limit L.types T
  m ← pis_of c turn_limit L.types goal
  o ← open_first c L (place s) (n - m) (record { term = r.term; ty = T; given = [] })
  fits ← unify c L o.ty goal
  or_else_fail fits (mismatch P L (place s) o.ty goal)
  gs ← goals_of (place s) o.given
  all_levels_assigned P levels
  rest L (goals_given gs)
  instantiated o.term

abbrev behind_rule : Part → Calls → Locals → ℕ → ProofItem → ℕ → Bool → Mark → Term → Typed → Run Step
behind_rule P c L at i term_at back j goal r = do
  T ← instantiated r.ty
  o ← open_all c L term_at turn_limit (record { term = r.term; ty = T; given = [] })
  rewrite_with P c L at i back j goal o.term (as_equation o.ty)

module _ (Terms Proofs End : State → State → Type 0) (law : Leaving Terms Proofs End) (Key : TaskKey → Type 0) where
  pub keeps_sole : (ps : List Term) (u : ℕ) (w : State) → Held Proofs End Key w (sole ps u w)
  keeps_sole (p ∷ []) u w = law.proofs.same w
  keeps_sole [] u w = law.proofs.ends w w (law.proofs.same w)
  keeps_sole (p ∷ q ∷ ps) u w = law.proofs.ends w w (law.proofs.same w)

  pub keeps_one : (r : Rest) → KeepingRest Proofs End Key r → (L : Locals) (goal : Term) (u : ℕ) (w : State) → Held Proofs End Key w (proves_one r L goal u w)
  keeps_one r h L goal u w = search (keeps, only, law.proofs, law.proofs.same, law.proofs.ends, h, keeps_sole) depth 12

  pub keeps_ends : (r : Rest) → KeepingRest Proofs End Key r → (L : Locals) (p : Term) (u : ℕ) (w : State) → Held Proofs End Key w (ends_with r L p u w)
  keeps_ends r h L p u w = search (keeps, only, law.proofs, law.proofs.same, law.proofs.ends, h) depth 10

  pub keeps_step_or_fail : {A : Type 0} (at : ℕ) (i : ProofItem) (o : Option A) (u : ℕ) (w : State) → Held Proofs End Key w (step_or_fail at i o u w)
  keeps_step_or_fail at i (Some s) u w = law.proofs.same w
  keeps_step_or_fail at i None u w = law.proofs.ends w w (law.proofs.same w)

module _ (Terms Proofs End : State → State → Type 0) (law : Leaving Terms Proofs End) (Key : TaskKey → Type 0) (P : Part) (reads : Reads P.view Key)
    (c : Calls) (k : KeepingCalls Terms Proofs End Key c) where
  -- ---- Terms of items

  keeps_closed_term : (L : Locals) (s : TermTree) (E : Option Term) (u : ℕ) (w : State)
      → Held Proofs End Key w (closed_term P c L s E u w)
  keeps_closed_term L s E u w =
      keeps_closing Terms Proofs End law Key P c k L (Some (level_count w.changes)) w (c.elaborate given L s E u w) (λ r. instantiated r.term)
      (k.elaborate given L s E u w) (λ r v z. keeps_instantiated Proofs End law.proofs Key r.term v z)

  keeps_closed_type : (L : Locals) (s : TermTree) (u : ℕ) (w : State)
      → Held Proofs End Key w (closed_type P c L s u w)
  keeps_closed_type L s u w =
      keeps_closing Terms Proofs End law Key P c k L (Some (level_count w.changes)) w (as_type P c L s u w) (λ A. instantiated A.term)
      (keeps_as_type Terms Proofs End law Key P reads c k L s u w) (λ A v z. keeps_instantiated Proofs End law.proofs Key A.term v z)

  -- ---- Items that leave at most one goal

  module _ (r : Rest) (h : KeepingRest Proofs End Key r) where
    pub keeps_block : (L : Locals) (goal : Term) (is : ItemTrees) (u : ℕ) (w : State) → Held Proofs End Key w (block c L goal is r u w)
    keeps_block L goal is u w = search (keeps, only, law.proofs, law.proofs.same, law.proofs.ends, k.prove, keeps_ends Terms Proofs End law Key r h) depth 12

    pub keeps_exact : (L : Locals) (goal : Term) (s : TermTree) (u : ℕ) (w : State)
        → Held Proofs End Key w (exact P c L goal s r u w)
    keeps_exact L goal s u w =
        search (keeps, only, law.proofs, law.proofs.same, law.proofs.ends, keeps_closed_term, keeps_ends Terms Proofs End law Key r h) depth 12

    keeps_by_assumption : (at : ℕ) (L : Locals) (o : Option ℕ) (u : ℕ) (w : State) → Held Proofs End Key w (by_assumption at L r o u w)
    keeps_by_assumption at L (Some k) u w = keeps_ends Terms Proofs End law Key r h L _ u w
    keeps_by_assumption at L None u w = law.proofs.ends w w (law.proofs.same w)

    pub keeps_assumed : (at : ℕ) (L : Locals) (goal : Term) (u : ℕ) (w : State) → Held Proofs End Key w (assumption c at L goal r u w)
    keeps_assumed at L goal u w =
        keeps_then Proofs End Key law.proofs w (checks (step.assumption c.check L.types goal) u w) _
        (keeps_checks Proofs End Key law.proofs (step.assumption c.check L.types goal) u w (only_assumption Key c.check k.check L.types goal u))
        (λ o v z. keeps_by_assumption at L o v z)

    pub keeps_sorry_item : (at : ℕ) (L : Locals) (goal : Term) (u : ℕ) (w : State)
        → Held Proofs End Key w (sorry P c at L goal r u w)
    keeps_sorry_item at L goal u w =
        search (
          keeps,
          only,
          law.proofs,
          law.proofs.same,
          law.proofs.ends,
          keeps_sort_of Proofs End law.proofs Key P c k.check k.unify,
          keeps_ends Terms
              Proofs End law Key r h,
        ) depth 14

    pub keeps_have : (L : Locals) (goal : Term) (x : Ident) (s t : TermTree) (u : ℕ) (w : State)
        → Held Proofs End Key w (have P c L goal x s t r u w)
    keeps_have L goal x s t u w =
        search (keeps, only, law.proofs, law.proofs.same, law.proofs.ends, keeps_closed_type, keeps_closed_term, keeps_one Terms Proofs End law Key r h) depth
        24

    keeps_introduced : (at : ℕ) (L : Locals) (x : Ident) (o : Option Binding) (f : Locals → Term → Run Term)
        → ((M : Locals) (t : Term) (u : ℕ) (w : State) → Held Proofs End Key w (f M t u w)) → (u : ℕ) (w : State)
        → Held Proofs End Key w (introduced at L x o f u w)
    keeps_introduced at L x (Some p) f i u w = search (keeps, only, law.proofs, law.proofs.same, law.proofs.ends, i) depth 16
    keeps_introduced at L x None f i u w = law.proofs.ends w w (law.proofs.same w)

    pub keeps_intros : (at : ℕ) (xs : List Ident) (L : Locals) (goal : Term) (u : ℕ) (w : State)
        → Held Proofs End Key w (intro c at xs r L goal u w)
    keeps_intros at [] L goal u w = keeps_one Terms Proofs End law Key r h L goal u w
    keeps_intros at (x ∷ xs) L goal u w =
        keeps_then Proofs End Key law.proofs w (checks (step.intro c.check L.types goal) u w) _
        (keeps_checks Proofs End Key law.proofs (step.intro c.check L.types goal) u w (only_intro Key c.check k.check L.types goal u))
        (λ o v z. keeps_introduced at L x o (intro c at xs r) (keeps_intros at xs) v z)

  -- ---- apply

  keeps_one_and : (C : Context) (o : Option Binding) (f : Context → Term → Run ℕ)
      → ((D : Context) (t : Term) (u : ℕ) (w : State) → Held Proofs End Key w (f D t u w)) → (u : ℕ) (w : State) → Held Proofs End Key w (one_and C o f u w)
  keeps_one_and C None f i u w = law.proofs.same w
  keeps_one_and C (Some p) f i u w = search (keeps, only, law.proofs, law.proofs.same, law.proofs.ends, i) depth 14

  keeps_pis_of : (n : ℕ) (C : Context) (T : Term) (u : ℕ) (w : State) → Held Proofs End Key w (pis_of c n C T u w)
  keeps_pis_of zero C T u w = law.proofs.ends w w (law.proofs.same w)
  keeps_pis_of (suc n) C T u w =
      keeps_then Proofs End Key law.proofs w (checks (c.check.whnf true C T) u w) _
      (keeps_checks Proofs End Key law.proofs (c.check.whnf true C T) u w (k.check.whnf true true C T u))
      (λ W v z. keeps_one_and C (as_pi W) (pis_of c n) (keeps_pis_of n) v z)

  keeps_for_pi : (L : Locals) (at : ℕ) (o : Opened) (p : Option Binding) (f : Opened → Run Opened)
      → ((x : Opened) (u : ℕ) (w : State) → Held Proofs End Key w (f x u w)) → (u : ℕ) (w : State) → Held Proofs End Key w (for_pi L at o p f u w)
  keeps_for_pi L at o None f i u w = law.proofs.same w
  keeps_for_pi L at o (Some p) f i u w = search (keeps, only, law.proofs, law.proofs.same, law.proofs.ends, i) depth 14

  keeps_open_first : (L : Locals) (at n : ℕ) (o : Opened) (u : ℕ) (w : State) → Held Proofs End Key w (open_first c L at n o u w)
  keeps_open_first L at zero o u w = law.proofs.same w
  keeps_open_first L at (suc n) o u w =
      keeps_then Proofs End Key law.proofs w _ _ (keeps_checks Proofs End Key law.proofs (c.check.whnf true L.types o.ty) u w
      (k.check.whnf true true L.types o.ty u))
      (λ W v z. keeps_for_pi L at o (as_pi W) (open_first c L at n) (keeps_open_first L at n) v z)

  keeps_as_goal : (at : ℕ) (g : Given) (b : BinderKind) (m : Run (List Given)) → ((u : ℕ) (w : State) → Held Proofs End Key w (m u w)) → (u : ℕ) (w : State)
      → Held Proofs End Key w (as_goal at g b m u w)
  keeps_as_goal at g Explicit m h u w = search (keeps, only, law.proofs, law.proofs.same, law.proofs.ends, h) depth 10
  keeps_as_goal at g Implicit m h u w = law.proofs.ends w w (law.proofs.same w)
  keeps_as_goal at g Inst m h u w = law.proofs.ends w w (law.proofs.same w)

  keeps_goals_of : (at : ℕ) (gs : List Given) (u : ℕ) (w : State) → Held Proofs End Key w (goals_of at gs u w)
  keeps_goals_of at [] u w = law.proofs.same w
  keeps_goals_of at (g ∷ gs) u w =
      keeps_choose Proofs End Key (is_some (value w.changes g.number)) (goals_of at gs) (as_goal at g g.kind (goals_of at gs)) u w (keeps_goals_of at gs u w)
      (keeps_as_goal at g g.kind (goals_of at gs) (keeps_goals_of at gs) u w)

  keeps_behind_term : (r : Rest) → KeepingRest Proofs End Key r → (L : Locals) (goal : Term) (s : TermTree) (levels : ℕ) (y : Typed) (u : ℕ) (w : State)
      → Held Proofs End Key w (behind_term P c L goal s levels r y u w)
  keeps_behind_term r h L goal s levels y u w = search (
    keeps,
    only,
    law.proofs,
    law.proofs.same,
    law.proofs.ends,
    keeps_pis_of,
    keeps_open_first,
    keeps_unify Proofs End law.proofs Key P c k.check k.unify,
    keeps_goals_of,
    h,
  ) depth 44

  pub keeps_apply : (r : Rest) → KeepingRest Proofs End Key r → (L : Locals) (goal : Term) (s : TermTree) (u : ℕ) (w : State)
      → Held Proofs End Key w (apply_item P c L goal s r u w)
  keeps_apply r h L goal s u w =
      keeps_closing Terms Proofs End law Key P c k L None w (c.elaborate left_open L s None u w) (behind_term P c L goal s (level_count w.changes) r)
      (k.elaborate left_open L s None u w) (λ y v z. keeps_behind_term r h L goal s (level_count w.changes) y v z)

  -- ---- rw and unfold

  keeps_open_all : (L : Locals) (at n : ℕ) (o : Opened) (u : ℕ) (w : State) → Held Proofs End Key w (open_all c L at n o u w)
  keeps_open_all L at zero o u w = law.proofs.ends w w (law.proofs.same w)
  keeps_open_all L at (suc n) o u w =
      keeps_then Proofs End Key law.proofs w _ _ (keeps_checks Proofs End Key law.proofs (c.check.whnf true L.types o.ty) u w
      (k.check.whnf true true L.types o.ty u))
      (λ W v z. keeps_for_pi L at _ (as_pi W) (open_all c L at n) (keeps_open_all L at n) v z)

  keeps_first : (L : Locals) (y : Term) (ts : List Term) (u : ℕ) (w : State) → Held Proofs End Key w (first_unified c L y ts u w)
  keeps_first L y [] u w = law.proofs.same w
  keeps_first L y (t ∷ ts) u w =
      let rest : (v : ℕ) (z : State) → Held Proofs End Key z (first_unified c L y ts v z) = λ v z. keeps_first L y ts v z in
      search (keeps, only, law.proofs, law.proofs.same, law.proofs.ends, keeps_unify Proofs End law.proofs Key P c k.check k.unify, rest) depth 14

  keeps_rewrite_by : (L : Locals) (at : ℕ) (i : ProofItem) (j : Mark) (goal : Term) (y : Equation) (t : Term) (u : ℕ) (w : State)
      → Held Proofs End Key w (rewrite_by P c L at i j goal y t u w)
  keeps_rewrite_by L at i j goal y t u w =
      search (keeps, only, law.proofs, law.proofs.same, law.proofs.ends, keeps_first, keeps_step_or_fail Terms Proofs End law Key, only_rewritten Key) depth
      34

  keeps_rewrite_with : (L : Locals) (at : ℕ) (i : ProofItem) (b : Bool) (j : Mark) (goal t : Term) (o : Option Equation) (u : ℕ) (w : State)
      → Held Proofs End Key w (rewrite_with P c L at i b j goal t o u w)
  keeps_rewrite_with L at i b j goal t None u w = law.proofs.ends w w (law.proofs.same w)
  keeps_rewrite_with L at i b j goal t (Some y) u w = search (keeps, only, law.proofs, law.proofs.same, law.proofs.ends, keeps_rewrite_by) depth 14

  keeps_tested : (b : Bool) (at : ℕ) (i : ProofItem) (u : ℕ) (w : State) → Held Proofs End Key w (or_else_fail b (fails_as at i) u w)
  keeps_tested true at i u w = law.proofs.same w
  keeps_tested false at i u w = law.proofs.ends w w (law.proofs.same w)

  keeps_behind_rule : (L : Locals) (at : ℕ) (i : ProofItem) (p : ℕ) (b : Bool) (j : Mark) (goal : Term) (y : Typed) (u : ℕ) (w : State)
      → Held Proofs End Key w (behind_rule P c L at i p b j goal y u w)
  keeps_behind_rule L at i p b j goal y u w =
      search (keeps, only, law.proofs, law.proofs.same, law.proofs.ends, keeps_open_all, keeps_rewrite_with) depth 20

  keeps_rule : (L : Locals) (at : ℕ) (i : ProofItem) (p : ℕ) (b : Bool) (goal : Term) (m : Run Typed) → ((u : ℕ) (w : State) → Held Terms End Key w (m u w))
      → (u : ℕ) (w : State) → Held Proofs End Key w (rule_step P c L at i p b goal m u w)
  keeps_rule L at i p b goal m h u w =
      keeps_then Proofs End Key law.proofs w (sort_of P c L at goal u w) _ (keeps_sort_of Proofs End law.proofs Key P c k.check k.unify L at goal u w) λ q u1
      w1.
      keeps_then Proofs End Key law.proofs w1 (or_else_fail (is_same q level_zero) (fails_as at i) u1 w1) _ (keeps_tested (is_same q level_zero) at i u1 w1)
      λ x u2 w2.
      keeps_closing Terms Proofs End law Key P c k L None w2 (m u2 w2)
      (behind_rule P c L at i p b (record { terms = count w2.changes; levels = level_count w2.changes }) goal) (h u2 w2)
      (λ y v z. keeps_behind_rule L at i p b (record { terms = count w2.changes; levels = level_count w2.changes }) goal y v z)

  keeps_proved : (s : Step) (m : Run Term) → ((u : ℕ) (w : State) → Held Proofs End Key w (m u w)) → (u : ℕ) (w : State)
      → Held Proofs End Key w (rewrite.proved_by s m u w)
  keeps_proved s m h u w = search (keeps, only, law.proofs, law.proofs.same, law.proofs.ends, only_proof Key, h) depth 12

  keeps_after_rules : (r : Rest) → KeepingRest Proofs End Key r → (L : Locals) (goal : Term) (u : ℕ) (w : State)
      → Held Proofs End Key w (after_rules r L goal u w)
  keeps_after_rules r h L goal u w =
      search (keeps, only, law.proofs, law.proofs.same, law.proofs.ends, keeps_ends Terms Proofs End law Key r h, keeps_one Terms Proofs End law Key r h)
      depth 16

  pub keeps_rw : (r : Rest) → KeepingRest Proofs End Key r → (L : Locals) (at : ℕ) (rs : RuleTrees) (goal : Term) (u : ℕ) (w : State)
      → Held Proofs End Key w (rw P c L at rs r goal u w)
  keeps_rw r h L at written.end_rules goal u w = keeps_after_rules r h L goal u w
  keeps_rw r h L at (written.rule_and (written.rule p b t) rs) goal u w =
      keeps_then Proofs End Key law.proofs w _ _ (keeps_rule L at says.Rw (place t) b goal _ (λ v z. k.elaborate _ L t None v z) u w)
      (λ s v z. keeps_proved s _ (λ y x. keeps_rw r h L at rs (first_goal s) y x) v z)

  keeps_equation_when : (b : Bool) (at : ℕ) (n : Path) (s : Shape) (u : ℕ) (w : State) → Held Proofs End Key w (equation_when b at n s u w)
  keeps_equation_when false at n s u w = law.proofs.ends w w (law.proofs.same w)
  keeps_equation_when true at n s u w =
      search (keeps, only, law.proofs, law.proofs.same, law.proofs.ends, keeps_fresh_levels Proofs End law.proofs Key) depth 18

  keeps_made_equation : (at : ℕ) (n : Path) (q : Seen) (u : ℕ) (w : State) → SeenIn Key q → Held Proofs End Key w (made_equation P at n q u w)
  keeps_made_equation at n (known s) u w i = keeps_equation_when (is_realized P.view n) at n s u w
  keeps_made_equation at n unknown u w i = law.proofs.ends w w (law.proofs.same w)
  keeps_made_equation at n (missing j) u w i = i

  keeps_equation_for : (at : ℕ) (m : Meaning) (u : ℕ) (w : State) → MeaningIn Key m → Held Proofs End Key w (equation_for P at m u w)
  keeps_equation_for at (waits j) u w i = i
  keeps_equation_for at nothing u w i = law.proofs.ends w w (law.proofs.same w)
  keeps_equation_for at (own_type n) u w i = law.proofs.ends w w (law.proofs.same w)
  keeps_equation_for at (constant n s) u w i = search (keeps, only, law.proofs, law.proofs.same, law.proofs.ends, keeps_made_equation, reads.sees) depth 12

  keeps_unfolding : (L : Locals) (at : ℕ) (x : Ident) (u : ℕ) (w : State)
      → Held Proofs End Key w (unfolding_term P L at x u w)
  keeps_unfolding L at x u w =
      keeps_choose Proofs End Key (is_some (local_named L.names x.name)) (fails_as at says.Unfold) (equation_for P at (meaning_of P x.name)) u w
      (law.proofs.ends w w (law.proofs.same w))
      (keeps_equation_for at (meaning_of P x.name) u w (keeps_means Proofs End law.proofs Key P reads x.name))

  pub keeps_unfold : (r : Rest) → KeepingRest Proofs End Key r → (L : Locals) (at : ℕ) (x : Ident) (goal : Term) (u : ℕ) (w : State)
      → Held Proofs End Key w (unfold_item P c L at x r goal u w)
  keeps_unfold r h L at x goal u w =
      keeps_then Proofs End Key law.proofs w _ _ (keeps_rule L at says.Unfold x.at false goal _
      (λ v z. keeps_weaker Terms Proofs End Key law z (unfolding_term P L at x v z) (keeps_unfolding L at x v z)) u w)
      (λ s v z. keeps_proved s _ (keeps_one Terms Proofs End law Key r h L (first_goal s)) v z)
