-- The extension law of proof items, of blocks, and of terms and proofs tied together.
use Rattle.std.proofs.Common.{◌≡◌, ℕ, zero, suc, Bool, true, false, List, [], ◌∷◌, Option, Some, None, is_some, refl, subst}
use Rattle.lf_core.specs.Term.{Path, Term}
use Rattle.lf_rules.specs.Environment.{Context}
use Rattle.lf_syntax.specs.declared.leaf.Ident.{Ident}
use Rattle.lf_syntax.specs.Tree as written
use Rattle.lf_syntax.specs.Tree.{TermTree, ItemTree, ItemTrees, RuleTrees, place}
use Rattle.lf_checker.specs.View.{View}
use Rattle.lf_checker.specs.Extends.{Shape, Tells}
use Rattle.lf_checker.specs.Calls.{Seen, known, unknown, missing, see}
use Rattle.lf_core.specs.Suffix.{is_definition}
use Rattle.lf_extension_laws.proofs.Kept.{SameSeen, see_kept}
use Rattle.lf_extension_laws.proofs.Extended.{calls_kept}
use Rattle.lf_elaboration.specs.Forms.{Binding, as_pi}
use Rattle.lf_elaboration.specs.Messages.{ProofItem}
use Rattle.lf_elaboration.specs.Messages as says
use Rattle.lf_elaboration.specs.Run.{checks}
use Rattle.lf_elaboration.specs.Scope.{local_named}
use Rattle.lf_elaboration.specs.Part.{Part, Locals, State, Run, Typed}
use Rattle.lf_elaboration.specs.Identifiers.{Meaning, own_type, constant, nothing, waits, meaning_of}
use Rattle.lf_elaboration.specs.Scope.{candidates_of}
use Rattle.lf_elaboration.specs.Closing.{Mark}
use Rattle.lf_elaboration.specs.Step.{Step}
use Rattle.lf_elaboration.specs.Step as step
use Rattle.lf_elaboration.specs.Equations.{Equation}
use Rattle.lf_elaboration.specs.Induction.{induct}
use Rattle.lf_elaboration.specs.Injection.{inject}
use Rattle.lf_elaboration.specs.Direct.{
  Goal,
  Rest,
  proves_one,
  ends_with,
  closed_term,
  closed_type,
  block,
  exact,
  rfl_term,
  by_assumption,
  assumption,
  sorry,
  introduced,
  intro,
  have,
}
use Rattle.lf_elaboration.specs.Apply.{one_and, pis_of, Opened, for_pi, open_first, apply_item}
use Rattle.lf_elaboration.specs.Rewrite as rewrite
use Rattle.lf_elaboration.specs.Rewrite.{
  open_all,
  first_unified,
  rewrite_by,
  rewrite_with,
  rule_step,
  first_goal,
  is_reflexive,
  after_rules,
  rw,
  equation_when,
  made_equation,
  equation_of,
  equation_for,
  unfolding_term,
  unfold_item,
}
use Rattle.lf_elaboration.specs.Proof.{
  by_step,
  eliminate,
  injection,
  item,
  on_goal,
  proved,
  proof_of,
  no_rest,
  in_blocks,
  are_blocks,
  left_to,
  prove_items,
  start_of,
  prove_body,
}
use Rattle.lf_elaboration.specs.Terms.{elaborate_body}
use Rattle.lf_elaboration.specs.Elaboration as elaboration
use Rattle.lf_elaboration_laws.specs.Extension.{
  Kept,
  Synthesis,
  Agree,
  AgreeSynthesis,
  on_view,
  TermsExtend,
  ProofsExtend,
  ClosingExtends,
  BinderExtends,
}
use Rattle.lf_elaboration_laws.proofs.Kept.{kept_self, kept_then, kept_choose, kept_or_fail, kept_spend, kept_checks}
use Rattle.lf_elaboration_laws.proofs.Extended.{unifier_extends}
use Rattle.lf_elaboration_laws.proofs.Parts.{
  Setting,
  larger,
  SameMeaning,
  realized_kept,
  found_kept,
  kept_unify,
  kept_whnf,
  kept_sort_of,
  kept_proved_by,
  kept_close,
  kept_close_binder,
}
use Rattle.lf_elaboration_laws.proofs.Terms.{kept_as_type, kept_elaborate}
use Rattle.lf_elaboration_laws.proofs.Steps.{kept_intro, kept_assumption, kept_induct, kept_inject}

ruleset kept = (kept_self, kept_then, kept_choose, kept_or_fail, kept_spend)

-- What is behind an item, on the one view and on the other.
abbrev pub AgreeRest : Rest → Rest → Type 0
AgreeRest r q = (L : Locals) (gs : List Goal) (u : ℕ) (w : State) → Kept (r L gs u w) (q L gs u w)

kept_one : (r q : Rest) → AgreeRest r q → (L : Locals) (goal : Term) (u : ℕ) (w : State) → Kept (proves_one r L goal u w) (proves_one q L goal u w)
kept_one r q h L goal u w = search (kept, h) depth 6

kept_ends : (r q : Rest) → AgreeRest r q → (L : Locals) (p : Term) (u : ℕ) (w : State) → Kept (ends_with r L p u w) (ends_with q L p u w)
kept_ends r q h L p u w = search (kept, h) depth 6

module _ (e : Setting) where
  -- ---- Terms of items

  kept_closed_term : (L : Locals) (s : TermTree) (E : Option Term) (u : ℕ) (w : State)
      → Kept (closed_term e.part e.left L s E u w) (closed_term (larger e) e.right L s E u w)
  kept_closed_term L s E u w = search (kept, e.agree.elaborate, kept_close e) depth 14

  kept_closed_type : (L : Locals) (s : TermTree) (u : ℕ) (w : State)
      → Kept (closed_type e.part e.left L s u w) (closed_type (larger e) e.right L s u w)
  kept_closed_type L s u w = search (kept, kept_as_type e, kept_close e) depth 14

  -- ---- Items that leave at most one goal

  module _ (r q : Rest) (h : AgreeRest r q) where
    kept_block : (L : Locals) (goal : Term) (is : ItemTrees) (u : ℕ) (w : State) → Kept (block e.left L goal is r u w) (block e.right L goal is q u w)
    kept_block L goal is u w = search (kept, e.agree.prove, kept_ends r q h) depth 8

    kept_exact : (L : Locals) (goal : Term) (s : TermTree) (u : ℕ) (w : State)
        → Kept (exact e.part e.left L goal s r u w) (exact (larger e) e.right L goal s q u w)
    kept_exact L goal s u w = search (kept, kept_closed_term, kept_ends r q h) depth 8

    kept_by_assumption : (at : ℕ) (L : Locals) (o : Option ℕ) (u : ℕ) (w : State) → Kept (by_assumption at L r o u w) (by_assumption at L q o u w)
    kept_by_assumption at L (Some k) u w = kept_ends r q h L _ u w
    kept_by_assumption at L None u w = refl

    kept_assumed : (at : ℕ) (L : Locals) (goal : Term) (u : ℕ) (w : State) → Kept (assumption e.left at L goal r u w) (assumption e.right at L goal q u w)
    kept_assumed at L goal u w =
        kept_then (checks (step.assumption e.left.check L.types goal) u w) (checks (step.assumption e.right.check L.types goal) u w) _ _
        (kept_checks (step.assumption e.left.check L.types goal) (step.assumption e.right.check L.types goal) u w
        (kept_assumption e.part.view e.view e.tells e.left.check e.right.check e.agree.check L.types goal u))
        (λ o v z. kept_by_assumption at L o v z)

    kept_sorry_item : (at : ℕ) (L : Locals) (goal : Term) (u : ℕ) (w : State)
        → Kept (sorry e.part e.left at L goal r u w) (sorry (larger e) e.right at L goal q u w)
    kept_sorry_item at L goal u w = search (kept, kept_sort_of e, kept_ends r q h) depth 10

    kept_have : (L : Locals) (goal : Term) (x : Ident) (s t : TermTree) (u : ℕ) (w : State)
        → Kept (have e.part e.left L goal x s t r u w) (have (larger e) e.right L goal x s t q u w)
    kept_have L goal x s t u w = search (kept, kept_closed_type, kept_closed_term, kept_one r q h) depth 20

    kept_introduced : (at : ℕ) (L : Locals) (x : Ident) (o : Option Binding) (f g : Locals → Term → Run Term)
        → ((M : Locals) (t : Term) (u : ℕ) (w : State) → Kept (f M t u w) (g M t u w)) → (u : ℕ) (w : State)
        → Kept (introduced at L x o f u w) (introduced at L x o g u w)
    kept_introduced at L x (Some p) f g i u w = search (kept, i) depth 12
    kept_introduced at L x None f g i u w = refl

    kept_intros : (at : ℕ) (xs : List Ident) (L : Locals) (goal : Term) (u : ℕ) (w : State)
        → Kept (intro e.left at xs r L goal u w) (intro e.right at xs q L goal u w)
    kept_intros at [] L goal u w = kept_one r q h L goal u w
    kept_intros at (x ∷ xs) L goal u w =
        kept_then (checks (step.intro e.left.check L.types goal) u w) (checks (step.intro e.right.check L.types goal) u w) _ _
        (kept_checks (step.intro e.left.check L.types goal) (step.intro e.right.check L.types goal) u w
        (kept_intro e.part.view e.view e.tells e.left.check e.right.check e.agree.check L.types goal u))
        (λ o v z. kept_introduced at L x o (intro e.left at xs r) (intro e.right at xs q) (kept_intros at xs) v z)

  -- ---- apply

  kept_one_and : (C : Context) (o : Option Binding) (f g : Context → Term → Run ℕ)
      → ((D : Context) (t : Term) (u : ℕ) (w : State) → Kept (f D t u w) (g D t u w)) → (u : ℕ) (w : State) → Kept (one_and C o f u w) (one_and C o g u w)
  kept_one_and C None f g i u w = refl
  kept_one_and C (Some p) f g i u w = search (kept, i) depth 10

  kept_pis_of : (n : ℕ) (C : Context) (T : Term) (u : ℕ) (w : State) → Kept (pis_of e.left n C T u w) (pis_of e.right n C T u w)
  kept_pis_of zero C T u w = refl
  kept_pis_of (suc n) C T u w =
      kept_then (checks (e.left.check.whnf true C T) u w) (checks (e.right.check.whnf true C T) u w) _ _
      (kept_checks (e.left.check.whnf true C T) (e.right.check.whnf true C T) u w (e.agree.check.whnf true C T u))
      (λ W v z. kept_one_and C (as_pi W) (pis_of e.left n) (pis_of e.right n) (kept_pis_of n) v z)

  kept_for_pi : (L : Locals) (at : ℕ) (o : Opened) (p : Option Binding) (f g : Opened → Run Opened)
      → ((x : Opened) (u : ℕ) (w : State) → Kept (f x u w) (g x u w)) → (u : ℕ) (w : State) → Kept (for_pi L at o p f u w) (for_pi L at o p g u w)
  kept_for_pi L at o None f g i u w = refl
  kept_for_pi L at o (Some p) f g i u w = search (kept, i) depth 10

  kept_open_first : (L : Locals) (at n : ℕ) (o : Opened) (u : ℕ) (w : State) → Kept (open_first e.left L at n o u w) (open_first e.right L at n o u w)
  kept_open_first L at zero o u w = refl
  kept_open_first L at (suc n) o u w =
      kept_then _ _ _ _ (kept_whnf e L o.ty u w)
      (λ W v z. kept_for_pi L at o (as_pi W) (open_first e.left L at n) (open_first e.right L at n) (kept_open_first L at n) v z)

  kept_apply : (r q : Rest) → AgreeRest r q → (L : Locals) (goal : Term) (s : TermTree) (u : ℕ) (w : State)
      → Kept (apply_item e.part e.left L goal s r u w) (apply_item (larger e) e.right L goal s q u w)
  kept_apply r q h L goal s u w = search (kept, e.agree.elaborate, kept_close e, kept_pis_of, kept_open_first, kept_unify e, h) depth 40

  -- ---- rw and unfold

  kept_open_all : (L : Locals) (at n : ℕ) (o : Opened) (u : ℕ) (w : State) → Kept (open_all e.left L at n o u w) (open_all e.right L at n o u w)
  kept_open_all L at zero o u w = refl
  kept_open_all L at (suc n) o u w =
      kept_then _ _ _ _ (kept_whnf e L o.ty u w)
      (λ W v z. kept_for_pi L at _ (as_pi W) (open_all e.left L at n) (open_all e.right L at n) (kept_open_all L at n) v z)

  kept_first : (L : Locals) (l : Term) (ts : List Term) (u : ℕ) (w : State) → Kept (first_unified e.left L l ts u w) (first_unified e.right L l ts u w)
  kept_first L l [] u w = refl
  kept_first L l (t ∷ ts) u w =
      let rest : (v : ℕ) (z : State) → Kept (first_unified e.left L l ts v z) (first_unified e.right L l ts v z) = λ v z. kept_first L l ts v z in
      search (kept, kept_unify e, rest) depth 10

  kept_rewrite_by : (L : Locals) (at : ℕ) (i : ProofItem) (k : Mark) (goal : Term) (y : Equation) (t : Term) (u : ℕ) (w : State)
      → Kept (rewrite_by e.part e.left L at i k goal y t u w) (rewrite_by (larger e) e.right L at i k goal y t u w)
  kept_rewrite_by L at i k goal y t u w = search (kept, kept_first) depth 30

  kept_rewrite_with : (L : Locals) (at : ℕ) (i : ProofItem) (b : Bool) (k : Mark) (goal t : Term) (o : Option Equation) (u : ℕ) (w : State)
      → Kept (rewrite_with e.part e.left L at i b k goal t o u w) (rewrite_with (larger e) e.right L at i b k goal t o u w)
  kept_rewrite_with L at i b k goal t None u w = refl
  kept_rewrite_with L at i b k goal t (Some y) u w = search (kept, kept_rewrite_by) depth 10

  kept_rule : (L : Locals) (at : ℕ) (i : ProofItem) (p : ℕ) (b : Bool) (goal : Term) (m n : Run Typed) → ((u : ℕ) (w : State) → Kept (m u w) (n u w))
      → (u : ℕ) (w : State) → Kept (rule_step e.part e.left L at i p b goal m u w) (rule_step (larger e) e.right L at i p b goal n u w)
  kept_rule L at i p b goal m n h u w = search (kept, kept_sort_of e, h, kept_close e, kept_open_all, kept_rewrite_with) depth 30

  kept_proved : (s : Step) (m n : Run Term) → ((u : ℕ) (w : State) → Kept (m u w) (n u w)) → (u : ℕ) (w : State)
      → Kept (rewrite.proved_by s m u w) (rewrite.proved_by s n u w)
  kept_proved s m n h u w = search (kept, h) depth 8

  kept_after_rules : (r q : Rest) → AgreeRest r q → (L : Locals) (goal : Term) (u : ℕ) (w : State)
      → Kept (after_rules r L goal u w) (after_rules q L goal u w)
  kept_after_rules r q h L goal u w = search (kept, kept_ends r q h, kept_one r q h) depth 12

  kept_rw : (r q : Rest) → AgreeRest r q → (L : Locals) (at : ℕ) (rs : RuleTrees) (goal : Term) (u : ℕ) (w : State)
      → Kept (rw e.part e.left L at rs r goal u w) (rw (larger e) e.right L at rs q goal u w)
  kept_rw r q h L at written.end_rules goal u w = kept_after_rules r q h L goal u w
  kept_rw r q h L at (written.rule_and (written.rule p b t) rs) goal u w =
      kept_then _ _ _ _ (kept_rule L at says.Rw (place t) b goal _ _ (λ v z. e.agree.elaborate _ L t None v z) u w)
      (λ s v z. kept_proved s _ _ (λ y x. kept_rw r q h L at rs (first_goal s) y x) v z)

  kept_made_equation : (at : ℕ) (n : Path) (u : ℕ) (w : State)
      → Kept (made_equation e.part at n (see e.part.view n) u w) (made_equation (larger e) at n (see e.view n) u w)
  kept_made_equation at n u w = by (see e.part.view n) (see e.view n) (λ k i. i) (see_kept e.part.view e.view e.tells n)
    where
      by : (s t : Seen) → ((k : Shape) → s ≡ known k → see e.part.view n ≡ known k) → SameSeen s t
          → Kept (made_equation e.part at n s u w) (made_equation (larger e) at n t u w)
      by (known k) t i h = subst (λ y. Kept (made_equation e.part at n (known k) u w) (made_equation (larger e) at n y u w)) h
          (subst (λ b. Kept (made_equation e.part at n (known k) u w) (equation_when b at n k u w))
          (realized_kept e.part.view e.view e.tells n k (i k refl)) (kept_self (made_equation e.part at n (known k) u w)))
      by unknown t i h = subst (λ y. Kept (made_equation e.part at n unknown u w) (made_equation (larger e) at n y u w)) h refl
      by (missing k) t i h = tt

  kept_equation_for : (at : ℕ) (m n : Meaning) → SameMeaning e.part.view e.view m n → (u : ℕ) (w : State)
      → Kept (equation_for e.part at m u w) (equation_for (larger e) at n u w)
  kept_equation_for at (waits k) n h u w = tt
  kept_equation_for at nothing n h u w = subst (λ y. Kept (equation_for e.part at nothing u w) (equation_for (larger e) at y u w)) h refl
  kept_equation_for at (own_type k) n h u w = subst (λ y. Kept (equation_for e.part at (own_type k) u w) (equation_for (larger e) at y u w)) h refl
  kept_equation_for at (constant k c) n h u w =
      subst (λ y. Kept (equation_for e.part at (constant k c) u w) (equation_for (larger e) at y u w)) h.0
      (kept_choose (is_definition c.kind) _ _ _ _ u w (kept_made_equation at (equation_of k) u w) refl)

  kept_unfolding : (L : Locals) (at : ℕ) (x : Ident) (u : ℕ) (w : State)
      → Kept (unfolding_term e.part L at x u w) (unfolding_term (larger e) L at x u w)
  kept_unfolding L at x u w =
      kept_choose (is_some (local_named L.names x.name)) _ _ _ _ u w refl
      (kept_equation_for at (meaning_of e.part x.name) (meaning_of (larger e) x.name)
      (found_kept e.part.view e.view e.tells e.part.own (candidates_of e.part.scope e.part.inside x.name)) u w)

  kept_unfold : (r q : Rest) → AgreeRest r q → (L : Locals) (at : ℕ) (x : Ident) (goal : Term) (u : ℕ) (w : State)
      → Kept (unfold_item e.part e.left L at x r goal u w) (unfold_item (larger e) e.right L at x q goal u w)
  kept_unfold r q h L at x goal u w =
      kept_then _ _ _ _ (kept_rule L at says.Unfold x.at false goal _ _ (kept_unfolding L at x) u w)
      (λ s v z. kept_proved s _ _ (kept_one r q h L (first_goal s)) v z)

  -- ---- Items that are a step by themselves

  kept_by_step : (r q : Rest) → AgreeRest r q → (L : Locals) (s : Step) (u : ℕ) (w : State) → Kept (by_step L s r u w) (by_step L s q u w)
  kept_by_step r q h L s u w = search (kept, h) depth 10

  kept_eliminate : (r q : Rest) → AgreeRest r q → (L : Locals) (at : ℕ) (i : ProofItem) (b : Bool) (goal : Term) (o : Option ℕ) (u : ℕ) (w : State)
      → Kept (eliminate e.part e.left L at i b goal r o u w) (eliminate (larger e) e.right L at i b goal q o u w)
  kept_eliminate r q h L at i b goal None u w = refl
  kept_eliminate r q h L at i b goal (Some x) u w =
      let steps : (C : Context) (G : Term) (l : _) (n : ℕ) (A : Term) (y : Bool) (v : ℕ) (z : State)
      → Kept (checks (induct e.part.view e.left.check C G l n A y) v z) (checks (induct e.view e.right.check C G l n A y) v z)
      = λ C G l n A y v z. kept_checks (induct e.part.view e.left.check C G l n A y) (induct e.view e.right.check C G l n A y) v z
      (kept_induct e.part.view e.view e.tells e.left.check e.right.check e.agree.check C G l n A y v) in
      search (kept, kept_sort_of e, steps, kept_by_step r q h) depth 16

  kept_injection : (r q : Rest) → AgreeRest r q → (L : Locals) (at : ℕ) (goal : Term) (o : Option ℕ) (u : ℕ) (w : State)
      → Kept (injection e.part e.left L at goal r o u w) (injection (larger e) e.right L at goal q o u w)
  kept_injection r q h L at goal None u w = refl
  kept_injection r q h L at goal (Some x) u w =
      let steps : (C : Context) (G : Term) (n : ℕ) (A : Term) (v : ℕ) (z : State)
      → Kept (checks (inject e.part.view e.left.check C G n A) v z) (checks (inject e.view e.right.check C G n A) v z)
      = λ C G n A v z. kept_checks (inject e.part.view e.left.check C G n A) (inject e.view e.right.check C G n A) v z
      (kept_inject e.part.view e.view e.tells e.left.check e.right.check e.agree.check C G n A v) in
      search (kept, steps, kept_by_step r q h) depth 14

  -- ---- One item, and the items of a block

  kept_item : (r q : Rest) → AgreeRest r q → (L : Locals) (goal : Term) (i : ItemTree) (u : ℕ) (w : State)
      → Kept (item e.part e.left L goal i r u w) (item (larger e) e.right L goal i q u w)
  kept_item r q h L goal (written.block at is) u w = kept_block r q h L goal is u w
  kept_item r q h L goal (written.exact at s) u w = kept_exact r q h L goal s u w
  kept_item r q h L goal (written.rfl at) u w = kept_exact r q h L goal (rfl_term at) u w
  kept_item r q h L goal (written.intro at xs) u w = kept_intros r q h at xs L goal u w
  kept_item r q h L goal (written.apply at s) u w = kept_apply r q h L goal s u w
  kept_item r q h L goal (written.assumption_item at) u w = kept_assumed r q h at L goal u w
  kept_item r q h L goal (written.rw_item at rs) u w = kept_rw r q h L at rs goal u w
  kept_item r q h L goal (written.unfold_item at x) u w = kept_unfold r q h L at x goal u w
  kept_item r q h L goal (written.have_item at x s t) u w = kept_have r q h L goal x s t u w
  kept_item r q h L goal (written.induction at x) u w = kept_eliminate r q h L at says.Induction true goal _ u w
  kept_item r q h L goal (written.cases at x) u w = kept_eliminate r q h L at says.Cases false goal _ u w
  kept_item r q h L goal (written.injection at x) u w = kept_injection r q h L at goal _ u w
  kept_item r q h L goal (written.sorry_item at) u w = kept_sorry_item r q h at L goal u w

  kept_on_goal : (r q : Rest) → AgreeRest r q → (L : Locals) (goal : Term) (i : ItemTree) (u : ℕ) (w : State)
      → Kept (on_goal e.part e.left L goal i r u w) (on_goal (larger e) e.right L goal i q u w)
  kept_on_goal r q h L goal i u w = search (kept, kept_item r q h) depth 10

  kept_proved_goal : (L : Locals) (at : ℕ) (g : Goal) (o : Option ℕ) (p : Term) (u : ℕ) (w : State)
      → Kept (proved e.part e.left L at g o p u w) (proved (larger e) e.right L at g o p u w)
  kept_proved_goal L at g None p u w = refl
  kept_proved_goal L at g (Some m) p u w = kept_proved_by e L at m g.ty p u w

  kept_proof_of : (L : Locals) (at : ℕ) (g : Goal) (m n : Run Term) → ((u : ℕ) (w : State) → Kept (m u w) (n u w)) → (u : ℕ) (w : State)
      → Kept (proof_of e.part e.left L at g m u w) (proof_of (larger e) e.right L at g n u w)
  kept_proof_of L at g m n h u w = search (kept, h, kept_proved_goal) depth 10

  kept_in_blocks : (L : Locals) (at : ℕ) (gs : List Goal) (is : List ItemTree) (u : ℕ) (w : State)
      → Kept (in_blocks e.part e.left L at gs is u w) (in_blocks (larger e) e.right L at gs is u w)
  kept_in_blocks L at [] is u w = refl
  kept_in_blocks L at (g ∷ gs) [] u w = refl
  kept_in_blocks L at (g ∷ gs) (i ∷ is) u w =
      kept_then _ _ _ _ (kept_proof_of L at g _ _ (kept_on_goal no_rest no_rest (λ M hs v z. refl) L g.ty i) u w)
      (λ p v z. kept_then _ _ _ _ (kept_in_blocks L at gs is v z) (λ ps y x. refl))

  kept_left_to : (at : ℕ) (is : List ItemTree) (f g : Locals → Term → Run Term)
      → ((L : Locals) (t : Term) (u : ℕ) (w : State) → Kept (f L t u w) (g L t u w))
      → AgreeRest (left_to e.part e.left at is f) (left_to (larger e) e.right at is g)
  kept_left_to at is f g h L [] u w = kept_self (left_to e.part e.left at is f L [] u w)
  kept_left_to at is f g h L (a ∷ []) u w =
      kept_then _ _ _ _ (kept_proof_of L at a (f L a.ty) (g L a.ty) (h L a.ty) u w) (λ p v z. refl)
  kept_left_to at is f g h L (a ∷ b ∷ gs) u w =
      kept_choose (are_blocks (a ∷ b ∷ gs) is) _ _ _ _ u w (kept_in_blocks L at (a ∷ b ∷ gs) is u w) refl

  kept_items : (start : ℕ) (is : List ItemTree) (L : Locals) (goal : Term) (u : ℕ) (w : State)
      → Kept (prove_items e.part e.left start is L goal u w) (prove_items (larger e) e.right start is L goal u w)
  kept_items start [] L goal u w = kept_self (prove_items e.part e.left start [] L goal u w)
  kept_items start (i ∷ is) L goal u w =
      kept_on_goal (left_to e.part e.left _ is (prove_items e.part e.left start is)) (left_to (larger e) e.right _ is (prove_items (larger e) e.right start is))
      (kept_left_to _ is (prove_items e.part e.left start is) (prove_items (larger e) e.right start is) (kept_items start is)) L goal i u w

  kept_prove : (L : Locals) (goal : Term) (is : List ItemTree) (u : ℕ) (w : State)
      → Kept (prove_body e.part e.left L goal is u w) (prove_body (larger e) e.right L goal is u w)
  unfolding prove_body
  kept_prove L goal is u w = kept_items (start_of is) is L goal u w

-- ---- Tied together

pub calls_agree : (P : Part) (V : View) (f : Synthesis) → Tells V P.view → ((n : ℕ) → AgreeSynthesis (P.synthesize n) (f n)) → (n : ℕ)
    → Agree (elaboration.calls P n) (elaboration.calls (on_view P V f) n)
calls_agree P V f x s zero = record {
  elaborate = λ t L y E u w. refl;
  prove = λ L goal is u w. refl;
  unify = unifier_extends P.view V x zero;
  check = calls_kept P.view V x zero;
  synthesize = s zero;
}
calls_agree P V f x s (suc n) =
    let e : Setting = record {
      part = P;
      view = V;
      synthesis = f;
      tells = x;
      left = elaboration.calls P n;
      right = elaboration.calls (on_view P V f) n;
      agree = calls_agree P V f x s n;
    } in
    record {
      elaborate = λ t L y E u w. kept_spend 1 (elaborate_body P (elaboration.calls P n) t L y E)
          (elaborate_body (on_view P V f) (elaboration.calls (on_view P V f) n) t L y E) u w (λ v. kept_elaborate e t L y E v w);
      prove = λ L goal is u w. kept_prove e L goal is u w;
      unify = unifier_extends P.view V x (suc n);
      check = calls_kept P.view V x (suc n);
      synthesize = s (suc n);
    }

abbrev at_depth : (P : Part) (V : View) (f : Synthesis) → Tells V P.view → ((n : ℕ) → AgreeSynthesis (P.synthesize n) (f n)) → ℕ → Setting
at_depth P V f x s n = record {
  part = P;
  view = V;
  synthesis = f;
  tells = x;
  left = elaboration.calls P n;
  right = elaboration.calls (on_view P V f) n;
  agree = calls_agree P V f x s n;
}

pub terms_extend : TermsExtend
terms_extend P V f x s n = (calls_agree P V f x s n).elaborate

pub proofs_extend : ProofsExtend
proofs_extend P V f x s n = (calls_agree P V f x s n).prove

pub closing_extends : ClosingExtends
closing_extends P V f x s n L k levels u w = kept_close (at_depth P V f x s n) L k levels u w

pub binders_extend : BinderExtends
binders_extend P V f x s n L k u w = kept_close_binder (at_depth P V f x s n) L k _ u w
