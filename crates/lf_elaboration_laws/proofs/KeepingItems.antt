-- Proof items, blocks, and terms and proofs tied together: what they do to the state, and what they wait for.
use Rattle.std.proofs.Common.{ℕ, zero, suc, Bool, true, false, List, [], ◌∷◌, Option, Some, None}
use Rattle.lf_core.specs.Term.{Path, Term}
use Rattle.lf_rules.specs.Environment.{Context}
use Rattle.lf_syntax.specs.Tree as written
use Rattle.lf_syntax.specs.Tree.{ItemTree}
use Rattle.lf_elaboration.specs.Unifier as unifier
use Rattle.lf_elaboration.specs.Messages.{ProofItem}
use Rattle.lf_elaboration.specs.Messages as says
use Rattle.lf_elaboration.specs.Part.{Part, Locals, State, Run, Calls}
use Rattle.lf_elaboration.specs.Step.{Step}
use Rattle.lf_elaboration.specs.Direct.{Goal, Rest, rfl_term}
use Rattle.lf_elaboration.specs.Proof.{
  by_step,
  eliminate,
  injection,
  item,
  on_goal,
  proved,
  proof_of,
  no_rest,
  in_blocks,
  left_to,
  prove_items,
  start_of,
  item_place,
  asked_by,
  nothing_left,
  prove_body,
}
use Rattle.lf_elaboration.specs.Terms.{elaborate_body}
use Rattle.lf_elaboration.specs.Elaboration as elaboration
use Rattle.lf_core.specs.declared.constant.TaskKey.{TaskKey}
use Rattle.lf_extension_laws.proofs.Only.{Only, Reads, only_then, only_spend, only_caught, only_choose, only_put, only_made, only_opening}
use Rattle.lf_extension_laws.proofs.OnlyInfer.{calls_ask}
use Rattle.lf_elaboration_laws.proofs.Calm.{calm_leaves}
use Rattle.lf_elaboration_laws.proofs.CalmUnifier.{unifier_left}
use Rattle.lf_elaboration_laws.proofs.Keeping.{
  Leaving,
  Held,
  keeps_then,
  keeps_choose,
  keeps_or_fail,
  keeps_spend,
  keeps_checks,
  keeps_instantiated,
  keeps_instantiated_all,
  keeps_placeholder,
  keeps_ask,
}
use Rattle.lf_elaboration_laws.proofs.KeepingParts.{keeps_all_assigned, keeps_none_escapes, KeepingCalls, keeps_sort_of, keeps_proved_by}
use Rattle.lf_elaboration_laws.proofs.OnlySteps.{only_induct, only_inject, only_proof}
use Rattle.lf_elaboration_laws.proofs.KeepingTerms.{keeps_elaborate}
use Rattle.lf_elaboration_laws.proofs.KeepingRules.{
  KeepingRest,
  keeps_step_or_fail,
  keeps_block,
  keeps_exact,
  keeps_assumed,
  keeps_sorry_item,
  keeps_have,
  keeps_intros,
  keeps_apply,
  keeps_rw,
  keeps_unfold,
}

ruleset keeps = (
  keeps_then,
  keeps_choose,
  keeps_or_fail,
  keeps_spend,
  keeps_checks,
  keeps_instantiated,
  keeps_instantiated_all,
  keeps_placeholder,
  keeps_ask,
  keeps_all_assigned,
  keeps_none_escapes,
)

-- What is asked of the checker.
ruleset only = (only_then, only_spend, only_caught, only_choose, only_put, only_made, only_opening)

module _ (Terms Proofs End : State → State → Type 0) (law : Leaving Terms Proofs End) (Key : TaskKey → Type 0) (P : Part) (reads : Reads P.view Key)
    (c : Calls) (k : KeepingCalls Terms Proofs End Key c) where
  -- ---- Items that are a step by themselves

  keeps_asked : (o : Option Path) (u : ℕ) (w : State) → Held Proofs End Key w (asked_by o u w)
  keeps_asked None u w = law.proofs.same w
  keeps_asked (Some n) u w = search (keeps, only, law.proofs, law.proofs.same, law.proofs.ends) depth 10

  keeps_by_step : (r : Rest) → KeepingRest Proofs End Key r → (L : Locals) (s : Step) (u : ℕ) (w : State) → Held Proofs End Key w (by_step L s r u w)
  keeps_by_step r h L s u w = search (keeps, only, law.proofs, law.proofs.same, law.proofs.ends, keeps_asked, only_proof Key, h) depth 14

  keeps_eliminate : (r : Rest) → KeepingRest Proofs End Key r
      → (L : Locals) (at : ℕ) (i : ProofItem) (b : Bool) (goal : Term) (o : Option ℕ) (u : ℕ) (w : State)
      → Held Proofs End Key w (eliminate P c L at i b goal r o u w)
  keeps_eliminate r h L at i b goal None u w = law.proofs.ends w w (law.proofs.same w)
  keeps_eliminate r h L at i b goal (Some x) u w =
      search (
        keeps,
        only,
        law.proofs,
        law.proofs.same,
        law.proofs.ends,
        keeps_sort_of Proofs End law.proofs Key P c k.check k.unify,
        only_induct P.view Key
            reads c.check k.check,
        keeps_step_or_fail Terms Proofs End law Key,
        keeps_by_step r h,
      ) depth 20

  keeps_injection : (r : Rest) → KeepingRest Proofs End Key r → (L : Locals) (at : ℕ) (goal : Term) (o : Option ℕ) (u : ℕ) (w : State)
      → Held Proofs End Key w (injection P c L at goal r o u w)
  keeps_injection r h L at goal None u w = law.proofs.ends w w (law.proofs.same w)
  keeps_injection r h L at goal (Some x) u w =
      search (
        keeps,
        only,
        law.proofs,
        law.proofs.same,
        law.proofs.ends,
        only_inject P.view Key reads c.check k.check,
        keeps_step_or_fail Terms Proofs End law
            Key,
        keeps_by_step r h,
      ) depth 18

  -- ---- One item, and the items of a block

  keeps_item : (r : Rest) → KeepingRest Proofs End Key r → (L : Locals) (goal : Term) (i : ItemTree) (u : ℕ) (w : State)
      → Held Proofs End Key w (item P c L goal i r u w)
  keeps_item r h L goal (written.block at is) u w = keeps_block Terms Proofs End law Key P reads c k r h L goal is u w
  keeps_item r h L goal (written.exact at s) u w = keeps_exact Terms Proofs End law Key P reads c k r h L goal s u w
  keeps_item r h L goal (written.rfl at) u w = keeps_exact Terms Proofs End law Key P reads c k r h L goal (rfl_term at) u w
  keeps_item r h L goal (written.intro at xs) u w = keeps_intros Terms Proofs End law Key P reads c k r h at xs L goal u w
  keeps_item r h L goal (written.apply at s) u w = keeps_apply Terms Proofs End law Key P reads c k r h L goal s u w
  keeps_item r h L goal (written.assumption_item at) u w = keeps_assumed Terms Proofs End law Key P reads c k r h at L goal u w
  keeps_item r h L goal (written.rw_item at rs) u w = keeps_rw Terms Proofs End law Key P reads c k r h L at rs goal u w
  keeps_item r h L goal (written.unfold_item at x) u w = keeps_unfold Terms Proofs End law Key P reads c k r h L at x goal u w
  keeps_item r h L goal (written.have_item at x s t) u w = keeps_have Terms Proofs End law Key P reads c k r h L goal x s t u w
  keeps_item r h L goal (written.induction at x) u w = keeps_eliminate r h L at says.Induction true goal _ u w
  keeps_item r h L goal (written.cases at x) u w = keeps_eliminate r h L at says.Cases false goal _ u w
  keeps_item r h L goal (written.injection at x) u w = keeps_injection r h L at goal _ u w
  keeps_item r h L goal (written.sorry_item at) u w = keeps_sorry_item Terms Proofs End law Key P reads c k r h at L goal u w

  keeps_on_goal : (r : Rest) → KeepingRest Proofs End Key r → (L : Locals) (goal : Term) (i : ItemTree) (u : ℕ) (w : State)
      → Held Proofs End Key w (on_goal P c L goal i r u w)
  keeps_on_goal r h L goal i u w = search (keeps, only, law.proofs, law.proofs.same, law.proofs.ends, keeps_item r h) depth 14

  keeps_proved_goal : (L : Locals) (at : ℕ) (g : Goal) (o : Option ℕ) (p : Term) (u : ℕ) (w : State)
      → Held Proofs End Key w (proved P c L at g o p u w)
  keeps_proved_goal L at g None p u w = law.proofs.same w
  keeps_proved_goal L at g (Some m) p u w = keeps_proved_by Proofs End law.proofs Key P c k.check k.unify L at m g.ty p u w

  keeps_proof_of : (L : Locals) (at : ℕ) (g : Goal) (m : Run Term) → ((u : ℕ) (w : State) → Held Proofs End Key w (m u w)) → (u : ℕ) (w : State)
      → Held Proofs End Key w (proof_of P c L at g m u w)
  keeps_proof_of L at g m h u w = search (keeps, only, law.proofs, law.proofs.same, law.proofs.ends, h, keeps_proved_goal) depth 14

  keeps_in_blocks : (L : Locals) (at : ℕ) (gs : List Goal) (is : List ItemTree) (u : ℕ) (w : State)
      → Held Proofs End Key w (in_blocks P c L at gs is u w)
  keeps_in_blocks L at [] is u w = law.proofs.same w
  keeps_in_blocks L at (g ∷ gs) [] u w = law.proofs.same w
  keeps_in_blocks L at (g ∷ gs) (i ∷ is) u w =
      keeps_then Proofs End Key law.proofs w _ _ (keeps_proof_of L at g _ (keeps_on_goal no_rest (λ M hs v z. law.proofs.same z) L g.ty i) u w)
      (λ p v z. keeps_then Proofs End Key law.proofs z _ _ (keeps_in_blocks L at gs is v z) (λ ps y x. law.proofs.same x))

  keeps_nothing_left : (is : List ItemTree) (u : ℕ) (w : State) → Held Proofs End Key w (nothing_left is u w)
  keeps_nothing_left [] u w = law.proofs.same w
  keeps_nothing_left (i ∷ is) u w = law.proofs.ends w w (law.proofs.same w)

  keeps_left_to : (at : ℕ) (is : List ItemTree) (f : Locals → Term → Run Term)
      → ((L : Locals) (t : Term) (u : ℕ) (w : State) → Held Proofs End Key w (f L t u w))
      → KeepingRest Proofs End Key (left_to P c at is f)
  keeps_left_to at is f h L [] u w = keeps_nothing_left is u w
  keeps_left_to at is f h L (a ∷ []) u w =
      keeps_then Proofs End Key law.proofs w _ _ (keeps_proof_of L at a (f L a.ty) (h L a.ty) u w) (λ p v z. law.proofs.same z)
  keeps_left_to at is f h L (a ∷ b ∷ gs) u w = search (keeps, only, law.proofs, law.proofs.same, law.proofs.ends, keeps_in_blocks) depth 10

  keeps_items : (start : ℕ) (is : List ItemTree) (L : Locals) (goal : Term) (u : ℕ) (w : State)
      → Held Proofs End Key w (prove_items P c start is L goal u w)
  keeps_items start [] L goal u w = search (keeps, only, law.proofs, law.proofs.same, law.proofs.ends) depth 12
  keeps_items start (i ∷ is) L goal u w =
      keeps_on_goal (left_to P c (item_place i) is (prove_items P c start is))
      (keeps_left_to (item_place i) is (prove_items P c start is) (keeps_items start is)) L goal i u w

  keeps_prove : (L : Locals) (goal : Term) (is : List ItemTree) (u : ℕ) (w : State)
      → Held Proofs End Key w (prove_body P c L goal is u w)
  unfolding prove_body
  keeps_prove L goal is u w = keeps_items (start_of is) is L goal u w

-- ---- Tied together

-- The resolution of instances waits for such keys.
abbrev pub Resolves : (TaskKey → Type 0) → Part → Type 0
Resolves Key P = (n : ℕ) (C : Context) (t : Term) (u : ℕ) → Only true Key (P.synthesize n C t u)

module _ (Terms Proofs End : State → State → Type 0) (law : Leaving Terms Proofs End) (Key : TaskKey → Type 0) (P : Part) (reads : Reads P.view Key)
    (resolves : Resolves Key P) where
  pub calls_keep : (n : ℕ) → KeepingCalls Terms Proofs End Key (elaboration.calls P n)
  calls_keep zero = record {
    elaborate = λ t L y E u w. law.terms.ends w w (law.terms.same w);
    prove = λ L goal is u w. law.proofs.ends w w (law.proofs.same w);
    unify = λ C a b u cs. calm_leaves Key cs (unifier.unify P.view zero C a b u cs) (unifier_left P.view Key reads zero C a b u cs);
    check = calls_ask P.view Key reads zero;
    synthesize = resolves zero;
  }
  calls_keep (suc n) =
      let c : Calls = elaboration.calls P n in
      let k : KeepingCalls Terms Proofs End Key c = calls_keep n in
      record {
        elaborate =
            λ t L y E u w. keeps_spend Terms End Key law.terms 1 (elaborate_body P c t L y E) u w
            (λ v. keeps_elaborate Terms Proofs End law Key P reads c k t L y E v w);
        prove = λ L goal is u w. keeps_prove Terms Proofs End law Key P reads c k L goal is u w;
        unify = λ C a b u cs. calm_leaves Key cs (unifier.unify P.view (suc n) C a b u cs) (unifier_left P.view Key reads (suc n) C a b u cs);
        check = calls_ask P.view Key reads (suc n);
        synthesize = resolves (suc n);
      }
