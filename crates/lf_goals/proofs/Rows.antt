-- The definition's runs of proof items are the runs of `specs/Between` and the nested calls in a row.
use Rattle.std.proofs.Common.{◌≡◌, ℕ, ◌-◌, ◌≤◌, Bool, true, false, List, [], ◌∷◌, ◌++◌, length, get_or, refl, sym, ap, arith}
use Rattle.std.specs.Prelude.{Option, Some, None, if◌then◌else◌, nat_lt}
use Rattle.std.proofs.lemmas.List.{append-nil}
use Rattle.lf_core.specs.Term.{Term}
use Rattle.lf_core.specs.Summary.{has_metavariable}
use Rattle.lf_syntax.specs.declared.leaf.Ident.{Ident}
use Rattle.lf_syntax.specs.Tree.{TermTree, ItemTree, items_of}
use Rattle.lf_elaboration.specs.Forms.{Binding}
use Rattle.lf_elaboration.specs.Metavariables.{count, level_count}
use Rattle.lf_elaboration.specs.Messages as says
use Rattle.lf_elaboration.specs.Messages.{ProofItem}
use Rattle.lf_elaboration.specs.Run.{Answer, done, failed, out, need, go_on, gives, choose, spend, checks}
use Rattle.lf_elaboration.specs.Part.{Part, State, Locals, Run, Calls, given, instantiated, error, sort_of}
use Rattle.lf_elaboration.specs.Unifier.{type_in}
use Rattle.lf_elaboration.specs.Closing.{sorry_for}
use Rattle.lf_elaboration.specs.Step.{Step}
use Rattle.lf_elaboration.specs.Induction.{induct}
use Rattle.lf_elaboration.specs.Injection.{inject}
use Rattle.lf_elaboration.specs.Terms.{as_type}
use Rattle.lf_elaboration.specs.Direct as spec
use Rattle.lf_elaboration.specs.Direct.{Goal, plain, Rest, ends_with, proves_one, lambda_over}
use Rattle.lf_elaboration.specs.Rewrite.{step_or_fail}
use Rattle.lf_elaboration.specs.Proof as proof
use Rattle.lf_terms.proofs.Binds.{joined, joined_as}
use Rattle.lf_terms.proofs.Lists.{items_back}
use Rattle.lf_goals.specs.Between as between
use Rattle.lf_goals.specs.Behind as behind

-- ---- Direct

pub closed_term_by : (P : Part) (c : Calls) (L : Locals) (x : TermTree) (E : Option Term) (u : ℕ) (s : State)
    → spec.closed_term P c L x E u s
    ≡ go_on (c.elaborate given L x E u s) (λ r. behind.closed_behind P c L (count s.changes) (level_count s.changes) r.term)
unfolding behind.closed_behind
closed_term_by P c L x E u s = refl

pub closed_type_by : (P : Part) (c : Calls) (L : Locals) (x : TermTree) (u : ℕ) (s : State)
    → spec.closed_type P c L x u s
    ≡ go_on (as_type P c L x u s) (λ r. behind.closed_behind P c L (count s.changes) (level_count s.changes) r.term)
unfolding behind.closed_behind
closed_type_by P c L x u s = refl

pub block_by : (c : Calls) (L : Locals) (goal : Term) (is : List ItemTree) (rest : Rest) (u : ℕ) (s : State)
    → spec.block c L goal (items_of is) rest u s ≡ go_on (c.prove L goal is u s) (ends_with rest L)
block_by c L goal is rest u s = ap (λ r. go_on (c.prove L goal r u s) (ends_with rest L)) (items_back is)

pub assumption_by : (c : Calls) (at : ℕ) (L : Locals) (goal : Term) (rest : Rest) (u : ℕ) (s : State)
    → spec.assumption c at L goal rest u s ≡ go_on (between.own_local c L goal u s) (spec.by_assumption at L rest)
unfolding between.own_local
assumption_by c at L goal rest u s = refl

pub sorry_by : (P : Part) (c : Calls) (at : ℕ) (L : Locals) (goal : Term) (rest : Rest) (u : ℕ) (s : State)
    → spec.sorry P c at L goal rest u s ≡ go_on (sorry_for P c L at goal u s) (ends_with rest L)
sorry_by P c at L goal rest u s = sym (joined (sort_of P c L at goal u s) _ (ends_with rest L))

pub intro_none : (c : Calls) (at : ℕ) (L : Locals) (goal : Term) (rest : Rest) (xs : List Ident) (u : ℕ) (s : State) → length xs ≡ 0
    → spec.intro c at xs rest L goal u s ≡ proves_one rest L goal u s
intro_none c at L goal rest [] u s e = refl
intro_none c at L goal rest (x ∷ xs) u s e = absurd (omega (arith, e))

pub intro_by : (c : Calls) (at : ℕ) (L : Locals) (goal : Term) (rest : Rest) (x : Ident) (xs : List Ident) (u : ℕ) (s : State)
    → spec.intro c at (x ∷ xs) rest L goal u s
    ≡ go_on (between.goal_pi c L goal u s) (λ p. spec.introduced at L x p (spec.intro c at xs rest))
unfolding between.goal_pi
intro_by c at L goal rest x xs u s = refl

pub introduced_by : (c : Calls) (at : ℕ) (L : Locals) (rest : Rest) (x : Ident) (xs : List Ident) (p : Binding) (u : ℕ) (s : State)
    → spec.introduced at L x (Some p) (spec.intro c at xs rest) u s ≡ behind.intro_behind c at xs rest L x.name p.binder p.domain p.body u s
unfolding behind.intro_behind behind.intro_opened behind.intro_under between.lambda_of
introduced_by c at L rest x xs p u s = refl

pub have_by : (P : Part) (c : Calls) (L : Locals) (goal : Term) (x : Ident) (ty : TermTree) (v : TermTree) (rest : Rest) (u : ℕ) (s : State)
    → spec.have P c L goal x ty v rest u s
    ≡ go_on (spec.closed_type P c L ty u s) (λ A. behind.have_of P c L goal x.name A v rest)
unfolding behind.have_of behind.have_local behind.have_proved behind.proves_under between.lambda_applied
have_by P c L goal x ty v rest u s = refl

-- ---- Steps

pub by_step_by : (L : Locals) (s : Step) (rest : Rest) (u : ℕ) (t : State)
    → proof.by_step L s rest u t ≡ go_on (proof.asked_by s.asked u t) (λ z. behind.step_behind L s rest)
unfolding behind.step_behind between.step_proof
by_step_by L s rest u t = refl

module _ (P : Part) (c : Calls) (L : Locals) (at : ℕ) (goal : Term) (rest : Rest) where
  eliminate_on : (i : ProofItem) (hyps : Bool) (x : ℕ) (u : ℕ) (s : State)
      → go_on (between.induct_on P c L at i hyps goal x u s) (λ r. proof.by_step L r rest)
      ≡ proof.eliminate P c L at i hyps goal rest (Some x) u s
  unfolding between.local_type between.induction
  eliminate_on i hyps x u s =
      joined_as (sort_of P c L at goal u s) _ _ _ (λ l u s.
      joined_as (instantiated (type_in L.types x) u s) _ _ _ (λ A u s.
      joined (checks (induct P.view c.check L.types goal l x A hyps) u s) (step_or_fail at i) (λ r. proof.by_step L r rest)))

  pub eliminate_by : (i : ProofItem) (hyps : Bool) (o : Option ℕ) (u : ℕ) (s : State)
      → proof.eliminate P c L at i hyps goal rest o u s
      ≡ go_on (between.eliminate_step P c L at i hyps goal o u s) (λ r. proof.by_step L r rest)
  unfolding between.eliminate_step
  eliminate_by i hyps (Some x) u s = sym (eliminate_on i hyps x u s)
  eliminate_by i hyps None u s = refl

  inject_on : (x : ℕ) (u : ℕ) (s : State)
      → go_on (between.inject_on P c L at says.Injection goal x u s) (λ r. proof.by_step L r rest) ≡ proof.injection P c L at goal rest (Some x) u s
  unfolding between.local_type between.injected
  inject_on x u s =
      joined_as (instantiated (type_in L.types x) u s) _ _ _ (λ A u s.
      joined (checks (inject P.view c.check L.types goal x A) u s) (step_or_fail at says.Injection) (λ r. proof.by_step L r rest))

  pub injection_by : (o : Option ℕ) (u : ℕ) (s : State)
      → proof.injection P c L at goal rest o u s
      ≡ go_on (between.injection_step P c L at goal o u s) (λ r. proof.by_step L r rest)
  unfolding between.injection_step
  injection_by (Some x) u s = sym (inject_on x u s)
  injection_by None u s = refl

-- ---- Items of a block

spent : {A B : Type 0} (b : Bool) (x : A) (f : A → Run B) (v u : ℕ) (s : State)
    → go_on (if b then out s else done x v s) f ≡ (if b then out s else f x v s)
spent true x f v u s = refl
spent false x f v u s = refl

module _ (P : Part) (c : Calls) (L : Locals) (i : ItemTree) (rest : Rest) where
  on_goal_for : (G : Term) (b : Bool) (u : ℕ) (s : State)
      → go_on (choose b (error (proof.item_place i) says.undetermined_placeholder) (spend 1 (gives G)) u s) (λ H. proof.item P c L H i rest)
      ≡ choose b (error (proof.item_place i) says.undetermined_placeholder) (spend 1 (proof.item P c L G i rest)) u s
  on_goal_for G true u s = refl
  on_goal_for G false u s = spent (nat_lt u 1) G (λ H. proof.item P c L H i rest) (u - 1) u s

  pub on_goal_by : (goal : Term) (u : ℕ) (s : State)
      → proof.on_goal P c L goal i rest u s ≡ go_on (between.ready i goal u s) (λ G. proof.item P c L G i rest)
  unfolding between.ready
  on_goal_by goal u s = sym (joined_as (instantiated goal u s) _ _ _ (λ G u s. on_goal_for G (has_metavariable G) u s))

pub proof_of_by : (P : Part) (c : Calls) (L : Locals) (at : ℕ) (g : Goal) (m : Run Term) (u : ℕ) (s : State)
    → proof.proof_of P c L at g m u s ≡ go_on (m u s) (behind.proof_kept P c L at g)
unfolding behind.proof_kept
proof_of_by P c L at g m u s = refl

-- ---- What an item leaves

module _ (P : Part) (c : Calls) (at : ℕ) (is : List ItemTree) (next : Locals → Term → Run Term) (L : Locals) where
  pub none_left : (gs : List Goal) (u : ℕ) (s : State) → length gs ≡ 0 → proof.left_to P c at is next L gs u s ≡ proof.nothing_left is u s
  none_left [] u s e = refl
  none_left (g ∷ gs) u s e = absurd (omega (arith, e))

  pub one_left : (gs : List Goal) (g : Goal) (u : ℕ) (s : State) → length gs ≡ 1 → g ≡ get_or gs 0 g
      → proof.left_to P c at is next L gs u s ≡ go_on (proof.proof_of P c L at g (next L g.ty) u s) (λ p. gives (p ∷ []))
  one_left [] g u s e f = absurd (omega (arith, e))
  one_left (h ∷ []) g u s e f = ap (λ k. go_on (proof.proof_of P c L at k (next L k.ty) u s) (λ p. gives (p ∷ []))) (sym f)
  one_left (h ∷ k ∷ gs) g u s e f = absurd (omega (arith, e))

  pub several_left_by : (gs : List Goal) (u : ℕ) (s : State) → 2 ≤ length gs
      → proof.left_to P c at is next L gs u s ≡ behind.several_left P c L at gs is u s
  unfolding behind.several_left
  several_left_by [] u s e = absurd (omega (arith, e))
  several_left_by (g ∷ []) u s e = absurd (omega (arith, e))
  several_left_by (g ∷ h ∷ gs) u s e = refl

-- ---- Blocks, one goal at a time

module _ (P : Part) (c : Calls) (L : Locals) (at : ℕ) where
  into_none : (ready : List Term) (u : ℕ) (s : State) → done (ready ++ []) u s ≡ done ready u s
  into_none ready u s = ap (λ zs. done zs u s) (append-nil ready)

  pub blocks_no_goal : (ready : List Term) (gs : List Goal) (is : List ItemTree) (u : ℕ) (s : State) → length gs ≡ 0
      → behind.blocks_into P c L at ready gs is u s ≡ done ready u s
  unfolding behind.blocks_into
  blocks_no_goal ready [] is u s e = into_none ready u s
  blocks_no_goal ready (g ∷ gs) is u s e = absurd (omega (arith, e))

  pub blocks_no_item : (ready : List Term) (gs : List Goal) (is : List ItemTree) (u : ℕ) (s : State) → length is ≡ 0
      → behind.blocks_into P c L at ready gs is u s ≡ done ready u s
  unfolding behind.blocks_into
  blocks_no_item ready [] is u s e = into_none ready u s
  blocks_no_item ready (g ∷ gs) [] u s e = into_none ready u s
  blocks_no_item ready (g ∷ gs) (i ∷ is) u s e = absurd (omega (arith, e))

  put_behind : (ready : List Term) (p : Term) (o : Answer State (List Term))
      → go_on (go_on o (λ ps. gives (p ∷ ps))) (λ zs. gives (ready ++ zs)) ≡ go_on o (λ ps. gives ((ready ++ p ∷ []) ++ ps))
  put_behind ready p (done ps u s) = ap (λ zs. done zs u s) (append_one ready p ps)
    where
      append_one : (xs : List Term) (y : Term) (ys : List Term) → xs ++ (y ∷ ys) ≡ (xs ++ y ∷ []) ++ ys
      append_one [] y ys = refl
      append_one (x ∷ xs) y ys = ap (λ r. x ∷ r) (append_one xs y ys)
  put_behind ready p (failed m u s) = refl
  put_behind ready p (out s) = refl
  put_behind ready p (need k) = refl

  pub blocks_more : (ready : List Term) (g : Goal) (gs : List Goal) (i : ItemTree) (is : List ItemTree) (u : ℕ) (s : State)
      → behind.blocks_into P c L at ready (g ∷ gs) (i ∷ is) u s
      ≡ go_on (proof.proof_of P c L at g (proof.on_goal P c L g.ty i proof.no_rest) u s)
      (λ p. behind.blocks_into P c L at (ready ++ p ∷ []) gs is)
  unfolding behind.blocks_into
  blocks_more ready g gs i is u s =
      joined_as (proof.proof_of P c L at g (proof.on_goal P c L g.ty i proof.no_rest) u s) _ _ _ (λ p u s.
      put_behind ready p (proof.in_blocks P c L at gs is u s))

  pub blocks_from_none : (gs : List Goal) (is : List ItemTree) (u : ℕ) (s : State)
      → proof.in_blocks P c L at gs is u s ≡ behind.blocks_into P c L at [] gs is u s
  unfolding behind.blocks_into
  blocks_from_none gs is u s = nothing_before (proof.in_blocks P c L at gs is u s)
    where
      nothing_before : (o : Answer State (List Term)) → o ≡ go_on o (λ ps. gives ([] ++ ps))
      nothing_before (done ps u s) = refl
      nothing_before (failed m u s) = refl
      nothing_before (out s) = refl
      nothing_before (need k) = refl
