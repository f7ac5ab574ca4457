-- Items and names one at a time.
use Rattle.std.proofs.Common.{◌≡◌, ℕ, ◌-◌, ◌≤◌, Bool, true, false, List, [], ◌∷◌, ◌++◌, length, take, drop, get_or, refl, ap, ◌∙◌, arith}
use Rattle.std.specs.Prelude.{Option, Some, None}
use Rattle.lf_core.specs.Term.{Term}
use Rattle.lf_elaboration.specs.Forms.{Binding}
use Rattle.lf_syntax.specs.declared.leaf.Ident.{Ident}
use Rattle.lf_syntax.specs.Tree.{ItemTree}
use Rattle.lf_elaboration.specs.Messages as says
use Rattle.lf_elaboration.specs.Run.{go_on, gives, choose}
use Rattle.lf_elaboration.specs.Part.{Part, State, Locals, Run, Calls, error, error_on}
use Rattle.lf_elaboration.specs.Direct.{Goal, Rest, introduced, intro}
use Rattle.lf_elaboration.specs.Proof as spec
use Rattle.lf_elaboration.specs.Proof.{item_place, left_to, prove_items, are_blocks}
use Rattle.lf_terms.proofs.Firsts.{split}
use Rattle.lf_terms.proofs.Binds.{bound}
use Rattle.lf_goals.specs.Between.{goal_pi}
use Rattle.lf_goals.specs.Behind.{several_left, blocks_into}
use Rattle.lf_goals.proofs.Rows as rows
use Rattle.lf_nested.specs.Words.{intro_with, intro_name, on_goal, in_block}

module _ (P : Part) (c : Calls) (L : Locals) where
  pub on_goal_is : (goal : Term) (i : ItemTree) (rest : Rest) (u : ℕ) (s : State) → spec.on_goal P c L goal i rest u s ≡ on_goal P c L goal i rest u s
  unfolding on_goal
  on_goal_is goal i rest u s = rows.on_goal_by P c L i rest goal u s

module _ (P : Part) (c : Calls) (L : Locals) (start : ℕ) (goal : Term) where
  pub items_none : (is : List ItemTree) (u : ℕ) (s : State) → length is ≡ 0
      → prove_items P c start is L goal u s ≡ error_on P L.names start says.unsolved_goal goal u s
  items_none [] u s e = refl
  items_none (i ∷ is) u s e = absurd (omega (arith, e))

  pub items_some : (is : List ItemTree) (i : ItemTree) (u : ℕ) (s : State) → 1 ≤ length is → i ≡ get_or is 0 i
      → prove_items P c start is L goal u s
      ≡ on_goal P c L goal i (left_to P c (item_place i) (take (length is - 1) (drop 1 is)) (prove_items P c start (take (length is - 1) (drop 1 is)))) u s
  items_some is i u s h e =
      ap (λ xs. prove_items P c start xs L goal u s) (split is i h e)
      ∙ on_goal_is P c L goal i (left_to P c (item_place i) (take (length is - 1) (drop 1 is)) (prove_items P c start (take (length is - 1) (drop 1 is)))) u s

module _ (P : Part) (c : Calls) (L : Locals) (at : ℕ) where
  pub in_block_is : (g : Goal) (i : ItemTree) (rest : Rest) (u : ℕ) (s : State)
      → spec.proof_of P c L at g (spec.on_goal P c L g.ty i rest) u s ≡ in_block P c L at g i rest u s
  unfolding in_block
  in_block_is g i rest u s =
      ap (λ o. go_on o (λ p v t. go_on (spec.proved P c L at g g.metavariable p v t) (λ z. gives p))) (on_goal_is P c L g.ty i rest u s)

  pub blocks_more : (ready : List Term) (g : Goal) (gs : List Goal) (i : ItemTree) (is : List ItemTree) (u : ℕ) (s : State)
      → blocks_into P c L at ready (g ∷ gs) (i ∷ is) u s
      ≡ go_on (in_block P c L at g i spec.no_rest u s) (λ p. blocks_into P c L at (ready ++ p ∷ []) gs is)
  blocks_more ready g gs i is u s =
      rows.blocks_more P c L at ready g gs i is u s
      ∙ ap (λ o. go_on o (λ p. blocks_into P c L at (ready ++ p ∷ []) gs is)) (in_block_is g i spec.no_rest u s)

  chosen : {A : Type 0} (b d : Bool) (m n : Run A) (u : ℕ) (s : State) → b ≡ d → choose b m n u s ≡ choose d m n u s
  chosen b d m n u s e = ap (λ x. choose x m n u s) e

  pub several_some : (gs : List Goal) (is : List ItemTree) (u : ℕ) (s : State) → are_blocks gs is ≡ true
      → several_left P c L at gs is u s ≡ blocks_into P c L at [] gs is u s
  unfolding several_left
  several_some gs is u s e = chosen (are_blocks gs is) true _ _ u s e ∙ rows.blocks_from_none P c L at gs is u s

  pub several_none : (gs : List Goal) (is : List ItemTree) (u : ℕ) (s : State) → are_blocks gs is ≡ false
      → several_left P c L at gs is u s ≡ error at (says.blocks_expected (length gs)) u s
  unfolding several_left
  several_none gs is u s e = chosen (are_blocks gs is) false _ _ u s e

module _ (c : Calls) (at : ℕ) (L : Locals) (rest : Rest) where
  introduced_is : (x : Ident) (xs : List Ident) (o : Option Binding) (u : ℕ) (s : State)
      → introduced at L x o (intro c at xs rest) u s ≡ intro_with c at x.name xs rest L o u s
  introduced_is x xs (Some p) u s = rows.introduced_by c at L rest x xs p u s
  introduced_is x xs None u s = refl

  named : (goal : Term) (x : Ident) (xs : List Ident) (u : ℕ) (s : State) → intro c at (x ∷ xs) rest L goal u s ≡ intro_name c at x xs rest L goal u s
  unfolding intro_name goal_pi
  named goal x xs u s = bound (goal_pi c L goal u s) _ _ (λ o v t. introduced_is x xs o v t)

  pub intro_some : (goal : Term) (xs : List Ident) (x : Ident) (u : ℕ) (s : State) → 1 ≤ length xs → x ≡ get_or xs 0 x
      → intro c at xs rest L goal u s ≡ intro_name c at x (take (length xs - 1) (drop 1 xs)) rest L goal u s
  intro_some goal xs x u s h e =
      ap (λ ys. intro c at ys rest L goal u s) (split xs x h e)
      ∙ named goal x (take (length xs - 1) (drop 1 xs)) u s
