-- The runs of `apply`, `rw` and `unfold` in the parts that are functions of the code.
use Rattle.std.proofs.Common.{◌≡◌, ℕ, ◌-◌, ◌≤◌, List, [], ◌∷◌, length, take, drop, get_or, sym, ap, ◌∙◌, arith}
use Rattle.lf_core.specs.Term.{Term}
use Rattle.lf_syntax.specs.declared.leaf.Ident.{Ident}
use Rattle.lf_syntax.specs.declared.term.Rule.{Rule}
use Rattle.lf_syntax.specs.Tree.{TermTree, ItemTree}
use Rattle.lf_syntax.specs.declared.term.ItemNode.{ItemNode}
use Rattle.lf_syntax.specs.declared.term.ItemNode.TheVariants as node
use Rattle.lf_syntax.specs.TermNode.{rule_trees, item_tree}
use Rattle.lf_elaboration.specs.Part.{Part, State, Locals, Calls}
use Rattle.lf_elaboration.specs.Direct as direct
use Rattle.lf_elaboration.specs.Direct.{Rest}
use Rattle.lf_elaboration.specs.Apply as apply
use Rattle.lf_elaboration.specs.Rewrite as rewrite
use Rattle.lf_elaboration.specs.Rewrite.{rw}
use Rattle.lf_elaboration.specs.Proof.{item}
use Rattle.lf_terms.proofs.Firsts.{split}
use Rattle.lf_goals.proofs.Rows as rows
use Rattle.lf_opening.proofs.Cycles as cycles
use Rattle.lf_nested.specs.Words as words
use Rattle.lf_nested.specs.Words.{apply_rest, apply_behind, rule_behind, rule_step, rw_behind, rw_rule, unfold_step, one_behind}

pub after_rules_is : (rest : Rest) (L : Locals) (goal : Term) (u : ℕ) (s : State) → rewrite.after_rules rest L goal u s ≡ words.after_rules rest L goal u s
unfolding words.after_rules
after_rules_is rest L goal u s = cycles.after_rules_is rest L goal u s

module _ (P : Part) (c : Calls) (L : Locals) where
  pub rw_none : (at : ℕ) (rules : List Rule) (rest : Rest) (goal : Term) (u : ℕ) (s : State) → length rules ≡ 0
      → rw P c L at (rule_trees rules) rest goal u s ≡ words.after_rules rest L goal u s
  rw_none at [] rest goal u s e = after_rules_is rest L goal u s
  rw_none at (r ∷ rs) rest goal u s e = absurd (omega (arith, e))

  rule_is : (at : ℕ) (r : Rule) (rs : List Rule) (rest : Rest) (goal : Term) (u : ℕ) (s : State)
      → rw P c L at (rule_trees (r ∷ rs)) rest goal u s ≡ rw_rule P c L at r.back r.term (rule_trees rs) rest goal u s
  unfolding rw_rule rw_behind rule_step rule_behind
  rule_is at r rs rest goal u s = cycles.rw_is P c L at r.at r.back r.term (rule_trees rs) rest goal u s

  pub rw_some : (at : ℕ) (rules : List Rule) (r : Rule) (rest : Rest) (goal : Term) (u : ℕ) (s : State) → 1 ≤ length rules → r ≡ get_or rules 0 r
      → rw P c L at (rule_trees rules) rest goal u s
      ≡ rw_rule P c L at r.back r.term (rule_trees (take (length rules - 1) (drop 1 rules))) rest goal u s
  rw_some at rules r rest goal u s h e =
      ap (λ rs. rw P c L at (rule_trees rs) rest goal u s) (split rules r h e)
      ∙ rule_is at r (take (length rules - 1) (drop 1 rules)) rest goal u s

  apply_is : (goal : Term) (t : TermTree) (rest : Rest) (u : ℕ) (s : State)
      → apply.apply_item P c L goal t rest u s ≡ words.apply_item P c L goal t rest u s
  unfolding words.apply_item apply_behind apply_rest
  apply_is goal t rest u s = cycles.apply_is P c L goal t rest u s

  unfold_is : (at : ℕ) (x : Ident) (rest : Rest) (goal : Term) (u : ℕ) (s : State)
      → rewrite.unfold_item P c L at x rest goal u s ≡ words.unfold_item P c L at x rest goal u s
  unfolding words.unfold_item unfold_step one_behind rule_behind
  unfold_is at x rest goal u s = cycles.unfold_is P c L at x rest goal u s

  sorry_is : (at : ℕ) (goal : Term) (rest : Rest) (u : ℕ) (s : State) → direct.sorry P c at L goal rest u s ≡ words.sorry P c at L goal rest u s
  unfolding words.sorry
  sorry_is at goal rest u s = rows.sorry_by P c at L goal rest u s

-- An item whose node is this one.
module _ (P : Part) (c : Calls) (L : Locals) (goal : Term) (rest : Rest) (n : ItemNode) (i : ItemTree) where
  at_node : (m : ItemNode) (u : ℕ) (s : State) → item_tree n ≡ i → n ≡ m → item P c L goal i rest u s ≡ item P c L goal (item_tree m) rest u s
  at_node m u s e f = ap (λ j. item P c L goal j rest u s) (sym e ∙ ap item_tree f)

  pub item_exact : (at : ℕ) (t : TermTree) (u : ℕ) (s : State) → item_tree n ≡ i → n ≡ node.Exact at t
      → item P c L goal i rest u s ≡ words.exact P c L goal t rest u s
  unfolding words.exact
  item_exact at t u s e f = at_node (node.Exact at t) u s e f

  pub item_rfl : (at : ℕ) (u : ℕ) (s : State) → item_tree n ≡ i → n ≡ node.Rfl at
      → item P c L goal i rest u s ≡ words.exact P c L goal (direct.rfl_term at) rest u s
  unfolding words.exact
  item_rfl at u s e f = at_node (node.Rfl at) u s e f

  pub item_apply : (at : ℕ) (t : TermTree) (u : ℕ) (s : State) → item_tree n ≡ i → n ≡ node.Apply at t
      → item P c L goal i rest u s ≡ words.apply_item P c L goal t rest u s
  item_apply at t u s e f = at_node (node.Apply at t) u s e f ∙ apply_is P c L goal t rest u s

  pub item_unfold : (at : ℕ) (x : Ident) (u : ℕ) (s : State) → item_tree n ≡ i → n ≡ node.Unfold at x
      → item P c L goal i rest u s ≡ words.unfold_item P c L at x rest goal u s
  item_unfold at x u s e f = at_node (node.Unfold at x) u s e f ∙ unfold_is P c L at x rest goal u s

  pub item_sorry : (at : ℕ) (u : ℕ) (s : State) → item_tree n ≡ i → n ≡ node.Sorry at
      → item P c L goal i rest u s ≡ words.sorry P c at L goal rest u s
  item_sorry at u s e f = at_node (node.Sorry at) u s e f ∙ sorry_is P c L at goal rest u s

  pub item_have : (at : ℕ) (x : Ident) (ty v : TermTree) (u : ℕ) (s : State) → item_tree n ≡ i → n ≡ node.Have at x ty v
      → item P c L goal i rest u s ≡ words.have P c L goal x ty v rest u s
  unfolding words.have
  item_have at x ty v u s e f = at_node (node.Have at x ty v) u s e f ∙ rows.have_by P c L goal x ty v rest u s
