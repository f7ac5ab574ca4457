-- Each part of a term or an item has fewer nodes.
use Rattle.std.specs.Prelude.{◌+◌, ◌≤◌, List, [], ◌∷◌, Some, None}
use Rattle.std.proofs.Common.{arith}
use Rattle.std.specs.Arc.{arc_value}
use denote.Param.Weighed.{most}
use Rattle.lf_syntax.specs.Tree.{TermTree, ItemTree, terms_of, items_of}
use Rattle.lf_syntax.specs.Size.{term_size, terms_size, item_size, items_size, lbinder_size, lbinders_size, binders_size, rules_size, rule_size}
use Rattle.lf_syntax.specs.TermNode.{term_tree, item_tree, lbinder_tree, lbinder_trees, binders_tree, rule_tree, rule_trees}
use Rattle.lf_syntax.specs.declared.term.TermNode.{TermNode}
use Rattle.lf_syntax.specs.declared.term.TermNode.TheVariants as term
use Rattle.lf_syntax.specs.declared.term.ItemNode.{ItemNode}
use Rattle.lf_syntax.specs.declared.term.ItemNode.TheVariants as item
use Rattle.lf_syntax.specs.declared.term.LBinder.{LBinder}
use Rattle.lf_syntax.specs.declared.term.LBinder.TheVariants as lbinder
use Rattle.lf_syntax.specs.declared.term.Binders.{Binders}
use Rattle.lf_syntax.specs.declared.term.Rule.{Rule}
use Rattle.lf_syntax.specs.declared.term.Term.TheInside as term_inside
use Rattle.lf_syntax.specs.declared.term.Item.TheInside as item_inside
use Rattle.lf_syntax.specs.declared.term.Item.TheDeep.{deep-Term, deep-TermNode, deep-ItemNode, deep-LBinder, deep-Binders, deep-Rule, deep-Item}

most_terms : (ts : List TermTree) → most (λ t. term_size t + 1) ts ≤ terms_size (terms_of ts) + 1
most_terms [] = omega arith
most_terms (t ∷ ts) = omega (arith, most_terms ts)

most_items : (ts : List ItemTree) → most (λ t. item_size t + 1) ts ≤ items_size (items_of ts) + 1
most_items [] = omega arith
most_items (t ∷ ts) = omega (arith, most_items ts)

binders_falls : (b : Binders) → deep-Binders b ≤ binders_size (binders_tree b)
binders_falls b = omega arith

lbinder_falls : (b : LBinder) → deep-LBinder b ≤ lbinder_size (lbinder_tree b)
lbinder_falls (lbinder.Typed b) = omega (arith, binders_falls b)
lbinder_falls (lbinder.Plain x) = omega arith
lbinder_falls (lbinder.Implicit at xs) = omega arith

rule_falls : (r : Rule) → deep-Rule r ≤ rule_size (rule_tree r)
rule_falls r = omega arith

most_binders : (bs : List LBinder) → most deep-LBinder bs ≤ lbinders_size (lbinder_trees bs)
most_binders [] = omega arith
most_binders (b ∷ bs) = omega (arith, lbinder_falls b, most_binders bs)

most_rules : (rs : List Rule) → most deep-Rule rs ≤ rules_size (rule_trees rs)
most_rules [] = omega arith
most_rules (r ∷ rs) = omega (arith, rule_falls r, most_rules rs)

term_node_falls : (n : TermNode) → deep-TermNode n ≤ term_size (term_tree n)
term_node_falls (term.Ident at e x ls) = omega arith
term_node_falls (term.Num n) = omega arith
term_node_falls (term.Hole at) = omega arith
term_node_falls (term.Sorry at) = omega arith
term_node_falls (term.Prop at) = omega arith
term_node_falls (term.TypeU at l) = omega arith
term_node_falls (term.SortU at l) = omega arith
term_node_falls (term.Paren at t None) = omega arith
term_node_falls (term.Paren at t (Some u)) = omega arith
term_node_falls (term.App at h ts) = omega (arith, most_terms ts.items)
term_node_falls (term.Oper at o l r) = omega arith
term_node_falls (term.Not at t) = omega arith
term_node_falls (term.Fun at bs t) = omega (arith, most_binders bs.items)
term_node_falls (term.Forall at bs t) = omega (arith, most_binders bs.items)
term_node_falls (term.Let at x None v t) = omega arith
term_node_falls (term.Let at x (Some u) v t) = omega arith
term_node_falls (term.By at items) = omega (arith, most_items items.items)
term_node_falls (term.Arrow at b t) = omega (arith, binders_falls b)

item_node_falls : (n : ItemNode) → deep-ItemNode n ≤ item_size (item_tree n)
item_node_falls (item.Block at items) = omega (arith, most_items items.items)
item_node_falls (item.Exact at t) = omega arith
item_node_falls (item.Intro at xs) = omega arith
item_node_falls (item.Apply at t) = omega arith
item_node_falls (item.Rfl at) = omega arith
item_node_falls (item.Assumption at) = omega arith
item_node_falls (item.Rw at rs) = omega (arith, most_rules rs.items)
item_node_falls (item.Unfold at x) = omega arith
item_node_falls (item.Have at x u v) = omega arith
item_node_falls (item.Induction at x) = omega arith
item_node_falls (item.Cases at x) = omega arith
item_node_falls (item.Injection at x) = omega arith
item_node_falls (item.Sorry at) = omega arith

pub term_falls : (t : term_inside.Inside) → deep-Term t ≤ term_size (term_tree (arc_value t.node))
term_falls t = omega (arith, term_node_falls (arc_value t.node))

pub item_falls : (i : item_inside.Inside) → deep-Item i ≤ item_size (item_tree (arc_value i.node))
item_falls i = omega (arith, item_node_falls (arc_value i.node))
