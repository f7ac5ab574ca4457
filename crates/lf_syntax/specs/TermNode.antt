-- The trees that the nodes of terms and items stand for; their parts are trees already.
use Rattle.std.specs.Prelude.{List, [], ◌∷◌}
use Rattle.lf_syntax.specs.Tree.{
  TermTree,
  ident,
  numeral,
  hole,
  sorry_term,
  prop,
  type_u,
  sort_u,
  paren,
  app,
  oper,
  not_term,
  fun_term,
  forall_term,
  let_term,
  by_term,
  arrow,
  terms_of,
  option_of,
  BindersTree,
  binders,
  LBinderTree,
  typed,
  plain,
  implicit,
  LBinderTrees,
  end_binders,
  binder_and,
  ItemTree,
  block,
  exact,
  intro,
  apply,
  rfl,
  assumption_item,
  rw_item,
  unfold_item,
  have_item,
  induction,
  cases,
  injection,
  sorry_item,
  items_of,
  RuleTree,
  rule,
  RuleTrees,
  end_rules,
  rule_and,
}
use Rattle.lf_syntax.specs.declared.term.TermNode.{TermNode}
use Rattle.lf_syntax.specs.declared.term.TermNode.TheVariants as term
use Rattle.lf_syntax.specs.declared.term.ItemNode.{ItemNode}
use Rattle.lf_syntax.specs.declared.term.ItemNode.TheVariants as item
use Rattle.lf_syntax.specs.declared.term.Binders.{Binders}
use Rattle.lf_syntax.specs.declared.term.LBinder.{LBinder}
use Rattle.lf_syntax.specs.declared.term.LBinder.TheVariants as lbinder
use Rattle.lf_syntax.specs.declared.term.Rule.{Rule}

abbrev pub binders_tree : Binders → BindersTree
binders_tree b = binders b.at b.kind b.names b.ty

abbrev pub lbinder_tree : LBinder → LBinderTree
lbinder_tree (lbinder.Typed b) = typed (binders_tree b)
lbinder_tree (lbinder.Plain x) = plain x
lbinder_tree (lbinder.Implicit at xs) = implicit at xs

abbrev pub lbinder_trees : List LBinder → LBinderTrees
lbinder_trees [] = end_binders
lbinder_trees (b ∷ bs) = binder_and (lbinder_tree b) (lbinder_trees bs)

abbrev pub rule_tree : Rule → RuleTree
rule_tree r = rule r.at r.back r.term

abbrev pub rule_trees : List Rule → RuleTrees
rule_trees [] = end_rules
rule_trees (r ∷ rs) = rule_and (rule_tree r) (rule_trees rs)

abbrev pub term_tree : TermNode → TermTree
term_tree (term.Ident at e x ls) = ident at e x ls
term_tree (term.Num n) = numeral n
term_tree (term.Hole at) = hole at
term_tree (term.Sorry at) = sorry_term at
term_tree (term.Prop at) = prop at
term_tree (term.TypeU at l) = type_u at l
term_tree (term.SortU at l) = sort_u at l
term_tree (term.Paren at t u) = paren at t (option_of u)
term_tree (term.App at h ts) = app at h (terms_of ts.items)
term_tree (term.Oper at o l r) = oper at o l r
term_tree (term.Not at t) = not_term at t
term_tree (term.Fun at bs t) = fun_term at (lbinder_trees bs.items) t
term_tree (term.Forall at bs t) = forall_term at (lbinder_trees bs.items) t
term_tree (term.Let at x u v t) = let_term at x (option_of u) v t
term_tree (term.By at items) = by_term at (items_of items.items)
term_tree (term.Arrow at b t) = arrow at (binders_tree b) t

abbrev pub item_tree : ItemNode → ItemTree
item_tree (item.Block at items) = block at (items_of items.items)
item_tree (item.Exact at t) = exact at t
item_tree (item.Intro at xs) = intro at xs
item_tree (item.Apply at t) = apply at t
item_tree (item.Rfl at) = rfl at
item_tree (item.Assumption at) = assumption_item at
item_tree (item.Rw at rs) = rw_item at (rule_trees rs.items)
item_tree (item.Unfold at x) = unfold_item at x
item_tree (item.Have at x u v) = have_item at x u v
item_tree (item.Induction at x) = induction at x
item_tree (item.Cases at x) = cases at x
item_tree (item.Injection at x) = injection at x
item_tree (item.Sorry at) = sorry_item at
