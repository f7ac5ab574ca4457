-- The number of nodes of trees.
use Rattle.std.specs.Prelude.{ℕ, ◌+◌}
use Rattle.lf_syntax.specs.Tree.{
  LevelTree,
  LevelTrees,
  TermTree,
  TermOption,
  TermTrees,
  BindersTree,
  LBinderTree,
  LBinderTrees,
  ItemTree,
  ItemTrees,
  RuleTree,
  RuleTrees,
  app,
  apply,
  arrow,
  assumption_item,
  binder_and,
  binders,
  block,
  by_term,
  cases,
  end_binders,
  end_items,
  end_rules,
  end_terms,
  exact,
  forall_term,
  fun_term,
  have_item,
  hole,
  ident,
  implicit,
  induction,
  injection,
  intro,
  item_and,
  let_term,
  level_and,
  level_imax,
  level_max,
  level_name,
  level_number,
  level_plus,
  no_level,
  no_term,
  not_term,
  numeral,
  oper,
  paren,
  plain,
  prop,
  rfl,
  rule,
  rule_and,
  rw_item,
  some_term,
  sorry_item,
  sorry_term,
  sort_u,
  term_and,
  type_u,
  typed,
  unfold_item,
}

abbrev mutual
  pub level_size : LevelTree → ℕ
  level_size (level_number x0) = 1
  level_size (level_name x0) = 1
  level_size (level_plus x0 x1 x2) = level_size x1 + 1
  level_size (level_max x0 x1) = levels_size x1 + 1
  level_size (level_imax x0 x1 x2) = level_size x1 + level_size x2 + 1

  pub levels_size : LevelTrees → ℕ
  levels_size no_level = 0
  levels_size (level_and x0 x1) = level_size x0 + levels_size x1

abbrev mutual
  pub term_size : TermTree → ℕ
  term_size (ident x0 x1 x2 x3) = 1
  term_size (numeral x0) = 1
  term_size (hole x0) = 1
  term_size (sorry_term x0) = 1
  term_size (prop x0) = 1
  term_size (type_u x0 x1) = 1
  term_size (sort_u x0 x1) = 1
  term_size (paren x0 x1 x2) = term_size x1 + term_option_size x2 + 1
  term_size (app x0 x1 x2) = term_size x1 + terms_size x2 + 1
  term_size (oper x0 x1 x2 x3) = term_size x2 + term_size x3 + 1
  term_size (not_term x0 x1) = term_size x1 + 1
  term_size (fun_term x0 x1 x2) = lbinders_size x1 + term_size x2 + 1
  term_size (forall_term x0 x1 x2) = lbinders_size x1 + term_size x2 + 1
  term_size (let_term x0 x1 x2 x3 x4) = term_option_size x2 + term_size x3 + term_size x4 + 1
  term_size (by_term x0 x1) = items_size x1 + 1
  term_size (arrow x0 x1 x2) = binders_size x1 + term_size x2 + 1

  pub term_option_size : TermOption → ℕ
  term_option_size no_term = 0
  term_option_size (some_term x0) = term_size x0

  pub terms_size : TermTrees → ℕ
  terms_size end_terms = 0
  terms_size (term_and x0 x1) = term_size x0 + terms_size x1

  pub binders_size : BindersTree → ℕ
  binders_size (binders x0 x1 x2 x3) = term_size x3 + 1

  pub lbinder_size : LBinderTree → ℕ
  lbinder_size (typed x0) = binders_size x0 + 1
  lbinder_size (plain x0) = 1
  lbinder_size (implicit x0 x1) = 1

  pub lbinders_size : LBinderTrees → ℕ
  lbinders_size end_binders = 0
  lbinders_size (binder_and x0 x1) = lbinder_size x0 + lbinders_size x1

  pub item_size : ItemTree → ℕ
  item_size (block x0 x1) = items_size x1 + 1
  item_size (exact x0 x1) = term_size x1 + 1
  item_size (intro x0 x1) = 1
  item_size (apply x0 x1) = term_size x1 + 1
  item_size (rfl x0) = 1
  item_size (assumption_item x0) = 1
  item_size (rw_item x0 x1) = rules_size x1 + 1
  item_size (unfold_item x0 x1) = 1
  item_size (have_item x0 x1 x2 x3) = term_size x2 + term_size x3 + 1
  item_size (induction x0 x1) = 1
  item_size (cases x0 x1) = 1
  item_size (injection x0 x1) = 1
  item_size (sorry_item x0) = 1

  pub items_size : ItemTrees → ℕ
  items_size end_items = 0
  items_size (item_and x0 x1) = item_size x0 + items_size x1

  pub rule_size : RuleTree → ℕ
  rule_size (rule x0 x1 x2) = term_size x2 + 1

  pub rules_size : RuleTrees → ℕ
  rules_size end_rules = 0
  rules_size (rule_and x0 x1) = rule_size x0 + rules_size x1
