-- How deep the trees of commands are. A list is as deep as its deepest part, and so are the operators of one chain: each stands no deeper than the others.
use Rattle.std.specs.Prelude.{ℕ, ◌+◌, max, List, [], ◌∷◌, Option, None, Some}
use Rattle.lf_syntax.specs.Tree.{
  LevelTree,
  LevelTrees,
  level_number,
  level_name,
  level_plus,
  level_max,
  level_imax,
  no_level,
  level_and,
  TermTree,
  ident,
  numeral,
  hole,
  sorry_term,
  prop,
  type_u,
  sort_u,
  paren,
  app,
  oper,
  not_term,
  fun_term,
  forall_term,
  let_term,
  by_term,
  arrow,
  TermOption,
  no_term,
  some_term,
  TermTrees,
  end_terms,
  term_and,
  BindersTree,
  binders,
  LBinderTree,
  typed,
  plain,
  implicit,
  LBinderTrees,
  end_binders,
  binder_and,
  ItemTree,
  block,
  exact,
  intro,
  apply,
  rfl,
  assumption_item,
  rw_item,
  unfold_item,
  have_item,
  induction,
  cases,
  injection,
  sorry_item,
  ItemTrees,
  end_items,
  item_and,
  RuleTree,
  rule,
  RuleTrees,
  end_rules,
  rule_and,
}
use Rattle.lf_syntax.specs.declared.term.Binders.{Binders}
use Rattle.lf_syntax.specs.declared.command.Decl.{Decl}
use Rattle.lf_syntax.specs.declared.command.Helper.{Helper}
use Rattle.lf_syntax.specs.declared.command.CtorDecl.{CtorDecl}
use Rattle.lf_syntax.specs.declared.command.FieldDecl.{FieldDecl}
use Rattle.lf_syntax.specs.declared.pattern.Alternative.{Alternative}
use Rattle.lf_syntax.specs.declared.command.Command.{Command}
use Rattle.lf_syntax.specs.declared.command.Command.TheVariants.{
  Axiom,
  Def,
  Equations,
  Theorem,
  Inductive,
  Structure,
  Class,
  Instance,
  Namespace,
  Section,
  End,
  OpenNames,
  Universe,
  Variable,
  Check,
  Reduce,
  PrintAxioms,
  Bad,
}

-- The greatest of the numbers of a list.
abbrev pub greatest : {A : Type 0} → (A → ℕ) → List A → ℕ
greatest h [] = 0
greatest h (x ∷ xs) = max (h x) (greatest h xs)

abbrev pub if_any : {A : Type 0} → (A → ℕ) → Option A → ℕ
if_any h None = 0
if_any h (Some x) = h x

abbrev mutual
  pub level_height : LevelTree → ℕ
  level_height (level_number n) = 1
  level_height (level_name x) = 1
  level_height (level_plus at l n) = 1 + level_height l
  level_height (level_max at ls) = 1 + levels_height ls
  level_height (level_imax at k l) = 1 + max (level_height k) (level_height l)

  pub levels_height : LevelTrees → ℕ
  levels_height no_level = 0
  levels_height (level_and l ls) = max (level_height l) (levels_height ls)

abbrev mutual
  pub term_height : TermTree → ℕ
  term_height (ident at e x ls) = 1 + greatest level_height ls
  term_height (numeral n) = 1
  term_height (hole at) = 1
  term_height (sorry_term at) = 1
  term_height (prop at) = 1
  term_height (type_u at l) = 1 + if_any level_height l
  term_height (sort_u at l) = 1 + if_any level_height l
  term_height (paren at t u) = 1 + max (term_height t) (option_height u)
  term_height (app at h ts) = 1 + max (term_height h) (terms_height ts)
  term_height (oper at o l r) = max (term_height l) (1 + term_height r)
  term_height (not_term at t) = 1 + term_height t
  term_height (fun_term at bs t) = 1 + max (lbinders_height bs) (term_height t)
  term_height (forall_term at bs t) = 1 + max (lbinders_height bs) (term_height t)
  term_height (let_term at x u v t) = 1 + max (option_height u) (max (term_height v) (term_height t))
  term_height (by_term at items) = 1 + items_height items
  term_height (arrow at b t) = 1 + max (binders_height b) (term_height t)

  pub option_height : TermOption → ℕ
  option_height no_term = 0
  option_height (some_term t) = term_height t

  pub terms_height : TermTrees → ℕ
  terms_height end_terms = 0
  terms_height (term_and t ts) = max (term_height t) (terms_height ts)

  pub binders_height : BindersTree → ℕ
  binders_height (binders at k xs t) = 1 + term_height t

  pub lbinder_height : LBinderTree → ℕ
  lbinder_height (typed b) = binders_height b
  lbinder_height (plain x) = 1
  lbinder_height (implicit at xs) = 1

  pub lbinders_height : LBinderTrees → ℕ
  lbinders_height end_binders = 0
  lbinders_height (binder_and b bs) = max (lbinder_height b) (lbinders_height bs)

  pub item_height : ItemTree → ℕ
  item_height (block at items) = 1 + items_height items
  item_height (exact at t) = 1 + term_height t
  item_height (intro at xs) = 1
  item_height (apply at t) = 1 + term_height t
  item_height (rfl at) = 1
  item_height (assumption_item at) = 1
  item_height (rw_item at rs) = 1 + rules_height rs
  item_height (unfold_item at x) = 1
  item_height (have_item at x u v) = 1 + max (term_height u) (term_height v)
  item_height (induction at x) = 1
  item_height (cases at x) = 1
  item_height (injection at x) = 1
  item_height (sorry_item at) = 1

  pub items_height : ItemTrees → ℕ
  items_height end_items = 0
  items_height (item_and i items) = max (item_height i) (items_height items)

  pub rule_height : RuleTree → ℕ
  rule_height (rule at b t) = 1 + term_height t

  pub rules_height : RuleTrees → ℕ
  rules_height end_rules = 0
  rules_height (rule_and r rs) = max (rule_height r) (rules_height rs)

abbrev pub group_height : Binders → ℕ
group_height b = 1 + term_height b.ty

abbrev pub decl_height : Decl → ℕ
decl_height d = max (greatest group_height d.binders) (if_any term_height d.ty)

abbrev pub helper_height : Helper → ℕ
helper_height h = 1 + max (greatest group_height h.binders) (max (term_height h.ty) (term_height h.value))

abbrev pub ctor_height : CtorDecl → ℕ
ctor_height c = 1 + max (greatest group_height c.binders) (if_any term_height c.ty)

abbrev pub field_height : FieldDecl → ℕ
field_height f = 1 + term_height f.ty

abbrev pub alternative_height : Alternative → ℕ
alternative_height a = 1 + term_height a.term

abbrev pub command_height : Command → ℕ
command_height (Axiom d) = 1 + decl_height d
command_height (Def d v hs) = 1 + max (decl_height d) (max (term_height v) (greatest helper_height hs))
command_height (Equations d more) = 1 + max (decl_height d) (greatest alternative_height more)
command_height (Theorem d v hs) = 1 + max (decl_height d) (max (term_height v) (greatest helper_height hs))
command_height (Inductive d cs) = 1 + max (decl_height d) (greatest ctor_height cs)
command_height (Structure d fs) = 1 + max (decl_height d) (greatest field_height fs)
command_height (Class d fs) = 1 + max (decl_height d) (greatest field_height fs)
command_height (Instance d v) = 1 + max (decl_height d) (term_height v)
command_height (Namespace at x) = 1
command_height (Section at x) = 1
command_height (End at x) = 1
command_height (OpenNames at xs) = 1
command_height (Universe at xs) = 1
command_height (Variable at bs) = 1 + greatest group_height bs
command_height (Check at t) = 1 + term_height t
command_height (Reduce at t) = 1 + term_height t
command_height (PrintAxioms at x) = 1
command_height (Bad at f) = 1
