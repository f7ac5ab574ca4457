-- The names that a written term refers to: an identifier that stands as a term refers to constants and variables, a name in a level to a
-- level. A name that is being bound, or that a proof item has by itself, refers to nothing.
use Rattle.std.specs.Prelude.{List, [], ◌∷◌, ◌++◌, Option, Some, None, flat_map}
use Rattle.lf_syntax.specs.TermNode.{binders_tree}
use Rattle.lf_syntax.specs.Tree.{
  LevelTree,
  LevelTrees,
  level_number,
  level_name,
  level_plus,
  level_max,
  level_imax,
  no_level,
  level_and,
  TermTree,
  TermOption,
  TermTrees,
  BindersTree,
  LBinderTree,
  LBinderTrees,
  ItemTree,
  ItemTrees,
  RuleTree,
  RuleTrees,
  ident,
  numeral,
  hole,
  sorry_term,
  prop,
  type_u,
  sort_u,
  paren,
  app,
  oper,
  not_term,
  fun_term,
  forall_term,
  let_term,
  by_term,
  arrow,
  no_term,
  some_term,
  end_terms,
  term_and,
  binders,
  typed,
  plain,
  implicit,
  end_binders,
  binder_and,
  block,
  exact,
  intro,
  apply,
  rfl,
  assumption_item,
  rw_item,
  unfold_item,
  have_item,
  induction,
  cases,
  injection,
  sorry_item,
  end_items,
  item_and,
  rule,
  end_rules,
  rule_and,
  option_of,
}
use Rattle.lf_syntax.specs.declared.term.Binders.{Binders}
use Rattle.lf_syntax.specs.declared.command.Decl.{Decl}
use Rattle.lf_syntax.specs.declared.command.CtorDecl.{CtorDecl}
use Rattle.lf_syntax.specs.declared.command.FieldDecl.{FieldDecl}
use Rattle.lf_syntax.specs.declared.command.Command.{Command}
use Rattle.lf_syntax.specs.declared.command.Command.TheVariants.{
  Axiom,
  Def,
  Equations,
  Theorem,
  Inductive,
  Structure,
  Class,
  Instance,
  Namespace,
  Section,
  End,
  OpenNames,
  Universe,
  Variable,
  Check,
  Reduce,
  PrintAxioms,
  Bad,
}
use Rattle.lf_elaboration.specs.declared.reference.Reference.{Reference}
use Rattle.lf_elaboration.specs.declared.reference.Reference.TheVariants as reference

abbrev mutual
  pub level_references : LevelTree → List Reference
  level_references (level_number n) = []
  level_references (level_name x) = reference.Level x.name ∷ []
  level_references (level_plus at l n) = level_references l
  level_references (level_max at ls) = levels_references ls
  level_references (level_imax at l m) = level_references l ++ level_references m

  pub levels_references : LevelTrees → List Reference
  levels_references no_level = []
  levels_references (level_and l ls) = level_references l ++ levels_references ls

abbrev pub optional_level : Option LevelTree → List Reference
optional_level None = []
optional_level (Some l) = level_references l

abbrev mutual
  pub term_references : TermTree → List Reference
  term_references (ident at e x ls) = reference.Term x.name ∷ flat_map level_references ls
  term_references (numeral n) = []
  term_references (hole at) = []
  term_references (sorry_term at) = []
  term_references (prop at) = []
  term_references (type_u at l) = optional_level l
  term_references (sort_u at l) = optional_level l
  term_references (paren at t u) = term_references t ++ option_references u
  term_references (app at h ts) = term_references h ++ terms_references ts
  term_references (oper at o l r) = term_references l ++ term_references r
  term_references (not_term at t) = term_references t
  term_references (fun_term at bs t) = lbinders_references bs ++ term_references t
  term_references (forall_term at bs t) = lbinders_references bs ++ term_references t
  term_references (let_term at x u v t) = option_references u ++ (term_references v ++ term_references t)
  term_references (by_term at i) = items_references i
  term_references (arrow at b t) = binders_references b ++ term_references t

  pub option_references : TermOption → List Reference
  option_references no_term = []
  option_references (some_term t) = term_references t

  pub terms_references : TermTrees → List Reference
  terms_references end_terms = []
  terms_references (term_and t ts) = term_references t ++ terms_references ts

  pub binders_references : BindersTree → List Reference
  binders_references (binders at k xs t) = term_references t

  pub lbinder_references : LBinderTree → List Reference
  lbinder_references (typed b) = binders_references b
  lbinder_references (plain x) = []
  lbinder_references (implicit at xs) = []

  pub lbinders_references : LBinderTrees → List Reference
  lbinders_references end_binders = []
  lbinders_references (binder_and b bs) = lbinder_references b ++ lbinders_references bs

  pub item_references : ItemTree → List Reference
  item_references (block at i) = items_references i
  item_references (exact at t) = term_references t
  item_references (intro at xs) = []
  item_references (apply at t) = term_references t
  item_references (rfl at) = []
  item_references (assumption_item at) = []
  item_references (rw_item at rs) = rules_references rs
  item_references (unfold_item at x) = []
  item_references (have_item at x u v) = term_references u ++ term_references v
  item_references (induction at x) = []
  item_references (cases at x) = []
  item_references (injection at x) = []
  item_references (sorry_item at) = []

  pub items_references : ItemTrees → List Reference
  items_references end_items = []
  items_references (item_and i is) = item_references i ++ items_references is

  pub rule_references : RuleTree → List Reference
  rule_references (rule at back t) = term_references t

  pub rules_references : RuleTrees → List Reference
  rules_references end_rules = []
  rules_references (rule_and r rs) = rule_references r ++ rules_references rs

-- ---- Headers: binders and type; for a definition without a type its value, for an inductive type its constructors, for a structure or a
-- class its fields. The binders of a `variable` and the term of a `#check` or `#reduce` are headers too.

abbrev pub groups_references : List Binders → List Reference
groups_references bs = flat_map (λ b. binders_references (binders_tree b)) bs

abbrev pub optional_references : Option TermTree → List Reference
optional_references t = option_references (option_of t)

abbrev pub stated_references : Decl → List Reference
stated_references d = groups_references d.binders ++ optional_references d.ty

abbrev pub value_references : Option TermTree → TermTree → List Reference
value_references (Some t) v = []
value_references None v = term_references v

abbrev pub constructor_references : CtorDecl → List Reference
constructor_references c = groups_references c.binders ++ optional_references c.ty

abbrev pub field_references : FieldDecl → List Reference
field_references f = term_references f.ty

abbrev pub header_references : Command → List Reference
header_references (Axiom d) = stated_references d
header_references (Def d v hs) = stated_references d ++ value_references d.ty v
header_references (Equations d alts) = stated_references d
header_references (Theorem d v hs) = stated_references d
header_references (Inductive d cs) = stated_references d ++ flat_map constructor_references cs
header_references (Structure d fs) = stated_references d ++ flat_map field_references fs
header_references (Class d fs) = stated_references d ++ flat_map field_references fs
header_references (Instance d v) = stated_references d
header_references (Variable at bs) = groups_references bs
header_references (Check at t) = term_references t
header_references (Reduce at t) = term_references t
header_references (PrintAxioms at n) = []
header_references (Namespace at n) = []
header_references (Section at n) = []
header_references (End at n) = []
header_references (OpenNames at ns) = []
header_references (Universe at ns) = []
header_references (Bad at f) = []
