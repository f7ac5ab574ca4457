-- Terms whose operators keep their levels.
use Rattle.std.specs.Prelude.{ℕ, ◌≤◌, List, [], ◌∷◌, Option, None, Some}
use Rattle.lf_syntax.specs.Tree.{
  TermTree,
  ident,
  numeral,
  hole,
  sorry_term,
  prop,
  type_u,
  sort_u,
  paren,
  app,
  oper,
  not_term,
  fun_term,
  forall_term,
  let_term,
  by_term,
  arrow,
  TermOption,
  no_term,
  some_term,
  TermTrees,
  end_terms,
  term_and,
  BindersTree,
  binders,
  LBinderTree,
  typed,
  plain,
  implicit,
  LBinderTrees,
  end_binders,
  binder_and,
  ItemTree,
  block,
  exact,
  intro,
  apply,
  rfl,
  assumption_item,
  rw_item,
  unfold_item,
  have_item,
  induction,
  cases,
  injection,
  sorry_item,
  ItemTrees,
  end_items,
  item_and,
  RuleTree,
  rule,
  RuleTrees,
  end_rules,
  rule_and,
}
use Rattle.lf_text.specs.Operators.{op_level, left_of, right_of}
use Rattle.lf_syntax.specs.Levels.{operand_level, not_level}
use Rattle.lf_syntax.specs.declared.term.Binders.{Binders}
use Rattle.lf_syntax.specs.declared.command.Decl.{Decl}
use Rattle.lf_syntax.specs.declared.command.Helper.{Helper}
use Rattle.lf_syntax.specs.declared.command.CtorDecl.{CtorDecl}
use Rattle.lf_syntax.specs.declared.command.FieldDecl.{FieldDecl}
use Rattle.lf_syntax.specs.declared.pattern.Alternative.{Alternative}
use Rattle.lf_syntax.specs.declared.command.Command.{Command}
use Rattle.lf_syntax.specs.declared.command.Command.TheVariants.{
  Axiom,
  Def,
  Equations,
  Theorem,
  Inductive,
  Structure,
  Class,
  Instance,
  Namespace,
  Section,
  End,
  OpenNames,
  Universe,
  Variable,
  Check,
  Reduce,
  PrintAxioms,
  Bad,
}

abbrev pub term_level : TermTree → ℕ
term_level (oper at o l r) = op_level o
term_level (ident at e x ls) = operand_level
term_level (numeral n) = operand_level
term_level (hole at) = operand_level
term_level (sorry_term at) = operand_level
term_level (prop at) = operand_level
term_level (type_u at l) = operand_level
term_level (sort_u at l) = operand_level
term_level (paren at t u) = operand_level
term_level (app at h ts) = operand_level
term_level (not_term at t) = operand_level
term_level (fun_term at bs t) = operand_level
term_level (forall_term at bs t) = operand_level
term_level (let_term at x u v t) = operand_level
term_level (by_term at items) = operand_level
term_level (arrow at b t) = operand_level

-- Each operator has a term of the level that it asks on each side, and each `¬` one behind it; heads and arguments are operands.
abbrev mutual
  pub Leveled : TermTree → Type 0
  Leveled (ident at e x ls) = Unit {0}
  Leveled (numeral n) = Unit {0}
  Leveled (hole at) = Unit {0}
  Leveled (sorry_term at) = Unit {0}
  Leveled (prop at) = Unit {0}
  Leveled (type_u at l) = Unit {0}
  Leveled (sort_u at l) = Unit {0}
  Leveled (paren at t u) = Leveled t × OptionLeveled u
  Leveled (app at h ts) = Leveled h × (operand_level ≤ term_level h) × ArgumentsLeveled ts
  Leveled (oper at o l r) = Leveled l × Leveled r × (left_of o ≤ term_level l) × (right_of o ≤ term_level r)
  Leveled (not_term at t) = Leveled t × (not_level ≤ term_level t)
  Leveled (fun_term at bs t) = LambdasLeveled bs × Leveled t
  Leveled (forall_term at bs t) = LambdasLeveled bs × Leveled t
  Leveled (let_term at x u v t) = OptionLeveled u × Leveled v × Leveled t
  Leveled (by_term at items) = ItemsLeveled items
  Leveled (arrow at b t) = BindersLeveled b × Leveled t

  pub OptionLeveled : TermOption → Type 0
  OptionLeveled no_term = Unit {0}
  OptionLeveled (some_term t) = Leveled t

  pub ArgumentsLeveled : TermTrees → Type 0
  ArgumentsLeveled end_terms = Unit {0}
  ArgumentsLeveled (term_and t ts) = Leveled t × (operand_level ≤ term_level t) × ArgumentsLeveled ts

  pub BindersLeveled : BindersTree → Type 0
  BindersLeveled (binders at k xs t) = Leveled t

  pub LambdaLeveled : LBinderTree → Type 0
  LambdaLeveled (typed b) = BindersLeveled b
  LambdaLeveled (plain x) = Unit {0}
  LambdaLeveled (implicit at xs) = Unit {0}

  pub LambdasLeveled : LBinderTrees → Type 0
  LambdasLeveled end_binders = Unit {0}
  LambdasLeveled (binder_and b bs) = LambdaLeveled b × LambdasLeveled bs

  pub ItemLeveled : ItemTree → Type 0
  ItemLeveled (block at items) = ItemsLeveled items
  ItemLeveled (exact at t) = Leveled t
  ItemLeveled (intro at xs) = Unit {0}
  ItemLeveled (apply at t) = Leveled t
  ItemLeveled (rfl at) = Unit {0}
  ItemLeveled (assumption_item at) = Unit {0}
  ItemLeveled (rw_item at rs) = RulesLeveled rs
  ItemLeveled (unfold_item at x) = Unit {0}
  ItemLeveled (have_item at x u v) = Leveled u × Leveled v
  ItemLeveled (induction at x) = Unit {0}
  ItemLeveled (cases at x) = Unit {0}
  ItemLeveled (injection at x) = Unit {0}
  ItemLeveled (sorry_item at) = Unit {0}

  pub ItemsLeveled : ItemTrees → Type 0
  ItemsLeveled end_items = Unit {0}
  ItemsLeveled (item_and i items) = ItemLeveled i × ItemsLeveled items

  pub RuleLeveled : RuleTree → Type 0
  RuleLeveled (rule at b t) = Leveled t

  pub RulesLeveled : RuleTrees → Type 0
  RulesLeveled end_rules = Unit {0}
  RulesLeveled (rule_and r rs) = RuleLeveled r × RulesLeveled rs

abbrev pub All : {A : Type 0} → (A → Type 0) → List A → Type 0
All P [] = Unit {0}
All P (x ∷ xs) = P x × All P xs

abbrev pub IfAny : {A : Type 0} → (A → Type 0) → Option A → Type 0
IfAny P None = Unit {0}
IfAny P (Some x) = P x

abbrev pub GroupLeveled : Binders → Type 0
GroupLeveled b = Leveled b.ty

abbrev pub DeclLeveled : Decl → Type 0
DeclLeveled d = All GroupLeveled d.binders × IfAny Leveled d.ty

abbrev pub HelperLeveled : Helper → Type 0
HelperLeveled h = All GroupLeveled h.binders × Leveled h.ty × Leveled h.value

abbrev pub CtorLeveled : CtorDecl → Type 0
CtorLeveled c = All GroupLeveled c.binders × IfAny Leveled c.ty

abbrev pub FieldLeveled : FieldDecl → Type 0
FieldLeveled f = Leveled f.ty

abbrev pub AlternativeLeveled : Alternative → Type 0
AlternativeLeveled a = Leveled a.term

abbrev pub CommandLeveled : Command → Type 0
CommandLeveled (Axiom d) = DeclLeveled d
CommandLeveled (Def d v hs) = DeclLeveled d × Leveled v × All HelperLeveled hs
CommandLeveled (Equations d more) = DeclLeveled d × All AlternativeLeveled more
CommandLeveled (Theorem d v hs) = DeclLeveled d × Leveled v × All HelperLeveled hs
CommandLeveled (Inductive d cs) = DeclLeveled d × All CtorLeveled cs
CommandLeveled (Structure d fs) = DeclLeveled d × All FieldLeveled fs
CommandLeveled (Class d fs) = DeclLeveled d × All FieldLeveled fs
CommandLeveled (Instance d v) = DeclLeveled d × Leveled v
CommandLeveled (Variable at bs) = All GroupLeveled bs
CommandLeveled (Check at t) = Leveled t
CommandLeveled (Reduce at t) = Leveled t
CommandLeveled (Namespace at x) = Unit {0}
CommandLeveled (Section at x) = Unit {0}
CommandLeveled (End at x) = Unit {0}
CommandLeveled (OpenNames at xs) = Unit {0}
CommandLeveled (Universe at xs) = Unit {0}
CommandLeveled (PrintAxioms at x) = Unit {0}
CommandLeveled (Bad at f) = Unit {0}
