-- What a tree writes: its tokens, read off the tree alone. Parentheses round levels, and how items are parted, leave no trace in a tree.
use Rattle.std.specs.Prelude.{◌≡◌, ◌⊎◌, ℕ, true, false, List, [], ◌∷◌, Option, None, Some, codes}
use Rattle.lf_name.specs.declared.binder.BinderKind.TheVariants.{Explicit, Implicit, Inst}
use Rattle.lf_text.specs.declared.word.Word.TheVariants as words
use Rattle.lf_text.specs.declared.word.Spelling.TheVariants as spelt
use Rattle.lf_text.specs.declared.operator.Op.TheVariants.{Arrow, Add}
use Rattle.lf_syntax.specs.Piece.{Piece}
use Rattle.lf_syntax.specs.declared.leaf.Ident.{Ident}
use Rattle.lf_syntax.specs.Tree.{
  LevelTree,
  LevelTrees,
  level_number,
  level_name,
  level_plus,
  level_max,
  level_imax,
  no_level,
  level_and,
  TermTree,
  ident,
  numeral,
  hole,
  sorry_term,
  prop,
  type_u,
  sort_u,
  paren,
  app,
  oper,
  not_term,
  fun_term,
  forall_term,
  let_term,
  by_term,
  arrow,
  TermOption,
  no_term,
  some_term,
  TermTrees,
  end_terms,
  term_and,
  BindersTree,
  binders,
  LBinderTree,
  typed,
  plain,
  implicit,
  LBinderTrees,
  end_binders,
  binder_and,
  ItemTree,
  block,
  exact,
  intro,
  apply,
  rfl,
  assumption_item,
  rw_item,
  unfold_item,
  have_item,
  induction,
  cases,
  injection,
  sorry_item,
  ItemTrees,
  end_items,
  item_and,
  RuleTree,
  rule,
  RuleTrees,
  end_rules,
  rule_and,
  place,
}
use Rattle.lf_syntax.specs.declared.term.Binders.{Binders}
use Rattle.lf_syntax.specs.declared.command.Decl.{Decl}
use Rattle.lf_syntax.specs.declared.command.Helper.{Helper}
use Rattle.lf_syntax.specs.declared.command.CtorDecl.{CtorDecl}
use Rattle.lf_syntax.specs.declared.command.FieldDecl.{FieldDecl}
use Rattle.lf_syntax.specs.declared.pattern.Alternative.{Alternative}
use Rattle.lf_syntax.specs.declared.pattern.Pattern.{Pattern}
use Rattle.lf_syntax.specs.declared.pattern.Pattern.TheVariants.{Constructor, Zero, Successor}
use Rattle.lf_syntax.specs.declared.command.Command.{Command}
use Rattle.lf_syntax.specs.declared.command.Command.TheVariants.{
  Axiom,
  Def,
  Equations,
  Theorem,
  Inductive,
  Structure,
  Class,
  Instance,
  Namespace,
  Section,
  End,
  OpenNames,
  Universe,
  Variable,
  Check,
  Reduce,
  PrintAxioms,
  Bad,
}
use Rattle.lf_syntax.specs.Build.{is_underscore}
use Rattle.lf_syntax.specs.Grammar.{Derives}
use Rattle.lf_spelling_laws.specs.Readers.{
  Reader,
  none,
  both,
  Starts,
  mark,
  word_at,
  sign,
  numeral_token,
  digit,
  any_name,
  one_part,
  spelled,
  named,
  binder_name,
  each,
  each_behind,
  where_block,
  if_any,
}

-- Something, in any number of parentheses.
pub data InParentheses (p : List Piece → List Piece → Type 0) : List Piece → List Piece → Type 0 where
  bare : {ts us : List Piece} → p ts us → InParentheses p ts us
  parenthesis : {ts vs ws us : List Piece} → mark words.LeftParen ts vs → InParentheses p vs ws → mark words.RightParen ws us → InParentheses p ts us

abbrev mutual
  -- A level, but for parentheses round it.
  pub bare_level : LevelTree → List Piece → List Piece → Type 0
  bare_level (level_number n) ts us = numeral_token n ts us
  bare_level (level_name x) ts us = one_part x ts us
  bare_level (level_plus at l n) ts us = Starts at ts × both (InParentheses (bare_level l)) (both (sign Add) (numeral_token n)) ts us
  bare_level (level_max at ls) ts us = both (named spelt.Max (codes "max") at) (bare_levels ls) ts us
  bare_level (level_imax at k l) ts us = both (named spelt.Imax (codes "imax") at) (both (InParentheses (bare_level k)) (InParentheses (bare_level l))) ts us

  pub bare_levels : LevelTrees → List Piece → List Piece → Type 0
  bare_levels no_level ts us = ts ≡ us
  bare_levels (level_and l ls) ts us = both (InParentheses (bare_level l)) (bare_levels ls) ts us

abbrev pub level : LevelTree → Reader
level l = InParentheses (bare_level l)

-- `.{levels}`, or nothing.
abbrev pub written_levels : List LevelTree → Reader
written_levels [] = none
written_levels (l ∷ ls) = both (mark words.LevelBrace) (both (level l) (both (each_behind words.Comma level ls) (mark words.RightBrace)))

abbrev pub binder_place : BindersTree → ℕ
binder_place (binders at k xs t) = at

-- The lone `_`. No text has it as an identifier; where a list of tokens does, it is a hole all the same, and its levels are lost.
abbrev pub underscore : ℕ → Reader
underscore at ts us =
    word_at words.Underscore at ts us ⊎ ((x : Ident) × (ls : List LevelTree) × both (any_name x) (written_levels ls) ts us × (x.at ≡ at)
    × (is_underscore x.name ≡ true))

abbrev mutual
  pub term : TermTree → List Piece → List Piece → Type 0
  term (ident at false x ls) ts us = (x.at ≡ at) × both (any_name x) (written_levels ls) ts us
  term (ident at true x ls) ts us = both (word_at words.AtSign at) (both (any_name x) (written_levels ls)) ts us
  term (numeral n) ts us = numeral_token n ts us
  term (hole at) ts us = underscore at ts us
  term (sorry_term at) ts us = word_at words.Sorry at ts us
  term (prop at) ts us = word_at words.PropWord at ts us
  term (type_u at l) ts us = both (word_at words.TypeWord at) (if_any level l) ts us
  term (sort_u at l) ts us = both (word_at words.SortWord at) (if_any level l) ts us
  term (paren at t u) ts us = both (word_at words.LeftParen at) (both (term t) (both (type_of u) (mark words.RightParen))) ts us
  term (app at h more) ts us = (at ≡ place h) × both (term h) (terms more) ts us
  term (oper at o l r) ts us = (at ≡ place l) × both (term l) (both (sign o) (term r)) ts us
  term (not_term at t) ts us = both (word_at words.NotSign at) (term t) ts us
  term (fun_term at bs t) ts us = both (word_at words.Fun at) (both (lambda_binders bs) (both (mark words.FatArrow) (term t))) ts us
  term (forall_term at bs t) ts us = both (word_at words.Forall at) (both (lambda_binders bs) (both (mark words.Comma) (term t))) ts us
  term (let_term at x u v t) ts us =
      both (word_at words.Let at) (both (one_part x) (both (type_of u) (both (mark words.Assign) (both (term v) (both (mark words.Semicolon) (term t)))))) ts us
  term (by_term at more) ts us = both (word_at words.By at) (block_of more) ts us
  term (arrow at b t) ts us = (at ≡ binder_place b) × both (binder b) (both (sign Arrow) (term t)) ts us

  pub type_of : TermOption → List Piece → List Piece → Type 0
  type_of no_term ts us = ts ≡ us
  type_of (some_term t) ts us = both (mark words.Colon) (term t) ts us

  pub terms : TermTrees → List Piece → List Piece → Type 0
  terms end_terms ts us = ts ≡ us
  terms (term_and t more) ts us = both (term t) (terms more) ts us

  -- `(names : type)`, `{names : type}`, `[name : type]` or `[type]`, whose name is `inst`.
  pub binder : BindersTree → List Piece → List Piece → Type 0
  binder (binders at Explicit xs t) ts us = both (word_at words.LeftParen at)
      (both (each binder_name xs) (both (mark words.Colon) (both (term t) (mark words.RightParen)))) ts us
  binder (binders at Implicit xs t) ts us = both (word_at words.LeftBrace at)
      (both (each binder_name xs) (both (mark words.Colon) (both (term t) (mark words.RightBrace)))) ts us
  binder (binders at Inst [] t) ts us = ⊥
  binder (binders at Inst (x ∷ []) t) ts us =
      both (word_at words.LeftBracket at) (both (λ vs ws. both (one_part x) (mark words.Colon) vs ws ⊎ ((x ≡ record {
        at = at;
        name = codes "inst" ∷
            [];
      }) × (vs ≡ ws)))
      (both (term t) (mark words.RightBracket))) ts us
  binder (binders at Inst (x ∷ y ∷ xs) t) ts us = ⊥

  pub lambda_binder : LBinderTree → List Piece → List Piece → Type 0
  lambda_binder (typed b) ts us = binder b ts us
  lambda_binder (plain x) ts us = binder_name x ts us
  lambda_binder (implicit at xs) ts us = both (word_at words.LeftBrace at) (both (each binder_name xs) (mark words.RightBrace)) ts us

  pub lambda_binders : LBinderTrees → List Piece → List Piece → Type 0
  lambda_binders end_binders ts us = ts ≡ us
  lambda_binders (binder_and b bs) ts us = both (lambda_binder b) (lambda_binders bs) ts us

  pub item : ItemTree → List Piece → List Piece → Type 0
  item (block at more) ts us = both (word_at words.Dot at) (block_of more) ts us
  item (exact at t) ts us = both (spelled spelt.Exact at) (term t) ts us
  item (intro at xs) ts us = both (spelled spelt.Intro at) (each binder_name xs) ts us
  item (apply at t) ts us = both (spelled spelt.Apply at) (term t) ts us
  item (rfl at) ts us = spelled spelt.Rfl at ts us
  item (assumption_item at) ts us = spelled spelt.Assumption at ts us
  item (rw_item at rs) ts us = both (spelled spelt.Rw at) (both (mark words.LeftBracket) (both (rules rs) (mark words.RightBracket))) ts us
  item (unfold_item at x) ts us = both (spelled spelt.Unfold at) (any_name x) ts us
  item (have_item at x u v) ts us = both (spelled spelt.Have at)
      (both (one_part x) (both (mark words.Colon) (both (term u) (both (mark words.Assign) (term v))))) ts us
  item (induction at x) ts us = both (spelled spelt.Induction at) (one_part x) ts us
  item (cases at x) ts us = both (spelled spelt.Cases at) (one_part x) ts us
  item (injection at x) ts us = both (spelled spelt.Injection at) (one_part x) ts us
  item (sorry_item at) ts us = word_at words.Sorry at ts us

  pub block_of : ItemTrees → List Piece → List Piece → Type 0
  block_of end_items ts us = ⊥
  block_of (item_and i more) ts us = both (mark words.LayoutOpen) (both (item i) (both (items_behind more) (mark words.LayoutClose))) ts us

  pub items_behind : ItemTrees → List Piece → List Piece → Type 0
  items_behind end_items ts us = ts ≡ us
  items_behind (item_and i more) ts us =
      both (λ vs ws. mark words.LayoutSep vs ws ⊎ mark words.Semicolon vs ws) (both (item i) (items_behind more)) ts us

  pub one_rule : RuleTree → List Piece → List Piece → Type 0
  one_rule (rule at true t) ts us = both (word_at words.BackArrow at) (term t) ts us
  one_rule (rule at false t) ts us = (at ≡ place t) × term t ts us

  pub rules : RuleTrees → List Piece → List Piece → Type 0
  rules end_rules ts us = ⊥
  rules (rule_and r rs) ts us = both (one_rule r) (rules_behind rs) ts us

  pub rules_behind : RuleTrees → List Piece → List Piece → Type 0
  rules_behind end_rules ts us = ts ≡ us
  rules_behind (rule_and r rs) ts us = both (mark words.Comma) (both (one_rule r) (rules_behind rs)) ts us

-- Commands.

abbrev pub group : Binders → Reader
group b = binder (binders b.at b.kind b.names b.ty)

abbrev pub groups : List Binders → Reader
groups bs = each group bs

abbrev pub type_option : Option TermTree → Reader
type_option None = none
type_option (Some t) = both (mark words.Colon) (term t)

abbrev pub level_names : List Ident → Reader
level_names [] = none
level_names (x ∷ xs) = both (mark words.LevelBrace) (both (one_part x) (both (each_behind words.Comma one_part xs) (mark words.RightBrace)))

-- A declaration behind its command word.
abbrev pub decl : Decl → Reader
decl d = both (any_name d.name) (both (level_names d.levels) (both (groups d.binders) (type_option d.ty)))

abbrev pub helper : Helper → Reader
helper h ts us = (h.at ≡ h.name.at) × both (one_part h.name)
    (both (groups h.binders) (both (mark words.Colon) (both (term h.ty) (both (mark words.Assign) (term h.value))))) ts us

abbrev pub ctor : CtorDecl → Reader
ctor c = both (word_at words.Bar c.at) (both (one_part c.name) (both (groups c.binders) (type_option c.ty)))

abbrev pub field : FieldDecl → Reader
field f ts us = Starts f.at ts × both (each one_part f.names) (both (mark words.Colon) (term f.ty)) ts us

abbrev pub pattern : Pattern → List Piece → List Piece → Type 0
pattern (Constructor x xs) ts us = both (any_name x) (each binder_name xs) ts us
pattern (Zero at) ts us = Starts at ts × digit 0 ts us
pattern (Successor x) ts us = both (one_part x) (both (sign Add) (digit 1)) ts us

abbrev pub alternative : Alternative → Reader
alternative a = both (word_at words.Bar a.at) (both (pattern a.pattern) (both (mark words.FatArrow) (term a.term)))

-- A `where` may stand before constructors.
abbrev pub where_option : Reader
where_option ts us = mark words.Where ts us ⊎ (ts ≡ us)

abbrev pub command : Command → List Piece → List Piece → Type 0
command (Axiom d) ts us = both (word_at words.Axiom d.at) (decl d) ts us
command (Def d v hs) ts us = both (word_at words.Def d.at) (both (decl d) (both (mark words.Assign) (both (term v) (where_block helper hs)))) ts us
command (Equations d more) ts us = both (word_at words.Def d.at) (both (decl d) (each alternative more)) ts us
command (Theorem d v hs) ts us = both (word_at words.Theorem d.at) (both (decl d) (both (mark words.Assign) (both (term v) (where_block helper hs)))) ts us
command (Inductive d cs) ts us = both (word_at words.Inductive d.at) (both (decl d) (both where_option (each ctor cs))) ts us
command (Structure d fs) ts us = both (word_at words.Structure d.at) (both (decl d) (where_block field fs)) ts us
command (Class d fs) ts us = both (word_at words.Class d.at) (both (decl d) (where_block field fs)) ts us
command (Instance d v) ts us = both (word_at words.Instance d.at) (both (decl d) (both (mark words.Assign) (term v))) ts us
command (Namespace at x) ts us = both (word_at words.Namespace at) (any_name x) ts us
command (Section at x) ts us = both (word_at words.Section at) (if_any any_name x) ts us
command (End at x) ts us = both (word_at words.End at) (if_any any_name x) ts us
command (OpenNames at xs) ts us = both (word_at words.Open at) (each any_name xs) ts us
command (Universe at xs) ts us = both (word_at words.Universe at) (each one_part xs) ts us
command (Variable at bs) ts us = both (word_at words.Variable at) (groups bs) ts us
command (Check at t) ts us = both (word_at words.Check at) (term t) ts us
command (Reduce at t) ts us = both (word_at words.Reduce at) (term t) ts us
command (PrintAxioms at x) ts us = both (word_at words.Print at) (both (λ ts us. (at : ℕ) × spelled spelt.Axioms at ts us) (any_name x)) ts us
command (Bad at f) ts us = ⊥

-- The law: what a derived tree writes is what it was read from.
abbrev pub SpellsItsTokens : Type 0
SpellsItsTokens = (ts : List Piece) (c : Command) → Derives ts c → command c ts []
