-- The grammar: for each symbol its rows, and its tree where it is left out.
use Rattle.std.specs.Prelude.{ℕ, Bool, true, false, List, [], ◌∷◌, ◌++◌, Option, None, Some, codes}
use Rattle.lf_name.specs.declared.binder.BinderKind.{BinderKind}
use Rattle.lf_name.specs.declared.binder.BinderKind.TheVariants.{Explicit, Implicit, Inst}
use Rattle.lf_text.specs.declared.word.Word.TheVariants as words
use Rattle.lf_text.specs.declared.word.Spelling.TheVariants as spelt
use Rattle.lf_syntax.specs.declared.leaf.Ident.{Ident}
use Rattle.lf_syntax.specs.declared.leaf.Num.{Num}
use Rattle.lf_text.specs.declared.operator.Op.{Op}
use Rattle.lf_syntax.specs.Tree.{
  LevelTree,
  level_number,
  level_name,
  level_plus,
  level_max,
  level_imax,
  levels_of,
  TermTree,
  ident,
  numeral,
  hole,
  sorry_term,
  prop,
  type_u,
  sort_u,
  paren,
  not_term,
  fun_term,
  forall_term,
  let_term,
  by_term,
  arrow,
  option_of,
  binders_of,
  items_of,
  rules_of,
  place,
  binders,
  BindersTree,
  LBinderTree,
  typed,
  plain,
  implicit,
  ItemTree,
  block,
  exact,
  intro,
  apply,
  rfl,
  assumption_item,
  rw_item,
  unfold_item,
  have_item,
  induction,
  cases,
  injection,
  sorry_item,
  RuleTree,
  rule,
}
use Rattle.lf_syntax.specs.declared.term.Binders.{Binders}
use Rattle.lf_syntax.specs.declared.command.Decl.{Decl}
use Rattle.lf_syntax.specs.declared.command.Helper.{Helper}
use Rattle.lf_syntax.specs.declared.command.CtorDecl.{CtorDecl}
use Rattle.lf_syntax.specs.declared.command.FieldDecl.{FieldDecl}
use Rattle.lf_syntax.specs.declared.pattern.Alternative.{Alternative}
use Rattle.lf_syntax.specs.declared.pattern.Pattern.{Pattern}
use Rattle.lf_syntax.specs.declared.pattern.Pattern.TheVariants.{Constructor, Zero, Successor}
use Rattle.lf_syntax.specs.declared.command.Command.{Command}
use Rattle.lf_syntax.specs.declared.command.Command.TheVariants.{
  Axiom,
  Def,
  Equations,
  Theorem,
  Inductive,
  Structure,
  Class,
  Instance,
  Namespace,
  Section,
  End,
  OpenNames,
  Universe,
  Variable,
  Check,
  Reduce,
  PrintAxioms,
}
use Rattle.lf_text.specs.Operators.{op_level, right_of}
use Rattle.lf_syntax.specs.Levels.{takes, is_arrow, is_add, operand_level, not_level}
use Rattle.lf_syntax.specs.Symbol as symbol
use Rattle.lf_syntax.specs.Symbol.{
  Symbol,
  Tree,
  Spine,
  GroupEnd,
  BinderEnd,
  arrow_to,
  arguments_to,
  DefRest,
  DefBody,
  by_value,
  by_alternatives,
  term,
  token,
  arrow_token,
  number_token,
  any_name,
  one_part,
  binder_name,
  optional_name,
  any_names,
  one_parts,
  binder_names,
  level_names,
  more_level_names,
  binder,
  parameters,
  lambda_binder,
  lambda_binders,
  implicit_end,
  bracket,
  bracket_name,
  def_rest,
  def_body,
  type_option,
  where_option,
  ctors,
  helpers,
  helper,
  more_helpers,
  fields_option,
  field,
  more_fields,
  axioms_word,
  alternatives,
  pattern,
  pattern_rest,
  numeral_one,
  arguments,
  operators,
  group,
  group_names,
  group_end,
  group_close,
  binder_end,
  written_levels,
  more_levels,
  level,
  plus_option,
  level_atom,
  level_atoms,
  max_rest,
  imax_rest,
  more_items,
  item,
  rw_rule,
  more_rules,
}
use Rattle.lf_syntax.specs.Row.{Row, then, on_word, on_name, on_one_part, on_spelling, on_number, on_digit, on_operator, begins_as}
use Rattle.lf_syntax.specs.Build.{with_arguments, applied, chain, is_underscore, underscore_at, name_term, names_spine, group_of, close_of, sort_spine}

-- Names.

abbrev pub one_part_rows : List (Row Ident)
one_part_rows = on_one_part (λ x. then [] x) ∷ []

abbrev pub binder_name_rows : List (Row Ident)
binder_name_rows = on_one_part (λ x. then [] x) ∷ on_word words.Underscore (λ at. then [] (underscore_at at)) ∷ []

-- Binders.

abbrev pub binders_at : ℕ → BinderKind → List Ident → TermTree → Binders
binders_at at kind xs ty = record { at = at; kind = kind; names = xs; ty = ty }

abbrev pub binder_rows : List (Row Binders)
binder_rows =
    on_word words.LeftParen (λ at. then (binder_name ∷ binder_names ∷ token words.Colon ∷ term 0 ∷ token words.RightParen ∷ [])
    (λ x xs _ ty _. binders_at at Explicit (x ∷ xs) ty)) ∷
    on_word words.LeftBrace (λ at. then (binder_name ∷ binder_names ∷ token words.Colon ∷ term 0 ∷ token words.RightBrace ∷ [])
    (λ x xs _ ty _. binders_at at Implicit (x ∷ xs) ty)) ∷
    on_word words.LeftBracket (λ at. then (bracket at ∷ []) (λ b. b)) ∷ []

abbrev pub tree_of : Binders → BindersTree
tree_of b = binders b.at b.kind b.names b.ty

-- A binder in brackets without a name is called `inst`, and the name stands at the bracket.
abbrev pub unnamed : ℕ → TermTree → Binders
unnamed at ty = binders_at at Inst (record { at = at; name = codes "inst" ∷ [] } ∷ []) ty

abbrev pub implicit_binder : ℕ → List Ident → Option TermTree → LBinderTree
implicit_binder at xs (Some ty) = typed (binders at Implicit xs ty)
implicit_binder at xs None = implicit at xs

abbrev pub lambda_binder_rows : List (Row LBinderTree)
lambda_binder_rows =
    on_word words.LeftParen (λ at. then (binder_name ∷ binder_names ∷ token words.Colon ∷ term 0 ∷ token words.RightParen ∷ [])
    (λ x xs _ ty _. typed (binders at Explicit (x ∷ xs) ty))) ∷
    on_word words.LeftBrace (λ at. then (binder_name ∷ binder_names ∷ implicit_end ∷ [])
    (λ x xs ty. implicit_binder at (x ∷ xs) ty)) ∷
    on_word words.LeftBracket (λ at. then (bracket at ∷ []) (λ b. typed (tree_of b))) ∷
    begins_as binder_name_rows [] (λ x. plain x)

-- Levels.

abbrev pub level_atom_rows : List (Row LevelTree)
level_atom_rows =
    on_number (λ n. then [] (level_number n)) ∷
    on_one_part (λ x. then [] (level_name x)) ∷
    on_word words.LeftParen (λ at. then (level ∷ token words.RightParen ∷ []) (λ l _. l)) ∷ []

abbrev pub plus : ℕ → LevelTree → Option Num → LevelTree
plus at l None = l
plus at l (Some n) = level_plus at l n

abbrev pub level_rows : List (Row LevelTree)
level_rows =
    on_number (λ n. then (plus_option ∷ []) (λ m. plus n.at (level_number n) m)) ∷
    on_spelling spelt.Max (λ x. then (max_rest x ∷ []) (λ l. l)) ∷
    on_spelling spelt.Imax (λ x. then (imax_rest x ∷ []) (λ l. l)) ∷
    on_one_part (λ x. then (plus_option ∷ []) (λ m. plus x.at (level_name x) m)) ∷
    on_word words.LeftParen (λ at. then (level ∷ token words.RightParen ∷ plus_option ∷ []) (λ l _ m. plus at l m)) ∷ []

abbrev pub plus_row : Ident → Row LevelTree
plus_row x = on_operator is_add (λ _. then (number_token ∷ []) (λ n. level_plus x.at (level_name x) n))

abbrev pub written_levels_rows : List (Row (List LevelTree))
written_levels_rows = on_word words.LevelBrace (λ _. then (level ∷ more_levels ∷ []) (λ l ls. l ∷ ls)) ∷ []

-- Terms.

-- An atom with the arguments behind it, or a form that reaches as far as it can.
abbrev pub operand_rows : List (Row Spine)
operand_rows =
    on_name (λ x. then (written_levels ∷ arguments ∷ []) (λ ls ts. with_arguments (ident x.at false x ls) ts)) ∷
    on_word words.AtSign (λ at. then (any_name ∷ written_levels ∷ arguments ∷ []) (λ x ls ts. with_arguments (ident at true x ls) ts)) ∷
    on_number (λ n. then (arguments ∷ []) (with_arguments (numeral n))) ∷
    on_word words.Underscore (λ at. then (arguments ∷ []) (with_arguments (hole at))) ∷
    on_word words.Sorry (λ at. then (arguments ∷ []) (with_arguments (sorry_term at))) ∷
    on_word words.PropWord (λ at. then (arguments ∷ []) (with_arguments (prop at))) ∷
    on_word words.TypeWord (λ at. then (arguments ∷ []) (sort_spine (type_u at))) ∷
    on_word words.SortWord (λ at. then (arguments ∷ []) (sort_spine (sort_u at))) ∷
    on_word words.LeftParen (λ at. then (group at ∷ []) (λ s. s)) ∷
    on_word words.Fun (λ at. then (lambda_binder ∷ lambda_binders ∷ token words.FatArrow ∷ term 0 ∷ [])
    (λ b bs _ t. with_arguments (fun_term at (binders_of (b ∷ bs)) t) [])) ∷
    on_word words.Forall (λ at. then (lambda_binder ∷ lambda_binders ∷ token words.Comma ∷ term 0 ∷ [])
    (λ b bs _ t. with_arguments (forall_term at (binders_of (b ∷ bs)) t) [])) ∷
    on_word words.Let (λ at. then (one_part ∷ type_option ∷ token words.Assign ∷ term 0 ∷ token words.Semicolon ∷ term 0 ∷ [])
    (λ x ty _ v _ t. with_arguments (let_term at x (option_of ty) v t) [])) ∷
    on_word words.By (λ at. then (symbol.block ∷ []) (λ items. with_arguments (by_term at (items_of items)) [])) ∷
    on_word words.LeftBrace (λ at. then (binder_name ∷ binder_names ∷ token words.Colon ∷ term 0 ∷ token words.RightBrace ∷ arrow_token ∷ term 0 ∷ [])
    (λ x xs _ ty _ _ t. with_arguments (arrow at (binders at Implicit (x ∷ xs) ty) t) [])) ∷
    on_word words.LeftBracket (λ at. then (bracket at ∷ arrow_token ∷ term 0 ∷ []) (λ b _ t. with_arguments (arrow at (tree_of b) t) [])) ∷ []

abbrev pub operator_rows : ℕ → ℕ → List (Row (List (Op × TermTree)))
operator_rows least left =
    on_operator (takes least left) (λ o. then (term (right_of o) ∷ operators least (op_level o) ∷ []) (λ t more. (o, t) ∷ more)) ∷ []

abbrev pub term_rows : ℕ → List (Row TermTree)
term_rows least =
    on_word words.NotSign (λ at. then (term not_level ∷ operators least operand_level ∷ []) (λ t ops. chain (not_term at t) ops)) ∷
    begins_as operand_rows (operators least operand_level ∷ []) (λ s ops. chain (applied s.head s.arguments) ops)

abbrev pub argument_rows : List (Row (List TermTree))
argument_rows = begins_as operand_rows [] (λ s. s.head ∷ s.arguments)

abbrev pub group_end_rows : List (Row GroupEnd)
group_end_rows =
    on_word words.RightParen (λ _. then (arguments ∷ []) (λ ts. record { ty = None; arguments = ts })) ∷
    on_word words.Colon (λ _. then (term 0 ∷ token words.RightParen ∷ arguments ∷ []) (λ ty _ ts. record { ty = Some ty; arguments = ts })) ∷ []

-- Behind the parenthesis at this place: names may turn out to be bound, so they are kept.
abbrev pub group_rows : ℕ → List (Row Spine)
group_rows at =
    on_one_part (λ x. then (group_names at [] x ∷ []) (λ s. s)) ∷
    on_word words.Underscore (λ p. then (group_names at [] (underscore_at p) ∷ []) (λ s. s)) ∷
    begins_as (term_rows 0) (group_end ∷ []) (λ t e. with_arguments (paren at t (option_of e.ty)) e.arguments)

-- The lone `_` has no levels.
abbrev pub name_levels_rows : Bool → ℕ → List Ident → Ident → List (Row Spine)
name_levels_rows true at before x = []
name_levels_rows false at before x =
    begins_as written_levels_rows (arguments ∷ operators 0 operand_level ∷ group_end ∷ []) (λ ls ts ops e. group_of at (names_spine before x ls) ts ops e)

abbrev pub group_names_rows_by : Bool → ℕ → List Ident → Ident → List (Row Spine)
group_names_rows_by b at before x =
    on_one_part (λ y. then (group_names at (before ++ (x ∷ [])) y ∷ []) (λ s. s)) ∷
    on_word words.Underscore (λ p. then (group_names at (before ++ (x ∷ [])) (underscore_at p) ∷ []) (λ s. s)) ∷
    on_word words.Colon (λ _. then (term 0 ∷ group_close ∷ []) (close_of at before x)) ∷
    name_levels_rows b at before x ++
    begins_as argument_rows (operators 0 operand_level ∷ group_end ∷ []) (λ ts ops e. group_of at (names_spine before x []) ts ops e) ++
    begins_as (operator_rows 0 operand_level) (group_end ∷ []) (λ ops e. group_of at (names_spine before x []) [] ops e) ++
    begins_as group_end_rows [] (λ e. group_of at (names_spine before x []) [] [] e)

-- Behind names in parentheses: a colon tells that they may be bound.
abbrev pub group_names_rows : ℕ → List Ident → Ident → List (Row Spine)
group_names_rows at before x = group_names_rows_by (is_underscore x.name) at before x

abbrev pub binder_end_rows : List (Row BinderEnd)
binder_end_rows =
    on_operator is_arrow (λ _. then (term 0 ∷ []) arrow_to) ∷
    begins_as argument_rows [] arguments_to

-- Behind the bracket at this place: a name may turn out to be bound, so it is kept.
abbrev pub bracket_rows : ℕ → List (Row Binders)
bracket_rows at =
    on_one_part (λ x. then (bracket_name at x ∷ []) (λ b. b)) ∷
    begins_as (term_rows 0) (token words.RightBracket ∷ []) (λ ty _. unnamed at ty)

-- Behind a name in brackets: a colon tells that it is bound.
abbrev pub bracket_name_rows : ℕ → Ident → List (Row Binders)
bracket_name_rows at x =
    on_word words.Colon (λ _. then (term 0 ∷ token words.RightBracket ∷ []) (λ ty _. binders_at at Inst (x ∷ []) ty)) ∷
    on_word words.RightBracket (λ _. then [] (unnamed at (name_term x []))) ∷
    begins_as written_levels_rows (arguments ∷ operators 0 operand_level ∷ token words.RightBracket ∷ [])
    (λ ls ts ops _. unnamed at (chain (applied (name_term x ls) ts) ops)) ++
    begins_as argument_rows (operators 0 operand_level ∷ token words.RightBracket ∷ []) (λ ts ops _. unnamed at (chain (applied (name_term x []) ts) ops)) ++
    begins_as (operator_rows 0 operand_level) (token words.RightBracket ∷ []) (λ ops _. unnamed at (chain (name_term x []) ops))

-- Proof items.

abbrev pub item_rows : List (Row ItemTree)
item_rows =
    on_word words.Dot (λ at. then (symbol.block ∷ []) (λ items. block at (items_of items))) ∷
    on_spelling spelt.Exact (λ x. then (term 0 ∷ []) (exact x.at)) ∷
    on_spelling spelt.Intro (λ x. then (binder_name ∷ binder_names ∷ []) (λ y ys. intro x.at (y ∷ ys))) ∷
    on_spelling spelt.Apply (λ x. then (term 0 ∷ []) (apply x.at)) ∷
    on_spelling spelt.Rfl (λ x. then [] (rfl x.at)) ∷
    on_spelling spelt.Assumption (λ x. then [] (assumption_item x.at)) ∷
    on_spelling spelt.Rw (λ x. then (token words.LeftBracket ∷ rw_rule ∷ more_rules ∷ []) (λ _ r rs. rw_item x.at (rules_of (r ∷ rs)))) ∷
    on_spelling spelt.Unfold (λ x. then (any_name ∷ []) (unfold_item x.at)) ∷
    on_spelling spelt.Have (λ x. then (one_part ∷ token words.Colon ∷ term 0 ∷ token words.Assign ∷ term 0 ∷ []) (λ y _ ty _ t. have_item x.at y ty t)) ∷
    on_spelling spelt.Induction (λ x. then (one_part ∷ []) (induction x.at)) ∷
    on_spelling spelt.Cases (λ x. then (one_part ∷ []) (cases x.at)) ∷
    on_spelling spelt.Injection (λ x. then (one_part ∷ []) (injection x.at)) ∷
    on_word words.Sorry (λ at. then [] (sorry_item at)) ∷ []

abbrev pub rw_rule_rows : List (Row RuleTree)
rw_rule_rows =
    on_word words.BackArrow (λ at. then (term 0 ∷ []) (rule at true)) ∷
    begins_as (term_rows 0) [] (λ t. rule (place t) false t)

-- Commands.

abbrev pub decl_of : ℕ → Ident → List Ident → List Binders → Option TermTree → Decl
decl_of at x ls bs ty = record { at = at; name = x; levels = ls; binders = bs; ty = ty }

abbrev pub defined : Decl → DefBody → Command
defined d (by_value v hs) = Def d v hs
defined d (by_alternatives more) = Equations d more

abbrev pub command_rows : List (Row Command)
command_rows =
    on_word words.Axiom (λ at. then (any_name ∷ level_names ∷ parameters ∷ token words.Colon ∷ term 0 ∷ [])
    (λ x ls bs _ ty. Axiom (decl_of at x ls bs (Some ty)))) ∷
    on_word words.Def (λ at. then (any_name ∷ level_names ∷ parameters ∷ def_rest ∷ [])
    (λ x ls bs d. defined (decl_of at x ls bs d.ty) d.body)) ∷
    on_word words.Theorem (λ at. then (any_name ∷ level_names ∷ parameters ∷ token words.Colon ∷ term 0 ∷ token words.Assign ∷ term 0 ∷ helpers ∷ [])
    (λ x ls bs _ ty _ v hs. Theorem (decl_of at x ls bs (Some ty)) v hs)) ∷
    on_word words.Inductive (λ at. then (any_name ∷ level_names ∷ parameters ∷ type_option ∷ where_option ∷ ctors ∷ [])
    (λ x ls bs ty _ cs. Inductive (decl_of at x ls bs ty) cs)) ∷
    on_word words.Structure (λ at. then (any_name ∷ level_names ∷ parameters ∷ type_option ∷ fields_option ∷ [])
    (λ x ls bs ty fs. Structure (decl_of at x ls bs ty) fs)) ∷
    on_word words.Class (λ at. then (any_name ∷ level_names ∷ parameters ∷ type_option ∷ fields_option ∷ [])
    (λ x ls bs ty fs. Class (decl_of at x ls bs ty) fs)) ∷
    on_word words.Instance (λ at. then (any_name ∷ level_names ∷ parameters ∷ token words.Colon ∷ term 0 ∷ token words.Assign ∷ term 0 ∷ [])
    (λ x ls bs _ ty _ v. Instance (decl_of at x ls bs (Some ty)) v)) ∷
    on_word words.Namespace (λ at. then (any_name ∷ []) (Namespace at)) ∷
    on_word words.Section (λ at. then (optional_name ∷ []) (Section at)) ∷
    on_word words.End (λ at. then (optional_name ∷ []) (End at)) ∷
    on_word words.Open (λ at. then (any_name ∷ any_names ∷ []) (λ x xs. OpenNames at (x ∷ xs))) ∷
    on_word words.Universe (λ at. then (one_part ∷ one_parts ∷ []) (λ x xs. Universe at (x ∷ xs))) ∷
    on_word words.Variable (λ at. then (binder ∷ parameters ∷ []) (λ b bs. Variable at (b ∷ bs))) ∷
    on_word words.Check (λ at. then (term 0 ∷ []) (Check at)) ∷
    on_word words.Reduce (λ at. then (term 0 ∷ []) (Reduce at)) ∷
    on_word words.Print (λ at. then (axioms_word ∷ any_name ∷ []) (λ _ x. PrintAxioms at x)) ∷ []

abbrev pub def_rest_rows : List (Row DefRest)
def_rest_rows =
    on_word words.Colon (λ _. then (term 0 ∷ def_body ∷ []) (λ ty d. record { ty = Some ty; body = d })) ∷
    on_word words.Assign (λ _. then (term 0 ∷ []) (λ v. record { ty = None; body = by_value v [] })) ∷ []

abbrev pub alternatives_rows : List (Row (List Alternative))
alternatives_rows =
    on_word words.Bar (λ at. then (pattern ∷ token words.FatArrow ∷ term 0 ∷ alternatives ∷ [])
    (λ p _ t more. record { at = at; pattern = p; term = t } ∷ more)) ∷ []

abbrev pub def_body_rows : List (Row DefBody)
def_body_rows =
    on_word words.Assign (λ _. then (term 0 ∷ helpers ∷ []) by_value) ∷
    begins_as alternatives_rows [] by_alternatives

abbrev pub pattern_rows : List (Row Pattern)
pattern_rows =
    on_digit 0 (λ at. then [] (Zero at)) ∷
    on_one_part (λ x. then (pattern_rest x ∷ []) (λ p. p)) ∷
    on_name (λ x. then (binder_names ∷ []) (Constructor x)) ∷ []

-- Behind a name in a pattern.
abbrev pub pattern_rest_rows : Ident → List (Row Pattern)
pattern_rest_rows x =
    on_operator is_add (λ _. then (numeral_one ∷ []) (λ _. Successor x)) ∷
    begins_as binder_name_rows (binder_names ∷ []) (λ y ys. Constructor x (y ∷ ys))

abbrev pub field_rows : List (Row FieldDecl)
field_rows = begins_as one_part_rows (one_parts ∷ token words.Colon ∷ term 0 ∷ []) (λ x xs _ ty. record { at = x.at; names = x ∷ xs; ty = ty })

abbrev pub helper_rows : List (Row Helper)
helper_rows =
    on_one_part (λ x. then (parameters ∷ token words.Colon ∷ term 0 ∷ token words.Assign ∷ term 0 ∷ [])
    (λ bs _ ty _ v. record { at = x.at; name = x; binders = bs; ty = ty; value = v })) ∷ []

abbrev pub ctors_rows : List (Row (List CtorDecl))
ctors_rows =
    on_word words.Bar (λ at. then (one_part ∷ parameters ∷ type_option ∷ ctors ∷ [])
    (λ x bs ty cs. record { at = at; name = x; binders = bs; ty = ty } ∷ cs)) ∷ []

abbrev pub rows : (x : Symbol) → List (Row (Tree x))
rows symbol.command = command_rows
rows (token w) = on_word w (λ _. then [] tt) ∷ []
rows arrow_token = on_operator is_arrow (λ _. then [] tt) ∷ []
rows number_token = on_number (λ n. then [] n) ∷ []
rows any_name = on_name (λ x. then [] x) ∷ []
rows one_part = one_part_rows
rows binder_name = binder_name_rows
rows optional_name = on_name (λ x. then [] (Some x)) ∷ []
rows any_names = on_name (λ x. then (any_names ∷ []) (λ xs. x ∷ xs)) ∷ []
rows one_parts = begins_as one_part_rows (one_parts ∷ []) (λ x xs. x ∷ xs)
rows binder_names = begins_as binder_name_rows (binder_names ∷ []) (λ x xs. x ∷ xs)
rows level_names = on_word words.LevelBrace (λ _. then (one_part ∷ more_level_names ∷ []) (λ x xs. x ∷ xs)) ∷ []
rows more_level_names =
    on_word words.Comma (λ _. then (one_part ∷ more_level_names ∷ []) (λ x xs. x ∷ xs)) ∷
    on_word words.RightBrace (λ _. then [] []) ∷ []
rows binder = binder_rows
rows parameters = begins_as binder_rows (parameters ∷ []) (λ b bs. b ∷ bs)
rows lambda_binder = lambda_binder_rows
rows lambda_binders = begins_as lambda_binder_rows (lambda_binders ∷ []) (λ b bs. b ∷ bs)
rows implicit_end =
    on_word words.Colon (λ _. then (term 0 ∷ token words.RightBrace ∷ []) (λ ty _. Some ty)) ∷
    on_word words.RightBrace (λ _. then [] None) ∷ []
rows (bracket at) = bracket_rows at
rows (bracket_name at x) = bracket_name_rows at x
rows def_rest = def_rest_rows
rows def_body = def_body_rows
rows type_option = on_word words.Colon (λ _. then (term 0 ∷ []) (λ ty. Some ty)) ∷ []
rows where_option = on_word words.Where (λ _. then [] tt) ∷ []
rows ctors = ctors_rows
rows helpers = on_word words.Where (λ _. then (token words.LayoutOpen ∷ helper ∷ more_helpers ∷ []) (λ _ h hs. h ∷ hs)) ∷ []
rows helper = helper_rows
rows more_helpers =
    on_word words.LayoutSep (λ _. then (helper ∷ more_helpers ∷ []) (λ h hs. h ∷ hs)) ∷
    on_word words.Semicolon (λ _. then (helper ∷ more_helpers ∷ []) (λ h hs. h ∷ hs)) ∷
    on_word words.LayoutClose (λ _. then [] []) ∷ []
rows fields_option = on_word words.Where (λ _. then (token words.LayoutOpen ∷ field ∷ more_fields ∷ []) (λ _ f fs. f ∷ fs)) ∷ []
rows field = field_rows
rows more_fields =
    on_word words.LayoutSep (λ _. then (field ∷ more_fields ∷ []) (λ f fs. f ∷ fs)) ∷
    on_word words.Semicolon (λ _. then (field ∷ more_fields ∷ []) (λ f fs. f ∷ fs)) ∷
    on_word words.LayoutClose (λ _. then [] []) ∷ []
rows axioms_word = on_spelling spelt.Axioms (λ _. then [] tt) ∷ []
rows alternatives = alternatives_rows
rows pattern = pattern_rows
rows (pattern_rest x) = pattern_rest_rows x
rows numeral_one = on_digit 1 (λ _. then [] tt) ∷ []
rows (term least) = term_rows least
rows arguments = argument_rows
rows (operators least left) = operator_rows least left
rows (group at) = group_rows at
rows (group_names at before x) = group_names_rows at before x
rows group_end = group_end_rows
rows group_close = on_word words.RightParen (λ _. then (binder_end ∷ []) (λ e. e)) ∷ []
rows binder_end = binder_end_rows
rows written_levels = written_levels_rows
rows more_levels =
    on_word words.Comma (λ _. then (level ∷ more_levels ∷ []) (λ l ls. l ∷ ls)) ∷
    on_word words.RightBrace (λ _. then [] []) ∷ []
rows level = level_rows
rows plus_option = on_operator is_add (λ _. then (number_token ∷ []) (λ n. Some n)) ∷ []
rows level_atom = level_atom_rows
rows level_atoms = begins_as level_atom_rows (level_atoms ∷ []) (λ l ls. l ∷ ls)
rows (max_rest x) = plus_row x ∷ begins_as level_atom_rows (level_atom ∷ level_atoms ∷ []) (λ k l ls. level_max x.at (levels_of (k ∷ l ∷ ls)))
rows (imax_rest x) = plus_row x ∷ begins_as level_atom_rows (level_atom ∷ []) (λ k l. level_imax x.at k l)
rows symbol.block = on_word words.LayoutOpen (λ _. then (item ∷ more_items ∷ []) (λ i items. i ∷ items)) ∷ []
rows more_items =
    on_word words.LayoutSep (λ _. then (item ∷ more_items ∷ []) (λ i items. i ∷ items)) ∷
    on_word words.Semicolon (λ _. then (item ∷ more_items ∷ []) (λ i items. i ∷ items)) ∷
    on_word words.LayoutClose (λ _. then [] []) ∷ []
rows item = item_rows
rows rw_rule = rw_rule_rows
rows more_rules =
    on_word words.Comma (λ _. then (rw_rule ∷ more_rules ∷ []) (λ r rs. r ∷ rs)) ∷
    on_word words.RightBracket (λ _. then [] []) ∷ []

-- What may be left out, and its tree then.
abbrev pub without : (x : Symbol) → Option (Tree x)
without symbol.command = None
without (token w) = None
without arrow_token = None
without number_token = None
without any_name = None
without one_part = None
without binder_name = None
without optional_name = Some None
without any_names = Some []
without one_parts = Some []
without binder_names = Some []
without level_names = Some []
without more_level_names = None
without binder = None
without parameters = Some []
without lambda_binder = None
without lambda_binders = Some []
without implicit_end = None
without (bracket at) = None
without (bracket_name at x) = None
without def_rest = None
without def_body = None
without type_option = Some None
without where_option = Some tt
without ctors = Some []
without helpers = Some []
without helper = None
without more_helpers = None
without fields_option = Some []
without field = None
without more_fields = None
without axioms_word = None
without alternatives = Some []
without pattern = None
without (pattern_rest x) = Some (Constructor x [])
without numeral_one = None
without (term least) = None
without arguments = Some []
without (operators least left) = Some []
without (group at) = None
without (group_names at before x) = None
without group_end = None
without group_close = None
without binder_end = Some (arguments_to [])
without written_levels = Some []
without more_levels = None
without level = None
without plus_option = Some None
without level_atom = None
without level_atoms = Some []
without (max_rest x) = Some (level_name x)
without (imax_rest x) = Some (level_name x)
without symbol.block = None
without more_items = None
without item = None
without rw_rule = None
without more_rules = None
