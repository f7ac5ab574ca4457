-- Terms and proof items as plain trees. The first number of a node is the place of its first token, in bytes.
use Rattle.std.specs.Prelude.{ℕ, Bool, List, [], ◌∷◌, Option, Some, None}
use Rattle.lf_name.specs.declared.binder.BinderKind.{BinderKind}
use Rattle.lf_syntax.specs.declared.leaf.Ident.{Ident}
use Rattle.lf_syntax.specs.declared.leaf.Num.{Num}
use Rattle.lf_text.specs.declared.operator.Op.{Op}

-- Universe levels as they are written; parentheses leave no node.
mutual
  pub data LevelTree : Type 0 where
    level_number : Num → LevelTree
    level_name : Ident → LevelTree
    level_plus : ℕ → LevelTree → Num → LevelTree
    level_max : ℕ → LevelTrees → LevelTree
    level_imax : ℕ → LevelTree → LevelTree → LevelTree

  pub data LevelTrees : Type 0 where
    no_level : LevelTrees
    level_and : LevelTree → LevelTrees → LevelTrees

-- `ident` tells by its Bool whether an `@` is written, `paren` has the type of `(term : type)`, `arrow` is the form that begins with a binder.
mutual
  pub data TermTree : Type 0 where
    ident : ℕ → Bool → Ident → List LevelTree → TermTree
    numeral : Num → TermTree
    hole : ℕ → TermTree
    sorry_term : ℕ → TermTree
    prop : ℕ → TermTree
    type_u : ℕ → Option LevelTree → TermTree
    sort_u : ℕ → Option LevelTree → TermTree
    paren : ℕ → TermTree → TermOption → TermTree
    app : ℕ → TermTree → TermTrees → TermTree
    oper : ℕ → Op → TermTree → TermTree → TermTree
    not_term : ℕ → TermTree → TermTree
    fun_term : ℕ → LBinderTrees → TermTree → TermTree
    forall_term : ℕ → LBinderTrees → TermTree → TermTree
    let_term : ℕ → Ident → TermOption → TermTree → TermTree → TermTree
    by_term : ℕ → ItemTrees → TermTree
    arrow : ℕ → BindersTree → TermTree → TermTree

  pub data TermOption : Type 0 where
    no_term : TermOption
    some_term : TermTree → TermOption

  pub data TermTrees : Type 0 where
    end_terms : TermTrees
    term_and : TermTree → TermTrees → TermTrees

  -- `(names : type)` or `{names : type}`
  pub data BindersTree : Type 0 where
    binders : ℕ → BinderKind → List Ident → TermTree → BindersTree

  pub data LBinderTree : Type 0 where
    typed : BindersTree → LBinderTree
    plain : Ident → LBinderTree
    implicit : ℕ → List Ident → LBinderTree

  pub data LBinderTrees : Type 0 where
    end_binders : LBinderTrees
    binder_and : LBinderTree → LBinderTrees → LBinderTrees

  pub data ItemTree : Type 0 where
    block : ℕ → ItemTrees → ItemTree
    exact : ℕ → TermTree → ItemTree
    intro : ℕ → List Ident → ItemTree
    apply : ℕ → TermTree → ItemTree
    rfl : ℕ → ItemTree
    assumption_item : ℕ → ItemTree
    rw_item : ℕ → RuleTrees → ItemTree
    unfold_item : ℕ → Ident → ItemTree
    have_item : ℕ → Ident → TermTree → TermTree → ItemTree
    induction : ℕ → Ident → ItemTree
    cases : ℕ → Ident → ItemTree
    injection : ℕ → Ident → ItemTree
    sorry_item : ℕ → ItemTree

  pub data ItemTrees : Type 0 where
    end_items : ItemTrees
    item_and : ItemTree → ItemTrees → ItemTrees

  -- A rule of `rw`; its Bool tells a `←`.
  pub data RuleTree : Type 0 where
    rule : ℕ → Bool → TermTree → RuleTree

  pub data RuleTrees : Type 0 where
    end_rules : RuleTrees
    rule_and : RuleTree → RuleTrees → RuleTrees

abbrev pub levels_of : List LevelTree → LevelTrees
levels_of [] = no_level
levels_of (l ∷ ls) = level_and l (levels_of ls)

abbrev pub terms_of : List TermTree → TermTrees
terms_of [] = end_terms
terms_of (t ∷ ts) = term_and t (terms_of ts)

abbrev pub binders_of : List LBinderTree → LBinderTrees
binders_of [] = end_binders
binders_of (b ∷ bs) = binder_and b (binders_of bs)

abbrev pub items_of : List ItemTree → ItemTrees
items_of [] = end_items
items_of (i ∷ more) = item_and i (items_of more)

abbrev pub rules_of : List RuleTree → RuleTrees
rules_of [] = end_rules
rules_of (r ∷ rs) = rule_and r (rules_of rs)

abbrev pub option_of : Option TermTree → TermOption
option_of None = no_term
option_of (Some t) = some_term t

-- The place of the term's first token.
abbrev pub place : TermTree → ℕ
place (ident at e x ls) = at
place (numeral n) = n.at
place (hole at) = at
place (sorry_term at) = at
place (prop at) = at
place (type_u at l) = at
place (sort_u at l) = at
place (paren at t u) = at
place (app at h ts) = at
place (oper at o l r) = at
place (not_term at t) = at
place (fun_term at bs t) = at
place (forall_term at bs t) = at
place (let_term at x u v t) = at
place (by_term at i) = at
place (arrow at b t) = at
