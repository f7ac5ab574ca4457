-- Codes by which trees are told apart: a number for the form, then its parts; and back.
use Rattle.std.specs.Prelude.{zero, suc, Bool, true, false, List, [], ◌∷◌, Option, None, Some, ◌≡◌, refl}
use Rattle.std.proofs.Common.{ap, sym, ◌∙◌}
use Rattle.std.specs.Coded.{Coded}
use base.Stored.{Gv, gnil, gnum, gcons}
use Rattle.lf_name.specs.declared.binder.BinderKind.{BinderKind}
use Rattle.lf_name.specs.declared.binder.BinderKind.TheVariants.{Explicit}
use Rattle.lf_syntax.specs.declared.leaf.Ident.{Ident}
use Rattle.lf_syntax.specs.declared.leaf.Num.{Num}
use Rattle.lf_text.specs.declared.operator.Op.{Op}
use Rattle.lf_text.specs.declared.operator.Op.TheVariants.{Iff, Arrow, Or, And, Eq, Ne, Add, Sub, Mul, Div, Mod}
use Rattle.lf_syntax.specs.Tree.{
  LevelTree,
  LevelTrees,
  TermTree,
  TermOption,
  TermTrees,
  BindersTree,
  LBinderTree,
  LBinderTrees,
  ItemTree,
  ItemTrees,
  RuleTree,
  RuleTrees,
  app,
  apply,
  arrow,
  assumption_item,
  binder_and,
  binders,
  block,
  by_term,
  cases,
  end_binders,
  end_items,
  end_rules,
  end_terms,
  exact,
  forall_term,
  fun_term,
  have_item,
  hole,
  ident,
  implicit,
  induction,
  injection,
  intro,
  item_and,
  let_term,
  level_and,
  level_imax,
  level_max,
  level_name,
  level_number,
  level_plus,
  no_level,
  no_term,
  not_term,
  numeral,
  oper,
  paren,
  plain,
  prop,
  rfl,
  rule,
  rule_and,
  rw_item,
  some_term,
  sorry_item,
  sorry_term,
  sort_u,
  term_and,
  type_u,
  typed,
  unfold_item,
}
use Rattle.lf_name.specs.Codes.{path, to_path, path_back, kind, to_kind, kind_back}

abbrev pub code_kind : BinderKind → Gv
code_kind k = kind k

abbrev pub code_num : Num → Gv
code_num n = gcons (gnum n.at) (gnum n.value)

abbrev pub to_num : Gv → Num
to_num (gcons (gnum at) (gnum n)) = record { at = at; value = n }
to_num _ = record { at = 0; value = 0 }

pub num_back : (n : Num) → to_num (code_num n) ≡ n
num_back n = refl

abbrev pub code_ident : Ident → Gv
code_ident x = gcons (gnum x.at) (path x.name)

abbrev pub to_ident : Gv → Ident
to_ident (gcons (gnum at) p) = record { at = at; name = to_path p }
to_ident _ = record { at = 0; name = [] }

pub ident_back : (x : Ident) → to_ident (code_ident x) ≡ x
ident_back x = λ i. record { at = x.at; name = path_back x.name i }

abbrev pub code_idents : List Ident → Gv
code_idents [] = gnil
code_idents (x ∷ xs) = gcons (code_ident x) (code_idents xs)

abbrev pub to_idents : Gv → List Ident
to_idents (gcons x xs) = to_ident x ∷ to_idents xs
to_idents _ = []

pub idents_back : (xs : List Ident) → to_idents (code_idents xs) ≡ xs
idents_back [] = refl
idents_back (x ∷ xs) = λ i. ident_back x i ∷ idents_back xs i

abbrev pub code_bool : Bool → Gv
code_bool true = gnum 0
code_bool false = gnil

abbrev pub to_bool : Gv → Bool
to_bool (gnum n) = true
to_bool _ = false

pub bool_back : (b : Bool) → to_bool (code_bool b) ≡ b
bool_back true = refl
bool_back false = refl

abbrev pub code_op : Op → Gv
code_op Iff = gnum 0
code_op Arrow = gnum 1
code_op Or = gnum 2
code_op And = gnum 3
code_op Eq = gnum 4
code_op Ne = gnum 5
code_op Add = gnum 6
code_op Sub = gnum 7
code_op Mul = gnum 8
code_op Div = gnum 9
code_op Mod = gnum 10

abbrev pub to_op : Gv → Op
to_op (gnum zero) = Iff
to_op (gnum (suc zero)) = Arrow
to_op (gnum (suc (suc zero))) = Or
to_op (gnum (suc (suc (suc zero)))) = And
to_op (gnum (suc (suc (suc (suc zero))))) = Eq
to_op (gnum (suc (suc (suc (suc (suc zero)))))) = Ne
to_op (gnum (suc (suc (suc (suc (suc (suc zero))))))) = Add
to_op (gnum (suc (suc (suc (suc (suc (suc (suc zero)))))))) = Sub
to_op (gnum (suc (suc (suc (suc (suc (suc (suc (suc zero))))))))) = Mul
to_op (gnum (suc (suc (suc (suc (suc (suc (suc (suc (suc zero)))))))))) = Div
to_op _ = Mod

pub op_back : (o : Op) → to_op (code_op o) ≡ o
op_back Iff = refl
op_back Arrow = refl
op_back Or = refl
op_back And = refl
op_back Eq = refl
op_back Ne = refl
op_back Add = refl
op_back Sub = refl
op_back Mul = refl
op_back Div = refl
op_back Mod = refl

abbrev mutual
  pub code_level : LevelTree → Gv
  code_level (level_number x0) = gcons (gnum 0) (gcons (code_num x0) gnil)
  code_level (level_name x0) = gcons (gnum 1) (gcons (code_ident x0) gnil)
  code_level (level_plus x0 x1 x2) = gcons (gnum 2) (gcons (gnum x0) (gcons (code_level x1) (gcons (code_num x2) gnil)))
  code_level (level_max x0 x1) = gcons (gnum 3) (gcons (gnum x0) (gcons (code_levels x1) gnil))
  code_level (level_imax x0 x1 x2) = gcons (gnum 4) (gcons (gnum x0) (gcons (code_level x1) (gcons (code_level x2) gnil)))

  pub code_levels : LevelTrees → Gv
  code_levels no_level = gcons (gnum 0) gnil
  code_levels (level_and x0 x1) = gcons (gnum 1) (gcons (code_level x0) (gcons (code_levels x1) gnil))

abbrev mutual
  pub to_level : Gv → LevelTree
  to_level (gcons (gnum zero) (gcons x0 gnil)) = level_number (to_num x0)
  to_level (gcons (gnum (suc zero)) (gcons x0 gnil)) = level_name (to_ident x0)
  to_level (gcons (gnum (suc (suc zero))) (gcons (gnum x0) (gcons x1 (gcons x2 gnil)))) = level_plus x0 (to_level x1) (to_num x2)
  to_level (gcons (gnum (suc (suc (suc zero)))) (gcons (gnum x0) (gcons x1 gnil))) = level_max x0 (to_levels x1)
  to_level (gcons (gnum (suc (suc (suc (suc zero))))) (gcons (gnum x0) (gcons x1 (gcons x2 gnil)))) = level_imax x0 (to_level x1) (to_level x2)
  to_level _ = level_name (record { at = 0; name = [] })

  pub to_levels : Gv → LevelTrees
  to_levels (gcons (gnum zero) gnil) = no_level
  to_levels (gcons (gnum (suc zero)) (gcons x0 (gcons x1 gnil))) = level_and (to_level x0) (to_levels x1)
  to_levels _ = no_level

mutual
  pub level_back : (t : LevelTree) → to_level (code_level t) ≡ t
  level_back (level_number x0) = λ i. level_number (num_back x0 i)
  level_back (level_name x0) = λ i. level_name (ident_back x0 i)
  level_back (level_plus x0 x1 x2) = λ i. level_plus x0 (level_back x1 i) (num_back x2 i)
  level_back (level_max x0 x1) = λ i. level_max x0 (levels_back x1 i)
  level_back (level_imax x0 x1 x2) = λ i. level_imax x0 (level_back x1 i) (level_back x2 i)

  pub levels_back : (t : LevelTrees) → to_levels (code_levels t) ≡ t
  levels_back no_level = refl
  levels_back (level_and x0 x1) = λ i. level_and (level_back x0 i) (levels_back x1 i)

abbrev pub code_written : List LevelTree → Gv
code_written [] = gnil
code_written (l ∷ ls) = gcons (code_level l) (code_written ls)

abbrev pub to_written : Gv → List LevelTree
to_written (gcons l ls) = to_level l ∷ to_written ls
to_written _ = []

pub written_back : (ls : List LevelTree) → to_written (code_written ls) ≡ ls
written_back [] = refl
written_back (l ∷ ls) = λ i. level_back l i ∷ written_back ls i

abbrev pub code_level_option : Option LevelTree → Gv
code_level_option None = gnil
code_level_option (Some l) = gcons gnil (code_level l)

abbrev pub to_level_option : Gv → Option LevelTree
to_level_option (gcons a l) = Some (to_level l)
to_level_option _ = None

pub level_option_back : (l : Option LevelTree) → to_level_option (code_level_option l) ≡ l
level_option_back None = refl
level_option_back (Some l) = λ i. Some (level_back l i)

abbrev mutual
  pub code_term : TermTree → Gv
  code_term (ident x0 x1 x2 x3) = gcons (gnum 0) (gcons (gnum x0) (gcons (code_bool x1) (gcons (code_ident x2) (gcons (code_written x3) gnil))))
  code_term (numeral x0) = gcons (gnum 1) (gcons (code_num x0) gnil)
  code_term (hole x0) = gcons (gnum 2) (gcons (gnum x0) gnil)
  code_term (sorry_term x0) = gcons (gnum 3) (gcons (gnum x0) gnil)
  code_term (prop x0) = gcons (gnum 4) (gcons (gnum x0) gnil)
  code_term (type_u x0 x1) = gcons (gnum 5) (gcons (gnum x0) (gcons (code_level_option x1) gnil))
  code_term (sort_u x0 x1) = gcons (gnum 6) (gcons (gnum x0) (gcons (code_level_option x1) gnil))
  code_term (paren x0 x1 x2) = gcons (gnum 7) (gcons (gnum x0) (gcons (code_term x1) (gcons (code_term_option x2) gnil)))
  code_term (app x0 x1 x2) = gcons (gnum 8) (gcons (gnum x0) (gcons (code_term x1) (gcons (code_terms x2) gnil)))
  code_term (oper x0 x1 x2 x3) = gcons (gnum 9) (gcons (gnum x0) (gcons (code_op x1) (gcons (code_term x2) (gcons (code_term x3) gnil))))
  code_term (not_term x0 x1) = gcons (gnum 10) (gcons (gnum x0) (gcons (code_term x1) gnil))
  code_term (fun_term x0 x1 x2) = gcons (gnum 11) (gcons (gnum x0) (gcons (code_lbinders x1) (gcons (code_term x2) gnil)))
  code_term (forall_term x0 x1 x2) = gcons (gnum 12) (gcons (gnum x0) (gcons (code_lbinders x1) (gcons (code_term x2) gnil)))
  code_term (let_term x0 x1 x2 x3 x4) = gcons (gnum 13)
      (gcons (gnum x0) (gcons (code_ident x1) (gcons (code_term_option x2) (gcons (code_term x3) (gcons (code_term x4) gnil)))))
  code_term (by_term x0 x1) = gcons (gnum 14) (gcons (gnum x0) (gcons (code_items x1) gnil))
  code_term (arrow x0 x1 x2) = gcons (gnum 15) (gcons (gnum x0) (gcons (code_binders x1) (gcons (code_term x2) gnil)))

  pub code_term_option : TermOption → Gv
  code_term_option no_term = gcons (gnum 0) gnil
  code_term_option (some_term x0) = gcons (gnum 1) (gcons (code_term x0) gnil)

  pub code_terms : TermTrees → Gv
  code_terms end_terms = gcons (gnum 0) gnil
  code_terms (term_and x0 x1) = gcons (gnum 1) (gcons (code_term x0) (gcons (code_terms x1) gnil))

  pub code_binders : BindersTree → Gv
  code_binders (binders x0 x1 x2 x3) = gcons (gnum 0) (gcons (gnum x0) (gcons (code_kind x1) (gcons (code_idents x2) (gcons (code_term x3) gnil))))

  pub code_lbinder : LBinderTree → Gv
  code_lbinder (typed x0) = gcons (gnum 0) (gcons (code_binders x0) gnil)
  code_lbinder (plain x0) = gcons (gnum 1) (gcons (code_ident x0) gnil)
  code_lbinder (implicit x0 x1) = gcons (gnum 2) (gcons (gnum x0) (gcons (code_idents x1) gnil))

  pub code_lbinders : LBinderTrees → Gv
  code_lbinders end_binders = gcons (gnum 0) gnil
  code_lbinders (binder_and x0 x1) = gcons (gnum 1) (gcons (code_lbinder x0) (gcons (code_lbinders x1) gnil))

  pub code_item : ItemTree → Gv
  code_item (block x0 x1) = gcons (gnum 0) (gcons (gnum x0) (gcons (code_items x1) gnil))
  code_item (exact x0 x1) = gcons (gnum 1) (gcons (gnum x0) (gcons (code_term x1) gnil))
  code_item (intro x0 x1) = gcons (gnum 2) (gcons (gnum x0) (gcons (code_idents x1) gnil))
  code_item (apply x0 x1) = gcons (gnum 3) (gcons (gnum x0) (gcons (code_term x1) gnil))
  code_item (rfl x0) = gcons (gnum 4) (gcons (gnum x0) gnil)
  code_item (assumption_item x0) = gcons (gnum 5) (gcons (gnum x0) gnil)
  code_item (rw_item x0 x1) = gcons (gnum 6) (gcons (gnum x0) (gcons (code_rules x1) gnil))
  code_item (unfold_item x0 x1) = gcons (gnum 7) (gcons (gnum x0) (gcons (code_ident x1) gnil))
  code_item (have_item x0 x1 x2 x3) = gcons (gnum 8) (gcons (gnum x0) (gcons (code_ident x1) (gcons (code_term x2) (gcons (code_term x3) gnil))))
  code_item (induction x0 x1) = gcons (gnum 9) (gcons (gnum x0) (gcons (code_ident x1) gnil))
  code_item (cases x0 x1) = gcons (gnum 10) (gcons (gnum x0) (gcons (code_ident x1) gnil))
  code_item (injection x0 x1) = gcons (gnum 11) (gcons (gnum x0) (gcons (code_ident x1) gnil))
  code_item (sorry_item x0) = gcons (gnum 12) (gcons (gnum x0) gnil)

  pub code_items : ItemTrees → Gv
  code_items end_items = gcons (gnum 0) gnil
  code_items (item_and x0 x1) = gcons (gnum 1) (gcons (code_item x0) (gcons (code_items x1) gnil))

  pub code_rule : RuleTree → Gv
  code_rule (rule x0 x1 x2) = gcons (gnum 0) (gcons (gnum x0) (gcons (code_bool x1) (gcons (code_term x2) gnil)))

  pub code_rules : RuleTrees → Gv
  code_rules end_rules = gcons (gnum 0) gnil
  code_rules (rule_and x0 x1) = gcons (gnum 1) (gcons (code_rule x0) (gcons (code_rules x1) gnil))

abbrev mutual
  pub to_term : Gv → TermTree
  to_term (gcons (gnum zero) (gcons (gnum x0) (gcons x1 (gcons x2 (gcons x3 gnil))))) = ident x0 (to_bool x1) (to_ident x2) (to_written x3)
  to_term (gcons (gnum (suc zero)) (gcons x0 gnil)) = numeral (to_num x0)
  to_term (gcons (gnum (suc (suc zero))) (gcons (gnum x0) gnil)) = hole x0
  to_term (gcons (gnum (suc (suc (suc zero)))) (gcons (gnum x0) gnil)) = sorry_term x0
  to_term (gcons (gnum (suc (suc (suc (suc zero))))) (gcons (gnum x0) gnil)) = prop x0
  to_term (gcons (gnum (suc (suc (suc (suc (suc zero)))))) (gcons (gnum x0) (gcons x1 gnil))) = type_u x0 (to_level_option x1)
  to_term (gcons (gnum (suc (suc (suc (suc (suc (suc zero))))))) (gcons (gnum x0) (gcons x1 gnil))) = sort_u x0 (to_level_option x1)
  to_term (gcons (gnum (suc (suc (suc (suc (suc (suc (suc zero)))))))) (gcons (gnum x0) (gcons x1 (gcons x2 gnil)))) = paren x0 (to_term x1) (to_term_option x2)
  to_term (gcons (gnum (suc (suc (suc (suc (suc (suc (suc (suc zero))))))))) (gcons (gnum x0) (gcons x1 (gcons x2 gnil)))) = app x0 (to_term x1) (to_terms x2)
  to_term (gcons (gnum (suc (suc (suc (suc (suc (suc (suc (suc (suc zero)))))))))) (gcons (gnum x0) (gcons x1 (gcons x2 (gcons x3 gnil))))) =
      oper x0 (to_op x1) (to_term x2) (to_term x3)
  to_term (gcons (gnum (suc (suc (suc (suc (suc (suc (suc (suc (suc (suc zero))))))))))) (gcons (gnum x0) (gcons x1 gnil))) = not_term x0 (to_term x1)
  to_term (gcons (gnum (suc (suc (suc (suc (suc (suc (suc (suc (suc (suc (suc zero)))))))))))) (gcons (gnum x0) (gcons x1 (gcons x2 gnil)))) =
      fun_term x0 (to_lbinders x1) (to_term x2)
  to_term (gcons (gnum (suc (suc (suc (suc (suc (suc (suc (suc (suc (suc (suc (suc zero))))))))))))) (gcons (gnum x0) (gcons x1 (gcons x2 gnil)))) =
      forall_term x0 (to_lbinders x1) (to_term x2)
  to_term (gcons (gnum (suc (suc (suc (suc (suc (suc (suc (suc (suc (suc (suc (suc (suc zero))))))))))))))
      (gcons (gnum x0) (gcons x1 (gcons x2 (gcons x3 (gcons x4 gnil)))))) = let_term x0 (to_ident x1) (to_term_option x2) (to_term x3) (to_term x4)
  to_term (gcons (gnum (suc (suc (suc (suc (suc (suc (suc (suc (suc (suc (suc (suc (suc (suc zero))))))))))))))) (gcons (gnum x0) (gcons x1 gnil))) =
      by_term x0 (to_items x1)
  to_term (gcons (gnum (suc (suc (suc (suc (suc (suc (suc (suc (suc (suc (suc (suc (suc (suc (suc zero))))))))))))))))
      (gcons (gnum x0) (gcons x1 (gcons x2 gnil)))) = arrow x0 (to_binders x1) (to_term x2)
  to_term _ = hole 0

  pub to_term_option : Gv → TermOption
  to_term_option (gcons (gnum zero) gnil) = no_term
  to_term_option (gcons (gnum (suc zero)) (gcons x0 gnil)) = some_term (to_term x0)
  to_term_option _ = no_term

  pub to_terms : Gv → TermTrees
  to_terms (gcons (gnum zero) gnil) = end_terms
  to_terms (gcons (gnum (suc zero)) (gcons x0 (gcons x1 gnil))) = term_and (to_term x0) (to_terms x1)
  to_terms _ = end_terms

  pub to_binders : Gv → BindersTree
  to_binders (gcons (gnum zero) (gcons (gnum x0) (gcons x1 (gcons x2 (gcons x3 gnil))))) = binders x0 (to_kind x1) (to_idents x2) (to_term x3)
  to_binders _ = binders 0 Explicit [] (hole 0)

  pub to_lbinder : Gv → LBinderTree
  to_lbinder (gcons (gnum zero) (gcons x0 gnil)) = typed (to_binders x0)
  to_lbinder (gcons (gnum (suc zero)) (gcons x0 gnil)) = plain (to_ident x0)
  to_lbinder (gcons (gnum (suc (suc zero))) (gcons (gnum x0) (gcons x1 gnil))) = implicit x0 (to_idents x1)
  to_lbinder _ = implicit 0 []

  pub to_lbinders : Gv → LBinderTrees
  to_lbinders (gcons (gnum zero) gnil) = end_binders
  to_lbinders (gcons (gnum (suc zero)) (gcons x0 (gcons x1 gnil))) = binder_and (to_lbinder x0) (to_lbinders x1)
  to_lbinders _ = end_binders

  pub to_item : Gv → ItemTree
  to_item (gcons (gnum zero) (gcons (gnum x0) (gcons x1 gnil))) = block x0 (to_items x1)
  to_item (gcons (gnum (suc zero)) (gcons (gnum x0) (gcons x1 gnil))) = exact x0 (to_term x1)
  to_item (gcons (gnum (suc (suc zero))) (gcons (gnum x0) (gcons x1 gnil))) = intro x0 (to_idents x1)
  to_item (gcons (gnum (suc (suc (suc zero)))) (gcons (gnum x0) (gcons x1 gnil))) = apply x0 (to_term x1)
  to_item (gcons (gnum (suc (suc (suc (suc zero))))) (gcons (gnum x0) gnil)) = rfl x0
  to_item (gcons (gnum (suc (suc (suc (suc (suc zero)))))) (gcons (gnum x0) gnil)) = assumption_item x0
  to_item (gcons (gnum (suc (suc (suc (suc (suc (suc zero))))))) (gcons (gnum x0) (gcons x1 gnil))) = rw_item x0 (to_rules x1)
  to_item (gcons (gnum (suc (suc (suc (suc (suc (suc (suc zero)))))))) (gcons (gnum x0) (gcons x1 gnil))) = unfold_item x0 (to_ident x1)
  to_item (gcons (gnum (suc (suc (suc (suc (suc (suc (suc (suc zero))))))))) (gcons (gnum x0) (gcons x1 (gcons x2 (gcons x3 gnil))))) =
      have_item x0 (to_ident x1) (to_term x2) (to_term x3)
  to_item (gcons (gnum (suc (suc (suc (suc (suc (suc (suc (suc (suc zero)))))))))) (gcons (gnum x0) (gcons x1 gnil))) = induction x0 (to_ident x1)
  to_item (gcons (gnum (suc (suc (suc (suc (suc (suc (suc (suc (suc (suc zero))))))))))) (gcons (gnum x0) (gcons x1 gnil))) = cases x0 (to_ident x1)
  to_item (gcons (gnum (suc (suc (suc (suc (suc (suc (suc (suc (suc (suc (suc zero)))))))))))) (gcons (gnum x0) (gcons x1 gnil))) = injection x0 (to_ident x1)
  to_item (gcons (gnum (suc (suc (suc (suc (suc (suc (suc (suc (suc (suc (suc (suc zero))))))))))))) (gcons (gnum x0) gnil)) = sorry_item x0
  to_item _ = rfl 0

  pub to_items : Gv → ItemTrees
  to_items (gcons (gnum zero) gnil) = end_items
  to_items (gcons (gnum (suc zero)) (gcons x0 (gcons x1 gnil))) = item_and (to_item x0) (to_items x1)
  to_items _ = end_items

  pub to_rule : Gv → RuleTree
  to_rule (gcons (gnum zero) (gcons (gnum x0) (gcons x1 (gcons x2 gnil)))) = rule x0 (to_bool x1) (to_term x2)
  to_rule _ = rule 0 false (hole 0)

  pub to_rules : Gv → RuleTrees
  to_rules (gcons (gnum zero) gnil) = end_rules
  to_rules (gcons (gnum (suc zero)) (gcons x0 (gcons x1 gnil))) = rule_and (to_rule x0) (to_rules x1)
  to_rules _ = end_rules

mutual
  pub term_back : (t : TermTree) → to_term (code_term t) ≡ t
  term_back (ident x0 x1 x2 x3) = λ i. ident x0 (bool_back x1 i) (ident_back x2 i) (written_back x3 i)
  term_back (numeral x0) = λ i. numeral (num_back x0 i)
  term_back (hole x0) = refl
  term_back (sorry_term x0) = refl
  term_back (prop x0) = refl
  term_back (type_u x0 x1) = λ i. type_u x0 (level_option_back x1 i)
  term_back (sort_u x0 x1) = λ i. sort_u x0 (level_option_back x1 i)
  term_back (paren x0 x1 x2) = λ i. paren x0 (term_back x1 i) (term_option_back x2 i)
  term_back (app x0 x1 x2) = λ i. app x0 (term_back x1 i) (terms_back x2 i)
  term_back (oper x0 x1 x2 x3) = λ i. oper x0 (op_back x1 i) (term_back x2 i) (term_back x3 i)
  term_back (not_term x0 x1) = λ i. not_term x0 (term_back x1 i)
  term_back (fun_term x0 x1 x2) = λ i. fun_term x0 (lbinders_back x1 i) (term_back x2 i)
  term_back (forall_term x0 x1 x2) = λ i. forall_term x0 (lbinders_back x1 i) (term_back x2 i)
  term_back (let_term x0 x1 x2 x3 x4) = λ i. let_term x0 (ident_back x1 i) (term_option_back x2 i) (term_back x3 i) (term_back x4 i)
  term_back (by_term x0 x1) = λ i. by_term x0 (items_back x1 i)
  term_back (arrow x0 x1 x2) = λ i. arrow x0 (binders_back x1 i) (term_back x2 i)

  pub term_option_back : (t : TermOption) → to_term_option (code_term_option t) ≡ t
  term_option_back no_term = refl
  term_option_back (some_term x0) = λ i. some_term (term_back x0 i)

  pub terms_back : (t : TermTrees) → to_terms (code_terms t) ≡ t
  terms_back end_terms = refl
  terms_back (term_and x0 x1) = λ i. term_and (term_back x0 i) (terms_back x1 i)

  pub binders_back : (t : BindersTree) → to_binders (code_binders t) ≡ t
  binders_back (binders x0 x1 x2 x3) = λ i. binders x0 (kind_back x1 i) (idents_back x2 i) (term_back x3 i)

  pub lbinder_back : (t : LBinderTree) → to_lbinder (code_lbinder t) ≡ t
  lbinder_back (typed x0) = λ i. typed (binders_back x0 i)
  lbinder_back (plain x0) = λ i. plain (ident_back x0 i)
  lbinder_back (implicit x0 x1) = λ i. implicit x0 (idents_back x1 i)

  pub lbinders_back : (t : LBinderTrees) → to_lbinders (code_lbinders t) ≡ t
  lbinders_back end_binders = refl
  lbinders_back (binder_and x0 x1) = λ i. binder_and (lbinder_back x0 i) (lbinders_back x1 i)

  pub item_back : (t : ItemTree) → to_item (code_item t) ≡ t
  item_back (block x0 x1) = λ i. block x0 (items_back x1 i)
  item_back (exact x0 x1) = λ i. exact x0 (term_back x1 i)
  item_back (intro x0 x1) = λ i. intro x0 (idents_back x1 i)
  item_back (apply x0 x1) = λ i. apply x0 (term_back x1 i)
  item_back (rfl x0) = refl
  item_back (assumption_item x0) = refl
  item_back (rw_item x0 x1) = λ i. rw_item x0 (rules_back x1 i)
  item_back (unfold_item x0 x1) = λ i. unfold_item x0 (ident_back x1 i)
  item_back (have_item x0 x1 x2 x3) = λ i. have_item x0 (ident_back x1 i) (term_back x2 i) (term_back x3 i)
  item_back (induction x0 x1) = λ i. induction x0 (ident_back x1 i)
  item_back (cases x0 x1) = λ i. cases x0 (ident_back x1 i)
  item_back (injection x0 x1) = λ i. injection x0 (ident_back x1 i)
  item_back (sorry_item x0) = refl

  pub items_back : (t : ItemTrees) → to_items (code_items t) ≡ t
  items_back end_items = refl
  items_back (item_and x0 x1) = λ i. item_and (item_back x0 i) (items_back x1 i)

  pub rule_back : (t : RuleTree) → to_rule (code_rule t) ≡ t
  rule_back (rule x0 x1 x2) = λ i. rule x0 (bool_back x1 i) (term_back x2 i)

  pub rules_back : (t : RuleTrees) → to_rules (code_rules t) ≡ t
  rules_back end_rules = refl
  rules_back (rule_and x0 x1) = λ i. rule_and (rule_back x0 i) (rules_back x1 i)

abbrev pub coded_level : Coded LevelTree
coded_level = record { code = code_level; inj = λ x y p. sym (level_back x) ∙ ap to_level p ∙ level_back y }

abbrev pub coded_term : Coded TermTree
coded_term = record { code = code_term; inj = λ x y p. sym (term_back x) ∙ ap to_term p ∙ term_back y }

abbrev pub coded_item : Coded ItemTree
coded_item = record { code = code_item; inj = λ x y p. sym (item_back x) ∙ ap to_item p ∙ item_back y }
