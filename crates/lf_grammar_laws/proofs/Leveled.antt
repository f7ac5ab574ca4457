-- Operators of derived trees keep their levels.
use Rattle.std.proofs.Common.{◌≡◌, ℕ, ◌≤◌, List, [], ◌∷◌, ◌++◌, map, Bool, true, false, Option, Some, None, subst, arith}
use Rattle.std.proofs.lemmas.Bool.Decides.{nat_tests}
use Rattle.lf_syntax.specs.declared.leaf.Ident.{Ident}
use Rattle.lf_syntax.specs.declared.term.Binders.{Binders}
use Rattle.lf_syntax.specs.declared.command.Decl.{Decl}
use Rattle.lf_name.specs.declared.binder.BinderKind.TheVariants.{Inst}
use Rattle.lf_text.specs.declared.operator.Op.{Op}
use Rattle.lf_text.specs.declared.operator.Op.TheVariants.{Iff, Arrow, Or, And, Eq, Ne, Add, Sub, Mul, Div, Mod}
use Rattle.lf_syntax.specs.Tree.{
  LevelTree,
  TermTree,
  ident,
  hole,
  type_u,
  sort_u,
  paren,
  oper,
  not_term,
  option_of,
  terms_of,
  LBinderTree,
  binders_of,
  ItemTree,
  items_of,
  RuleTree,
  rules_of,
  rule,
  place,
}
use Rattle.lf_text.specs.Operators.{op_level, left_of, right_of}
use Rattle.lf_syntax.specs.Levels.{takes, operand_level, not_level}
use Rattle.lf_syntax.specs.Predictive.{Takes, join, Reads, nothing, left_out, taken, tree}
use Rattle.lf_syntax.specs.Piece.{Piece}
use Rattle.lf_syntax.specs.Symbol as symbol
use Rattle.lf_syntax.specs.Symbol.{Symbol, Tree, Spine, GroupEnd, BinderEnd, arrow_to, arguments_to, DefRest, DefBody, by_value, by_alternatives, command}
use Rattle.lf_syntax.specs.Build.{
  with_arguments,
  applied,
  chain,
  names_spine,
  name_term,
  spine_of,
  group_of,
  close_of,
  sort_spine,
  sort_or_none,
  level_of,
  is_underscore,
  underscore_at,
}
use Rattle.lf_syntax.specs.Row.{Row, Prod, then, on_word, on_name, on_one_part, on_spelling, on_number, on_digit, on_operator, begins_as}
use Rattle.lf_syntax.specs.Rows.{
  rows,
  without,
  implicit_binder,
  binders_at,
  unnamed,
  defined,
  decl_of,
  bracket_name_rows,
  written_levels_rows,
  name_levels_rows,
  operand_rows,
  term_rows,
  argument_rows,
  operator_rows,
  group_end_rows,
  group_names_rows_by,
}
use Rattle.lf_text.specs.declared.word.Word.TheVariants as words
use Rattle.lf_syntax.specs.Grammar.{grammar}
use Rattle.lf_grammar_laws.specs.Laws.{LevelsKept}
use Rattle.lf_grammar_lemmas.proofs.Found.{InRows, found}
use Rattle.lf_grammar_laws.specs.Leveled.{
  term_level,
  Leveled,
  OptionLeveled,
  ArgumentsLeveled,
  LambdaLeveled,
  LambdasLeveled,
  ItemLeveled,
  ItemsLeveled,
  RuleLeveled,
  RulesLeveled,
  All,
  IfAny,
  GroupLeveled,
  HelperLeveled,
  CtorLeveled,
  FieldLeveled,
  AlternativeLeveled,
  DeclLeveled,
  CommandLeveled,
}

-- Terms that can be a head or an argument.
abbrev Operand : TermTree → Type 0
Operand t = Leveled t × (operand_level ≤ term_level t)

abbrev SpineFits : Spine → Type 0
SpineFits s = Operand s.head × All Operand s.arguments

-- Operators behind a term of this level, in a chain of at least the other.
abbrev Chained : ℕ → ℕ → List (Op × TermTree) → Type 0
Chained least left [] = Unit {0}
Chained least left (o ∷ more) = (least ≤ op_level o.0) × (left_of o.0 ≤ left) × Leveled o.1 × (right_of o.0 ≤ term_level o.1)
    × Chained least (op_level o.0) more

op_at_most : (o : Op) → op_level o ≤ operand_level
op_at_most Iff = omega arith
op_at_most Arrow = omega arith
op_at_most Or = omega arith
op_at_most And = omega arith
op_at_most Eq = omega arith
op_at_most Ne = omega arith
op_at_most Add = omega arith
op_at_most Sub = omega arith
op_at_most Mul = omega arith
op_at_most Div = omega arith
op_at_most Mod = omega arith

chained : (least left : ℕ) (t : TermTree) (ops : List (Op × TermTree)) → Leveled t → left ≤ term_level t → Chained least left ops →
    Leveled (chain t ops) × (least ≤ term_level t → least ≤ term_level (chain t ops))
chained least left t [] h f c = (h, λ e. e)
chained least left t (o ∷ more) h f c =
    let r : Leveled (chain (oper (place t) o.0 t o.1) more) × (least ≤ op_level o.0 → least ≤ term_level (chain (oper (place t) o.0 t o.1) more)) =
    chained least (op_level o.0) (oper (place t) o.0 t o.1) more (h, c.2, omega (arith, c.1, f), c.3) (omega arith) c.4 in
    (r.0, λ e. r.1 c.0)

apply_fits : (h : TermTree) (ts : List TermTree) → Operand h → All Operand ts → Operand (applied h ts)
apply_fits h [] f g = f
apply_fits h (t ∷ ts) f g = ((f.0, f.1, listed (t ∷ ts) g), omega arith)
  where
    listed : (us : List TermTree) → All Operand us → ArgumentsLeveled (terms_of us)
    listed [] g = tt
    listed (u ∷ us) g = (g.0.0, g.0.1, listed us g.1)

least_operand : operand_level ≤ operand_level
least_operand = omega arith

right_at_most : (o : Op) → right_of o ≤ operand_level
right_at_most Iff = omega arith
right_at_most Arrow = omega arith
right_at_most Or = omega arith
right_at_most And = omega arith
right_at_most Eq = omega arith
right_at_most Ne = omega arith
right_at_most Add = omega arith
right_at_most Sub = omega arith
right_at_most Mul = omega arith
right_at_most Div = omega arith
right_at_most Mod = omega arith

taken_level : (least left : ℕ) (o : Op) → takes least left o ≡ true → (least ≤ op_level o) × (left_of o ≤ left)
taken_level least left o e = (grind (arith, nat_tests), grind (arith, nat_tests))

abbrev EndFits : BinderEnd → Type 0
EndFits (arrow_to b) = Leveled b
EndFits (arguments_to ts) = All Operand ts

abbrev BodyFits : DefBody → Type 0
BodyFits (by_value v hs) = Leveled v × All HelperLeveled hs
BodyFits (by_alternatives more) = All AlternativeLeveled more

-- What holds of the tree of each symbol.
abbrev Fits : (x : Symbol) → Tree x → Type 0
Fits symbol.command c = CommandLeveled c
Fits symbol.binder b = GroupLeveled b
Fits symbol.parameters bs = All GroupLeveled bs
Fits symbol.lambda_binder b = LambdaLeveled b
Fits symbol.lambda_binders bs = All LambdaLeveled bs
Fits symbol.implicit_end t = IfAny Leveled t
Fits symbol.type_option t = IfAny Leveled t
Fits symbol.def_rest d = IfAny Leveled d.ty × BodyFits d.body
Fits symbol.def_body d = BodyFits d
Fits (symbol.bracket at) b = GroupLeveled b
Fits (symbol.bracket_name at x) b = GroupLeveled b
Fits symbol.fields_option fs = All FieldLeveled fs
Fits symbol.field f = FieldLeveled f
Fits symbol.more_fields fs = All FieldLeveled fs
Fits symbol.alternatives more = All AlternativeLeveled more
Fits symbol.ctors cs = All CtorLeveled cs
Fits symbol.helpers hs = All HelperLeveled hs
Fits symbol.more_helpers hs = All HelperLeveled hs
Fits symbol.helper h = HelperLeveled h
Fits (symbol.term least) t = Leveled t × (least ≤ operand_level → least ≤ term_level t)
Fits symbol.arguments ts = All Operand ts
Fits (symbol.operators least left) ops = Chained least left ops
Fits (symbol.group at) s = SpineFits s
Fits (symbol.group_names at before x) s = SpineFits s
Fits symbol.group_end e = IfAny Leveled e.ty × All Operand e.arguments
Fits symbol.group_close e = EndFits e
Fits symbol.binder_end e = EndFits e
Fits symbol.block items = All ItemLeveled items
Fits symbol.more_items items = All ItemLeveled items
Fits symbol.item i = ItemLeveled i
Fits symbol.rw_rule r = RuleLeveled r
Fits symbol.more_rules rs = All RuleLeveled rs
Fits _ v = Unit {0}

-- What comes of fitting trees has P.
abbrev Given : {A : Type 0} → (A → Type 0) → (xs : List Symbol) → Takes Tree xs A → Type 0
Given P [] a = P a
Given P (x ∷ xs) f = (v : Tree x) → Fits x v → Given P xs (f v)

abbrev RowsFit : {A : Type 0} → (A → Type 0) → List (Row A) → Type 0
RowsFit {A} P rs = InRows (λ (p : Prod A). Given P p.body p.build) rs

given_join : {A V : Type 0} (P : A → Type 0) (Q : V → Type 0) (xs ys : List Symbol) (f : Takes Tree xs A) (k : A → Takes Tree ys V) →
    Given P xs f → ((a : A) → P a → Given Q ys (k a)) → Given Q (xs ++ ys) (join Tree V xs ys f k)
given_join P Q [] ys a k h g = g a h
given_join P Q (x ∷ xs) ys f k h g = λ v e. given_join P Q xs ys (f v) k (h v e) g

begins_fit : {A V : Type 0} (P : A → Type 0) (Q : V → Type 0) (rs : List (Row A)) (ys : List Symbol) (k : A → Takes Tree ys V) →
    RowsFit P rs → ((a : A) → P a → Given Q ys (k a)) → RowsFit Q (begins_as rs ys k)
begins_fit P Q [] ys k h g = tt
begins_fit P Q (on_word w f ∷ rs) ys k h g = (λ at. given_join P Q (f at).body ys (f at).build k (h.0 at) g, begins_fit P Q rs ys k h.1 g)
begins_fit P Q (on_name f ∷ rs) ys k h g = (λ x. given_join P Q (f x).body ys (f x).build k (h.0 x) g, begins_fit P Q rs ys k h.1 g)
begins_fit P Q (on_one_part f ∷ rs) ys k h g = (λ x. given_join P Q (f x).body ys (f x).build k (h.0 x) g, begins_fit P Q rs ys k h.1 g)
begins_fit P Q (on_spelling s f ∷ rs) ys k h g = (λ x. given_join P Q (f x).body ys (f x).build k (h.0 x) g, begins_fit P Q rs ys k h.1 g)
begins_fit P Q (on_number f ∷ rs) ys k h g = (λ n. given_join P Q (f n).body ys (f n).build k (h.0 n) g, begins_fit P Q rs ys k h.1 g)
begins_fit P Q (on_digit d f ∷ rs) ys k h g = (λ at. given_join P Q (f at).body ys (f at).build k (h.0 at) g, begins_fit P Q rs ys k h.1 g)
begins_fit P Q (on_operator test f ∷ rs) ys k h g = (λ o e. given_join P Q (f o).body ys (f o).build k (h.0 o e) g, begins_fit P Q rs ys k h.1 g)

append_fit : {V : Type 0} (Q : V → Type 0) (rs ss : List (Row V)) → RowsFit Q rs → RowsFit Q ss → RowsFit Q (rs ++ ss)
append_fit Q [] ss h g = g
append_fit Q (r ∷ rs) ss h g = (h.0, append_fit Q rs ss h.1 g)

option_fits : (t : Option TermTree) → IfAny Leveled t → OptionLeveled (option_of t)
option_fits None h = tt
option_fits (Some t) h = h

lambdas_fit : (bs : List LBinderTree) → All LambdaLeveled bs → LambdasLeveled (binders_of bs)
lambdas_fit [] h = tt
lambdas_fit (b ∷ bs) h = (h.0, lambdas_fit bs h.1)

items_fit : (items : List ItemTree) → All ItemLeveled items → ItemsLeveled (items_of items)
items_fit [] h = tt
items_fit (i ∷ items) h = (h.0, items_fit items h.1)

rules_fit : (rs : List RuleTree) → All RuleLeveled rs → RulesLeveled (rules_of rs)
rules_fit [] h = tt
rules_fit (r ∷ rs) h = (h.0, rules_fit rs h.1)

append_all : {A : Type 0} (P : A → Type 0) (xs ys : List A) → All P xs → All P ys → All P (xs ++ ys)
append_all P [] ys f g = g
append_all P (x ∷ xs) ys f g = (f.0, append_all P xs ys f.1 g)

name_fits_by : (b : Bool) (x : Ident) (ls : List LevelTree) → Operand (elim b as (λ _. TermTree) [ true ↦ hole x.at | false ↦ ident x.at false x ls ])
name_fits_by true x ls = (tt, least_operand)
name_fits_by false x ls = (tt, least_operand)

name_fits : (x : Ident) (ls : List LevelTree) → Operand (name_term x ls)
name_fits x ls = name_fits_by (is_underscore x.name) x ls

all_names_fit : (xs : List Ident) → All Operand (map (λ y. name_term y []) xs)
all_names_fit [] = tt
all_names_fit (x ∷ xs) = (name_fits x [], all_names_fit xs)

spine_fits : (ts : List TermTree) (t : TermTree) → All Operand ts → Operand t → SpineFits (spine_of ts t)
spine_fits [] t f g = (g, tt)
spine_fits (h ∷ ts) t f g = (f.0, append_all Operand ts (t ∷ []) f.1 (g, tt))

names_fit : (before : List Ident) (x : Ident) (ls : List LevelTree) → SpineFits (names_spine before x ls)
names_fit before x ls = spine_fits (map (λ y. name_term y []) before) (name_term x ls) (all_names_fit before) (name_fits x ls)

group_fits : (at : ℕ) (s : Spine) (more : List TermTree) (ops : List (Op × TermTree)) (e : GroupEnd) →
    SpineFits s → All Operand more → Chained 0 operand_level ops → Fits symbol.group_end e → SpineFits (group_of at s more ops e)
group_fits at s more ops e f g c h =
    let a : Operand (applied s.head (s.arguments ++ more)) = apply_fits s.head (s.arguments ++ more) f.0 (append_all Operand s.arguments more f.1 g) in
    ((((chained 0 operand_level (applied s.head (s.arguments ++ more)) ops a.0 a.1 c).0, option_fits e.ty h.0), least_operand), h.1)

close_fits : (at : ℕ) (before : List Ident) (x : Ident) (ty : TermTree) (e : BinderEnd) → Leveled ty → EndFits e → SpineFits (close_of at before x ty e)
close_fits at before x ty (arrow_to b) f h = (((f, h), least_operand), tt)
close_fits at before x ty (arguments_to ts) f h =
    let s : SpineFits (names_spine before x []) = names_fit before x [] in
    let n : Spine = names_spine before x [] in
    ((((apply_fits n.head n.arguments s.0 s.1).0, f), least_operand), h)

sort_by : (make : Option LevelTree → TermTree) → ((l : Option LevelTree) → Operand (make l)) → (t : TermTree) (ts : List TermTree) (l : Option LevelTree) →
    Operand t → All Operand ts → SpineFits (sort_or_none make t ts l)
sort_by make m t ts (Some l) f g = (m (Some l), g)
sort_by make m t ts None f g = (m None, (f, g))

sort_fits : (make : Option LevelTree → TermTree) → ((l : Option LevelTree) → Operand (make l)) → (ts : List TermTree) → All Operand ts
    → SpineFits (sort_spine make ts)
sort_fits make m [] g = (m None, tt)
sort_fits make m (t ∷ ts) g = sort_by make m t ts (level_of t true) g.0 g.1

operands_fit : RowsFit SpineFits operand_rows
operands_fit = (
  λ x ls _ ts g. ((tt, least_operand), g),
  (
    λ at x _ ls _ ts g. ((tt, least_operand), g),
    (
      λ n ts g. ((tt, least_operand), g),
      (
        λ at ts g. ((tt, least_operand), g),
        (
          λ at ts g. ((tt, least_operand), g),
          (
            λ at ts g. ((tt, least_operand), g),
            (
              λ at ts g. sort_fits (type_u at) (λ l. (tt, least_operand)) ts g,
              (
                λ at ts g. sort_fits (sort_u at) (λ l. (tt, least_operand)) ts g,
                (
                  λ at s f. f,
                  (
                    λ at b fb bs fbs _ _ t ft. ((((fb, lambdas_fit bs fbs), ft.0), least_operand), tt),
                    (
                      λ at b fb bs fbs _ _ t ft. ((((fb, lambdas_fit bs fbs), ft.0), least_operand), tt),
                      (
                        λ at x _ ty fty _ _ v fv _ _ t ft. (((option_fits ty fty, fv.0, ft.0), least_operand), tt),
                        (
                          λ at items f. ((items_fit items f, least_operand), tt),
                          (
                            λ at x _ xs _ _ _ ty fty _ _ _ _ t ft.
                                (((fty.0, ft.0), least_operand), tt),
                            (λ at b fb _ _ t ft. (((fb, ft.0), least_operand), tt), tt),
                          ),
                        ),
                      ),
                    ),
                  ),
                ),
              ),
            ),
          ),
        ),
      ),
    ),
  ),
)

terms_fit : (least : ℕ) → RowsFit (Fits (symbol.term least)) (term_rows least)
terms_fit least = (
  λ at t ft ops c. let n : not_level ≤ term_level t = ft.1 (omega arith) in chained least operand_level (not_term at t) ops (ft.0, n) least_operand c,
  begins_fit SpineFits (Fits (symbol.term least)) operand_rows (symbol.operators least operand_level ∷ []) (λ s ops. chain (applied s.head s.arguments) ops)
      operands_fit
      (λ s f ops c. let a : Operand (applied s.head s.arguments) = apply_fits s.head s.arguments f.0 f.1 in
      let r = chained least operand_level (applied s.head s.arguments) ops a.0 a.1 c in (r.0, λ e. r.1 (omega (arith, a.1, e)))),
)

arguments_fit : RowsFit (All Operand) argument_rows
arguments_fit = begins_fit SpineFits (All Operand) operand_rows [] (λ s. s.head ∷ s.arguments) operands_fit (λ s f. f)

operators_fit : (least left : ℕ) → RowsFit (Chained least left) (operator_rows least left)
operators_fit least left = (
  λ o e t ft more c. let r : (least ≤ op_level o)
      × (left_of o ≤ left) = taken_level least left o e in (r.0, r.1, ft.0, ft.1 (right_at_most o), c),
  tt,
)

group_end_fits : RowsFit (Fits symbol.group_end) group_end_rows
group_end_fits = (λ at ts g. (tt, g), (λ at ty fty _ _ ts g. (fty.0, g), tt))

-- The rows behind names in a parenthesis, in four parts.
module _ (at : ℕ) (before : List Ident) (x : Ident) where
  abbrev named : Bool → List (Row Spine)
  named b =
      on_one_part (λ y. then (symbol.group_names at (before ++ (x ∷ [])) y ∷ []) (λ s. s)) ∷
      on_word words.Underscore (λ p. then (symbol.group_names at (before ++ (x ∷ [])) (underscore_at p) ∷ []) (λ s. s)) ∷
      on_word words.Colon (λ _. then (symbol.term 0 ∷ symbol.group_close ∷ []) (close_of at before x)) ∷
      name_levels_rows b at before x

  abbrev argued : List (Row Spine)
  argued = begins_as argument_rows (symbol.operators 0 operand_level ∷ symbol.group_end ∷ []) (λ ts ops e. group_of at (names_spine before x []) ts ops e)

  abbrev operated : List (Row Spine)
  operated = begins_as (operator_rows 0 operand_level) (symbol.group_end ∷ []) (λ ops e. group_of at (names_spine before x []) [] ops e)

  abbrev closed : List (Row Spine)
  closed = begins_as group_end_rows [] (λ e. group_of at (names_spine before x []) [] [] e)

  named_fit : (b : Bool) → RowsFit SpineFits (named b)
  named_fit true = (λ y s f. f, (λ p s f. f, (λ p ty fty e fe. close_fits at before x ty e fty.0 fe, tt)))
  named_fit false = (
    λ y s f. f,
    (
      λ p s f. f,
      (
        λ p ty fty e fe. close_fits at before x ty e fty.0 fe,
        (λ p l _ ls _ ts g ops c e fe. group_fits at (names_spine before x (l ∷ ls)) ts ops e (names_fit before x (l ∷ ls)) g c fe, tt),
      ),
    ),
  )

  argued_fit : RowsFit SpineFits argued
  argued_fit = begins_fit (All Operand) SpineFits argument_rows (symbol.operators 0 operand_level ∷ symbol.group_end ∷ [])
      (λ ts ops e. group_of at (names_spine before x []) ts ops e)
      arguments_fit (λ ts g ops c e fe. group_fits at (names_spine before x []) ts ops e (names_fit before x []) g c fe)

  operated_fit : RowsFit SpineFits operated
  operated_fit = begins_fit (Chained 0 operand_level) SpineFits (operator_rows 0 operand_level) (symbol.group_end ∷ [])
      (λ ops e. group_of at (names_spine before x []) [] ops e)
      (operators_fit 0 operand_level) (λ ops c e fe. group_fits at (names_spine before x []) [] ops e (names_fit before x []) tt c fe)

  closed_fit : RowsFit SpineFits closed
  closed_fit = begins_fit (Fits symbol.group_end) SpineFits group_end_rows [] (λ e. group_of at (names_spine before x []) [] [] e)
      group_end_fits (λ e fe. group_fits at (names_spine before x []) [] [] e (names_fit before x []) tt tt fe)

  group_names_fit : (b : Bool) → RowsFit SpineFits (group_names_rows_by b at before x)
  group_names_fit b =
      append_fit SpineFits (named b ++ argued ++ operated) closed
      (append_fit SpineFits (named b ++ argued) operated (append_fit SpineFits (named b) argued (named_fit b) argued_fit) operated_fit) closed_fit

implicit_fits : (at : ℕ) (xs : List Ident) (ty : Option TermTree) → IfAny Leveled ty → LambdaLeveled (implicit_binder at xs ty)
implicit_fits at xs None h = tt
implicit_fits at xs (Some ty) h = h

defined_fits : (d : Decl) (b : DefBody) → DeclLeveled d → BodyFits b → CommandLeveled (defined d b)
defined_fits d (by_value v hs) f g = (f, g.0, g.1)
defined_fits d (by_alternatives more) f g = (f, g)

unnamed_fits : (at : ℕ) (h : TermTree) (ts : List TermTree) (ops : List (Op × TermTree)) → Operand h → All Operand ts → Chained 0 operand_level ops →
    GroupLeveled (unnamed at (chain (applied h ts) ops))
unnamed_fits at h ts ops f g c = let a : Operand (applied h ts) = apply_fits h ts f g in (chained 0 operand_level (applied h ts) ops a.0 a.1 c).0

-- The rows behind a name in a bracket.
module _ (at : ℕ) (x : Ident) where
  abbrev first : List (Row Binders)
  first =
      on_word words.Colon (λ _. then (symbol.term 0 ∷ symbol.token words.RightBracket ∷ []) (λ ty _. binders_at at Inst (x ∷ []) ty)) ∷
      on_word words.RightBracket (λ _. then [] (unnamed at (name_term x []))) ∷
      begins_as written_levels_rows (symbol.arguments ∷ symbol.operators 0 operand_level ∷ symbol.token words.RightBracket ∷ [])
      (λ ls ts ops _. unnamed at (chain (applied (name_term x ls) ts) ops))

  abbrev argued_bracket : List (Row Binders)
  argued_bracket = begins_as argument_rows (symbol.operators 0 operand_level ∷ symbol.token words.RightBracket ∷ [])
      (λ ts ops _. unnamed at (chain (applied (name_term x []) ts) ops))

  abbrev operated_bracket : List (Row Binders)
  operated_bracket = begins_as (operator_rows 0 operand_level) (symbol.token words.RightBracket ∷ []) (λ ops _. unnamed at (chain (name_term x []) ops))

  first_fit : RowsFit GroupLeveled first
  first_fit = (
    λ p ty fty _ _. fty.0,
    (λ p. (name_fits x []).0, (λ p l _ ls _ ts g ops c _ _. unnamed_fits at (name_term x (l ∷ ls)) ts ops (name_fits x (l ∷ ls)) g c, tt)),
  )

  argued_bracket_fit : RowsFit GroupLeveled argued_bracket
  argued_bracket_fit = begins_fit (All Operand) GroupLeveled argument_rows (symbol.operators 0 operand_level ∷ symbol.token words.RightBracket ∷ [])
      (λ ts ops _. unnamed at (chain (applied (name_term x []) ts) ops))
      arguments_fit (λ ts g ops c _ _. unnamed_fits at (name_term x []) ts ops (name_fits x []) g c)

  operated_bracket_fit : RowsFit GroupLeveled operated_bracket
  operated_bracket_fit = begins_fit (Chained 0 operand_level) GroupLeveled (operator_rows 0 operand_level) (symbol.token words.RightBracket ∷ [])
      (λ ops _. unnamed at (chain (name_term x []) ops))
      (operators_fit 0 operand_level) (λ ops c _ _. unnamed_fits at (name_term x []) [] ops (name_fits x []) tt c)

  bracket_name_fit : RowsFit GroupLeveled (bracket_name_rows at x)
  bracket_name_fit =
      append_fit GroupLeveled (first ++ argued_bracket) operated_bracket (append_fit GroupLeveled first argued_bracket first_fit argued_bracket_fit)
      operated_bracket_fit

all_fit : (x : Symbol) → RowsFit (Fits x) (rows x)
all_fit symbol.command = (
  λ at x _ ls _ bs fbs _ _ ty fty.
      (fbs, fty.0),
  (
    λ at x _ ls _ bs fbs d fd. defined_fits (decl_of at x ls bs d.ty) d.body (fbs, fd.0) fd.1,
    (
      λ at x _ ls _ bs fbs _ _ ty fty _ _ v fv hs fhs.
          ((fbs, fty.0), fv.0, fhs),
      (
        λ at x _ ls _ bs fbs ty fty _ _ cs fcs.
            ((fbs, fty), fcs),
        (
          λ at x _ ls _ bs fbs ty fty fs ffs.
              ((fbs, fty), ffs),
          (
            λ at x _ ls _ bs fbs ty fty fs ffs.
                ((fbs, fty), ffs),
            (
              λ at x _ ls _ bs fbs _ _ ty fty _ _ v fv.
                  ((fbs, fty.0), fv.0),
              (
                λ at x _. tt,
                (
                  λ at x _.
                      tt,
                  (
                    λ at x _. tt,
                    (
                      λ at x _ xs _. tt,
                      (
                        λ at x _ xs _.
                            tt,
                        (λ at b fb bs fbs. (fb, fbs), (λ at t ft. ft.0, (λ at t ft. ft.0, (λ at _ _ x _. tt, tt)))),
                      ),
                    ),
                  ),
                ),
              ),
            ),
          ),
        ),
      ),
    ),
  ),
)
all_fit (symbol.token w) = (λ at. tt, tt)
all_fit symbol.arrow_token = (λ o e. tt, tt)
all_fit symbol.number_token = (λ n. tt, tt)
all_fit symbol.any_name = (λ x. tt, tt)
all_fit symbol.one_part = (λ x. tt, tt)
all_fit symbol.binder_name = (λ x. tt, (λ at. tt, tt))
all_fit symbol.optional_name = (λ x. tt, tt)
all_fit symbol.any_names = (λ x xs _. tt, tt)
all_fit symbol.one_parts = (λ x xs _. tt, tt)
all_fit symbol.binder_names = (λ x xs _. tt, (λ at xs _. tt, tt))
all_fit symbol.level_names = (λ at x _ xs _. tt, tt)
all_fit symbol.more_level_names = (λ at x _ xs _. tt, (λ at. tt, tt))
all_fit symbol.binder = (λ at x _ xs _ _ _ ty fty _ _. fty.0, (λ at x _ xs _ _ _ ty fty _ _. fty.0, (λ at b fb. fb, tt)))
all_fit symbol.parameters = (
  λ at x _ xs _ _ _ ty fty _ _ bs fbs.
      (fty.0, fbs),
  (λ at x _ xs _ _ _ ty fty _ _ bs fbs. (fty.0, fbs), (λ at b fb bs fbs. (fb, fbs), tt)),
)
all_fit symbol.lambda_binder = (
  λ at x _ xs _ _ _ ty fty _ _.
      fty.0,
  (λ at x _ xs _ ty fty. implicit_fits at (x ∷ xs) ty fty, (λ at b fb. fb, (λ x. tt, (λ at. tt, tt)))),
)
all_fit symbol.lambda_binders = (
  λ at x _ xs _ _ _ ty fty _ _ bs fbs. (fty.0, fbs),
  (
    λ at x _ xs _ ty fty bs fbs. (implicit_fits at (x ∷ xs) ty fty, fbs),
    (λ at b fb bs fbs. (fb, fbs), (λ x bs fbs. (tt, fbs), (λ at bs fbs. (tt, fbs), tt))),
  ),
)
all_fit symbol.implicit_end = (λ at ty fty _ _. fty.0, (λ at. tt, tt))
all_fit (symbol.bracket at) = (
  λ x b fb. fb,
  begins_fit (Fits (symbol.term 0)) GroupLeveled (term_rows 0) (symbol.token words.RightBracket ∷ []) (λ ty _. unnamed at ty) (terms_fit 0)
      (λ ty fty _ _. fty.0),
)
all_fit (symbol.bracket_name at x) = bracket_name_fit at x
all_fit symbol.def_rest = (λ at ty fty d fd. (fty.0, fd), (λ at v fv. (tt, (fv.0, tt)), tt))
all_fit symbol.def_body = (λ at v fv hs fhs. (fv.0, fhs), (λ at p _ _ _ t ft more fmore. (ft.0, fmore), tt))
all_fit symbol.fields_option = (λ at _ _ f ff fs ffs. (ff, ffs), tt)
all_fit symbol.field = (λ x xs _ _ _ ty fty. fty.0, tt)
all_fit symbol.more_fields = (λ at f ff fs ffs. (ff, ffs), (λ at f ff fs ffs. (ff, ffs), (λ at. tt, tt)))
all_fit symbol.axioms_word = (λ x. tt, tt)
all_fit symbol.alternatives = (λ at p _ _ _ t ft more fmore. (ft.0, fmore), tt)
all_fit symbol.pattern = (λ at. tt, (λ x p _. tt, (λ x xs _. tt, tt)))
all_fit (symbol.pattern_rest x) = (λ o e _ _. tt, (λ y ys _. tt, (λ at ys _. tt, tt)))
all_fit symbol.numeral_one = (λ at. tt, tt)
all_fit symbol.type_option = (λ at ty fty. fty.0, tt)
all_fit symbol.where_option = (λ at. tt, tt)
all_fit symbol.ctors = (λ at x _ bs fbs ty fty cs fcs. ((fbs, fty), fcs), tt)
all_fit symbol.helpers = (λ at _ _ h fh hs fhs. (fh, fhs), tt)
all_fit symbol.helper = (λ x bs fbs _ _ ty fty _ _ v fv. (fbs, fty.0, fv.0), tt)
all_fit symbol.more_helpers = (λ at h fh hs fhs. (fh, fhs), (λ at h fh hs fhs. (fh, fhs), (λ at. tt, tt)))
all_fit (symbol.term least) = terms_fit least
all_fit symbol.arguments = arguments_fit
all_fit (symbol.operators least left) = operators_fit least left
all_fit (symbol.group at) = (
  λ x s f. f,
  (
    λ p s f. f,
    begins_fit (Fits (symbol.term 0)) SpineFits (term_rows 0) (symbol.group_end ∷ []) (λ t e. with_arguments (paren at t (option_of e.ty)) e.arguments)
        (terms_fit 0)
        (λ t ft e fe. (((ft.0, option_fits e.ty fe.0), least_operand), fe.1)),
  ),
)
all_fit (symbol.group_names at before x) = group_names_fit at before x (is_underscore x.name)
all_fit symbol.group_end = group_end_fits
all_fit symbol.group_close = (λ at e f. f, tt)
all_fit symbol.binder_end = (λ o e t ft. ft.0, begins_fit (All Operand) EndFits argument_rows [] arguments_to arguments_fit (λ ts f. f))
all_fit symbol.written_levels = (λ at l _ ls _. tt, tt)
all_fit symbol.more_levels = (λ at l _ ls _. tt, (λ at. tt, tt))
all_fit symbol.level = (λ n m _. tt, (λ x l _. tt, (λ x l _. tt, (λ x m _. tt, (λ at l _ _ _ m _. tt, tt)))))
all_fit symbol.plus_option = (λ o e n _. tt, tt)
all_fit symbol.level_atom = (λ n. tt, (λ x. tt, (λ at l _ _ _. tt, tt)))
all_fit symbol.level_atoms = (λ n ls _. tt, (λ x ls _. tt, (λ at l _ _ _ ls _. tt, tt)))
all_fit (symbol.max_rest x) = (λ o e n _. tt, (λ n l _ ls _. tt, (λ y l _ ls _. tt, (λ at k _ _ _ l _ ls _. tt, tt))))
all_fit (symbol.imax_rest x) = (λ o e n _. tt, (λ n l _. tt, (λ y l _. tt, (λ at k _ _ _ l _. tt, tt))))
all_fit symbol.block = (λ at i f items fs. (f, fs), tt)
all_fit symbol.more_items = (λ at i f items fs. (f, fs), (λ at i f items fs. (f, fs), (λ at. tt, tt)))
all_fit symbol.item = (
  λ at items f. items_fit items f,
  (
    λ x t ft. ft.0,
    (
      λ x y _ ys _. tt,
      (
        λ x t ft. ft.0,
        (
          λ x. tt,
          (
            λ x. tt,
            (
              λ x _ _ r fr rs frs. (fr, rules_fit rs frs),
              (λ x y _. tt, (λ x y _ _ _ ty fty _ _ t ft. (fty.0, ft.0), (λ x y _. tt, (λ x y _. tt, (λ x y _. tt, (λ at. tt, tt)))))),
            ),
          ),
        ),
      ),
    ),
  ),
)
all_fit symbol.rw_rule = (
  λ at t ft. ft.0,
  begins_fit (Fits (symbol.term 0)) RuleLeveled (term_rows 0) [] (λ t. rule (place t) false t) (terms_fit 0)
      (λ t ft. ft.0),
)
all_fit symbol.more_rules = (λ at r fr rs frs. (fr, frs), (λ at. tt, tt))

some_is : {A : Type 0} (P : A → Type 0) (a b : A) → ◌≡◌ {A = Option A} (Some a) (Some b) → P a → P b
some_is P a b e h = let f : a ≡ b = cc in subst P f h

left_out_fits : (x : Symbol) (v : Tree x) → without x ≡ Some v → Fits x v
left_out_fits symbol.parameters v e = some_is (All GroupLeveled) [] v e tt
left_out_fits symbol.lambda_binders v e = some_is (All LambdaLeveled) [] v e tt
left_out_fits symbol.type_option v e = some_is (IfAny Leveled) None v e tt
left_out_fits symbol.ctors v e = some_is (All CtorLeveled) [] v e tt
left_out_fits symbol.fields_option v e = some_is (All FieldLeveled) [] v e tt
left_out_fits symbol.alternatives v e = some_is (All AlternativeLeveled) [] v e tt
left_out_fits (symbol.bracket at) v e = cc
left_out_fits (symbol.bracket_name at x) v e = cc
left_out_fits symbol.def_body v e = cc
left_out_fits symbol.field v e = cc
left_out_fits symbol.more_fields v e = cc
left_out_fits symbol.helpers v e = some_is (All HelperLeveled) [] v e tt
left_out_fits symbol.arguments v e = some_is (All Operand) [] v e tt
left_out_fits (symbol.operators least left) v e = some_is (Chained least left) [] v e tt
left_out_fits symbol.binder_end v e = some_is EndFits (arguments_to []) v e tt
left_out_fits symbol.command v e = cc
left_out_fits symbol.binder v e = cc
left_out_fits symbol.lambda_binder v e = cc
left_out_fits symbol.implicit_end v e = cc
left_out_fits symbol.def_rest v e = cc
left_out_fits symbol.more_helpers v e = cc
left_out_fits symbol.helper v e = cc
left_out_fits (symbol.term least) v e = cc
left_out_fits (symbol.group at) v e = cc
left_out_fits (symbol.group_names at before x) v e = cc
left_out_fits symbol.group_end v e = cc
left_out_fits symbol.group_close v e = cc
left_out_fits symbol.block v e = cc
left_out_fits symbol.more_items v e = cc
left_out_fits symbol.item v e = cc
left_out_fits symbol.rw_rule v e = cc
left_out_fits symbol.more_rules v e = cc
left_out_fits _ v e = tt

reads_fit : {A : Type 0} (P : A → Type 0) {xs : List Symbol} {ts rest : List Piece} (d : Reads grammar xs ts rest) (f : Takes Tree xs A) → Given P xs f
    → P (tree d f)
reads_fit P nothing f h = h
reads_fit P (left_out {x} v e q d) f h = reads_fit P d (f v) (h v (left_out_fits x v e))
reads_fit P (taken {x} t p e b d) f h =
    let v : Tree x = tree b p.build in
    reads_fit P d (f v) (h v (reads_fit (Fits x) b p.build
    (found (λ (q : Prod (Tree x)). Given (Fits x) q.body q.build) (rows x) t.class t.at p (all_fit x) e)))

pub levels_kept : LevelsKept
levels_kept ts c d = subst CommandLeveled d.same (reads_fit CommandLeveled d.reads (λ v. v) (λ v h. h))
