-- More worked texts, so that each row of the grammar's table is used. The trees are those that docs/language.md says.
use Rattle.std.specs.Prelude.{ℕ, List, [], ◌∷◌, Option, Some, None, true, false, codes, drop}
use Rattle.lf_name.specs.declared.binder.BinderKind.{BinderKind}
use Rattle.lf_name.specs.declared.binder.BinderKind.TheVariants.{Explicit, Implicit, Inst}
use Rattle.lf_text.specs.declared.operator.Op.TheVariants.{Iff, Arrow, Or, And, Eq, Ne, Add, Sub, Mul, Div, Mod}
use Rattle.lf_syntax.specs.declared.leaf.Ident.{Ident}
use Rattle.lf_syntax.specs.declared.leaf.Num.{Num}
use Rattle.lf_syntax.specs.Tree.{level_number, level_name, level_plus, level_max, level_imax, levels_of, TermTree, ident, numeral, hole, sorry_term, prop, type_u, sort_u, paren, no_term, some_term, app, oper, not_term, fun_term, forall_term, let_term, by_term, arrow, binders, plain, typed, implicit, terms_of as terms, binders_of as lambdas, items_of as items, rules_of as rules, block, exact, intro, apply, rfl, assumption_item, rw_item, unfold_item, have_item, induction, cases, injection, sorry_item, rule}
use Rattle.lf_syntax.specs.declared.term.Binders.{Binders}
use Rattle.lf_syntax.specs.declared.command.Decl.{Decl}
use Rattle.lf_syntax.specs.declared.command.Helper.{Helper}
use Rattle.lf_syntax.specs.declared.command.CtorDecl.{CtorDecl}
use Rattle.lf_syntax.specs.declared.command.FieldDecl.{FieldDecl}
use Rattle.lf_syntax.specs.declared.pattern.Alternative.{Alternative}
use Rattle.lf_syntax.specs.declared.pattern.Pattern.{Pattern}
use Rattle.lf_syntax.specs.declared.pattern.Pattern.TheVariants.{Constructor, Zero, Successor}
use Rattle.lf_syntax.specs.declared.command.Command.TheVariants.{Axiom, Def, Equations, Theorem, Inductive, Structure, Class, Instance, Namespace, Section, End, OpenNames, Universe, Variable, Check, Reduce, PrintAxioms}
use Rattle.lf_syntax.specs.Grammar.{is_command, is_bad, is_short}
use Rattle.lf_grammar_laws.specs.Worked.{Text, text, Right}

abbrev id : ℕ → List ℕ → Ident
id at w = record { at = at; name = w ∷ [] }

abbrev long : ℕ → List ℕ → List ℕ → Ident
long at w v = record { at = at; name = w ∷ v ∷ [] }

abbrev num : ℕ → ℕ → Num
num at n = record { at = at; value = n }

abbrev v : ℕ → List ℕ → TermTree
v at w = ident at false (id at w) []

abbrev binder : ℕ → BinderKind → List Ident → TermTree → Binders
binder at k xs ty = record { at = at; kind = k; names = xs; ty = ty }

abbrev decl : ℕ → Ident → List Ident → List Binders → Option TermTree → Decl
decl at x ls bs ty = record { at = at; name = x; levels = ls; binders = bs; ty = ty }

abbrev helper : ℕ → Ident → List Binders → TermTree → TermTree → Helper
helper at x bs ty t = record { at = at; name = x; binders = bs; ty = ty; value = t }

abbrev ctor : ℕ → Ident → List Binders → Option TermTree → CtorDecl
ctor at x bs ty = record { at = at; name = x; binders = bs; ty = ty }

abbrev field : ℕ → List Ident → TermTree → FieldDecl
field at xs ty = record { at = at; names = xs; ty = ty }

abbrev alternative : ℕ → Pattern → TermTree → Alternative
alternative at p t = record { at = at; pattern = p; term = t }

-- Arguments, each kind of them.

abbrev pub argument_1 : Text
argument_1 =
    text "#check f x.y @x 1 _ sorry Prop (z) Type Sort"
    (λ tokens. is_command (Check 0 (app 7 (v 7 (codes "f")) (terms ((ident 9 false (long 9 (codes "x") (codes "y")) []) ∷ (ident 13 true
    (id 14 (codes "x")) []) ∷ (numeral (num 16 1)) ∷ (hole 18) ∷ (sorry_term 20) ∷ (prop 26) ∷ (paren 31 (v 32 (codes "z"))
    no_term) ∷ (type_u 35 None) ∷ (sort_u 40 None) ∷ [])))))

abbrev pub argument_2 : Text
argument_2 =
    text "#check f @x.{u} Type 1 Sort u fun a b => c"
    (λ tokens. is_command (Check 0 (app 7 (v 7 (codes "f")) (terms ((ident 9 true (id 10 (codes "x")) ((level_name (id 13 (codes "u"))) ∷
    [])) ∷ (type_u 16 (Some (level_number (num 21 1)))) ∷ (sort_u 23 (Some (level_name (id 28 (codes "u"))))) ∷ (fun_term 30
    (lambdas ((plain (id 34 (codes "a"))) ∷ (plain (id 36 (codes "b"))) ∷ [])) (v 41 (codes "c"))) ∷ [])))))

abbrev pub argument_3 : Text
argument_3 =
    text "#check f (@g fun x => a) (@g ∀ x, a) (@g let x := 1; a) (@g by rfl) (@g {x : A} → B) (@g [C] → B)"
    (λ tokens. is_command (Check 0 (app 7 (v 7 (codes "f")) (terms ((paren 9 (app 10 (ident 10 true (id 11 (codes "g")) []) (terms
    ((fun_term 13 (lambdas ((plain (id 17 (codes "x"))) ∷ [])) (v 22 (codes "a"))) ∷ []))) no_term) ∷ (paren 25 (app 26 (ident
    26 true (id 27 (codes "g")) []) (terms ((forall_term 29 (lambdas ((plain (id 33 (codes "x"))) ∷ [])) (v 36 (codes "a"))) ∷
    []))) no_term) ∷ (paren 39 (app 40 (ident 40 true (id 41 (codes "g")) []) (terms ((let_term 43 (id 47 (codes "x")) no_term
    (numeral (num 52 1)) (v 55 (codes "a"))) ∷ []))) no_term) ∷ (paren 58 (app 59 (ident 59 true (id 60 (codes "g")) []) (terms
    ((by_term 62 (items ((rfl 65) ∷ []))) ∷ []))) no_term) ∷ (paren 70 (app 71 (ident 71 true (id 72 (codes "g")) []) (terms
    ((arrow 74 (binders 74 Implicit ((id 75 (codes "x")) ∷ []) (v 79 (codes "A"))) (v 86 (codes "B"))) ∷ []))) no_term) ∷ (paren
    89 (app 90 (ident 90 true (id 91 (codes "g")) []) (terms ((arrow 93 (binders 93 Inst ((id 93 (codes "inst")) ∷ []) (v 94
    (codes "C"))) (v 101 (codes "B"))) ∷ []))) no_term) ∷ [])))))

abbrev pub argument_4 : Text
argument_4 =
    text "#check f (g x.y) (g @x) (g 1) (g sorry) (g Prop) (g Type) (g Sort) (g (x)) (g x : T) (g.{u} x) (g + 1) (g)"
    (λ tokens. is_command (Check 0 (app 7 (v 7 (codes "f")) (terms ((paren 9 (app 10 (v 10 (codes "g")) (terms ((ident 12 false (long 12
    (codes "x") (codes "y")) []) ∷ []))) no_term) ∷ (paren 17 (app 18 (v 18 (codes "g")) (terms ((ident 20 true (id 21 (codes
    "x")) []) ∷ []))) no_term) ∷ (paren 24 (app 25 (v 25 (codes "g")) (terms ((numeral (num 27 1)) ∷ []))) no_term) ∷ (paren 30
    (app 31 (v 31 (codes "g")) (terms ((sorry_term 33) ∷ []))) no_term) ∷ (paren 40 (app 41 (v 41 (codes "g")) (terms ((prop 43)
    ∷ []))) no_term) ∷ (paren 49 (app 50 (v 50 (codes "g")) (terms ((type_u 52 None) ∷ []))) no_term) ∷ (paren 58 (app 59 (v 59
    (codes "g")) (terms ((sort_u 61 None) ∷ []))) no_term) ∷ (paren 67 (app 68 (v 68 (codes "g")) (terms ((paren 70 (v 71 (codes
    "x")) no_term) ∷ []))) no_term) ∷ (paren 75 (app 76 (v 76 (codes "g")) (terms ((v 78 (codes "x")) ∷ []))) (some_term (v 82
    (codes "T")))) ∷ (paren 85 (app 86 (ident 86 false (id 86 (codes "g")) ((level_name (id 89 (codes "u"))) ∷ [])) (terms ((v
    92 (codes "x")) ∷ []))) no_term) ∷ (paren 95 (oper 96 Add (v 96 (codes "g")) (numeral (num 100 1))) no_term) ∷ (paren 103 (v
    104 (codes "g")) no_term) ∷ [])))))

abbrev pub argument_5 : Text
argument_5 =
    text "#check f (g fun x => a) (g ∀ x, a) (g let x := 1; a) (g by rfl) (g {x : A} → B) (g [C] → B)"
    (λ tokens. is_command (Check 0 (app 7 (v 7 (codes "f")) (terms ((paren 9 (app 10 (v 10 (codes "g")) (terms ((fun_term 12 (lambdas
    ((plain (id 16 (codes "x"))) ∷ [])) (v 21 (codes "a"))) ∷ []))) no_term) ∷ (paren 24 (app 25 (v 25 (codes "g")) (terms
    ((forall_term 27 (lambdas ((plain (id 31 (codes "x"))) ∷ [])) (v 34 (codes "a"))) ∷ []))) no_term) ∷ (paren 37 (app 38 (v 38
    (codes "g")) (terms ((let_term 40 (id 44 (codes "x")) no_term (numeral (num 49 1)) (v 52 (codes "a"))) ∷ []))) no_term) ∷
    (paren 55 (app 56 (v 56 (codes "g")) (terms ((by_term 58 (items ((rfl 61) ∷ []))) ∷ []))) no_term) ∷ (paren 66 (app 67 (v 67
    (codes "g")) (terms ((arrow 69 (binders 69 Implicit ((id 70 (codes "x")) ∷ []) (v 74 (codes "A"))) (v 81 (codes "B"))) ∷
    []))) no_term) ∷ (paren 84 (app 85 (v 85 (codes "g")) (terms ((arrow 87 (binders 87 Inst ((id 87 (codes "inst")) ∷ []) (v 88
    (codes "C"))) (v 95 (codes "B"))) ∷ []))) no_term) ∷ [])))))

abbrev pub argument_6 : Text
argument_6 =
    text "#check f (_ x.y) (_ @x) (_ 1) (_ sorry) (_ Prop) (_ Type) (_ Sort) (_ (x)) (_ : T) (_ + 1) (_) (_ _)"
    (λ tokens. is_command (Check 0 (app 7 (v 7 (codes "f")) (terms ((paren 9 (app 10 (hole 10) (terms ((ident 12 false (long 12 (codes "x")
    (codes "y")) []) ∷ []))) no_term) ∷ (paren 17 (app 18 (hole 18) (terms ((ident 20 true (id 21 (codes "x")) []) ∷ [])))
    no_term) ∷ (paren 24 (app 25 (hole 25) (terms ((numeral (num 27 1)) ∷ []))) no_term) ∷ (paren 30 (app 31 (hole 31) (terms
    ((sorry_term 33) ∷ []))) no_term) ∷ (paren 40 (app 41 (hole 41) (terms ((prop 43) ∷ []))) no_term) ∷ (paren 49 (app 50 (hole
    50) (terms ((type_u 52 None) ∷ []))) no_term) ∷ (paren 58 (app 59 (hole 59) (terms ((sort_u 61 None) ∷ []))) no_term) ∷
    (paren 67 (app 68 (hole 68) (terms ((paren 70 (v 71 (codes "x")) no_term) ∷ []))) no_term) ∷ (paren 75 (hole 76) (some_term
    (v 80 (codes "T")))) ∷ (paren 83 (oper 84 Add (hole 84) (numeral (num 88 1))) no_term) ∷ (paren 91 (hole 92) no_term) ∷
    (paren 95 (app 96 (hole 96) (terms ((hole 98) ∷ []))) no_term) ∷ [])))))

abbrev pub argument_7 : Text
argument_7 =
    text "#check f (_ fun x => a) (_ ∀ x, a) (_ let x := 1; a) (_ by rfl) (_ {x : A} → B) (_ [C] → B)"
    (λ tokens. is_command (Check 0 (app 7 (v 7 (codes "f")) (terms ((paren 9 (app 10 (hole 10) (terms ((fun_term 12 (lambdas ((plain (id 16
    (codes "x"))) ∷ [])) (v 21 (codes "a"))) ∷ []))) no_term) ∷ (paren 24 (app 25 (hole 25) (terms ((forall_term 27 (lambdas
    ((plain (id 31 (codes "x"))) ∷ [])) (v 34 (codes "a"))) ∷ []))) no_term) ∷ (paren 37 (app 38 (hole 38) (terms ((let_term 40
    (id 44 (codes "x")) no_term (numeral (num 49 1)) (v 52 (codes "a"))) ∷ []))) no_term) ∷ (paren 55 (app 56 (hole 56) (terms
    ((by_term 58 (items ((rfl 61) ∷ []))) ∷ []))) no_term) ∷ (paren 66 (app 67 (hole 67) (terms ((arrow 69 (binders 69 Implicit
    ((id 70 (codes "x")) ∷ []) (v 74 (codes "A"))) (v 81 (codes "B"))) ∷ []))) no_term) ∷ (paren 84 (app 85 (hole 85) (terms
    ((arrow 87 (binders 87 Inst ((id 87 (codes "inst")) ∷ []) (v 88 (codes "C"))) (v 95 (codes "B"))) ∷ []))) no_term) ∷ [])))))

abbrev pub argument_8 : Text
argument_8 =
    text "#check f (x y _ z : T) (x _ 1 : T) (x y.{u} + 1 : T) (x.{u} y) (x.{u} = 1) (x y) z"
    (λ tokens. is_command (Check 0 (app 7 (v 7 (codes "f")) (terms ((paren 9 (app 10 (v 10 (codes "x")) (terms ((v 12 (codes "y")) ∷ (hole
    14) ∷ (v 16 (codes "z")) ∷ []))) (some_term (v 20 (codes "T")))) ∷ (paren 23 (app 24 (v 24 (codes "x")) (terms ((hole 26) ∷
    (numeral (num 28 1)) ∷ []))) (some_term (v 32 (codes "T")))) ∷ (paren 35 (oper 36 Add (app 36 (v 36 (codes "x")) (terms
    ((ident 38 false (id 38 (codes "y")) ((level_name (id 41 (codes "u"))) ∷ [])) ∷ []))) (numeral (num 46 1))) (some_term (v 50
    (codes "T")))) ∷ (paren 53 (app 54 (ident 54 false (id 54 (codes "x")) ((level_name (id 57 (codes "u"))) ∷ [])) (terms ((v
    60 (codes "y")) ∷ []))) no_term) ∷ (paren 63 (oper 64 Eq (ident 64 false (id 64 (codes "x")) ((level_name (id 67 (codes
    "u"))) ∷ [])) (numeral (num 72 1))) no_term) ∷ (paren 75 (app 76 (v 76 (codes "x")) (terms ((v 78 (codes "y")) ∷ [])))
    no_term) ∷ (v 81 (codes "z")) ∷ [])))))

-- What a term begins with.

abbrev pub head_1 : Text
head_1 =
    text "#check x.y → @x → 1 → _ → sorry → Prop → Type → Sort → (x) → ¬ a → fun x => b"
    (λ tokens. is_command (Check 0 (oper 7 Arrow (ident 7 false (long 7 (codes "x") (codes "y")) []) (oper 15 Arrow (ident 15 true (id 16
    (codes "x")) []) (oper 22 Arrow (numeral (num 22 1)) (oper 28 Arrow (hole 28) (oper 34 Arrow (sorry_term 34) (oper 44 Arrow
    (prop 44) (oper 53 Arrow (type_u 53 None) (oper 62 Arrow (sort_u 62 None) (oper 71 Arrow (paren 71 (v 72 (codes "x"))
    no_term) (oper 79 Arrow (not_term 79 (v 82 (codes "a"))) (fun_term 88 (lambdas ((plain (id 92 (codes "x"))) ∷ [])) (v 97
    (codes "b")))))))))))))))

abbrev pub head_2 : Text
head_2 =
    text "#check f (1 : ∀ x, a) (1 : let x := 1; a) (1 : by rfl) (1 : {x : A} → B) (1 : [C] → B) (1 : (x : A) → B) (1 : fun x => b)"
    (λ tokens. is_command (Check 0 (app 7 (v 7 (codes "f")) (terms ((paren 9 (numeral (num 10 1)) (some_term (forall_term 14 (lambdas
    ((plain (id 18 (codes "x"))) ∷ [])) (v 21 (codes "a"))))) ∷ (paren 24 (numeral (num 25 1)) (some_term (let_term 29 (id 33
    (codes "x")) no_term (numeral (num 38 1)) (v 41 (codes "a"))))) ∷ (paren 44 (numeral (num 45 1)) (some_term (by_term 49
    (items ((rfl 52) ∷ []))))) ∷ (paren 57 (numeral (num 58 1)) (some_term (arrow 62 (binders 62 Implicit ((id 63 (codes "x")) ∷
    []) (v 67 (codes "A"))) (v 74 (codes "B"))))) ∷ (paren 77 (numeral (num 78 1)) (some_term (arrow 82 (binders 82 Inst ((id 82
    (codes "inst")) ∷ []) (v 83 (codes "C"))) (v 90 (codes "B"))))) ∷ (paren 93 (numeral (num 94 1)) (some_term (arrow 98
    (binders 98 Explicit ((id 99 (codes "x")) ∷ []) (v 103 (codes "A"))) (v 110 (codes "B"))))) ∷ (paren 113 (numeral (num 114
    1)) (some_term (fun_term 118 (lambdas ((plain (id 122 (codes "x"))) ∷ [])) (v 127 (codes "b"))))) ∷ [])))))

abbrev pub head_3 : Text
head_3 =
    text "#check f (¬ a) (x.y) (1) (sorry) (Prop) (Type) (Sort) ((x)) (@x) (x.y : T)"
    (λ tokens. is_command (Check 0 (app 7 (v 7 (codes "f")) (terms ((paren 9 (not_term 10 (v 13 (codes "a"))) no_term) ∷ (paren 16 (ident
    17 false (long 17 (codes "x") (codes "y")) []) no_term) ∷ (paren 22 (numeral (num 23 1)) no_term) ∷ (paren 26 (sorry_term
    27) no_term) ∷ (paren 34 (prop 35) no_term) ∷ (paren 41 (type_u 42 None) no_term) ∷ (paren 48 (sort_u 49 None) no_term) ∷
    (paren 55 (paren 56 (v 57 (codes "x")) no_term) no_term) ∷ (paren 61 (ident 62 true (id 63 (codes "x")) []) no_term) ∷
    (paren 66 (ident 67 false (long 67 (codes "x") (codes "y")) []) (some_term (v 73 (codes "T")))) ∷ [])))))

abbrev pub head_4 : Text
head_4 =
    text "#check f (fun x => a) (∀ x, a) (let x := 1; a) (by rfl) ({x : A} → B) ([C] → B)"
    (λ tokens. is_command (Check 0 (app 7 (v 7 (codes "f")) (terms ((paren 9 (fun_term 10 (lambdas ((plain (id 14 (codes "x"))) ∷ [])) (v
    19 (codes "a"))) no_term) ∷ (paren 22 (forall_term 23 (lambdas ((plain (id 27 (codes "x"))) ∷ [])) (v 30 (codes "a")))
    no_term) ∷ (paren 33 (let_term 34 (id 38 (codes "x")) no_term (numeral (num 43 1)) (v 46 (codes "a"))) no_term) ∷ (paren 49
    (by_term 50 (items ((rfl 53) ∷ []))) no_term) ∷ (paren 58 (arrow 59 (binders 59 Implicit ((id 60 (codes "x")) ∷ []) (v 64
    (codes "A"))) (v 71 (codes "B"))) no_term) ∷ (paren 74 (arrow 75 (binders 75 Inst ((id 75 (codes "inst")) ∷ []) (v 76 (codes
    "C"))) (v 83 (codes "B"))) no_term) ∷ [])))))

abbrev pub head_5 : Text
head_5 =
    text "#check f ((x : A) y) ((x : A) @y) ((x : A) 1) ((x : A) _) ((x : A) sorry) ((x : A) Prop) ((x : A) Type) ((x : A) Sort) ((x : A) (y))"
    (λ tokens. is_command (Check 0 (app 7 (v 7 (codes "f")) (terms ((paren 9 (app 10 (paren 10 (v 11 (codes "x")) (some_term (v 15 (codes
    "A")))) (terms ((v 18 (codes "y")) ∷ []))) no_term) ∷ (paren 21 (app 22 (paren 22 (v 23 (codes "x")) (some_term (v 27 (codes
    "A")))) (terms ((ident 30 true (id 31 (codes "y")) []) ∷ []))) no_term) ∷ (paren 34 (app 35 (paren 35 (v 36 (codes "x"))
    (some_term (v 40 (codes "A")))) (terms ((numeral (num 43 1)) ∷ []))) no_term) ∷ (paren 46 (app 47 (paren 47 (v 48 (codes
    "x")) (some_term (v 52 (codes "A")))) (terms ((hole 55) ∷ []))) no_term) ∷ (paren 58 (app 59 (paren 59 (v 60 (codes "x"))
    (some_term (v 64 (codes "A")))) (terms ((sorry_term 67) ∷ []))) no_term) ∷ (paren 74 (app 75 (paren 75 (v 76 (codes "x"))
    (some_term (v 80 (codes "A")))) (terms ((prop 83) ∷ []))) no_term) ∷ (paren 89 (app 90 (paren 90 (v 91 (codes "x"))
    (some_term (v 95 (codes "A")))) (terms ((type_u 98 None) ∷ []))) no_term) ∷ (paren 104 (app 105 (paren 105 (v 106 (codes
    "x")) (some_term (v 110 (codes "A")))) (terms ((sort_u 113 None) ∷ []))) no_term) ∷ (paren 119 (app 120 (paren 120 (v 121
    (codes "x")) (some_term (v 125 (codes "A")))) (terms ((paren 128 (v 129 (codes "y")) no_term) ∷ []))) no_term) ∷ [])))))

abbrev pub head_6 : Text
head_6 =
    text "#check f ((x : A) fun x => a) ((x : A) ∀ x, a) ((x : A) let x := 1; a) ((x : A) by rfl) ((x : A) {x : A} → B) ((x : A) [C] → B) ((x : A) → B) ((x : A))"
    (λ tokens. is_command (Check 0 (app 7 (v 7 (codes "f")) (terms ((paren 9 (app 10 (paren 10 (v 11 (codes "x")) (some_term (v 15 (codes
    "A")))) (terms ((fun_term 18 (lambdas ((plain (id 22 (codes "x"))) ∷ [])) (v 27 (codes "a"))) ∷ []))) no_term) ∷ (paren 30
    (app 31 (paren 31 (v 32 (codes "x")) (some_term (v 36 (codes "A")))) (terms ((forall_term 39 (lambdas ((plain (id 43 (codes
    "x"))) ∷ [])) (v 46 (codes "a"))) ∷ []))) no_term) ∷ (paren 49 (app 50 (paren 50 (v 51 (codes "x")) (some_term (v 55 (codes
    "A")))) (terms ((let_term 58 (id 62 (codes "x")) no_term (numeral (num 67 1)) (v 70 (codes "a"))) ∷ []))) no_term) ∷ (paren
    73 (app 74 (paren 74 (v 75 (codes "x")) (some_term (v 79 (codes "A")))) (terms ((by_term 82 (items ((rfl 85) ∷ []))) ∷ [])))
    no_term) ∷ (paren 90 (app 91 (paren 91 (v 92 (codes "x")) (some_term (v 96 (codes "A")))) (terms ((arrow 99 (binders 99
    Implicit ((id 100 (codes "x")) ∷ []) (v 104 (codes "A"))) (v 111 (codes "B"))) ∷ []))) no_term) ∷ (paren 114 (app 115 (paren
    115 (v 116 (codes "x")) (some_term (v 120 (codes "A")))) (terms ((arrow 123 (binders 123 Inst ((id 123 (codes "inst")) ∷ [])
    (v 124 (codes "C"))) (v 131 (codes "B"))) ∷ []))) no_term) ∷ (paren 134 (arrow 135 (binders 135 Explicit ((id 136 (codes
    "x")) ∷ []) (v 140 (codes "A"))) (v 147 (codes "B"))) no_term) ∷ (paren 150 (paren 151 (v 152 (codes "x")) (some_term (v 156
    (codes "A")))) no_term) ∷ [])))))

abbrev pub head_7 : Text
head_7 =
    text "#check (_ x : A) -> B"
    (λ tokens. is_command (Check 0 (arrow 7 (binders 7 Explicit ((id 8 (codes "_")) ∷ (id 10 (codes "x")) ∷ []) (v 14 (codes "A"))) (v 20
    (codes "B")))))

abbrev pub head_8 : Text
head_8 =
    text "#check by rw [x, x.y, @x, 1, _, sorry, Prop, Type, Sort, (x), ¬ a, ← b, <- c]"
    (λ tokens. is_command (Check 0 (by_term 7 (items ((rw_item 10 (rules ((rule 14 false (v 14 (codes "x"))) ∷ (rule 17 false (ident 17
    false (long 17 (codes "x") (codes "y")) [])) ∷ (rule 22 false (ident 22 true (id 23 (codes "x")) [])) ∷ (rule 26 false
    (numeral (num 26 1))) ∷ (rule 29 false (hole 29)) ∷ (rule 32 false (sorry_term 32)) ∷ (rule 39 false (prop 39)) ∷ (rule 45
    false (type_u 45 None)) ∷ (rule 51 false (sort_u 51 None)) ∷ (rule 57 false (paren 57 (v 58 (codes "x")) no_term)) ∷ (rule
    62 false (not_term 62 (v 65 (codes "a")))) ∷ (rule 68 true (v 72 (codes "b"))) ∷ (rule 75 true (v 78 (codes "c"))) ∷ []))) ∷
    [])))))

abbrev pub head_9 : Text
head_9 =
    text "#check by rw [fun x => b, ∀ x, a, let x := 1; a, {x : A} → B, [C] → B, (x : A) → B, by rfl]"
    (λ tokens. is_command (Check 0 (by_term 7 (items ((rw_item 10 (rules ((rule 14 false (fun_term 14 (lambdas ((plain (id 18 (codes "x")))
    ∷ [])) (v 23 (codes "b")))) ∷ (rule 26 false (forall_term 26 (lambdas ((plain (id 30 (codes "x"))) ∷ [])) (v 33 (codes
    "a")))) ∷ (rule 36 false (let_term 36 (id 40 (codes "x")) no_term (numeral (num 45 1)) (v 48 (codes "a")))) ∷ (rule 51 false
    (arrow 51 (binders 51 Implicit ((id 52 (codes "x")) ∷ []) (v 56 (codes "A"))) (v 63 (codes "B")))) ∷ (rule 66 false (arrow
    66 (binders 66 Inst ((id 66 (codes "inst")) ∷ []) (v 67 (codes "C"))) (v 74 (codes "B")))) ∷ (rule 77 false (arrow 77
    (binders 77 Explicit ((id 78 (codes "x")) ∷ []) (v 82 (codes "A"))) (v 89 (codes "B")))) ∷ (rule 92 false (by_term 92 (items
    ((rfl 95) ∷ [])))) ∷ []))) ∷ [])))))

-- Binders.

abbrev pub binder_1 : Text
binder_1 =
    text "axiom A (x : A) {y z : B} [C] [i : D x] : E"
    (λ tokens. is_command (Axiom (decl 0 (id 6 (codes "A")) [] ((binder 8 Explicit ((id 9 (codes "x")) ∷ []) (v 13 (codes "A"))) ∷ (binder
    16 Implicit ((id 17 (codes "y")) ∷ (id 19 (codes "z")) ∷ []) (v 23 (codes "B"))) ∷ (binder 26 Inst ((id 26 (codes "inst")) ∷
    []) (v 27 (codes "C"))) ∷ (binder 30 Inst ((id 31 (codes "i")) ∷ []) (app 35 (v 35 (codes "D")) (terms ((v 37 (codes "x")) ∷
    [])))) ∷ []) (Some (v 42 (codes "E"))))))

abbrev pub binder_2 : Text
binder_2 =
    text "variable (x _ : A)"
    (λ tokens. is_command (Variable 0 ((binder 9 Explicit ((id 10 (codes "x")) ∷ (id 12 (codes "_")) ∷ []) (v 16 (codes "A"))) ∷ [])))

abbrev pub binder_3 : Text
binder_3 =
    text "variable {x : A} (y : B) [C]"
    (λ tokens. is_command (Variable 0 ((binder 9 Implicit ((id 10 (codes "x")) ∷ []) (v 14 (codes "A"))) ∷ (binder 17 Explicit ((id 18
    (codes "y")) ∷ []) (v 22 (codes "B"))) ∷ (binder 25 Inst ((id 25 (codes "inst")) ∷ []) (v 26 (codes "C"))) ∷ [])))

abbrev pub binder_4 : Text
binder_4 =
    text "variable [C] {x : A}"
    (λ tokens. is_command (Variable 0 ((binder 9 Inst ((id 9 (codes "inst")) ∷ []) (v 10 (codes "C"))) ∷ (binder 13 Implicit ((id 14 (codes
    "x")) ∷ []) (v 18 (codes "A"))) ∷ [])))

abbrev pub binder_5 : Text
binder_5 =
    text "variable [C x] [i : C x] [C.{u} x + 1] [x + 1] [x.y] [@C] [1] [_] [sorry] [Prop] [Type] [Sort] [(x)] [¬ a]"
    (λ tokens. is_command (Variable 0 ((binder 9 Inst ((id 9 (codes "inst")) ∷ []) (app 10 (v 10 (codes "C")) (terms ((v 12 (codes "x")) ∷
    [])))) ∷ (binder 15 Inst ((id 16 (codes "i")) ∷ []) (app 20 (v 20 (codes "C")) (terms ((v 22 (codes "x")) ∷ [])))) ∷ (binder
    25 Inst ((id 25 (codes "inst")) ∷ []) (oper 26 Add (app 26 (ident 26 false (id 26 (codes "C")) ((level_name (id 29 (codes
    "u"))) ∷ [])) (terms ((v 32 (codes "x")) ∷ []))) (numeral (num 36 1)))) ∷ (binder 39 Inst ((id 39 (codes "inst")) ∷ [])
    (oper 40 Add (v 40 (codes "x")) (numeral (num 44 1)))) ∷ (binder 47 Inst ((id 47 (codes "inst")) ∷ []) (ident 48 false (long
    48 (codes "x") (codes "y")) [])) ∷ (binder 53 Inst ((id 53 (codes "inst")) ∷ []) (ident 54 true (id 55 (codes "C")) [])) ∷
    (binder 58 Inst ((id 58 (codes "inst")) ∷ []) (numeral (num 59 1))) ∷ (binder 62 Inst ((id 62 (codes "inst")) ∷ []) (hole
    63)) ∷ (binder 66 Inst ((id 66 (codes "inst")) ∷ []) (sorry_term 67)) ∷ (binder 74 Inst ((id 74 (codes "inst")) ∷ []) (prop
    75)) ∷ (binder 81 Inst ((id 81 (codes "inst")) ∷ []) (type_u 82 None)) ∷ (binder 88 Inst ((id 88 (codes "inst")) ∷ [])
    (sort_u 89 None)) ∷ (binder 95 Inst ((id 95 (codes "inst")) ∷ []) (paren 96 (v 97 (codes "x")) no_term)) ∷ (binder 101 Inst
    ((id 101 (codes "inst")) ∷ []) (not_term 102 (v 105 (codes "a")))) ∷ [])))

abbrev pub binder_6 : Text
binder_6 =
    text "variable [fun x => a] [∀ x, a] [let x := 1; a] [by rfl] [{x : A} → B] [[C] → B] [(x : A) → B] [a → b] [C.{u}]"
    (λ tokens. is_command (Variable 0 ((binder 9 Inst ((id 9 (codes "inst")) ∷ []) (fun_term 10 (lambdas ((plain (id 14 (codes "x"))) ∷
    [])) (v 19 (codes "a")))) ∷ (binder 22 Inst ((id 22 (codes "inst")) ∷ []) (forall_term 23 (lambdas ((plain (id 27 (codes
    "x"))) ∷ [])) (v 30 (codes "a")))) ∷ (binder 33 Inst ((id 33 (codes "inst")) ∷ []) (let_term 34 (id 38 (codes "x")) no_term
    (numeral (num 43 1)) (v 46 (codes "a")))) ∷ (binder 49 Inst ((id 49 (codes "inst")) ∷ []) (by_term 50 (items ((rfl 53) ∷
    [])))) ∷ (binder 58 Inst ((id 58 (codes "inst")) ∷ []) (arrow 59 (binders 59 Implicit ((id 60 (codes "x")) ∷ []) (v 64
    (codes "A"))) (v 71 (codes "B")))) ∷ (binder 74 Inst ((id 74 (codes "inst")) ∷ []) (arrow 75 (binders 75 Inst ((id 75 (codes
    "inst")) ∷ []) (v 76 (codes "C"))) (v 83 (codes "B")))) ∷ (binder 86 Inst ((id 86 (codes "inst")) ∷ []) (arrow 87 (binders
    87 Explicit ((id 88 (codes "x")) ∷ []) (v 92 (codes "A"))) (v 99 (codes "B")))) ∷ (binder 102 Inst ((id 102 (codes "inst"))
    ∷ []) (oper 103 Arrow (v 103 (codes "a")) (v 109 (codes "b")))) ∷ (binder 112 Inst ((id 112 (codes "inst")) ∷ []) (ident 113
    false (id 113 (codes "C")) ((level_name (id 116 (codes "u"))) ∷ []))) ∷ [])))

abbrev pub binder_7 : Text
binder_7 =
    text "variable [C x.y] [C @x] [C 1] [C _] [C sorry] [C Prop] [C Type] [C Sort] [C (x) + 1]"
    (λ tokens. is_command (Variable 0 ((binder 9 Inst ((id 9 (codes "inst")) ∷ []) (app 10 (v 10 (codes "C")) (terms ((ident 12 false (long
    12 (codes "x") (codes "y")) []) ∷ [])))) ∷ (binder 17 Inst ((id 17 (codes "inst")) ∷ []) (app 18 (v 18 (codes "C")) (terms
    ((ident 20 true (id 21 (codes "x")) []) ∷ [])))) ∷ (binder 24 Inst ((id 24 (codes "inst")) ∷ []) (app 25 (v 25 (codes "C"))
    (terms ((numeral (num 27 1)) ∷ [])))) ∷ (binder 30 Inst ((id 30 (codes "inst")) ∷ []) (app 31 (v 31 (codes "C")) (terms
    ((hole 33) ∷ [])))) ∷ (binder 36 Inst ((id 36 (codes "inst")) ∷ []) (app 37 (v 37 (codes "C")) (terms ((sorry_term 39) ∷
    [])))) ∷ (binder 46 Inst ((id 46 (codes "inst")) ∷ []) (app 47 (v 47 (codes "C")) (terms ((prop 49) ∷ [])))) ∷ (binder 55
    Inst ((id 55 (codes "inst")) ∷ []) (app 56 (v 56 (codes "C")) (terms ((type_u 58 None) ∷ [])))) ∷ (binder 64 Inst ((id 64
    (codes "inst")) ∷ []) (app 65 (v 65 (codes "C")) (terms ((sort_u 67 None) ∷ [])))) ∷ (binder 73 Inst ((id 73 (codes "inst"))
    ∷ []) (oper 74 Add (app 74 (v 74 (codes "C")) (terms ((paren 76 (v 77 (codes "x")) no_term) ∷ []))) (numeral (num 82 1)))) ∷
    [])))

abbrev pub binder_8 : Text
binder_8 =
    text "variable [C fun x => a] [C ∀ x, a] [C let x := 1; a] [C by rfl] [C {x : A} → B] [C [D] → B] [C (x : A) → B]"
    (λ tokens. is_command (Variable 0 ((binder 9 Inst ((id 9 (codes "inst")) ∷ []) (app 10 (v 10 (codes "C")) (terms ((fun_term 12 (lambdas
    ((plain (id 16 (codes "x"))) ∷ [])) (v 21 (codes "a"))) ∷ [])))) ∷ (binder 24 Inst ((id 24 (codes "inst")) ∷ []) (app 25 (v
    25 (codes "C")) (terms ((forall_term 27 (lambdas ((plain (id 31 (codes "x"))) ∷ [])) (v 34 (codes "a"))) ∷ [])))) ∷ (binder
    37 Inst ((id 37 (codes "inst")) ∷ []) (app 38 (v 38 (codes "C")) (terms ((let_term 40 (id 44 (codes "x")) no_term (numeral
    (num 49 1)) (v 52 (codes "a"))) ∷ [])))) ∷ (binder 55 Inst ((id 55 (codes "inst")) ∷ []) (app 56 (v 56 (codes "C")) (terms
    ((by_term 58 (items ((rfl 61) ∷ []))) ∷ [])))) ∷ (binder 66 Inst ((id 66 (codes "inst")) ∷ []) (app 67 (v 67 (codes "C"))
    (terms ((arrow 69 (binders 69 Implicit ((id 70 (codes "x")) ∷ []) (v 74 (codes "A"))) (v 81 (codes "B"))) ∷ [])))) ∷ (binder
    84 Inst ((id 84 (codes "inst")) ∷ []) (app 85 (v 85 (codes "C")) (terms ((arrow 87 (binders 87 Inst ((id 87 (codes "inst"))
    ∷ []) (v 88 (codes "D"))) (v 95 (codes "B"))) ∷ [])))) ∷ (binder 98 Inst ((id 98 (codes "inst")) ∷ []) (app 99 (v 99 (codes
    "C")) (terms ((arrow 101 (binders 101 Explicit ((id 102 (codes "x")) ∷ []) (v 106 (codes "A"))) (v 113 (codes "B"))) ∷
    [])))) ∷ [])))

abbrev pub binder_9 : Text
binder_9 =
    text "#check fun x y (z : A) {w} {w : B} [C] _ => a"
    (λ tokens. is_command (Check 0 (fun_term 7 (lambdas ((plain (id 11 (codes "x"))) ∷ (plain (id 13 (codes "y"))) ∷ (typed (binders 15
    Explicit ((id 16 (codes "z")) ∷ []) (v 20 (codes "A")))) ∷ (implicit 23 ((id 24 (codes "w")) ∷ [])) ∷ (typed (binders 27
    Implicit ((id 28 (codes "w")) ∷ []) (v 32 (codes "B")))) ∷ (typed (binders 35 Inst ((id 35 (codes "inst")) ∷ []) (v 36
    (codes "C")))) ∷ (plain (id 39 (codes "_"))) ∷ [])) (v 44 (codes "a")))))

abbrev pub binder_10 : Text
binder_10 =
    text "#check fun (x : A) => a"
    (λ tokens. is_command (Check 0 (fun_term 7 (lambdas ((typed (binders 11 Explicit ((id 12 (codes "x")) ∷ []) (v 16 (codes "A")))) ∷ []))
    (v 22 (codes "a")))))

abbrev pub binder_11 : Text
binder_11 =
    text "#check fun {x : A} => a"
    (λ tokens. is_command (Check 0 (fun_term 7 (lambdas ((typed (binders 11 Implicit ((id 12 (codes "x")) ∷ []) (v 16 (codes "A")))) ∷ []))
    (v 22 (codes "a")))))

abbrev pub binder_12 : Text
binder_12 =
    text "#check fun {x _} => a"
    (λ tokens. is_command (Check 0 (fun_term 7 (lambdas ((implicit 11 ((id 12 (codes "x")) ∷ (id 14 (codes "_")) ∷ [])) ∷ [])) (v 20 (codes
    "a")))))

abbrev pub binder_13 : Text
binder_13 =
    text "#check fun [i : C] => a"
    (λ tokens. is_command (Check 0 (fun_term 7 (lambdas ((typed (binders 11 Inst ((id 12 (codes "i")) ∷ []) (v 16 (codes "C")))) ∷ [])) (v
    22 (codes "a")))))

abbrev pub binder_14 : Text
binder_14 =
    text "#check λ _ ↦ a"
    (λ tokens. is_command (Check 0 (fun_term 7 (lambdas ((plain (id 10 (codes "_"))) ∷ [])) (v 16 (codes "a")))))

abbrev pub binder_15 : Text
binder_15 =
    text "#check ∀ [C] x, a"
    (λ tokens. is_command (Check 0 (forall_term 7 (lambdas ((typed (binders 11 Inst ((id 11 (codes "inst")) ∷ []) (v 12 (codes "C")))) ∷
    (plain (id 15 (codes "x"))) ∷ [])) (v 18 (codes "a")))))

abbrev pub binder_16 : Text
binder_16 =
    text "#check forall {x} _, a"
    (λ tokens. is_command (Check 0 (forall_term 7 (lambdas ((implicit 14 ((id 15 (codes "x")) ∷ [])) ∷ (plain (id 18 (codes "_"))) ∷ []))
    (v 21 (codes "a")))))

abbrev pub binder_17 : Text
binder_17 =
    text "#check {_ x : A} → B"
    (λ tokens. is_command (Check 0 (arrow 7 (binders 7 Implicit ((id 8 (codes "_")) ∷ (id 10 (codes "x")) ∷ []) (v 14 (codes "A"))) (v 21
    (codes "B")))))

abbrev pub binder_18 : Text
binder_18 =
    text "#check [C Nat] → Nat"
    (λ tokens. is_command (Check 0 (arrow 7 (binders 7 Inst ((id 7 (codes "inst")) ∷ []) (app 8 (v 8 (codes "C")) (terms ((v 10 (codes
    "Nat")) ∷ [])))) (v 19 (codes "Nat")))))

abbrev pub binder_19 : Text
binder_19 =
    text "#check f [C] → D"
    (λ tokens. is_command (Check 0 (app 7 (v 7 (codes "f")) (terms ((arrow 9 (binders 9 Inst ((id 9 (codes "inst")) ∷ []) (v 10 (codes
    "C"))) (v 17 (codes "D"))) ∷ [])))))

abbrev pub binder_20 : Text
binder_20 =
    text "#check a = [i : C] → D"
    (λ tokens. is_command (Check 0 (oper 7 Eq (v 7 (codes "a")) (arrow 11 (binders 11 Inst ((id 12 (codes "i")) ∷ []) (v 16 (codes "C")))
    (v 23 (codes "D"))))))

-- Levels.

abbrev pub level_1 : Text
level_1 =
    text "#check f.{1, u, 1 + 2, u + 1, (u), (u) + 1, ((u + 1)) + 1}"
    (λ tokens. is_command (Check 0 (ident 7 false (id 7 (codes "f")) ((level_number (num 10 1)) ∷ (level_name (id 13 (codes "u"))) ∷
    (level_plus 16 (level_number (num 16 1)) (num 20 2)) ∷ (level_plus 23 (level_name (id 23 (codes "u"))) (num 27 1)) ∷
    (level_name (id 31 (codes "u"))) ∷ (level_plus 35 (level_name (id 36 (codes "u"))) (num 41 1)) ∷ (level_plus 44 (level_plus
    46 (level_name (id 46 (codes "u"))) (num 50 1)) (num 56 1)) ∷ []))))

abbrev pub level_2 : Text
level_2 =
    text "#check f.{max 1 u, max (u) v 1 w (2), max u (v + 1), (max u v) + 1, max, max + 1}"
    (λ tokens. is_command (Check 0 (ident 7 false (id 7 (codes "f")) ((level_max 10 (levels_of ((level_number (num 14 1)) ∷ (level_name (id
    16 (codes "u"))) ∷ []))) ∷ (level_max 19 (levels_of ((level_name (id 24 (codes "u"))) ∷ (level_name (id 27 (codes "v"))) ∷
    (level_number (num 29 1)) ∷ (level_name (id 31 (codes "w"))) ∷ (level_number (num 34 2)) ∷ []))) ∷ (level_max 38 (levels_of
    ((level_name (id 42 (codes "u"))) ∷ (level_plus 45 (level_name (id 45 (codes "v"))) (num 49 1)) ∷ []))) ∷ (level_plus 53
    (level_max 54 (levels_of ((level_name (id 58 (codes "u"))) ∷ (level_name (id 60 (codes "v"))) ∷ []))) (num 65 1)) ∷
    (level_name (id 68 (codes "max"))) ∷ (level_plus 73 (level_name (id 73 (codes "max"))) (num 79 1)) ∷ []))))

abbrev pub level_3 : Text
level_3 =
    text "#check f.{imax 1 u, imax (u) 2, imax u (v), imax u v, (imax u v) + 1, imax, imax + 1}"
    (λ tokens. is_command (Check 0 (ident 7 false (id 7 (codes "f")) ((level_imax 10 (level_number (num 15 1)) (level_name (id 17 (codes
    "u")))) ∷ (level_imax 20 (level_name (id 26 (codes "u"))) (level_number (num 29 2))) ∷ (level_imax 32 (level_name (id 37
    (codes "u"))) (level_name (id 40 (codes "v")))) ∷ (level_imax 44 (level_name (id 49 (codes "u"))) (level_name (id 51 (codes
    "v")))) ∷ (level_plus 54 (level_imax 55 (level_name (id 60 (codes "u"))) (level_name (id 62 (codes "v")))) (num 67 1)) ∷
    (level_name (id 70 (codes "imax"))) ∷ (level_plus 76 (level_name (id 76 (codes "imax"))) (num 83 1)) ∷ []))))

abbrev pub level_4 : Text
level_4 =
    text "#check f.{u} x.{v, w}"
    (λ tokens. is_command (Check 0 (app 7 (ident 7 false (id 7 (codes "f")) ((level_name (id 10 (codes "u"))) ∷ [])) (terms ((ident 13
    false (id 13 (codes "x")) ((level_name (id 16 (codes "v"))) ∷ (level_name (id 19 (codes "w"))) ∷ [])) ∷ [])))))

abbrev pub level_5 : Text
level_5 =
    text "#check f (Type 1) (Type u) (Type (u)) (Type ((u))) (Type (u + 1)) (Type ((u) + 1)) (Type (1 + 1)) (Sort (imax u v))"
    (λ tokens. is_command (Check 0 (app 7 (v 7 (codes "f")) (terms ((paren 9 (type_u 10 (Some (level_number (num 15 1)))) no_term) ∷ (paren
    18 (type_u 19 (Some (level_name (id 24 (codes "u"))))) no_term) ∷ (paren 27 (type_u 28 (Some (level_name (id 34 (codes
    "u"))))) no_term) ∷ (paren 38 (type_u 39 (Some (level_name (id 46 (codes "u"))))) no_term) ∷ (paren 51 (type_u 52 (Some
    (level_plus 58 (level_name (id 58 (codes "u"))) (num 62 1)))) no_term) ∷ (paren 66 (type_u 67 (Some (level_plus 73
    (level_name (id 74 (codes "u"))) (num 79 1)))) no_term) ∷ (paren 83 (type_u 84 (Some (level_plus 90 (level_number (num 90
    1)) (num 94 1)))) no_term) ∷ (paren 98 (sort_u 99 (Some (level_imax 105 (level_name (id 110 (codes "u"))) (level_name (id
    112 (codes "v")))))) no_term) ∷ [])))))

abbrev pub level_6 : Text
level_6 =
    text "#check f (Type (max u v 1)) (Type (max (u + 1) (v))) (Type (max max imax)) (Sort (imax imax max))"
    (λ tokens. is_command (Check 0 (app 7 (v 7 (codes "f")) (terms ((paren 9 (type_u 10 (Some (level_max 16 (levels_of ((level_name (id 20
    (codes "u"))) ∷ (level_name (id 22 (codes "v"))) ∷ (level_number (num 24 1)) ∷ []))))) no_term) ∷ (paren 28 (type_u 29 (Some
    (level_max 35 (levels_of ((level_plus 40 (level_name (id 40 (codes "u"))) (num 44 1)) ∷ (level_name (id 48 (codes "v"))) ∷
    []))))) no_term) ∷ (paren 53 (type_u 54 (Some (level_max 60 (levels_of ((level_name (id 64 (codes "max"))) ∷ (level_name (id
    68 (codes "imax"))) ∷ []))))) no_term) ∷ (paren 75 (sort_u 76 (Some (level_imax 82 (level_name (id 87 (codes "imax")))
    (level_name (id 92 (codes "max")))))) no_term) ∷ [])))))

abbrev pub level_7 : Text
level_7 =
    text "#check f (Type (imax u v w)) (Type (imax u)) (Type (max u)) (Type (u - 1)) (Type (u + v)) (Type (max u v + 1)) (Type (u + 1 + 1))"
    (λ tokens. is_command (Check 0 (app 7 (v 7 (codes "f")) (terms ((paren 9 (app 10 (type_u 10 None) (terms ((paren 15 (app 16 (v 16
    (codes "imax")) (terms ((v 21 (codes "u")) ∷ (v 23 (codes "v")) ∷ (v 25 (codes "w")) ∷ []))) no_term) ∷ []))) no_term) ∷
    (paren 29 (app 30 (type_u 30 None) (terms ((paren 35 (app 36 (v 36 (codes "imax")) (terms ((v 41 (codes "u")) ∷ [])))
    no_term) ∷ []))) no_term) ∷ (paren 45 (app 46 (type_u 46 None) (terms ((paren 51 (app 52 (v 52 (codes "max")) (terms ((v 56
    (codes "u")) ∷ []))) no_term) ∷ []))) no_term) ∷ (paren 60 (app 61 (type_u 61 None) (terms ((paren 66 (oper 67 Sub (v 67
    (codes "u")) (numeral (num 71 1))) no_term) ∷ []))) no_term) ∷ (paren 75 (app 76 (type_u 76 None) (terms ((paren 81 (oper 82
    Add (v 82 (codes "u")) (v 86 (codes "v"))) no_term) ∷ []))) no_term) ∷ (paren 90 (app 91 (type_u 91 None) (terms ((paren 96
    (oper 97 Add (app 97 (v 97 (codes "max")) (terms ((v 101 (codes "u")) ∷ (v 103 (codes "v")) ∷ []))) (numeral (num 107 1)))
    no_term) ∷ []))) no_term) ∷ (paren 111 (app 112 (type_u 112 None) (terms ((paren 117 (oper 118 Add (oper 118 Add (v 118
    (codes "u")) (numeral (num 122 1))) (numeral (num 126 1))) no_term) ∷ []))) no_term) ∷ [])))))

abbrev pub level_8 : Text
level_8 =
    text "#check f (Type a.b) (Type (a.b)) (Type (max a.b u)) (Type (u : A)) (Type (@u)) (Type u.{v}) (Type (max.{u} v w)) (Type (f u v)) (Type (Type u))"
    (λ tokens. is_command (Check 0 (app 7 (v 7 (codes "f")) (terms ((paren 9 (app 10 (type_u 10 None) (terms ((ident 15 false (long 15
    (codes "a") (codes "b")) []) ∷ []))) no_term) ∷ (paren 20 (app 21 (type_u 21 None) (terms ((paren 26 (ident 27 false (long
    27 (codes "a") (codes "b")) []) no_term) ∷ []))) no_term) ∷ (paren 33 (app 34 (type_u 34 None) (terms ((paren 39 (app 40 (v
    40 (codes "max")) (terms ((ident 44 false (long 44 (codes "a") (codes "b")) []) ∷ (v 48 (codes "u")) ∷ []))) no_term) ∷
    []))) no_term) ∷ (paren 52 (app 53 (type_u 53 None) (terms ((paren 58 (v 59 (codes "u")) (some_term (v 63 (codes "A")))) ∷
    []))) no_term) ∷ (paren 67 (app 68 (type_u 68 None) (terms ((paren 73 (ident 74 true (id 75 (codes "u")) []) no_term) ∷
    []))) no_term) ∷ (paren 79 (app 80 (type_u 80 None) (terms ((ident 85 false (id 85 (codes "u")) ((level_name (id 88 (codes
    "v"))) ∷ [])) ∷ []))) no_term) ∷ (paren 92 (app 93 (type_u 93 None) (terms ((paren 98 (app 99 (ident 99 false (id 99 (codes
    "max")) ((level_name (id 104 (codes "u"))) ∷ [])) (terms ((v 107 (codes "v")) ∷ (v 109 (codes "w")) ∷ []))) no_term) ∷ [])))
    no_term) ∷ (paren 113 (app 114 (type_u 114 None) (terms ((paren 119 (app 120 (v 120 (codes "f")) (terms ((v 122 (codes "u"))
    ∷ (v 124 (codes "v")) ∷ []))) no_term) ∷ []))) no_term) ∷ (paren 128 (app 129 (type_u 129 None) (terms ((paren 134 (type_u
    135 (Some (level_name (id 140 (codes "u"))))) no_term) ∷ []))) no_term) ∷ [])))))

abbrev pub level_9 : Text
level_9 =
    text "#check Type x y"
    (λ tokens. is_command (Check 0 (app 7 (type_u 7 (Some (level_name (id 12 (codes "x"))))) (terms ((v 14 (codes "y")) ∷ [])))))

abbrev pub level_10 : Text
level_10 =
    text "#check Sort 2"
    (λ tokens. is_command (Check 0 (sort_u 7 (Some (level_number (num 12 2))))))

abbrev pub level_11 : Text
level_11 =
    text "#check Type (x) y"
    (λ tokens. is_command (Check 0 (app 7 (type_u 7 (Some (level_name (id 13 (codes "x"))))) (terms ((v 16 (codes "y")) ∷ [])))))

abbrev pub level_12 : Text
level_12 =
    text "#check Type fun x => y"
    (λ tokens. is_command (Check 0 (app 7 (type_u 7 None) (terms ((fun_term 12 (lambdas ((plain (id 16 (codes "x"))) ∷ [])) (v 21 (codes
    "y"))) ∷ [])))))

abbrev pub level_13 : Text
level_13 =
    text "axiom A.{u, v} : B"
    (λ tokens. is_command (Axiom (decl 0 (id 6 (codes "A")) ((id 9 (codes "u")) ∷ (id 12 (codes "v")) ∷ []) [] (Some (v 17 (codes "B"))))))

abbrev pub level_14 : Text
level_14 =
    text "#check Type max u v"
    (λ tokens. is_command (Check 0 (app 7 (type_u 7 (Some (level_name (id 12 (codes "max"))))) (terms ((v 16 (codes "u")) ∷
    (v 18 (codes "v")) ∷ [])))))

-- Operators and their other spellings.

abbrev pub operator_1 : Text
operator_1 =
    text "#check a ∨ b ∨ c"
    (λ tokens. is_command (Check 0 (oper 7 Or (v 7 (codes "a")) (oper 13 Or (v 13 (codes "b")) (v 19 (codes "c"))))))

abbrev pub operator_2 : Text
operator_2 =
    text "#check a ∧ b ∧ c"
    (λ tokens. is_command (Check 0 (oper 7 And (v 7 (codes "a")) (oper 13 And (v 13 (codes "b")) (v 19 (codes "c"))))))

abbrev pub operator_3 : Text
operator_3 =
    text "#check a → b → c"
    (λ tokens. is_command (Check 0 (oper 7 Arrow (v 7 (codes "a")) (oper 13 Arrow (v 13 (codes "b")) (v 19 (codes "c"))))))

abbrev pub operator_4 : Text
operator_4 =
    text "#check a + b + c"
    (λ tokens. is_command (Check 0 (oper 7 Add (oper 7 Add (v 7 (codes "a")) (v 11 (codes "b"))) (v 15 (codes "c")))))

abbrev pub operator_5 : Text
operator_5 =
    text "#check a - b - c"
    (λ tokens. is_command (Check 0 (oper 7 Sub (oper 7 Sub (v 7 (codes "a")) (v 11 (codes "b"))) (v 15 (codes "c")))))

abbrev pub operator_6 : Text
operator_6 =
    text "#check a * b * c"
    (λ tokens. is_command (Check 0 (oper 7 Mul (oper 7 Mul (v 7 (codes "a")) (v 11 (codes "b"))) (v 15 (codes "c")))))

abbrev pub operator_7 : Text
operator_7 =
    text "#check a / b / c"
    (λ tokens. is_command (Check 0 (oper 7 Div (oper 7 Div (v 7 (codes "a")) (v 11 (codes "b"))) (v 15 (codes "c")))))

abbrev pub operator_8 : Text
operator_8 =
    text "#check a % b % c"
    (λ tokens. is_command (Check 0 (oper 7 Mod (oper 7 Mod (v 7 (codes "a")) (v 11 (codes "b"))) (v 15 (codes "c")))))

abbrev pub operator_9 : Text
operator_9 =
    text "#check a \\/ b /\\ c -> d <-> e"
    (λ tokens. is_command (Check 0 (oper 7 Iff (oper 7 Arrow (oper 7 Or (v 7 (codes "a")) (oper 12 And (v 12 (codes "b")) (v 17 (codes
    "c")))) (v 22 (codes "d"))) (v 28 (codes "e")))))

abbrev pub operator_10 : Text
operator_10 =
    text "#check a ↔ b → c ∨ d ∧ e = f + g * h"
    (λ tokens. is_command (Check 0 (oper 7 Iff (v 7 (codes "a")) (oper 13 Arrow (v 13 (codes "b")) (oper 19 Or (v 19 (codes "c")) (oper 25
    And (v 25 (codes "d")) (oper 31 Eq (v 31 (codes "e")) (oper 35 Add (v 35 (codes "f")) (oper 39 Mul (v 39 (codes "g")) (v 43
    (codes "h")))))))))))

abbrev pub operator_11 : Text
operator_11 =
    text "#check a * b + c ≠ d ∧ e ∨ f → g ↔ h"
    (λ tokens. is_command (Check 0 (oper 7 Iff (oper 7 Arrow (oper 7 Or (oper 7 And (oper 7 Ne (oper 7 Add (oper 7 Mul (v 7 (codes "a")) (v
    11 (codes "b"))) (v 15 (codes "c"))) (v 21 (codes "d"))) (v 27 (codes "e"))) (v 33 (codes "f"))) (v 39 (codes "g"))) (v 45
    (codes "h")))))

abbrev pub operator_12 : Text
operator_12 =
    text "#check a + b * c - d / e % f"
    (λ tokens. is_command (Check 0 (oper 7 Sub (oper 7 Add (v 7 (codes "a")) (oper 11 Mul (v 11 (codes "b")) (v 15 (codes "c")))) (oper 19
    Mod (oper 19 Div (v 19 (codes "d")) (v 23 (codes "e"))) (v 27 (codes "f"))))))

abbrev pub operator_13 : Text
operator_13 =
    text "#check ¬ a ∧ ¬ ¬ b"
    (λ tokens. is_command (Check 0 (oper 7 And (not_term 7 (v 10 (codes "a"))) (not_term 16 (not_term 19 (v 22 (codes "b")))))))

abbrev pub operator_14 : Text
operator_14 =
    text "#check ¬ a = b ∨ c"
    (λ tokens. is_command (Check 0 (oper 7 Or (not_term 7 (oper 10 Eq (v 10 (codes "a")) (v 14 (codes "b")))) (v 20 (codes "c")))))

abbrev pub operator_15 : Text
operator_15 =
    text "#check ¬ a → b"
    (λ tokens. is_command (Check 0 (oper 7 Arrow (not_term 7 (v 10 (codes "a"))) (v 16 (codes "b")))))

abbrev pub operator_16 : Text
operator_16 =
    text "#check a ∨ ¬ b → c"
    (λ tokens. is_command (Check 0 (oper 7 Arrow (oper 7 Or (v 7 (codes "a")) (not_term 13 (v 16 (codes "b")))) (v 22 (codes "c")))))

abbrev pub operator_17 : Text
operator_17 =
    text "#check ∀ x, a = b = c"
    (λ tokens. is_command (Check 0 (oper 7 Eq (forall_term 7 (lambdas ((plain (id 11 (codes "x"))) ∷ [])) (oper 14 Eq (v 14 (codes "a")) (v
    18 (codes "b")))) (v 22 (codes "c")))))

abbrev pub operator_18 : Text
operator_18 =
    text "#check a → fun x => b → c"
    (λ tokens. is_command (Check 0 (oper 7 Arrow (v 7 (codes "a")) (fun_term 13 (lambdas ((plain (id 17 (codes "x"))) ∷ [])) (oper 22 Arrow
    (v 22 (codes "b")) (v 28 (codes "c")))))))

abbrev pub operator_19 : Text
operator_19 =
    text "#check let x := 1; a = b = c"
    (λ tokens. is_command (Check 0 (oper 7 Eq (let_term 7 (id 11 (codes "x")) no_term (numeral (num 16 1)) (oper 19 Eq (v 19 (codes "a"))
    (v 23 (codes "b")))) (v 27 (codes "c")))))

-- Proof items.

abbrev pub item_1 : Text
item_1 =
    text "#check by intro x; intro _ y; exact a b; apply f"
    (λ tokens. is_command (Check 0 (by_term 7 (items ((intro 10 ((id 16 (codes "x")) ∷ [])) ∷ (intro 19 ((id 25 (codes "_")) ∷ (id 27
    (codes "y")) ∷ [])) ∷ (exact 30 (app 36 (v 36 (codes "a")) (terms ((v 38 (codes "b")) ∷ [])))) ∷ (apply 41 (v 47 (codes
    "f"))) ∷ [])))))

abbrev pub item_2 : Text
item_2 =
    text "#check by\n · rfl\n   sorry\n · assumption; cases x\n injection h"
    (λ tokens. is_command (Check 0 (by_term 7 (items ((block 11 (items ((rfl 14) ∷ (sorry_item 21) ∷ []))) ∷ (block 28 (items
    ((assumption_item 31) ∷ (cases 43 (id 49 (codes "x"))) ∷ []))) ∷ (injection 52 (id 62 (codes "h"))) ∷ [])))))

abbrev pub item_3 : Text
item_3 =
    text "#check by\n have x : T := by rfl\n induction x; unfold f; unfold f.g"
    (λ tokens. is_command (Check 0 (by_term 7 (items ((have_item 11 (id 16 (codes "x")) (v 20 (codes "T")) (by_term 25 (items ((rfl 28) ∷
    [])))) ∷ (induction 33 (id 43 (codes "x"))) ∷ (unfold_item 46 (id 53 (codes "f"))) ∷ (unfold_item 56 (long 63 (codes "f")
    (codes "g"))) ∷ [])))))

abbrev pub item_4 : Text
item_4 =
    text "#check f (by exact a) (by\n rfl\n rfl) by sorry"
    (λ tokens. is_command (Check 0 (app 7 (v 7 (codes "f")) (terms ((paren 9 (by_term 10 (items ((exact 13 (v 19 (codes "a"))) ∷ [])))
    no_term) ∷ (paren 22 (by_term 23 (items ((rfl 27) ∷ (rfl 32) ∷ []))) no_term) ∷ (by_term 37 (items ((sorry_item 40) ∷ [])))
    ∷ [])))))

-- Commands.

abbrev pub command_1 : Text
command_1 =
    text "def f : T := v"
    (λ tokens. is_command (Def (decl 0 (id 4 (codes "f")) [] [] (Some (v 8 (codes "T")))) (v 13 (codes "v")) []))

abbrev pub command_2 : Text
command_2 =
    text "def f.{u} {x : A} : T := v where\n  a : N := b; b [C] : N := c"
    (λ tokens. is_command (Def (decl 0 (id 4 (codes "f")) ((id 7 (codes "u")) ∷ []) ((binder 10 Implicit ((id 11 (codes "x")) ∷ []) (v 15
    (codes "A"))) ∷ []) (Some (v 20 (codes "T")))) (v 25 (codes "v")) ((helper 35 (id 35 (codes "a")) [] (v 39 (codes "N")) (v
    44 (codes "b"))) ∷ (helper 47 (id 47 (codes "b")) ((binder 49 Inst ((id 49 (codes "inst")) ∷ []) (v 50 (codes "C"))) ∷ [])
    (v 55 (codes "N")) (v 60 (codes "c"))) ∷ [])))

abbrev pub command_3 : Text
command_3 =
    text "def f := v"
    (λ tokens. is_command (Def (decl 0 (id 4 (codes "f")) [] [] None) (v 9 (codes "v")) []))

abbrev pub command_4 : Text
command_4 =
    text "def f.g (x : A) := v"
    (λ tokens. is_command (Def (decl 0 (long 4 (codes "f") (codes "g")) [] ((binder 8 Explicit ((id 9 (codes "x")) ∷ []) (v 13 (codes
    "A"))) ∷ []) None) (v 19 (codes "v")) []))

abbrev pub command_5 : Text
command_5 =
    text "def f : A → B\n  | 0 => a\n  | n + 1 => f n\n  | c => b\n  | c x _ => d\n  | a.b => e\n  | a.c x ↦ e"
    (λ tokens. is_command (Equations (decl 0 (id 4 (codes "f")) [] [] (Some (oper 8 Arrow (v 8 (codes "A")) (v 14 (codes "B")))))
    ((alternative 18 (Zero 20) (v 25 (codes "a"))) ∷ (alternative 29 (Successor (id 31 (codes "n"))) (app 40 (v 40 (codes "f"))
    (terms ((v 42 (codes "n")) ∷ [])))) ∷ (alternative 46 (Constructor (id 48 (codes "c")) []) (v 53 (codes "b"))) ∷
    (alternative 57 (Constructor (id 59 (codes "c")) ((id 61 (codes "x")) ∷ (id 63 (codes "_")) ∷ [])) (v 68 (codes "d"))) ∷
    (alternative 72 (Constructor (long 74 (codes "a") (codes "b")) []) (v 81 (codes "e"))) ∷ (alternative 85 (Constructor (long
    87 (codes "a") (codes "c")) ((id 91 (codes "x")) ∷ [])) (v 97 (codes "e"))) ∷ [])))

abbrev pub command_6 : Text
command_6 =
    text "def f (x : A) : B | _x => a"
    (λ tokens. is_command (Equations (decl 0 (id 4 (codes "f")) [] ((binder 6 Explicit ((id 7 (codes "x")) ∷ []) (v 11 (codes "A"))) ∷ [])
    (Some (v 16 (codes "B")))) ((alternative 18 (Constructor (id 20 (codes "_x")) []) (v 26 (codes "a"))) ∷ [])))

abbrev pub command_7 : Text
command_7 =
    text "theorem t.{u} (x : A) : T := p"
    (λ tokens. is_command (Theorem (decl 0 (id 8 (codes "t")) ((id 11 (codes "u")) ∷ []) ((binder 14 Explicit ((id 15 (codes "x")) ∷ []) (v
    19 (codes "A"))) ∷ []) (Some (v 24 (codes "T")))) (v 29 (codes "p")) []))

abbrev pub command_8 : Text
command_8 =
    text "theorem t : T := p where a : N := b"
    (λ tokens. is_command (Theorem (decl 0 (id 8 (codes "t")) [] [] (Some (v 12 (codes "T")))) (v 17 (codes "p")) ((helper 25 (id 25 (codes
    "a")) [] (v 29 (codes "N")) (v 34 (codes "b"))) ∷ [])))

abbrev pub command_9 : Text
command_9 =
    text "inductive T"
    (λ tokens. is_command (Inductive (decl 0 (id 10 (codes "T")) [] [] None) []))

abbrev pub command_10 : Text
command_10 =
    text "inductive T where"
    (λ tokens. is_command (Inductive (decl 0 (id 10 (codes "T")) [] [] None) []))

abbrev pub command_11 : Text
command_11 =
    text "inductive T : A | a"
    (λ tokens. is_command (Inductive (decl 0 (id 10 (codes "T")) [] [] (Some (v 14 (codes "A")))) ((ctor 16 (id 18 (codes "a")) [] None) ∷
    [])))

abbrev pub command_12 : Text
command_12 =
    text "inductive T.{u} (x : A) : B → C where\n  | a (x : A) {y : B} : T\n  | b"
    (λ tokens. is_command (Inductive (decl 0 (id 10 (codes "T")) ((id 13 (codes "u")) ∷ []) ((binder 16 Explicit ((id 17 (codes "x")) ∷ [])
    (v 21 (codes "A"))) ∷ []) (Some (oper 26 Arrow (v 26 (codes "B")) (v 32 (codes "C"))))) ((ctor 42 (id 44 (codes "a"))
    ((binder 46 Explicit ((id 47 (codes "x")) ∷ []) (v 51 (codes "A"))) ∷ (binder 54 Implicit ((id 55 (codes "y")) ∷ []) (v 59
    (codes "B"))) ∷ []) (Some (v 64 (codes "T")))) ∷ (ctor 68 (id 70 (codes "b")) [] None) ∷ [])))

abbrev pub command_13 : Text
command_13 =
    text "inductive T | a [C] | b : T"
    (λ tokens. is_command (Inductive (decl 0 (id 10 (codes "T")) [] [] None) ((ctor 12 (id 14 (codes "a")) ((binder 16 Inst ((id 16 (codes
    "inst")) ∷ []) (v 17 (codes "C"))) ∷ []) None) ∷ (ctor 20 (id 22 (codes "b")) [] (Some (v 26 (codes "T")))) ∷ [])))

abbrev pub command_14 : Text
command_14 =
    text "structure S"
    (λ tokens. is_command (Structure (decl 0 (id 10 (codes "S")) [] [] None) []))

abbrev pub command_15 : Text
command_15 =
    text "structure S where\n  x y : A\n  z : B"
    (λ tokens. is_command (Structure (decl 0 (id 10 (codes "S")) [] [] None) ((field 20 ((id 20 (codes "x")) ∷ (id 22 (codes "y")) ∷ []) (v
    26 (codes "A"))) ∷ (field 30 ((id 30 (codes "z")) ∷ []) (v 34 (codes "B"))) ∷ [])))

abbrev pub command_16 : Text
command_16 =
    text "structure S.{u} (x : A) : Type u where x : A; y : B"
    (λ tokens. is_command (Structure (decl 0 (id 10 (codes "S")) ((id 13 (codes "u")) ∷ []) ((binder 16 Explicit ((id 17 (codes "x")) ∷ [])
    (v 21 (codes "A"))) ∷ []) (Some (type_u 26 (Some (level_name (id 31 (codes "u"))))))) ((field 39 ((id 39 (codes "x")) ∷ [])
    (v 43 (codes "A"))) ∷ (field 46 ((id 46 (codes "y")) ∷ []) (v 50 (codes "B"))) ∷ [])))

abbrev pub command_17 : Text
command_17 =
    text "class C"
    (λ tokens. is_command (Class (decl 0 (id 6 (codes "C")) [] [] None) []))

abbrev pub command_18 : Text
command_18 =
    text "class C (x : A) : B where\n  x : A"
    (λ tokens. is_command (Class (decl 0 (id 6 (codes "C")) [] ((binder 8 Explicit ((id 9 (codes "x")) ∷ []) (v 13 (codes "A"))) ∷ [])
    (Some (v 18 (codes "B")))) ((field 28 ((id 28 (codes "x")) ∷ []) (v 32 (codes "A"))) ∷ [])))

abbrev pub command_19 : Text
command_19 =
    text "class C where x : A"
    (λ tokens. is_command (Class (decl 0 (id 6 (codes "C")) [] [] None) ((field 14 ((id 14 (codes "x")) ∷ []) (v 18 (codes "A"))) ∷ [])))

abbrev pub command_20 : Text
command_20 =
    text "instance i : C := v"
    (λ tokens. is_command (Instance (decl 0 (id 9 (codes "i")) [] [] (Some (v 13 (codes "C")))) (v 18 (codes "v"))))

abbrev pub command_21 : Text
command_21 =
    text "instance i.{u} (x : A) [D] : C x := v"
    (λ tokens. is_command (Instance (decl 0 (id 9 (codes "i")) ((id 12 (codes "u")) ∷ []) ((binder 15 Explicit ((id 16 (codes "x")) ∷ [])
    (v 20 (codes "A"))) ∷ (binder 23 Inst ((id 23 (codes "inst")) ∷ []) (v 24 (codes "D"))) ∷ []) (Some (app 29 (v 29 (codes
    "C")) (terms ((v 31 (codes "x")) ∷ []))))) (v 36 (codes "v"))))

abbrev pub command_22 : Text
command_22 =
    text "namespace A"
    (λ tokens. is_command (Namespace 0 (id 10 (codes "A"))))

abbrev pub command_23 : Text
command_23 =
    text "section"
    (λ tokens. is_command (Section 0 None))

abbrev pub command_24 : Text
command_24 =
    text "section A.B"
    (λ tokens. is_command (Section 0 (Some (long 8 (codes "A") (codes "B")))))

abbrev pub command_25 : Text
command_25 =
    text "end"
    (λ tokens. is_command (End 0 None))

abbrev pub command_26 : Text
command_26 =
    text "end A.B"
    (λ tokens. is_command (End 0 (Some (long 4 (codes "A") (codes "B")))))

abbrev pub command_27 : Text
command_27 =
    text "open A"
    (λ tokens. is_command (OpenNames 0 ((id 5 (codes "A")) ∷ [])))

abbrev pub command_28 : Text
command_28 =
    text "open A.B C D.E"
    (λ tokens. is_command (OpenNames 0 ((long 5 (codes "A") (codes "B")) ∷ (id 9 (codes "C")) ∷ (long 11 (codes "D") (codes "E")) ∷ [])))

abbrev pub command_29 : Text
command_29 =
    text "universe u"
    (λ tokens. is_command (Universe 0 ((id 9 (codes "u")) ∷ [])))

abbrev pub command_30 : Text
command_30 =
    text "universe u v w"
    (λ tokens. is_command (Universe 0 ((id 9 (codes "u")) ∷ (id 11 (codes "v")) ∷ (id 13 (codes "w")) ∷ [])))

abbrev pub command_31 : Text
command_31 =
    text "variable (x : A)"
    (λ tokens. is_command (Variable 0 ((binder 9 Explicit ((id 10 (codes "x")) ∷ []) (v 14 (codes "A"))) ∷ [])))

abbrev pub command_32 : Text
command_32 =
    text "#reduce a"
    (λ tokens. is_command (Reduce 0 (v 8 (codes "a"))))

abbrev pub command_33 : Text
command_33 =
    text "#print axioms f"
    (λ tokens. is_command (PrintAxioms 0 (id 14 (codes "f"))))

abbrev pub command_34 : Text
command_34 =
    text "#print axioms f.g"
    (λ tokens. is_command (PrintAxioms 0 (long 14 (codes "f") (codes "g"))))

-- Terms that reach over a `↔`, at each place of a term.

abbrev pub reach_1 : Text
reach_1 =
    text "axiom A (x : a ↔ b) {y : a ↔ b} [a ↔ b] [i : a ↔ b] [C.{u} ↔ b] [C x ↔ b] [x.y ↔ b] : a ↔ b"
    (λ tokens. is_command (Axiom (decl 0 (id 6 (codes "A")) [] ((binder 8 Explicit ((id 9 (codes "x")) ∷ []) (oper 13 Iff (v 13 (codes
    "a")) (v 19 (codes "b")))) ∷ (binder 22 Implicit ((id 23 (codes "y")) ∷ []) (oper 27 Iff (v 27 (codes "a")) (v 33 (codes
    "b")))) ∷ (binder 36 Inst ((id 36 (codes "inst")) ∷ []) (oper 37 Iff (v 37 (codes "a")) (v 43 (codes "b")))) ∷ (binder 46
    Inst ((id 47 (codes "i")) ∷ []) (oper 51 Iff (v 51 (codes "a")) (v 57 (codes "b")))) ∷ (binder 60 Inst ((id 60 (codes
    "inst")) ∷ []) (oper 61 Iff (ident 61 false (id 61 (codes "C")) ((level_name (id 64 (codes "u"))) ∷ [])) (v 71 (codes
    "b")))) ∷ (binder 74 Inst ((id 74 (codes "inst")) ∷ []) (oper 75 Iff (app 75 (v 75 (codes "C")) (terms ((v 77 (codes "x")) ∷
    []))) (v 83 (codes "b")))) ∷ (binder 86 Inst ((id 86 (codes "inst")) ∷ []) (oper 87 Iff (ident 87 false (long 87 (codes "x")
    (codes "y")) []) (v 95 (codes "b")))) ∷ []) (Some (oper 100 Iff (v 100 (codes "a")) (v 106 (codes "b")))))))

abbrev pub reach_2 : Text
reach_2 =
    text "variable (x : a ↔ b) {y : a ↔ b}"
    (λ tokens. is_command (Variable 0 ((binder 9 Explicit ((id 10 (codes "x")) ∷ []) (oper 14 Iff (v 14 (codes "a")) (v 20 (codes "b")))) ∷
    (binder 23 Implicit ((id 24 (codes "y")) ∷ []) (oper 28 Iff (v 28 (codes "a")) (v 34 (codes "b")))) ∷ [])))

abbrev pub reach_3 : Text
reach_3 =
    text "variable {y : a ↔ b} (x : a ↔ b)"
    (λ tokens. is_command (Variable 0 ((binder 9 Implicit ((id 10 (codes "y")) ∷ []) (oper 14 Iff (v 14 (codes "a")) (v 20 (codes "b")))) ∷
    (binder 23 Explicit ((id 24 (codes "x")) ∷ []) (oper 28 Iff (v 28 (codes "a")) (v 34 (codes "b")))) ∷ [])))

abbrev pub reach_4 : Text
reach_4 =
    text "def f : a ↔ b := a ↔ b where\n  h (x : a ↔ b) : a ↔ b := a ↔ b\n  k : a ↔ b := a ↔ b"
    (λ tokens. is_command (Def (decl 0 (id 4 (codes "f")) [] [] (Some (oper 8 Iff (v 8 (codes "a")) (v 14 (codes "b"))))) (oper 19 Iff (v
    19 (codes "a")) (v 25 (codes "b"))) ((helper 35 (id 35 (codes "h")) ((binder 37 Explicit ((id 38 (codes "x")) ∷ []) (oper 42
    Iff (v 42 (codes "a")) (v 48 (codes "b")))) ∷ []) (oper 53 Iff (v 53 (codes "a")) (v 59 (codes "b"))) (oper 64 Iff (v 64
    (codes "a")) (v 70 (codes "b")))) ∷ (helper 74 (id 74 (codes "k")) [] (oper 78 Iff (v 78 (codes "a")) (v 84 (codes "b")))
    (oper 89 Iff (v 89 (codes "a")) (v 95 (codes "b")))) ∷ [])))

abbrev pub reach_5 : Text
reach_5 =
    text "def f := a ↔ b"
    (λ tokens. is_command (Def (decl 0 (id 4 (codes "f")) [] [] None) (oper 9 Iff (v 9 (codes "a")) (v 15 (codes "b"))) []))

abbrev pub reach_6 : Text
reach_6 =
    text "theorem t : a ↔ b := a ↔ b"
    (λ tokens. is_command (Theorem (decl 0 (id 8 (codes "t")) [] [] (Some (oper 12 Iff (v 12 (codes "a")) (v 18 (codes "b"))))) (oper 23
    Iff (v 23 (codes "a")) (v 29 (codes "b"))) []))

abbrev pub reach_7 : Text
reach_7 =
    text "inductive T : a ↔ b | c : a ↔ b"
    (λ tokens. is_command (Inductive (decl 0 (id 10 (codes "T")) [] [] (Some (oper 14 Iff (v 14 (codes "a")) (v 20 (codes "b"))))) ((ctor
    22 (id 24 (codes "c")) [] (Some (oper 28 Iff (v 28 (codes "a")) (v 34 (codes "b"))))) ∷ [])))

abbrev pub reach_8 : Text
reach_8 =
    text "structure S : a ↔ b where\n  x : a ↔ b\n  y : a ↔ b"
    (λ tokens. is_command (Structure (decl 0 (id 10 (codes "S")) [] [] (Some (oper 14 Iff (v 14 (codes "a")) (v 20 (codes "b"))))) ((field
    30 ((id 30 (codes "x")) ∷ []) (oper 34 Iff (v 34 (codes "a")) (v 40 (codes "b")))) ∷ (field 44 ((id 44 (codes "y")) ∷ [])
    (oper 48 Iff (v 48 (codes "a")) (v 54 (codes "b")))) ∷ [])))

abbrev pub reach_9 : Text
reach_9 =
    text "class C : a ↔ b"
    (λ tokens. is_command (Class (decl 0 (id 6 (codes "C")) [] [] (Some (oper 10 Iff (v 10 (codes "a")) (v 16 (codes "b"))))) []))

abbrev pub reach_10 : Text
reach_10 =
    text "instance i : a ↔ b := a ↔ b"
    (λ tokens. is_command (Instance (decl 0 (id 9 (codes "i")) [] [] (Some (oper 13 Iff (v 13 (codes "a")) (v 19 (codes "b"))))) (oper 24
    Iff (v 24 (codes "a")) (v 30 (codes "b")))))

abbrev pub reach_11 : Text
reach_11 =
    text "#check a ↔ b"
    (λ tokens. is_command (Check 0 (oper 7 Iff (v 7 (codes "a")) (v 13 (codes "b")))))

abbrev pub reach_12 : Text
reach_12 =
    text "#reduce a ↔ b"
    (λ tokens. is_command (Reduce 0 (oper 8 Iff (v 8 (codes "a")) (v 14 (codes "b")))))

abbrev pub reach_13 : Text
reach_13 =
    text "def f : a ↔ b | 0 => a ↔ b | x => a ↔ b"
    (λ tokens. is_command (Equations (decl 0 (id 4 (codes "f")) [] [] (Some (oper 8 Iff (v 8 (codes "a")) (v 14 (codes "b")))))
    ((alternative 16 (Zero 18) (oper 23 Iff (v 23 (codes "a")) (v 29 (codes "b")))) ∷ (alternative 31 (Constructor (id 33 (codes
    "x")) []) (oper 38 Iff (v 38 (codes "a")) (v 44 (codes "b")))) ∷ [])))

abbrev pub reach_14 : Text
reach_14 =
    text "#check fun (x : a ↔ b) {y : a ↔ b} [C ↔ D] (z : a ↔ b) => a ↔ b"
    (λ tokens. is_command (Check 0 (fun_term 7 (lambdas ((typed (binders 11 Explicit ((id 12 (codes "x")) ∷ []) (oper 16 Iff (v 16 (codes
    "a")) (v 22 (codes "b"))))) ∷ (typed (binders 25 Implicit ((id 26 (codes "y")) ∷ []) (oper 30 Iff (v 30 (codes "a")) (v 36
    (codes "b"))))) ∷ (typed (binders 39 Inst ((id 39 (codes "inst")) ∷ []) (oper 40 Iff (v 40 (codes "C")) (v 46 (codes
    "D"))))) ∷ (typed (binders 49 Explicit ((id 50 (codes "z")) ∷ []) (oper 54 Iff (v 54 (codes "a")) (v 60 (codes "b"))))) ∷
    [])) (oper 66 Iff (v 66 (codes "a")) (v 72 (codes "b"))))))

abbrev pub reach_15 : Text
reach_15 =
    text "#check fun {y : a ↔ b} (x : a ↔ b) => a ↔ b"
    (λ tokens. is_command (Check 0 (fun_term 7 (lambdas ((typed (binders 11 Implicit ((id 12 (codes "y")) ∷ []) (oper 16 Iff (v 16 (codes
    "a")) (v 22 (codes "b"))))) ∷ (typed (binders 25 Explicit ((id 26 (codes "x")) ∷ []) (oper 30 Iff (v 30 (codes "a")) (v 36
    (codes "b"))))) ∷ [])) (oper 42 Iff (v 42 (codes "a")) (v 48 (codes "b"))))))

abbrev pub reach_16 : Text
reach_16 =
    text "#check ∀ x, a ↔ b"
    (λ tokens. is_command (Check 0 (forall_term 7 (lambdas ((plain (id 11 (codes "x"))) ∷ [])) (oper 14 Iff (v 14 (codes "a")) (v 20 (codes
    "b"))))))

abbrev pub reach_17 : Text
reach_17 =
    text "#check let x : a ↔ b := a ↔ b; a ↔ b"
    (λ tokens. is_command (Check 0 (let_term 7 (id 11 (codes "x")) (some_term (oper 15 Iff (v 15 (codes "a")) (v 21 (codes "b")))) (oper 26
    Iff (v 26 (codes "a")) (v 32 (codes "b"))) (oper 35 Iff (v 35 (codes "a")) (v 41 (codes "b"))))))

abbrev pub reach_18 : Text
reach_18 =
    text "#check {x : a ↔ b} → a ↔ b"
    (λ tokens. is_command (Check 0 (arrow 7 (binders 7 Implicit ((id 8 (codes "x")) ∷ []) (oper 12 Iff (v 12 (codes "a")) (v 18 (codes
    "b")))) (oper 25 Iff (v 25 (codes "a")) (v 31 (codes "b"))))))

abbrev pub reach_19 : Text
reach_19 =
    text "#check [a ↔ b] → a ↔ b"
    (λ tokens. is_command (Check 0 (arrow 7 (binders 7 Inst ((id 7 (codes "inst")) ∷ []) (oper 8 Iff (v 8 (codes "a")) (v 14 (codes "b"))))
    (oper 21 Iff (v 21 (codes "a")) (v 27 (codes "b"))))))

abbrev pub reach_20 : Text
reach_20 =
    text "#check (x : a ↔ b) → a ↔ b"
    (λ tokens. is_command (Check 0 (arrow 7 (binders 7 Explicit ((id 8 (codes "x")) ∷ []) (oper 12 Iff (v 12 (codes "a")) (v 18 (codes
    "b")))) (oper 25 Iff (v 25 (codes "a")) (v 31 (codes "b"))))))

abbrev pub reach_21 : Text
reach_21 =
    text "#check f (x ↔ y) (1 ↔ y) (x y ↔ z) (x.{u} ↔ z) (_ ↔ y) (x : a ↔ b) (1 : a ↔ b) (x.y ↔ z) (_ : a ↔ b)"
    (λ tokens. is_command (Check 0 (app 7 (v 7 (codes "f")) (terms ((paren 9 (oper 10 Iff (v 10 (codes "x")) (v 16 (codes "y"))) no_term) ∷
    (paren 19 (oper 20 Iff (numeral (num 20 1)) (v 26 (codes "y"))) no_term) ∷ (paren 29 (oper 30 Iff (app 30 (v 30 (codes "x"))
    (terms ((v 32 (codes "y")) ∷ []))) (v 38 (codes "z"))) no_term) ∷ (paren 41 (oper 42 Iff (ident 42 false (id 42 (codes "x"))
    ((level_name (id 45 (codes "u"))) ∷ [])) (v 52 (codes "z"))) no_term) ∷ (paren 55 (oper 56 Iff (hole 56) (v 62 (codes "y")))
    no_term) ∷ (paren 65 (v 66 (codes "x")) (some_term (oper 70 Iff (v 70 (codes "a")) (v 76 (codes "b"))))) ∷ (paren 79
    (numeral (num 80 1)) (some_term (oper 84 Iff (v 84 (codes "a")) (v 90 (codes "b"))))) ∷ (paren 93 (oper 94 Iff (ident 94
    false (long 94 (codes "x") (codes "y")) []) (v 102 (codes "z"))) no_term) ∷ (paren 105 (hole 106) (some_term (oper 110 Iff
    (v 110 (codes "a")) (v 116 (codes "b"))))) ∷ [])))))

abbrev pub reach_22 : Text
reach_22 =
    text "#check by\n exact a ↔ b\n apply a ↔ b\n have x : a ↔ b := a ↔ b\n rw [a ↔ b, a ↔ b, ← a ↔ b]"
    (λ tokens. is_command (Check 0 (by_term 7 (items ((exact 11 (oper 17 Iff (v 17 (codes "a")) (v 23 (codes "b")))) ∷ (apply 26 (oper 32
    Iff (v 32 (codes "a")) (v 38 (codes "b")))) ∷ (have_item 41 (id 46 (codes "x")) (oper 50 Iff (v 50 (codes "a")) (v 56 (codes
    "b"))) (oper 61 Iff (v 61 (codes "a")) (v 67 (codes "b")))) ∷ (rw_item 70 (rules ((rule 74 false (oper 74 Iff (v 74 (codes
    "a")) (v 80 (codes "b")))) ∷ (rule 83 false (oper 83 Iff (v 83 (codes "a")) (v 89 (codes "b")))) ∷ (rule 92 true (oper 96
    Iff (v 96 (codes "a")) (v 102 (codes "b")))) ∷ []))) ∷ [])))))

-- Texts that are no commands: bad from a token on, or too short.

abbrev pub bad_1 : Text
bad_1 =
    text "#check by have _ : T := a"
    (λ tokens. is_bad (drop 4 tokens))

abbrev pub bad_2 : Text
bad_2 =
    text "#check by have x.y : T := a"
    (λ tokens. is_bad (drop 4 tokens))

abbrev pub bad_3 : Text
bad_3 =
    text "open"
    (λ tokens. is_short)

abbrev pub bad_4 : Text
bad_4 =
    text "open 1"
    (λ tokens. is_bad (drop 1 tokens))

abbrev pub bad_5 : Text
bad_5 =
    text "#print foo"
    (λ tokens. is_bad (drop 1 tokens))

abbrev pub bad_6 : Text
bad_6 =
    text "#print axioms"
    (λ tokens. is_short)

abbrev pub bad_7 : Text
bad_7 =
    text "#print"
    (λ tokens. is_short)

abbrev pub bad_8 : Text
bad_8 =
    text "def f : T | 00 => a"
    (λ tokens. is_bad (drop 5 tokens))

abbrev pub bad_9 : Text
bad_9 =
    text "def f : T | 1 => a"
    (λ tokens. is_bad (drop 5 tokens))

abbrev pub bad_10 : Text
bad_10 =
    text "def f : T | n + 01 => a"
    (λ tokens. is_bad (drop 7 tokens))

abbrev pub bad_11 : Text
bad_11 =
    text "def f : T | n + 2 => a"
    (λ tokens. is_bad (drop 7 tokens))

abbrev pub bad_12 : Text
bad_12 =
    text "def f : T | a.b + 1 => a"
    (λ tokens. is_bad (drop 6 tokens))

abbrev pub bad_13 : Text
bad_13 =
    text "def f | 0 => a"
    (λ tokens. is_bad (drop 2 tokens))

abbrev pub bad_14 : Text
bad_14 =
    text "def f : T := a | 0 => b"
    (λ tokens. is_bad (drop 6 tokens))

abbrev pub bad_15 : Text
bad_15 =
    text "def f : T | 0 => by rfl | n + 1 => a"
    (λ tokens. is_bad (drop 10 tokens))

abbrev pub bad_16 : Text
bad_16 =
    text "structure S where"
    (λ tokens. is_short)

abbrev pub bad_17 : Text
bad_17 =
    text "structure S where x := a"
    (λ tokens. is_bad (drop 5 tokens))

abbrev pub bad_18 : Text
bad_18 =
    text "structure S where x.y : A"
    (λ tokens. is_bad (drop 4 tokens))

abbrev pub bad_19 : Text
bad_19 =
    text "instance : C := v"
    (λ tokens. is_bad (drop 1 tokens))

abbrev pub bad_20 : Text
bad_20 =
    text "instance i := v"
    (λ tokens. is_bad (drop 2 tokens))

abbrev pub bad_21 : Text
bad_21 =
    text "variable [x y : A]"
    (λ tokens. is_bad (drop 4 tokens))

abbrev pub bad_22 : Text
bad_22 =
    text "variable [_ : A]"
    (λ tokens. is_bad (drop 3 tokens))

abbrev pub bad_23 : Text
bad_23 =
    text "variable []"
    (λ tokens. is_bad (drop 2 tokens))

abbrev pub bad_24 : Text
bad_24 =
    text "variable x"
    (λ tokens. is_bad (drop 1 tokens))

abbrev pub bad_25 : Text
bad_25 =
    text "#check fun => a"
    (λ tokens. is_bad (drop 2 tokens))

abbrev pub bad_26 : Text
bad_26 =
    text "#check ∀ x => a"
    (λ tokens. is_bad (drop 3 tokens))

abbrev pub bad_27 : Text
bad_27 =
    text "#check {x} → A"
    (λ tokens. is_bad (drop 3 tokens))

abbrev pub bad_28 : Text
bad_28 =
    text "#check [C]"
    (λ tokens. is_short)

abbrev pub bad_29 : Text
bad_29 =
    text "#check {x : A}"
    (λ tokens. is_short)

abbrev pub bad_30 : Text
bad_30 =
    text "#check f.{}"
    (λ tokens. is_bad (drop 3 tokens))

abbrev pub bad_31 : Text
bad_31 =
    text "#check f.{a.b}"
    (λ tokens. is_bad (drop 3 tokens))

abbrev pub bad_32 : Text
bad_32 =
    text "#check f.{u + v}"
    (λ tokens. is_bad (drop 5 tokens))

abbrev pub bad_33 : Text
bad_33 =
    text "#check f.{imax u}"
    (λ tokens. is_bad (drop 5 tokens))

abbrev pub bad_34 : Text
bad_34 =
    text "#check f.{imax u v w}"
    (λ tokens. is_bad (drop 6 tokens))

abbrev pub bad_35 : Text
bad_35 =
    text "#check f.{max u + 1}"
    (λ tokens. is_bad (drop 5 tokens))

abbrev pub bad_36 : Text
bad_36 =
    text "#check f.{u"
    (λ tokens. is_short)

abbrev pub bad_37 : Text
bad_37 =
    text "#check @1"
    (λ tokens. is_bad (drop 2 tokens))

abbrev pub bad_38 : Text
bad_38 =
    text "#check @"
    (λ tokens. is_short)

abbrev pub bad_39 : Text
bad_39 =
    text "#check a = b = c"
    (λ tokens. is_bad (drop 4 tokens))

abbrev pub bad_40 : Text
bad_40 =
    text "#check a ≠ b = c"
    (λ tokens. is_bad (drop 4 tokens))

abbrev pub bad_41 : Text
bad_41 =
    text "#check a <-> b ↔ c"
    (λ tokens. is_bad (drop 4 tokens))

abbrev pub bad_42 : Text
bad_42 =
    text "#check let x.y := a; b"
    (λ tokens. is_bad (drop 2 tokens))

abbrev pub bad_43 : Text
bad_43 =
    text "#check let x := a"
    (λ tokens. is_short)

abbrev pub bad_44 : Text
bad_44 =
    text "#check (a"
    (λ tokens. is_short)

abbrev pub bad_45 : Text
bad_45 =
    text "#check (a : )"
    (λ tokens. is_bad (drop 4 tokens))

abbrev pub bad_46 : Text
bad_46 =
    text "#check a)"
    (λ tokens. is_bad (drop 2 tokens))

abbrev pub bad_47 : Text
bad_47 =
    text "#check by"
    (λ tokens. is_short)

abbrev pub bad_48 : Text
bad_48 =
    text "#check by foo"
    (λ tokens. is_bad (drop 3 tokens))

abbrev pub bad_49 : Text
bad_49 =
    text "inductive T : A := a"
    (λ tokens. is_bad (drop 4 tokens))

abbrev pub bad_50 : Text
bad_50 =
    text "inductive T where | a.b"
    (λ tokens. is_bad (drop 4 tokens))

abbrev pub bad_51 : Text
bad_51 =
    text "axiom A : B := c"
    (λ tokens. is_bad (drop 4 tokens))

abbrev pub bad_52 : Text
bad_52 =
    text "axiom A"
    (λ tokens. is_short)

abbrev pub bad_53 : Text
bad_53 =
    text "axiom"
    (λ tokens. is_short)

abbrev pub bad_54 : Text
bad_54 =
    text "universe a.b"
    (λ tokens. is_bad (drop 1 tokens))

abbrev pub bad_55 : Text
bad_55 =
    text "end 1"
    (λ tokens. is_bad (drop 1 tokens))

abbrev pub bad_56 : Text
bad_56 =
    text "section A B"
    (λ tokens. is_bad (drop 2 tokens))

abbrev pub bad_57 : Text
bad_57 =
    text "namespace"
    (λ tokens. is_short)

abbrev pub bad_58 : Text
bad_58 =
    text "#check"
    (λ tokens. is_short)

abbrev pub bad_59 : Text
bad_59 =
    text "def f : T := v where | a"
    (λ tokens. is_bad (drop 7 tokens))

abbrev pub bad_60 : Text
bad_60 =
    text "theorem t := p"
    (λ tokens. is_bad (drop 2 tokens))

abbrev pub bad_61 : Text
bad_61 =
    text "#check rw [a]"
    (λ tokens. is_short)

abbrev pub bad_62 : Text
bad_62 =
    text "#check by rw []"
    (λ tokens. is_bad (drop 5 tokens))

abbrev pub bad_63 : Text
bad_63 =
    text "#check by intro"
    (λ tokens. is_bad (drop 4 tokens))

abbrev pub bad_64 : Text
bad_64 =
    text "class C where x"
    (λ tokens. is_bad (drop 5 tokens))

abbrev pub AllRight : List Text → Type 0
AllRight [] = Unit {0}
AllRight (t ∷ ts) = Right t × AllRight ts

-- All of them.
abbrev pub EachRow : Type 0
EachRow = AllRight (argument_1 ∷ argument_2 ∷ argument_3 ∷ argument_4 ∷ argument_5 ∷ argument_6 ∷ argument_7 ∷ argument_8 ∷
    head_1 ∷ head_2 ∷ head_3 ∷ head_4 ∷ head_5 ∷ head_6 ∷ head_7 ∷ head_8 ∷ head_9 ∷
    binder_1 ∷ binder_2 ∷ binder_3 ∷ binder_4 ∷ binder_5 ∷ binder_6 ∷ binder_7 ∷ binder_8 ∷ binder_9 ∷ binder_10 ∷ binder_11 ∷ binder_12 ∷
    binder_13 ∷ binder_14 ∷ binder_15 ∷ binder_16 ∷ binder_17 ∷ binder_18 ∷ binder_19 ∷ binder_20 ∷
    level_1 ∷ level_2 ∷ level_3 ∷ level_4 ∷ level_5 ∷ level_6 ∷ level_7 ∷ level_8 ∷ level_9 ∷ level_10 ∷ level_11 ∷ level_12 ∷
    level_13 ∷ level_14 ∷
    operator_1 ∷ operator_2 ∷ operator_3 ∷ operator_4 ∷ operator_5 ∷ operator_6 ∷ operator_7 ∷ operator_8 ∷ operator_9 ∷ operator_10 ∷ operator_11 ∷
    operator_12 ∷ operator_13 ∷ operator_14 ∷ operator_15 ∷ operator_16 ∷ operator_17 ∷ operator_18 ∷ operator_19 ∷
    item_1 ∷ item_2 ∷ item_3 ∷ item_4 ∷
    command_1 ∷ command_2 ∷ command_3 ∷ command_4 ∷ command_5 ∷ command_6 ∷ command_7 ∷ command_8 ∷ command_9 ∷ command_10 ∷ command_11 ∷ command_12 ∷
    command_13 ∷ command_14 ∷ command_15 ∷ command_16 ∷ command_17 ∷ command_18 ∷ command_19 ∷ command_20 ∷ command_21 ∷ command_22 ∷ command_23 ∷ command_24 ∷
    command_25 ∷ command_26 ∷ command_27 ∷ command_28 ∷ command_29 ∷ command_30 ∷ command_31 ∷ command_32 ∷ command_33 ∷ command_34 ∷
    reach_1 ∷ reach_2 ∷ reach_3 ∷ reach_4 ∷ reach_5 ∷ reach_6 ∷ reach_7 ∷ reach_8 ∷ reach_9 ∷ reach_10 ∷ reach_11 ∷ reach_12 ∷
    reach_13 ∷ reach_14 ∷ reach_15 ∷ reach_16 ∷ reach_17 ∷ reach_18 ∷ reach_19 ∷ reach_20 ∷ reach_21 ∷ reach_22 ∷
    bad_1 ∷ bad_2 ∷ bad_3 ∷ bad_4 ∷ bad_5 ∷ bad_6 ∷ bad_7 ∷ bad_8 ∷ bad_9 ∷ bad_10 ∷ bad_11 ∷ bad_12 ∷
    bad_13 ∷ bad_14 ∷ bad_15 ∷ bad_16 ∷ bad_17 ∷ bad_18 ∷ bad_19 ∷ bad_20 ∷ bad_21 ∷ bad_22 ∷ bad_23 ∷ bad_24 ∷
    bad_25 ∷ bad_26 ∷ bad_27 ∷ bad_28 ∷ bad_29 ∷ bad_30 ∷ bad_31 ∷ bad_32 ∷ bad_33 ∷ bad_34 ∷ bad_35 ∷ bad_36 ∷
    bad_37 ∷ bad_38 ∷ bad_39 ∷ bad_40 ∷ bad_41 ∷ bad_42 ∷ bad_43 ∷ bad_44 ∷ bad_45 ∷ bad_46 ∷ bad_47 ∷ bad_48 ∷
    bad_49 ∷ bad_50 ∷ bad_51 ∷ bad_52 ∷ bad_53 ∷ bad_54 ∷ bad_55 ∷ bad_56 ∷ bad_57 ∷ bad_58 ∷ bad_59 ∷ bad_60 ∷
    bad_61 ∷ bad_62 ∷ bad_63 ∷ bad_64 ∷ [])
