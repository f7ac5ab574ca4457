-- Worked texts, each of one command: the answer for its tokens. Places are in bytes.
use Rattle.std.specs.Prelude.{◌≡◌, ℕ, List, [], ◌∷◌, Option, Some, None, true, false, codes, drop, ◌+◌, zero, suc}
use Prim.Native.String.{String}
use Rattle.lf_name.specs.declared.binder.BinderKind.TheVariants.{Explicit, Implicit}
use Rattle.lf_text.specs.declared.word.Word.TheVariants as words
use Rattle.lf_syntax.specs.declared.leaf.Ident.{Ident}
use Rattle.lf_syntax.specs.declared.leaf.Num.{Num}
use Rattle.lf_text.specs.declared.operator.Op.TheVariants.{Arrow, Or, And, Eq, Add, Sub, Mul, Mod}
use Rattle.lf_syntax.specs.Tree.{
  level_number,
  level_name,
  level_plus,
  level_max,
  level_imax,
  levels_of,
  TermTree,
  ident,
  numeral,
  hole,
  sorry_term,
  prop,
  type_u,
  sort_u,
  paren,
  no_term,
  some_term,
  app,
  oper,
  not_term,
  fun_term,
  forall_term,
  let_term,
  by_term,
  arrow,
  binders,
  plain,
  typed,
  implicit,
  terms_of as terms,
  binders_of as lambdas,
  items_of as items,
  rules_of as rules,
  block,
  exact,
  intro,
  apply,
  rfl,
  assumption_item,
  rw_item,
  unfold_item,
  have_item,
  induction,
  cases,
  injection,
  sorry_item,
  rule,
}
use Rattle.lf_syntax.specs.declared.term.Binders.{Binders}
use Rattle.lf_syntax.specs.declared.command.Decl.{Decl}
use Rattle.lf_syntax.specs.declared.command.Helper.{Helper}
use Rattle.lf_syntax.specs.declared.command.CtorDecl.{CtorDecl}
use Rattle.lf_syntax.specs.declared.command.Command.{Command}
use Rattle.lf_syntax.specs.declared.command.Command.TheVariants.{
  Axiom,
  Def,
  Theorem,
  Inductive,
  Namespace,
  Section,
  End,
  OpenNames,
  Universe,
  Variable,
  Check,
  Reduce,
  Bad,
}
use Rattle.lf_syntax.specs.declared.leaf.SyntaxFault.TheVariants.{Token, Wide, Deep}
use Rattle.lf_syntax.specs.declared.leaf.SyntaxFault.TheVariants as fault
use Rattle.lf_syntax.specs.Document.{CommandsOf, IsCommand}
use Rattle.lf_syntax.specs.Piece.{Piece, word}
use Rattle.lf_syntax.specs.Classes.{pieces_of}
use Rattle.lf_syntax.specs.Grammar.{Answer, IsAnswer, is_command, is_bad, is_short}
use Rattle.lf_text.specs.Words.{utf8}

-- A text, and the answer for its tokens.
pub record Text : Type 0 where
  pub bytes : List ℕ
  pub answer : List Piece → Answer

abbrev pub text : String → (List Piece → Answer) → Text
text written answer = record { bytes = utf8 written; answer = answer }

abbrev pub Right : Text → Type 0
Right t = let tokens : List Piece = pieces_of t.bytes in IsAnswer tokens (t.answer tokens)

abbrev id : ℕ → List ℕ → Ident
id at w = record { at = at; name = w ∷ [] }

abbrev long : ℕ → List ℕ → List ℕ → Ident
long at w v = record { at = at; name = w ∷ v ∷ [] }

abbrev num : ℕ → ℕ → Num
num at n = record { at = at; value = n }

abbrev v : ℕ → List ℕ → TermTree
v at w = ident at false (id at w) []

abbrev group : ℕ → List Ident → TermTree → Binders
group at xs ty = record { at = at; kind = Explicit; names = xs; ty = ty }

abbrev decl : ℕ → Ident → List Ident → List Binders → Option TermTree → Decl
decl at x ls bs ty = record { at = at; name = x; levels = ls; binders = bs; ty = ty }

abbrev helper : ℕ → Ident → List Binders → TermTree → TermTree → Helper
helper at x bs ty t = record { at = at; name = x; binders = bs; ty = ty; value = t }

abbrev ctor : ℕ → Ident → List Binders → Option TermTree → CtorDecl
ctor at x bs ty = record { at = at; name = x; binders = bs; ty = ty }

abbrev pub def_without_name_text : Text
def_without_name_text = text "def := 3" (λ tokens. is_bad (drop 1 tokens))

abbrev pub axiom_without_type_text : Text
axiom_without_type_text = text "axiom A" (λ tokens. is_short)

abbrev pub wide_numeral_text : Text
wide_numeral_text = text "#check 340282366920938463463374607431768211456" (λ tokens. is_bad (drop 1 tokens))

abbrev pub bad_character_behind_a_bad_token_text : Text
bad_character_behind_a_bad_token_text = text "def := ?" (λ tokens. is_bad (drop 1 tokens))

abbrev pub no_command_word_text : Text
no_command_word_text = text "A : Prop" (λ tokens. is_bad (drop 0 tokens))

abbrev pub left_out_command_text : Text
left_out_command_text = text "import A" (λ tokens. is_bad (drop 0 tokens))

abbrev pub attribute_in_a_term_text : Text
attribute_in_a_term_text = text "@[x] def f := 1" (λ tokens. is_bad (drop 0 tokens))

abbrev pub type_of_an_application_text : Text
type_of_an_application_text = text "#check Type (f x)"
    (λ tokens. is_command (Check 0 (app 7 (type_u 7 None) (terms (paren 12 (app 13 (v 13 (codes "f")) (terms ((v 15 (codes "x")) ∷ []))) no_term ∷ [])))))

abbrev pub type_before_written_levels_text : Text
type_before_written_levels_text = text "#check Type x.{u}"
    (λ tokens. is_command (Check 0 (app 7 (type_u 7 None) (terms (ident 12 false (id 12 (codes "x")) (level_name (id 15 (codes "u")) ∷ []) ∷ [])))))

abbrev pub type_of_a_sum_text : Text
type_of_a_sum_text = text "#check Type (u + 1)" (λ tokens. is_command (Check 0 (type_u 7 (Some (level_plus 13 (level_name (id 13 (codes "u"))) (num 17 1))))))

abbrev pub type_of_a_maximum_text : Text
type_of_a_maximum_text = text "#check Type (max u v) x"
    (λ tokens. is_command (Check 0 (app 7 (type_u 7 (Some (level_max 13 (levels_of (level_name (id 17 (codes "u")) ∷ level_name (id 19 (codes "v")) ∷ [])))))
    (terms ((v 22 (codes "x")) ∷ [])))))

abbrev pub type_of_no_level_text : Text
type_of_no_level_text = text "#check Type (max u v + 1)"
    (λ tokens. is_command (Check 0 (app 7 (type_u 7 None)
    (terms (paren 12 (oper 13 Add (app 13 (v 13 (codes "max")) (terms ((v 17 (codes "u")) ∷ (v 19 (codes "v")) ∷ []))) (numeral (num 23 1))) no_term ∷ [])))))

abbrev pub sort_of_a_bare_maximum_text : Text
sort_of_a_bare_maximum_text = text "#check Sort max u"
    (λ tokens. is_command (Check 0 (app 7 (sort_u 7 (Some (level_name (id 12 (codes "max"))))) (terms ((v 16 (codes "u")) ∷ [])))))

abbrev pub maximum_of_one_level_text : Text
maximum_of_one_level_text = text "#check f.{max u}" (λ tokens. is_bad (drop 5 tokens))

abbrev pub levels_in_braces_text : Text
levels_in_braces_text = text "#check f.{max u 1, imax u (v), 2 + 3}"
    (λ tokens. is_command (Check 0 (ident 7 false (id 7 (codes "f"))
    (level_max 10 (levels_of (level_name (id 14 (codes "u")) ∷ level_number (num 16 1) ∷ []))
    ∷ level_imax 19 (level_name (id 24 (codes "u"))) (level_name (id 27 (codes "v"))) ∷ level_plus 31 (level_number (num 31 2)) (num 35 3) ∷ []))))

abbrev pub sides_text : Text
sides_text = text "#check a - b - c * d" (λ tokens.
    is_command (Check 0 (oper 7 Sub (oper 7 Sub (v 7 (codes "a")) (v 11 (codes "b"))) (oper 15 Mul (v 15 (codes "c")) (v 19 (codes "d"))))))

abbrev pub arrows_and_connectives_text : Text
arrows_and_connectives_text = text "#check a → b ∨ c ∧ d → e"
    (λ tokens. is_command (Check 0 (oper 7 Arrow (v 7 (codes "a"))
    (oper 13 Arrow (oper 13 Or (v 13 (codes "b")) (oper 19 And (v 19 (codes "c")) (v 25 (codes "d")))) (v 31 (codes "e"))))))

abbrev pub equality_of_three_text : Text
equality_of_three_text = text "#check a = b = c" (λ tokens. is_bad (drop 4 tokens))

abbrev pub iff_of_three_text : Text
iff_of_three_text = text "#check a ↔ b ↔ c" (λ tokens. is_bad (drop 4 tokens))

abbrev pub lead_as_the_left_side_text : Text
lead_as_the_left_side_text = text "#check fun x => a = b = c"
    (λ tokens. is_command (Check 0 (oper 7 Eq (fun_term 7 (lambdas (plain (id 11 (codes "x")) ∷ [])) (oper 16 Eq (v 16 (codes "a")) (v 20 (codes "b"))))
    (v 24 (codes "c")))))

abbrev pub not_reaches_over_an_equality_text : Text
not_reaches_over_an_equality_text = text "#check ¬ a = b" (λ tokens. is_command (Check 0 (not_term 7 (oper 10 Eq (v 10 (codes "a")) (v 14 (codes "b"))))))

abbrev pub not_behind_a_sum_text : Text
not_behind_a_sum_text = text "#check a + ¬ b + c" (λ tokens.
    is_command (Check 0 (oper 7 Add (v 7 (codes "a")) (not_term 11 (oper 14 Add (v 14 (codes "b")) (v 18 (codes "c")))))))

abbrev pub not_stops_before_and_text : Text
not_stops_before_and_text = text "#check ¬ a ∧ b" (λ tokens. is_command (Check 0 (oper 7 And (not_term 7 (v 10 (codes "a"))) (v 16 (codes "b")))))

abbrev pub arrow_behind_a_binder_text : Text
arrow_behind_a_binder_text = text "#check (x : A) → B"
    (λ tokens. is_command (Check 0 (arrow 7 (binders 7 Explicit (id 8 (codes "x") ∷ []) (v 12 (codes "A"))) (v 19 (codes "B")))))

abbrev pub arrow_as_an_argument_text : Text
arrow_as_an_argument_text = text "#check f (x : A) → B"
    (λ tokens. is_command (Check 0 (app 7 (v 7 (codes "f"))
    (terms (arrow 9 (binders 9 Explicit (id 10 (codes "x") ∷ []) (v 14 (codes "A"))) (v 21 (codes "B")) ∷ [])))))

abbrev pub arrow_behind_an_equality_text : Text
arrow_behind_an_equality_text = text "#check a = (x : A) → B"
    (λ tokens. is_command (Check 0 (oper 7 Eq (v 7 (codes "a"))
    (arrow 11 (binders 11 Explicit (id 12 (codes "x") ∷ []) (v 16 (codes "A"))) (v 23 (codes "B"))))))

abbrev pub two_groups_and_an_arrow_text : Text
two_groups_and_an_arrow_text = text "#check (x : A) (y : B) → C"
    (λ tokens. is_command (Check 0 (app 7 (paren 7 (v 8 (codes "x")) (some_term (v 12 (codes "A"))))
    (terms (arrow 15 (binders 15 Explicit (id 16 (codes "y") ∷ []) (v 20 (codes "B"))) (v 27 (codes "C")) ∷ [])))))

abbrev pub braces_and_an_arrow_text : Text
braces_and_an_arrow_text = text "#check {x _ : A} -> B"
    (λ tokens. is_command (Check 0 (arrow 7 (binders 7 Implicit (id 8 (codes "x") ∷ id 10 (codes "_") ∷ []) (v 14 (codes "A"))) (v 20 (codes "B")))))

abbrev pub names_with_a_type_text : Text
names_with_a_type_text = text "#check (x y : T)" (λ tokens.
    is_command (Check 0 (paren 7 (app 8 (v 8 (codes "x")) (terms ((v 10 (codes "y")) ∷ []))) (some_term (v 14 (codes "T"))))))

abbrev pub names_that_go_on_text : Text
names_that_go_on_text = text "#check (f _ x.{u} + 1 : T) y"
    (λ tokens. is_command (Check 0 (app 7 (paren 7
    (oper 8 Add (app 8 (v 8 (codes "f")) (terms (hole 10 ∷ ident 12 false (id 12 (codes "x")) (level_name (id 15 (codes "u")) ∷ []) ∷ [])))
    (numeral (num 20 1))) (some_term (v 24 (codes "T")))) (terms ((v 27 (codes "y")) ∷ [])))))

abbrev pub braces_without_a_type_text : Text
braces_without_a_type_text = text "#check ∀ {x}, p"
    (λ tokens. is_command (Check 0 (forall_term 7 (lambdas (implicit 11 (id 12 (codes "x") ∷ []) ∷ [])) (v 16 (codes "p")))))

abbrev pub binders_of_fun_text : Text
binders_of_fun_text = text "#check λ (x y : A) {z : B} _ ↦ sorry"
    (λ tokens. is_command (Check 0 (fun_term 7 (lambdas
    (typed (binders 10 Explicit (id 11 (codes "x") ∷ id 13 (codes "y") ∷ []) (v 17 (codes "A")))
    ∷ typed (binders 20 Implicit (id 21 (codes "z") ∷ []) (v 25 (codes "B"))) ∷ plain (id 28 (codes "_")) ∷ [])) (sorry_term 34))))

abbrev pub let_in_a_let_text : Text
let_in_a_let_text = text "#check let x : N := 1; let y := x; @f.{0} y"
    (λ tokens. is_command (Check 0 (let_term 7 (id 11 (codes "x")) (some_term (v 15 (codes "N"))) (numeral (num 20 1))
    (let_term 23 (id 27 (codes "y")) no_term (v 32 (codes "x"))
    (app 35 (ident 35 true (id 36 (codes "f")) (level_number (num 39 0) ∷ [])) (terms ((v 42 (codes "y")) ∷ [])))))))

abbrev pub by_at_the_end_text : Text
by_at_the_end_text = text "#check by" (λ tokens. is_short)

abbrev pub exact_at_the_end_text : Text
exact_at_the_end_text = text "#check by exact" (λ tokens. is_bad (drop 4 tokens))

abbrev pub items_text : Text
items_text = text "#check by\n exact a\n intro x _\n apply f\n rfl\n assumption\n rw [← a, b]\n unfold f.g\n have x : T := a\n induction x\n cases y\n injection h\n sorry" (λ tokens. is_command (Check 0 (by_term 7 (items (exact 11 (v 17 (codes "a")) ∷ intro 20 (id 26 (codes "x") ∷ id 28 (codes "_") ∷ []) ∷ apply 31 (v 37 (codes "f")) ∷ rfl 40 ∷ assumption_item 45 ∷ rw_item 57 (rules (rule 61 true (v 65 (codes "a")) ∷ rule 68 false (v 68 (codes "b")) ∷ [])) ∷ unfold_item 72 (long 79 (codes "f") (codes "g")) ∷ have_item 84 (id 89 (codes "x")) (v 93 (codes "T")) (v 98 (codes "a")) ∷ induction 101 (id 111 (codes "x")) ∷ cases 114 (id 120 (codes "y")) ∷ injection 123 (id 133 (codes "h")) ∷ sorry_item 136 ∷ [])))))

abbrev pub nested_dots_text : Text
nested_dots_text = text "#check by\n · exact a\n   · rfl; rfl\n sorry"
    (λ tokens. is_command (Check 0 (by_term 7 (items
    (block 11 (items (exact 14 (v 20 (codes "a")) ∷ block 25 (items (rfl 28 ∷ rfl 33 ∷ [])) ∷ [])) ∷ sorry_item 38 ∷ [])))))

abbrev pub where_behind_a_value_text : Text
where_behind_a_value_text = text "def f := v where" (λ tokens. is_bad (drop 4 tokens))

abbrev pub definition_without_a_type_text : Text
definition_without_a_type_text = text "def f.g.{u, v} (x : A) := x"
    (λ tokens. is_command (Def (decl 0 (long 4 (codes "f") (codes "g")) (id 9 (codes "u") ∷ id 12 (codes "v") ∷ [])
    (group 15 (id 16 (codes "x") ∷ []) (v 20 (codes "A")) ∷ []) None) (v 26 (codes "x")) []))

abbrev pub helpers_text : Text
helpers_text = text "def f : N := a\nwhere\n  a : N := b\n  b (x : N) : N := x"
    (λ tokens. is_command (Def (decl 0 (id 4 (codes "f")) [] [] (Some (v 8 (codes "N")))) (v 13 (codes "a"))
    (helper 23 (id 23 (codes "a")) [] (v 27 (codes "N")) (v 32 (codes "b"))
    ∷ helper 36 (id 36 (codes "b")) (group 38 (id 39 (codes "x") ∷ []) (v 43 (codes "N")) ∷ []) (v 48 (codes "N")) (v 53 (codes "x")) ∷ [])))

abbrev pub theorem_text : Text
theorem_text = text "theorem t : T := by rfl" (λ tokens.
    is_command (Theorem (decl 0 (id 8 (codes "t")) [] [] (Some (v 12 (codes "T")))) (by_term 17 (items (rfl 20 ∷ []))) []))

abbrev pub constructors_text : Text
constructors_text = text "inductive T where | a : T | b"
    (λ tokens. is_command (Inductive (decl 0 (id 10 (codes "T")) [] [] None)
    (ctor 18 (id 20 (codes "a")) [] (Some (v 24 (codes "T"))) ∷ ctor 26 (id 28 (codes "b")) [] None ∷ [])))

abbrev pub no_constructors_text : Text
no_constructors_text = text "inductive T (x : A) : B"
    (λ tokens. is_command (Inductive (decl 0 (id 10 (codes "T")) [] (group 12 (id 13 (codes "x") ∷ []) (v 17 (codes "A")) ∷ []) (Some (v 22 (codes "B")))) []))

abbrev pub axiom_with_levels_text : Text
axiom_with_levels_text = text "axiom A.{u} : Sort u"
    (λ tokens. is_command (Axiom (decl 0 (id 6 (codes "A")) (id 9 (codes "u") ∷ []) [] (Some (sort_u 14 (Some (level_name (id 19 (codes "u")))))))))

abbrev pub namespace_text : Text
namespace_text = text "namespace A.B" (λ tokens. is_command (Namespace 0 (long 10 (codes "A") (codes "B"))))

abbrev pub section_without_a_name_text : Text
section_without_a_name_text = text "section" (λ tokens. is_command (Section 0 None))

abbrev pub end_with_a_name_text : Text
end_with_a_name_text = text "end A" (λ tokens. is_command (End 0 (Some (id 4 (codes "A")))))

abbrev pub open_names_text : Text
open_names_text = text "open A B.C" (λ tokens. is_command (OpenNames 0 (id 5 (codes "A") ∷ long 7 (codes "B") (codes "C") ∷ [])))

abbrev pub universe_names_text : Text
universe_names_text = text "universe u v" (λ tokens. is_command (Universe 0 (id 9 (codes "u") ∷ id 11 (codes "v") ∷ [])))

abbrev pub variables_text : Text
variables_text = text "variable (x y : A)" (λ tokens. is_command (Variable 0 (group 9 (id 10 (codes "x") ∷ id 12 (codes "y") ∷ []) (v 16 (codes "A")) ∷ [])))

abbrev pub reduction_text : Text
reduction_text = text "#reduce 1 % 2" (λ tokens. is_command (Reduce 0 (oper 8 Mod (numeral (num 8 1)) (numeral (num 12 2)))))

-- A text, and its commands.
pub record Document : Type 0 where
  pub bytes : List ℕ
  pub commands : List Command

abbrev pub Has : Document → Type 0
Has d = CommandsOf d.bytes d.commands

abbrev pub bad_and_good : Document
bad_and_good = record {
  bytes = utf8 "def := 3\naxiom A : Prop\n";
  commands = Bad 4 Token ∷ Axiom (decl 9 (id 15 (codes "A")) [] [] (Some (prop 19))) ∷ [];
}

abbrev pub too_short : Document
too_short = record { bytes = utf8 "axiom A"; commands = Bad 7 fault.End ∷ [] }

abbrev pub too_wide : Document
too_wide = record { bytes = utf8 "#check 340282366920938463463374607431768211456"; commands = Bad 7 Wide ∷ [] }

-- `#check` and so many opening parentheses, the first of them the k-th, with their nesting numbers.
abbrev pub parentheses : ℕ → ℕ → List Piece
parentheses k zero = []
parentheses k (suc n) = record { class = word words.LeftParen; at = 7 + k; «end» = 8 + k; nesting = 1 + k } ∷ parentheses (1 + k) n

abbrev pub check_of : ℕ → List Piece
check_of n = record { class = word words.Check; at = 0; «end» = 6; nesting = 0 } ∷ parentheses 0 n

-- 257 are too deep at the last one; 256 aren't.
abbrev pub TooDeep : Type 0
TooDeep = IsCommand (check_of 257) (Bad 263 Deep)

abbrev pub NotTooDeep : Type 0
NotTooDeep = IsCommand (check_of 256) (Bad 263 fault.End)

abbrev pub three_parentheses : Type 0
three_parentheses = pieces_of (utf8 "#check (((") ≡ check_of 3

-- All of them.
abbrev pub Worked : Type 0
Worked = Right def_without_name_text × Right axiom_without_type_text × Right wide_numeral_text × Right bad_character_behind_a_bad_token_text
    × Right no_command_word_text × Right left_out_command_text × Right attribute_in_a_term_text × Right type_of_an_application_text
    × Right type_before_written_levels_text × Right type_of_a_sum_text × Right type_of_a_maximum_text × Right type_of_no_level_text
    × Right sort_of_a_bare_maximum_text × Right maximum_of_one_level_text × Right levels_in_braces_text × Right sides_text × Right arrows_and_connectives_text
    × Right equality_of_three_text × Right iff_of_three_text × Right lead_as_the_left_side_text × Right not_reaches_over_an_equality_text
    × Right not_behind_a_sum_text × Right not_stops_before_and_text × Right arrow_behind_a_binder_text × Right arrow_as_an_argument_text
    × Right arrow_behind_an_equality_text × Right two_groups_and_an_arrow_text × Right braces_and_an_arrow_text × Right names_with_a_type_text
    × Right names_that_go_on_text × Right braces_without_a_type_text × Right binders_of_fun_text × Right let_in_a_let_text × Right by_at_the_end_text
    × Right exact_at_the_end_text × Right items_text × Right nested_dots_text × Right where_behind_a_value_text × Right definition_without_a_type_text
    × Right helpers_text × Right theorem_text × Right constructors_text × Right no_constructors_text × Right axiom_with_levels_text × Right namespace_text
    × Right section_without_a_name_text × Right end_with_a_name_text × Right open_names_text × Right universe_names_text × Right variables_text
    × Right reduction_text × Has bad_and_good × Has too_short × Has too_wide × TooDeep × NotTooDeep × three_parentheses
