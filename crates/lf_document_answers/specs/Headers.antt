-- Headers and commands of one part, on small texts with their reports. Above each stands its text.
use Rattle.std.specs.Prelude.{Some, List, [], ◌∷◌}
use Rattle.lf_syntax.specs.declared.command.Command.{Command}
use Rattle.lf_syntax.specs.declared.command.Command.TheVariants.{Axiom, Theorem, Variable}
use Rattle.lf_syntax.specs.Tree as tree
use Rattle.lf_document_answers.specs.Written.{ident, name, number, equals, parens, by_items, binder, decl, levelled}
use Rattle.lf_document_answers.specs.Base.{ground, with_units, reports}

-- variable (n : Nat)
-- theorem t (h : n = n) : n = n := h
abbrev pub variable_first : List Command
variable_first =
    Variable 0 (binder 9 10 "n" (name 14 "Nat") ∷ [])
    ∷ Theorem (decl 19 (ident 27 "t") (binder 29 30 "h" (equals (name 34 "n") (name 38 "n")) ∷ []) (Some (equals (name 43 "n") (name 47 "n"))))
    (name 52 "h") [] ∷ []

-- axiom a : 1 = sorry
abbrev pub axiom_warned : List Command
axiom_warned =
    Axiom (decl 0 (ident 6 "a") [] (Some (equals (number 10 1) (tree.sorry_term 14)))) ∷ []

-- axiom a : 1 = (by rfl)
abbrev pub axiom_with_block : List Command
axiom_with_block =
    Axiom (decl 0 (ident 6 "a") [] (Some (equals (number 10 1) (parens 14 (by_items 15 (tree.rfl 18 ∷ [])))))) ∷ []

-- axiom a : _
abbrev pub open_placeholder : List Command
open_placeholder =
    Axiom (decl 0 (ident 6 "a") [] (Some (tree.hole 10))) ∷ []

-- axiom f.{u} : Prop
-- axiom g : f
abbrev pub open_level : List Command
open_level =
    Axiom (levelled (decl 0 (ident 6 "f") [] (Some (tree.prop 14))) (ident 9 "u" ∷ []))
    ∷ Axiom (decl 19 (ident 25 "g") [] (Some (name 29 "f"))) ∷ []

-- theorem t : x := y
abbrev pub failing_header : List Command
failing_header =
    Theorem (decl 0 (ident 8 "t") [] (Some (name 12 "x"))) (name 17 "y") [] ∷ []

-- axiom A : Prop
abbrev pub enough : List Command
enough =
    Axiom (decl 0 (ident 6 "A") [] (Some (tree.prop 10))) ∷ []

pub record HeaderAnswers : Type 0 where
  -- a variable that a theorem takes stands before its binders, and its value sees both
  pub variable_first_report : reports ground ("variable (n : Nat)" ∷ "theorem t (h : n = n) : n = n := h" ∷ []) variable_first
      ("theorem t : ∀ (n : Nat), n = n → n = n"
      ∷ "0 errors, 0 warnings"
      ∷ [])
  -- an axiom whose type rests on `sorry`
  pub axiom_warned_report : reports ground ("axiom a : 1 = sorry" ∷ []) axiom_warned
      ("1:6: warning: declaration uses sorry"
      ∷ "axiom a : 1 = sorryAx Nat (sorry)"
      ∷ "0 errors, 1 warnings"
      ∷ [])
  -- a block that fails in one, and no warning
  pub axiom_with_block_report : reports ground ("axiom a : 1 = (by rfl)" ∷ []) axiom_with_block
      ("1:18: error: type mismatch: has type ? = ? but is expected to have type Nat"
      ∷ "axiom a : 1 = sorryAx Nat (sorry)"
      ∷ "1 errors, 0 warnings"
      ∷ [])
  -- a placeholder that nothing determines
  pub open_placeholder_report : reports ground ("axiom a : _" ∷ []) open_placeholder
      ("1:10: error: cannot determine a placeholder"
      ∷ "1 errors, 0 warnings"
      ∷ [])
  -- a level that nothing determines
  pub open_level_report : reports ground ("axiom f.{u} : Prop" ∷ "axiom g : f" ∷ []) open_level
      ("2:6: error: cannot determine a level"
      ∷ "axiom f : Prop"
      ∷ "1 errors, 0 warnings"
      ∷ [])
  -- a header that fails leaves neither a constant nor a body
  pub failing_header_report : reports ground ("theorem t : x := y" ∷ []) failing_header
      ("1:12: error: unknown identifier x"
      ∷ "1 errors, 0 warnings"
      ∷ [])
  -- four units for the header of an axiom in `Prop`
  pub enough_report : reports (with_units 4) ("axiom A : Prop" ∷ []) enough
      ("axiom A : Prop"
      ∷ "0 errors, 0 warnings"
      ∷ [])
  -- and one unit less
  pub one_less_report : reports (with_units 3) ("axiom A : Prop" ∷ []) enough
      ("1:6: error: budget spent"
      ∷ "1 errors, 0 warnings"
      ∷ [])
