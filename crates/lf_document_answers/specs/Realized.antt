-- Realized constants, on small texts with their reports. Above each stands its text.
use Rattle.std.specs.Prelude.{true, Some, None, List, [], ◌∷◌}
use Rattle.lf_syntax.specs.declared.pattern.Pattern.TheVariants.{Zero, Successor}
use Rattle.lf_syntax.specs.declared.command.Command.{Command}
use Rattle.lf_syntax.specs.declared.command.Command.TheVariants.{Def, Equations, Theorem, Inductive, Check, PrintAxioms}
use Rattle.lf_syntax.specs.Tree as tree
use Rattle.lf_document.specs.Sequential.{over_base}
use Rattle.lf_document_answers.specs.Written.{
  ident,
  ident_of_two,
  ident_of_three,
  name,
  name_of_two,
  number,
  applied,
  equals,
  arrow,
  parens,
  by_items,
  binder,
  decl,
}
use Rattle.lf_document_answers.specs.Base.{realizing, realizing_with_k, base_with_k, reports}

-- def f : Nat := 1
-- #check f.eq_1
abbrev pub realized : List Command
realized =
    Def (decl 0 (ident 4 "f") [] (Some (name 8 "Nat"))) (number 15 1) [] ∷ Check 17 (name_of_two 24 "f" "eq_1") ∷ []

-- def f : Nat := 1
-- theorem t : f = 1 := by unfold f; rfl
abbrev pub unfolded : List Command
unfolded =
    Def (decl 0 (ident 4 "f") [] (Some (name 8 "Nat"))) (number 15 1) []
    ∷ Theorem (decl 17 (ident 25 "t") [] (Some (equals (name 29 "f") (number 33 1)))) (by_items 38 (tree.unfold_item 41 (ident 48 "f") ∷ tree.rfl 51
    ∷ [])) [] ∷ []

-- def f : Nat := 1
-- theorem t : True := by
--   unfold f
--   exact True.intro
abbrev pub asked_in_vain : List Command
asked_in_vain =
    Def (decl 0 (ident 4 "f") [] (Some (name 8 "Nat"))) (number 15 1) []
    ∷ Theorem (decl 17 (ident 25 "t") [] (Some (name 29 "True"))) (by_items 37 (tree.unfold_item 42 (ident 49 "f")
    ∷ tree.exact 53 (name_of_two 59 "True" "intro") ∷ [])) [] ∷ []

-- def f : Nat := sorry
-- #check f.eq_1
abbrev pub nothing_of_sorry : List Command
nothing_of_sorry =
    Def (decl 0 (ident 4 "f") [] (Some (name 8 "Nat"))) (tree.sorry_term 15) [] ∷ Check 21 (name_of_two 28 "f" "eq_1") ∷ []

-- inductive D where
--   | mk (n : Nat) (p : n = n)
-- #check @D.mk.inj
abbrev pub dependent_field : List Command
dependent_field =
    Inductive (decl 0 (ident 10 "D") [] None) (record {
      at = 20;
      name = ident 22 "mk";
      binders = binder 25 26 "n" (name 30 "Nat")
          ∷ binder 35 36 "p" (equals (name 40 "n") (name 44 "n")) ∷ [];
      ty = None;
    } ∷ [])
    ∷ Check 47 (tree.ident 54 true (ident_of_three 55 "D" "mk" "inj") []) ∷ []

-- def f : Nat := 1
-- #check f.eq_1
-- #check k.eq_1
abbrev pub of_base : List Command
of_base =
    Def (decl 0 (ident 4 "f") [] (Some (name 8 "Nat"))) (number 15 1) []
    ∷ Check 17 (name_of_two 24 "f" "eq_1")
    ∷ Check 31 (name_of_two 38 "k" "eq_1") ∷ []

-- def f : Nat := 1
-- #print axioms f.eq_1
abbrev pub asked_by_print : List Command
asked_by_print =
    Def (decl 0 (ident 4 "f") [] (Some (name 8 "Nat"))) (number 15 1) []
    ∷ PrintAxioms 17 (ident_of_two 31 "f" "eq_1") ∷ []

-- def f : Nat := 1
-- #check f.eq_def
-- #check f.eq_1
abbrev pub order_of_suffixes : List Command
order_of_suffixes =
    Def (decl 0 (ident 4 "f") [] (Some (name 8 "Nat"))) (number 15 1) []
    ∷ Check 17 (name_of_two 24 "f" "eq_def")
    ∷ Check 33 (name_of_two 40 "f" "eq_1") ∷ []

-- #check k.eq_1
abbrev pub made_of_base : List Command
made_of_base =
    Check 0 (name_of_two 7 "k" "eq_1") ∷ []

-- def dbl : Nat → Nat
--   | 0 => 0
--   | n + 1 => Nat.succ (Nat.succ (dbl n))
-- #print axioms dbl.eq_3
-- #print axioms dbl.eq_def
abbrev pub numbers_last : List Command
numbers_last =
    Equations (decl 0 (ident 4 "dbl") [] (Some (arrow (name 10 "Nat") (name 18 "Nat")))) (record { at = 24; pattern = Zero 26; term = number 31 0 }
    ∷ record {
      at = 35;
      pattern = Successor (ident 37 "n");
      term = applied (name_of_two 46 "Nat" "succ") (parens 55 (applied
          (name_of_two 56 "Nat" "succ") (parens 65 (applied (name 66 "dbl") (name 70 "n" ∷ [])) ∷ [])) ∷ []);
    } ∷ [])
    ∷ PrintAxioms 74 (ident_of_two 88 "dbl" "eq_3")
    ∷ PrintAxioms 97 (ident_of_two 111 "dbl" "eq_def") ∷ []

pub record RealizedAnswers : Type 0 where
  -- a realized constant that was asked for
  pub realized_report : reports realizing ("def f : Nat := 1" ∷ "#check f.eq_1" ∷ []) realized
      ("2:0: info: f.eq_1 : f = 1"
      ∷ "def f : Nat"
      ∷ "realized f.eq_1 : f = 1"
      ∷ "0 errors, 0 warnings"
      ∷ [])
  -- a proof by the equation of a definition
  pub unfolded_report : reports realizing ("def f : Nat := 1" ∷ "theorem t : f = 1 := by unfold f; rfl" ∷ []) unfolded
      ("def f : Nat"
      ∷ "theorem t : f = 1"
      ∷ "realized f.eq_1 : f = 1"
      ∷ "0 errors, 0 warnings"
      ∷ [])
  -- an `unfold` that fails has asked
  pub asked_in_vain_report : reports realizing ("def f : Nat := 1" ∷ "theorem t : True := by" ∷ "  unfold f" ∷ "  exact True.intro" ∷ []) asked_in_vain
      ("3:2: error: unfold failed"
      ∷ "def f : Nat"
      ∷ "theorem t : True (sorry)"
      ∷ "realized f.eq_1 : f = 1"
      ∷ "1 errors, 0 warnings"
      ∷ [])
  -- a definition by `sorry` has no equation
  pub nothing_of_sorry_report : reports realizing ("def f : Nat := sorry" ∷ "#check f.eq_1" ∷ []) nothing_of_sorry
      ("1:4: warning: declaration uses sorry"
      ∷ "2:7: error: unknown identifier f.eq_1"
      ∷ "def f : Nat (sorry)"
      ∷ "1 errors, 1 warnings"
      ∷ [])
  -- a constructor with a dependent field has no injectivity
  pub dependent_field_report : reports realizing ("inductive D where" ∷ "  | mk (n : Nat) (p : n = n)" ∷ "#check @D.mk.inj" ∷ []) dependent_field
      ("3:8: error: unknown identifier D.mk.inj"
      ∷ "inductive D : Type"
      ∷ "constructor D.mk : ∀ (n : Nat), n = n → D"
      ∷ "recursor D.rec : ∀ {motive : D → Sort u}, (∀ (n : Nat), ∀ (p : n = n), motive (D.mk n p)) → ∀ (t : D), motive t"
      ∷ "1 errors, 0 warnings"
      ∷ [])
  -- realized constants of the base come first
  pub of_base_report : reports realizing_with_k ("def f : Nat := 1" ∷ "#check f.eq_1" ∷ "#check k.eq_1" ∷ []) of_base
      ("2:0: info: f.eq_1 : f = 1"
      ∷ "3:0: info: k.eq_1 : k = 1"
      ∷ "def f : Nat"
      ∷ "realized k.eq_1 : k = 1"
      ∷ "realized f.eq_1 : f = 1"
      ∷ "0 errors, 0 warnings"
      ∷ [])
  -- `#print axioms` asks
  pub asked_by_print_report : reports realizing ("def f : Nat := 1" ∷ "#print axioms f.eq_1" ∷ []) asked_by_print
      ("2:0: info: f.eq_1 does not depend on any axioms"
      ∷ "def f : Nat"
      ∷ "realized f.eq_1 : f = 1"
      ∷ "0 errors, 0 warnings"
      ∷ [])
  -- `eq_1` comes before `eq_def`, in whatever order they are asked for
  pub order_of_suffixes_report : reports realizing ("def f : Nat := 1" ∷ "#check f.eq_def" ∷ "#check f.eq_1" ∷ []) order_of_suffixes
      ("2:0: info: f.eq_def : f = 1"
      ∷ "3:0: info: f.eq_1 : f = 1"
      ∷ "def f : Nat"
      ∷ "realized f.eq_1 : f = 1"
      ∷ "realized f.eq_def : f = 1"
      ∷ "0 errors, 0 warnings"
      ∷ [])
  -- and both before the numbered ones
  pub numbers_last_report : reports realizing ("def dbl : Nat → Nat" ∷ "  | 0 => 0" ∷ "  | n + 1 => Nat.succ (Nat.succ (dbl n))"
      ∷ "#print axioms dbl.eq_3" ∷ "#print axioms dbl.eq_def" ∷ []) numbers_last
      ("4:0: info: dbl.eq_3 does not depend on any axioms"
      ∷ "5:0: info: dbl.eq_def does not depend on any axioms"
      ∷ "def dbl : Nat → Nat"
      ∷ "realized dbl.eq_def : ∀ (a : Nat), dbl a = Nat.rec (fun (a : Nat) => Nat) 0 (fun (n : Nat) => fun (n_ih : (fun (a : Nat) => Nat) n) => Nat.succ (Nat.succ n_ih)) a"
      ∷ "realized dbl.eq_3 : ∀ (n : Nat), dbl (Nat.succ n) = Nat.succ (Nat.succ (dbl n))"
      ∷ "0 errors, 0 warnings"
      ∷ [])
  -- a constant realized over the base
  pub made_of_base_report : reports realizing_with_k ("#check k.eq_1" ∷ []) made_of_base
      ("1:0: info: k.eq_1 : k = 1"
      ∷ "realized k.eq_1 : k = 1"
      ∷ "0 errors, 0 warnings"
      ∷ [])
  -- the units of the base's realized constants are the text's
  pub units_of_text_report : reports (over_base base_with_k 1) ("#check k.eq_1" ∷ []) made_of_base
      ("1:7: error: unknown identifier k.eq_1"
      ∷ "1 errors, 0 warnings"
      ∷ [])
