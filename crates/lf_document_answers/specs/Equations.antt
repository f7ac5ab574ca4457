-- Definitions by equations, on small texts with their reports. Above each stands its text.
use Rattle.std.specs.Prelude.{Some, List, [], ◌∷◌}
use Rattle.lf_syntax.specs.declared.pattern.Pattern.TheVariants.{Constructor, Zero, Successor}
use Rattle.lf_syntax.specs.declared.command.Command.{Command}
use Rattle.lf_syntax.specs.declared.command.Command.TheVariants.{Axiom, Equations, Check}
use Rattle.lf_syntax.specs.Tree as tree
use Rattle.lf_document_answers.specs.Written.{ident, ident_of_two, name, name_of_two, at_name_of_two, number, applied, arrow, for_all, parens, binder, decl}
use Rattle.lf_document_answers.specs.Base.{ground, realizing, reports}

-- def dbl : Nat → Nat
--   | 0 => 0
--   | n + 1 => Nat.succ (Nat.succ (dbl n))
-- #check @dbl.eq_3
abbrev pub by_equations : List Command
by_equations =
    Equations (decl 0 (ident 4 "dbl") [] (Some (arrow (name 10 "Nat") (name 18 "Nat"))))
    (record { at = 24; pattern = Zero 26; term = number 31 0 }
    ∷ record {
      at = 35;
      pattern = Successor (ident 37 "n");
      term = applied (name_of_two 46 "Nat" "succ") (parens 55 (applied (name_of_two 56 "Nat" "succ")
          (parens 65 (applied (name 66 "dbl") (name 70 "n" ∷ [])) ∷ [])) ∷ []);
    } ∷ [])
    ∷ Check 74 (at_name_of_two 81 "dbl" "eq_3") ∷ []

-- def g : Prop → Nat
--   | True.intro => 0
abbrev pub no_argument : List Command
no_argument =
    Equations (decl 0 (ident 4 "g") [] (Some (arrow (tree.prop 8) (name 17 "Nat")))) (record {
      at = 23;
      pattern = Constructor
          (ident_of_two 25 "True" "intro") [];
      term = number 39 0;
    } ∷ []) ∷ []

-- def g : Nat → Nat
--   | Bool.true => 0
abbrev pub not_a_case : List Command
not_a_case =
    Equations (decl 0 (ident 4 "g") [] (Some (arrow (name 8 "Nat") (name 16 "Nat")))) (record {
      at = 22;
      pattern = Constructor
          (ident_of_two 24 "Bool" "true") [];
      term = number 37 0;
    } ∷ []) ∷ []

-- def g : Nat → Nat
--   | 0 => 0
--   | 0 => 1
abbrev pub case_twice : List Command
case_twice =
    Equations (decl 0 (ident 4 "g") [] (Some (arrow (name 8 "Nat") (name 16 "Nat")))) (record { at = 22; pattern = Zero 24; term = number 29 0 }
    ∷ record { at = 33; pattern = Zero 35; term = number 40 1 } ∷ []) ∷ []

-- def g : Nat → Nat
--   | 0 => 0
abbrev pub missing_case : List Command
missing_case =
    Equations (decl 0 (ident 4 "g") [] (Some (arrow (name 8 "Nat") (name 16 "Nat")))) (record { at = 22; pattern = Zero 24; term = number 29 0 }
    ∷ []) ∷ []

-- def g : Nat → Nat
--   | 0 => Bool.true
abbrev pub missing_first : List Command
missing_first =
    Equations (decl 0 (ident 4 "g") [] (Some (arrow (name 8 "Nat") (name 16 "Nat"))))
    (record { at = 22; pattern = Zero 24; term = name_of_two 29 "Bool" "true" } ∷ []) ∷ []

-- def g : Nat → Nat
--   | 0 => g 0
--   | n + 1 => 0
abbrev pub not_structural : List Command
not_structural =
    Equations (decl 0 (ident 4 "g") [] (Some (arrow (name 8 "Nat") (name 16 "Nat")))) (record {
      at = 22;
      pattern = Zero 24;
      term = applied
          (name 29 "g") (number 31 0 ∷ []);
    } ∷ record { at = 35; pattern = Successor (ident 37 "n"); term = number 46 0 } ∷ []) ∷ []

-- def g : Nat → Nat
--   | 0 => g 0
--   | n + 1 => Bool.true
abbrev pub term_first : List Command
term_first =
    Equations (decl 0 (ident 4 "g") [] (Some (arrow (name 8 "Nat") (name 16 "Nat")))) (record {
      at = 22;
      pattern = Zero 24;
      term = applied
          (name 29 "g") (number 31 0 ∷ []);
    } ∷ record { at = 35; pattern = Successor (ident 37 "n"); term = name_of_two 46 "Bool" "true" } ∷ []) ∷ []

-- def g : Nat
--   | x => 0
abbrev pub resolved_first : List Command
resolved_first =
    Equations (decl 0 (ident 4 "g") [] (Some (name 8 "Nat"))) (record { at = 14; pattern = Constructor (ident 16 "x") []; term = number 21 0 }
    ∷ []) ∷ []

-- def a.g : Nat → Nat
--   | 0 => 0
--   | n + 1 => a.g n
abbrev pub name_of_two_parts : List Command
name_of_two_parts =
    Equations (decl 0 (ident_of_two 4 "a" "g") [] (Some (arrow (name 10 "Nat") (name 18 "Nat"))))
    (record { at = 24; pattern = Zero 26; term = number 31 0 } ∷ record {
      at = 35;
      pattern = Successor (ident 37 "n");
      term = applied
          (name_of_two 46 "a" "g") (name 50 "n" ∷ []);
    } ∷ []) ∷ []

-- def add (n : Nat) : Nat → Nat
--   | 0 => n
--   | m + 1 => Nat.succ (add n m)
abbrev pub with_binder : List Command
with_binder =
    Equations (decl 0 (ident 4 "add") (binder 8 9 "n" (name 13 "Nat") ∷ []) (Some (arrow (name 20 "Nat") (name 28 "Nat"))))
    (record { at = 34; pattern = Zero 36; term = name 41 "n" } ∷ record {
      at = 45;
      pattern = Successor (ident 47 "m");
      term = applied
          (name_of_two 56 "Nat" "succ") (parens 65 (applied (name 66 "add") (name 70 "n" ∷ name 72 "m" ∷ [])) ∷ []);
    } ∷ []) ∷ []

-- axiom P : Nat → Prop
-- axiom z : P 0
-- axiom s : ∀ (n : Nat), P n → P (Nat.succ n)
-- def p : ∀ (n : Nat), P n
--   | 0 => z
--   | n + 1 => s n (p n)
abbrev pub dependent : List Command
dependent =
    Axiom (decl 0 (ident 6 "P") [] (Some (arrow (name 10 "Nat") (tree.prop 18))))
    ∷ Axiom (decl 23 (ident 29 "z") [] (Some (applied (name 33 "P") (number 35 0 ∷ []))))
    ∷ Axiom (decl 37 (ident 43 "s") [] (Some (for_all 47 51 52 "n" (name 56 "Nat") (arrow (applied (name 62 "P") (name 64 "n" ∷ [])) (applied
    (name 70 "P") (parens 72 (applied (name_of_two 73 "Nat" "succ") (name 82 "n" ∷ [])) ∷ []))))))
    ∷ Equations (decl 85 (ident 89 "p") [] (Some (for_all 93 97 98 "n" (name 102 "Nat") (applied (name 108 "P") (name 110 "n" ∷ [])))))
    (record { at = 114; pattern = Zero 116; term = name 121 "z" } ∷ record {
      at = 125;
      pattern = Successor (ident 127 "n");
      term = applied
          (name 136 "s") (name 138 "n" ∷ parens 140 (applied (name 141 "p") (name 143 "n" ∷ [])) ∷ []);
    } ∷ []) ∷ []

pub record EquationAnswers : Type 0 where
  -- a definition by equations, and one of its equations
  pub by_equations_report : reports realizing ("def dbl : Nat → Nat" ∷ "  | 0 => 0" ∷ "  | n + 1 => Nat.succ (Nat.succ (dbl n))"
      ∷ "#check @dbl.eq_3" ∷ []) by_equations
      ("4:0: info: dbl.eq_3 : ∀ (n : Nat), dbl (Nat.succ n) = Nat.succ (Nat.succ (dbl n))"
      ∷ "def dbl : Nat → Nat"
      ∷ "realized dbl.eq_3 : ∀ (n : Nat), dbl (Nat.succ n) = Nat.succ (Nat.succ (dbl n))"
      ∷ "0 errors, 0 warnings"
      ∷ [])
  -- equations on a type that isn't inductive
  pub no_argument_report : reports ground ("def g : Prop → Nat" ∷ "  | True.intro => 0" ∷ []) no_argument
      ("1:4: error: not an inductive argument"
      ∷ "def g : Prop → Nat (sorry)"
      ∷ "1 errors, 0 warnings"
      ∷ [])
  -- a constructor of another type
  pub not_a_case_report : reports ground ("def g : Nat → Nat" ∷ "  | Bool.true => 0" ∷ []) not_a_case
      ("1:4: error: Bool.true is not a case"
      ∷ "def g : Nat → Nat (sorry)"
      ∷ "1 errors, 0 warnings"
      ∷ [])
  -- a case that stands twice
  pub case_twice_report : reports ground ("def g : Nat → Nat" ∷ "  | 0 => 0" ∷ "  | 0 => 1" ∷ []) case_twice
      ("1:4: error: case Nat.zero twice"
      ∷ "def g : Nat → Nat (sorry)"
      ∷ "1 errors, 0 warnings"
      ∷ [])
  -- a case that is missing
  pub missing_case_report : reports ground ("def g : Nat → Nat" ∷ "  | 0 => 0" ∷ []) missing_case
      ("1:4: error: missing case Nat.succ"
      ∷ "def g : Nat → Nat (sorry)"
      ∷ "1 errors, 0 warnings"
      ∷ [])
  -- a missing case comes before an error in a term
  pub missing_first_report : reports ground ("def g : Nat → Nat" ∷ "  | 0 => Bool.true" ∷ []) missing_first
      ("1:4: error: missing case Nat.succ"
      ∷ "def g : Nat → Nat (sorry)"
      ∷ "1 errors, 0 warnings"
      ∷ [])
  -- recursion at no field
  pub not_structural_report : reports ground ("def g : Nat → Nat" ∷ "  | 0 => g 0" ∷ "  | n + 1 => 0" ∷ []) not_structural
      ("1:4: error: recursion is not structural in case Nat.zero"
      ∷ "def g : Nat → Nat (sorry)"
      ∷ "1 errors, 0 warnings"
      ∷ [])
  -- and an error in a term before it
  pub term_first_report : reports ground ("def g : Nat → Nat" ∷ "  | 0 => g 0" ∷ "  | n + 1 => Bool.true" ∷ []) term_first
      ("3:13: error: type mismatch: has type Bool but is expected to have type Nat"
      ∷ "def g : Nat → Nat (sorry)"
      ∷ "1 errors, 0 warnings"
      ∷ [])
  -- patterns are resolved before the type is looked at
  pub resolved_first_report : reports ground ("def g : Nat" ∷ "  | x => 0" ∷ []) resolved_first
      ("2:4: error: unknown identifier x"
      ∷ "def g : Nat (sorry)"
      ∷ "1 errors, 0 warnings"
      ∷ [])
  -- a definition whose written name has two parts isn't seen in its terms
  pub name_of_two_parts_report : reports ground ("def a.g : Nat → Nat" ∷ "  | 0 => 0" ∷ "  | n + 1 => a.g n" ∷ []) name_of_two_parts
      ("3:13: error: unknown identifier a.g"
      ∷ "def a.g : Nat → Nat (sorry)"
      ∷ "1 errors, 0 warnings"
      ∷ [])
  -- a binder before the argument
  pub with_binder_report : reports ground ("def add (n : Nat) : Nat → Nat" ∷ "  | 0 => n" ∷ "  | m + 1 => Nat.succ (add n m)" ∷ []) with_binder
      ("def add : Nat → Nat → Nat"
      ∷ "0 errors, 0 warnings"
      ∷ [])
  -- a codomain that depends on the argument
  pub dependent_report : reports ground ("axiom P : Nat → Prop" ∷ "axiom z : P 0" ∷ "axiom s : ∀ (n : Nat), P n → P (Nat.succ n)"
      ∷ "def p : ∀ (n : Nat), P n" ∷ "  | 0 => z" ∷ "  | n + 1 => s n (p n)" ∷ []) dependent
      ("axiom P : Nat → Prop"
      ∷ "axiom z : P 0"
      ∷ "axiom s : ∀ (n : Nat), P n → P (Nat.succ n)"
      ∷ "def p : ∀ (n : Nat), P n"
      ∷ "0 errors, 0 warnings"
      ∷ [])
