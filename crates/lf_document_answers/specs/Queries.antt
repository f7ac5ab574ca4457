-- Commands that ask, on small texts with their reports. Above each stands its text.
use Rattle.std.specs.Prelude.{Some, List, [], ◌∷◌}
use Rattle.lf_syntax.specs.declared.command.Command.{Command}
use Rattle.lf_syntax.specs.declared.command.Command.TheVariants.{Axiom, Def, Universe, Variable, Check, Reduce, PrintAxioms}
use Rattle.lf_syntax.specs.Tree as tree
use Rattle.lf_document_answers.specs.Written.{ident, name, name_of_two, number, applied, equals, by_items, binder, decl, type_u}
use Rattle.lf_document_answers.specs.Base.{ground, reports}

-- variable (n : Nat)
-- #check Nat.succ n
abbrev pub variable_taken : List Command
variable_taken =
    Variable 0 (binder 9 10 "n" (name 14 "Nat") ∷ []) ∷ Check 19 (applied (name_of_two 26 "Nat" "succ") (name 35 "n" ∷ [])) ∷ []

-- variable (x : Foo)
-- axiom A : x = x
abbrev pub wrong_variable : List Command
wrong_variable =
    Variable 0 (binder 9 10 "x" (name 14 "Foo") ∷ []) ∷ Axiom (decl 19 (ident 25 "A") [] (Some (equals (name 29 "x") (name 33 "x")))) ∷ []

-- def f : Nat := 1
-- #print axioms f
abbrev pub no_axioms : List Command
no_axioms =
    Def (decl 0 (ident 4 "f") [] (Some (name 8 "Nat"))) (number 15 1) [] ∷ PrintAxioms 17 (ident 31 "f") ∷ []

-- #check _
abbrev pub open_term : List Command
open_term =
    Check 0 (tree.hole 7) ∷ []

-- variable (n : Nat)
-- #reduce n
abbrev pub reduced_variable : List Command
reduced_variable =
    Variable 0 (binder 9 10 "n" (name 14 "Nat") ∷ [])
    ∷ Reduce 19 (name 27 "n") ∷ []

-- universe u
-- #check Type u
abbrev pub level_taken : List Command
level_taken =
    Universe 0 (ident 9 "u" ∷ [])
    ∷ Check 11 (type_u 18 23) ∷ []

-- #print axioms x
abbrev pub axioms_of_nothing : List Command
axioms_of_nothing =
    PrintAxioms 0 (ident 14 "x") ∷ []

-- variable (n : Nat)
-- #check (by exact n : Nat)
abbrev pub block_on_variable : List Command
block_on_variable =
    Variable 0 (binder 9 10 "n" (name 14 "Nat") ∷ [])
    ∷ Check 19 (tree.paren 26 (by_items 27 (tree.exact 30 (name 36 "n") ∷ [])) (tree.some_term (name 40 "Nat"))) ∷ []

pub record QueryAnswers : Type 0 where
  -- a variable that a `#check` takes
  pub variable_taken_report : reports ground ("variable (n : Nat)" ∷ "#check Nat.succ n" ∷ []) variable_taken
      ("2:0: info: Nat.succ n : Nat"
      ∷ "0 errors, 0 warnings"
      ∷ [])
  -- a variable with an error, which stands at the variable wherever it is taken
  pub wrong_variable_report : reports ground ("variable (x : Foo)" ∷ "axiom A : x = x" ∷ []) wrong_variable
      ("1:14: error: unknown identifier Foo"
      ∷ "1:14: error: unknown identifier Foo"
      ∷ "2 errors, 0 warnings"
      ∷ [])
  -- a constant that reaches no axiom
  pub no_axioms_report : reports ground ("def f : Nat := 1" ∷ "#print axioms f" ∷ []) no_axioms
      ("2:0: info: f does not depend on any axioms"
      ∷ "def f : Nat"
      ∷ "0 errors, 0 warnings"
      ∷ [])
  -- a placeholder that nothing determines
  pub open_term_report : reports ground ("#check _" ∷ []) open_term
      ("1:7: error: cannot determine a placeholder"
      ∷ "1 errors, 0 warnings"
      ∷ [])
  -- a variable that a `#reduce` takes
  pub reduced_variable_report : reports ground ("variable (n : Nat)" ∷ "#reduce n" ∷ []) reduced_variable
      ("2:0: info: n"
      ∷ "0 errors, 0 warnings"
      ∷ [])
  -- a level name that a `#check` takes
  pub level_taken_report : reports ground ("universe u" ∷ "#check Type u" ∷ []) level_taken
      ("2:0: info: Type u : Type (u + 1)"
      ∷ "0 errors, 0 warnings"
      ∷ [])
  -- the axioms of what isn't there
  pub axioms_of_nothing_report : reports ground ("#print axioms x" ∷ []) axioms_of_nothing
      ("1:14: error: unknown identifier x"
      ∷ "1 errors, 0 warnings"
      ∷ [])
  -- variables close with their blocks run, and stand in what is printed
  pub block_on_variable_report : reports ground ("variable (n : Nat)" ∷ "#check (by exact n : Nat)" ∷ []) block_on_variable
      ("2:0: info: n : Nat"
      ∷ "0 errors, 0 warnings"
      ∷ [])
