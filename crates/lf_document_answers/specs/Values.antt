-- Values and proofs, on small texts with their reports. Above each stands its text.
use Rattle.std.specs.Prelude.{Some, None, List, [], ◌∷◌}
use Rattle.lf_syntax.specs.declared.command.Command.{Command}
use Rattle.lf_syntax.specs.declared.command.Command.TheVariants.{Axiom, Def, Theorem, Check, Reduce, PrintAxioms}
use Rattle.lf_syntax.specs.Tree as tree
use Rattle.lf_text.specs.declared.operator.Op.TheVariants as op
use Rattle.lf_document_answers.specs.Written.{ident, ident_of_two, name, name_of_two, number, applied, equals, arrow, parens, by_items, binder, decl, levelled}
use Rattle.lf_document_answers.specs.Base.{ground, poor, reports}

-- def a : Nat := Bool.true
-- #reduce a
abbrev pub failing_body : List Command
failing_body =
    Def (decl 0 (ident 4 "a") [] (Some (name 8 "Nat"))) (name_of_two 15 "Bool" "true") [] ∷ Reduce 25 (name 33 "a") ∷ []

-- def two := Nat.succ 1
abbrev pub untyped : List Command
untyped =
    Def (decl 0 (ident 4 "two") [] None) (applied (name_of_two 11 "Nat" "succ") (number 20 1 ∷ [])) [] ∷ []

-- theorem s : 1 = 2 := sorry
-- #print axioms s
abbrev pub warned : List Command
warned =
    Theorem (decl 0 (ident 8 "s") [] (Some (equals (number 12 1) (number 16 2)))) (tree.sorry_term 21) [] ∷ PrintAxioms 27 (ident 41 "s") ∷ []

-- theorem t : 1 = 2 := rfl
-- theorem s : 1 = 2 := t
abbrev pub unmarked : List Command
unmarked =
    Theorem (decl 0 (ident 8 "t") [] (Some (equals (number 12 1) (number 16 2)))) (name 21 "rfl") []
    ∷ Theorem (decl 25 (ident 33 "s") [] (Some (equals (number 37 1) (number 41 2)))) (name 46 "t") [] ∷ []

-- theorem t : 1 = 3 ∧ 1 = 2 := And.intro (by rfl) (by rfl)
abbrev pub two_blocks : List Command
two_blocks =
    Theorem (decl 0 (ident 8 "t") [] (Some (tree.oper 12 op.And (equals (number 12 1) (number 16 3)) (equals (number 22 1) (number 26 2)))))
    (applied (name_of_two 31 "And" "intro") (parens 41 (by_items 42 (tree.rfl 45 ∷ [])) ∷ parens 50 (by_items 51 (tree.rfl 54 ∷ [])) ∷ [])) [] ∷ []

-- axiom P : True → Prop
-- theorem t : P (by rfl) := sorry
abbrev pub block_in_header : List Command
block_in_header =
    Axiom (decl 0 (ident 6 "P") [] (Some (arrow (name 10 "True") (tree.prop 19))))
    ∷ Theorem (decl 24 (ident 32 "t") [] (Some (applied (name 36 "P") (parens 38 (by_items 39 (tree.rfl 42 ∷ [])) ∷ [])))) (tree.sorry_term 50) [] ∷ []

-- #check Nat.succ 0
abbrev pub spent : List Command
spent =
    Check 0 (applied (name_of_two 7 "Nat" "succ") (number 16 0 ∷ [])) ∷ []

-- axiom f.c : Type
-- def f (x : c) := x
abbrev pub untyped_binder : List Command
untyped_binder =
    Axiom (decl 0 (ident_of_two 6 "f" "c") [] (Some (tree.type_u 12 None)))
    ∷ Def (decl 17 (ident 21 "f") (binder 23 24 "x" (name 28 "c") ∷ []) None) (name 34 "x") [] ∷ []

-- axiom f.c : Nat
-- def f := c
abbrev pub untyped_inside : List Command
untyped_inside =
    Axiom (decl 0 (ident_of_two 6 "f" "c") [] (Some (name 12 "Nat")))
    ∷ Def (decl 16 (ident 20 "f") [] None) (name 25 "c") [] ∷ []

-- theorem t : True := t
abbrev pub own_constant : List Command
own_constant =
    Theorem (decl 0 (ident 8 "t") [] (Some (name 12 "True"))) (name 20 "t") [] ∷ []

-- axiom f.{u} : Prop
-- def t : Nat := let x := f; 0
abbrev pub open_level : List Command
open_level =
    Axiom (levelled (decl 0 (ident 6 "f") [] (Some (tree.prop 14))) (ident 9 "u" ∷ []))
    ∷ Def (decl 19 (ident 23 "t") [] (Some (name 27 "Nat"))) (tree.let_term 34 (ident 38 "x") tree.no_term (name 43 "f") (number 46 0)) [] ∷ []

pub record ValueAnswers : Type 0 where
  -- a body that fails leaves its header, with `sorryAx` for the value
  pub failing_body_report : reports ground ("def a : Nat := Bool.true" ∷ "#reduce a" ∷ []) failing_body
      ("1:15: error: type mismatch: has type Bool but is expected to have type Nat"
      ∷ "2:0: info: sorryAx Nat"
      ∷ "def a : Nat (sorry)"
      ∷ "1 errors, 0 warnings"
      ∷ [])
  -- a definition without a stated type
  pub untyped_report : reports ground ("def two := Nat.succ 1" ∷ []) untyped
      ("def two : Nat"
      ∷ "0 errors, 0 warnings"
      ∷ [])
  -- a proof by `sorry`, and the axioms that it reaches
  pub warned_report : reports ground ("theorem s : 1 = 2 := sorry" ∷ "#print axioms s" ∷ []) warned
      ("1:8: warning: declaration uses sorry"
      ∷ "2:0: info: s depends on axioms: [sorryAx]"
      ∷ "theorem s : 1 = 2 (sorry)"
      ∷ "0 errors, 1 warnings"
      ∷ [])
  -- what rests on a constant that rests on `sorryAx` isn't marked
  pub unmarked_report : reports ground ("theorem t : 1 = 2 := rfl" ∷ "theorem s : 1 = 2 := t" ∷ []) unmarked
      ("1:21: error: type mismatch: has type ? = ? but is expected to have type 1 = 2"
      ∷ "theorem t : 1 = 2 (sorry)"
      ∷ "theorem s : 1 = 2"
      ∷ "1 errors, 0 warnings"
      ∷ [])
  -- two blocks that fail in one theorem
  pub two_blocks_report : reports ground ("theorem t : 1 = 3 ∧ 1 = 2 := And.intro (by rfl) (by rfl)" ∷ []) two_blocks
      ("1:43: error: type mismatch: has type ? = ? but is expected to have type 1 = 3"
      ∷ "1:52: error: type mismatch: has type ? = ? but is expected to have type 1 = 2"
      ∷ "theorem t : 1 = 3 ∧ 1 = 2 (sorry)"
      ∷ "2 errors, 0 warnings"
      ∷ [])
  -- a block that fails in a header, and no warning
  pub block_in_header_report : reports ground ("axiom P : True → Prop" ∷ "theorem t : P (by rfl) := sorry" ∷ []) block_in_header
      ("2:18: error: type mismatch: has type ? = ? but is expected to have type True"
      ∷ "axiom P : True → Prop"
      ∷ "theorem t : P (sorryAx True) (sorry)"
      ∷ "1 errors, 0 warnings"
      ∷ [])
  -- a budget that is spent
  pub spent_report : reports poor ("#check Nat.succ 0" ∷ []) spent
      ("1:0: error: budget spent"
      ∷ "1 errors, 0 warnings"
      ∷ [])
  -- without a stated type the types of binders are looked up from the namespace, and nothing stands for a value that fails
  pub untyped_binder_report : reports ground ("axiom f.c : Type" ∷ "def f (x : c) := x" ∷ []) untyped_binder
      ("2:11: error: unknown identifier c"
      ∷ "axiom f.c : Type"
      ∷ "1 errors, 0 warnings"
      ∷ [])
  -- and the value from the declared name
  pub untyped_inside_report : reports ground ("axiom f.c : Nat" ∷ "def f := c" ∷ []) untyped_inside
      ("axiom f.c : Nat"
      ∷ "def f : Nat"
      ∷ "0 errors, 0 warnings"
      ∷ [])
  -- a body doesn't see its own constant
  pub own_constant_report : reports ground ("theorem t : True := t" ∷ []) own_constant
      ("1:20: error: unknown identifier t"
      ∷ "theorem t : True (sorry)"
      ∷ "1 errors, 0 warnings"
      ∷ [])
  -- a level that nothing determines
  pub open_level_report : reports ground ("axiom f.{u} : Prop" ∷ "def t : Nat := let x := f; 0" ∷ []) open_level
      ("2:4: error: cannot determine a level"
      ∷ "axiom f : Prop"
      ∷ "def t : Nat (sorry)"
      ∷ "1 errors, 0 warnings"
      ∷ [])
