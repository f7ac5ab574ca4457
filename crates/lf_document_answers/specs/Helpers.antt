-- Definitions behind a `where`, on small texts with their reports. Above each stands its text.
use Rattle.std.specs.Prelude.{Some, List, [], ◌∷◌}
use Rattle.lf_syntax.specs.declared.command.Command.{Command}
use Rattle.lf_syntax.specs.declared.command.Command.TheVariants.{Axiom, Def, Variable}
use Rattle.lf_syntax.specs.Tree as tree
use Rattle.lf_document_answers.specs.Written.{
  ident,
  ident_of_two,
  ident_of_three,
  name,
  number,
  applied,
  equals,
  by_items,
  binder,
  decl,
  levelled,
  sort_u,
  helping,
}
use Rattle.lf_document_answers.specs.Base.{ground, with_units, reports}

-- def foo (n : Nat) : Nat := aux n
-- where
--   aux (m : Nat) : Nat := m
-- def foo.aux (m : Nat) : Nat := m
abbrev pub helper : List Command
helper =
    Def (decl 0 (ident 4 "foo") (binder 8 9 "n" (name 13 "Nat") ∷ []) (Some (name 20 "Nat"))) (applied (name 27 "aux") (name 31 "n" ∷ []))
    (record { at = 41; name = ident 41 "aux"; binders = binder 45 46 "m" (name 50 "Nat") ∷ []; ty = name 57 "Nat"; value = name 64 "m" } ∷ [])
    ∷ Def (decl 66 (ident_of_two 70 "foo" "aux") (binder 78 79 "m" (name 83 "Nat") ∷ []) (Some (name 90 "Nat"))) (name 97 "m") [] ∷ []

-- def foo : Nat := 0
-- where
--   a : Nat := 1
--   b : a = a := rfl
abbrev pub helpers_see : List Command
helpers_see =
    Def (decl 0 (ident 4 "foo") [] (Some (name 10 "Nat"))) (number 17 0) (helping (ident 27 "a") (name 31 "Nat") (number 38 1)
    ∷ helping (ident 42 "b") (equals (name 46 "a") (name 50 "a")) (name 55 "rfl") ∷ []) ∷ []

-- def foo : Nat := a
-- where
--   eq_1 : Nat := 1
--   a : Nat := 2
abbrev pub helper_reserved : List Command
helper_reserved =
    Def (decl 0 (ident 4 "foo") [] (Some (name 10 "Nat"))) (name 17 "a") (helping (ident 27 "eq_1") (name 34 "Nat") (number 41 1)
    ∷ helping (ident 45 "a") (name 49 "Nat") (number 56 2) ∷ []) ∷ []

-- def foo : Nat := a
-- where
--   a : Nat := sorry
abbrev pub helper_warned : List Command
helper_warned =
    Def (decl 0 (ident 4 "foo") [] (Some (name 10 "Nat"))) (name 17 "a") (helping (ident 27 "a") (name 31 "Nat") (tree.sorry_term 38) ∷ []) ∷ []

-- axiom f.a.c : Nat
-- def f : Nat := a
-- where
--   a : Nat := c
abbrev pub value_inside : List Command
value_inside =
    Axiom (decl 0 (ident_of_three 6 "f" "a" "c") [] (Some (name 14 "Nat")))
    ∷ Def (decl 18 (ident 22 "f") [] (Some (name 26 "Nat"))) (name 33 "a") (helping (ident 43 "a") (name 47 "Nat") (name 54 "c") ∷ []) ∷ []

-- def f.{u} (A : Sort u) : Prop := True
-- where
--   a (B : Sort u) : Prop := True
abbrev pub levels_shared : List Command
levels_shared =
    Def (levelled (decl 0 (ident 4 "f") (binder 10 11 "A" (sort_u 15 20) ∷ []) (Some (tree.prop 25))) (ident 7 "u" ∷ [])) (name 33 "True")
    (record { at = 46; name = ident 46 "a"; binders = binder 48 49 "B" (sort_u 53 58) ∷ []; ty = tree.prop 63; value = name 71 "True" } ∷ []) ∷ []

-- variable (n : Nat)
-- def f (h : n = n) : Nat := 0
-- where
--   a : n = n := rfl
abbrev pub no_variables : List Command
no_variables =
    Variable 0 (binder 9 10 "n" (name 14 "Nat") ∷ [])
    ∷ Def (decl 19 (ident 23 "f") (binder 25 26 "h" (equals (name 30 "n") (name 34 "n")) ∷ []) (Some (name 39 "Nat"))) (number 46 0) (helping
    (ident 56 "a") (equals (name 60 "n") (name 64 "n")) (name 69 "rfl") ∷ []) ∷ []

-- def f : Nat := 0
-- where
--   a : Nat := 1
--   a : Nat := 2
abbrev pub helper_twice : List Command
helper_twice =
    Def (decl 0 (ident 4 "f") [] (Some (name 8 "Nat"))) (number 15 0) (helping (ident 25 "a") (name 29 "Nat") (number 36 1) ∷ helping (ident 40 "a")
    (name 44 "Nat") (number 51 2) ∷ []) ∷ []

-- def f : Nat := x
-- where
--   a : 1 = 2 := by rfl
abbrev pub own_messages_first : List Command
own_messages_first =
    Def (decl 0 (ident 4 "f") [] (Some (name 8 "Nat"))) (name 15 "x") (helping (ident 25 "a") (equals (number 29 1) (number 33 2)) (by_items 38
    (tree.rfl 41 ∷ [])) ∷ []) ∷ []

-- def f : Nat := 0
-- where
--   a : Nat := 1
abbrev pub each_its_own : List Command
each_its_own =
    Def (decl 0 (ident 4 "f") [] (Some (name 8 "Nat"))) (number 15 0) (helping (ident 25 "a") (name 29 "Nat") (number 36 1) ∷ []) ∷ []

pub record HelperAnswers : Type 0 where
  -- a helper, and a later constant of its name
  pub helper_report : reports ground ("def foo (n : Nat) : Nat := aux n" ∷ "where" ∷ "  aux (m : Nat) : Nat := m"
      ∷ "def foo.aux (m : Nat) : Nat := m" ∷ []) helper
      ("4:4: error: duplicate declaration foo.aux"
      ∷ "def foo.aux : Nat → Nat"
      ∷ "def foo : Nat → Nat"
      ∷ "1 errors, 0 warnings"
      ∷ [])
  -- a later helper sees an earlier one: its header is looked up from the declared name
  pub helpers_see_report : reports ground ("def foo : Nat := 0" ∷ "where" ∷ "  a : Nat := 1" ∷ "  b : a = a := rfl" ∷ []) helpers_see
      ("def foo.a : Nat"
      ∷ "def foo.b : foo.a = foo.a"
      ∷ "def foo : Nat"
      ∷ "0 errors, 0 warnings"
      ∷ [])
  -- a helper that is refused, and one behind it
  pub helper_reserved_report : reports ground ("def foo : Nat := a" ∷ "where" ∷ "  eq_1 : Nat := 1" ∷ "  a : Nat := 2" ∷ []) helper_reserved
      ("3:2: error: reserved name foo.eq_1"
      ∷ "def foo.a : Nat"
      ∷ "def foo : Nat"
      ∷ "1 errors, 0 warnings"
      ∷ [])
  -- a helper that rests on `sorry`: the definition itself doesn't
  pub helper_warned_report : reports ground ("def foo : Nat := a" ∷ "where" ∷ "  a : Nat := sorry" ∷ []) helper_warned
      ("3:2: warning: declaration uses sorry"
      ∷ "def foo.a : Nat (sorry)"
      ∷ "def foo : Nat"
      ∷ "0 errors, 1 warnings"
      ∷ [])
  -- the value of a helper is looked up from its own name
  pub value_inside_report : reports ground ("axiom f.a.c : Nat" ∷ "def f : Nat := a" ∷ "where" ∷ "  a : Nat := c" ∷ []) value_inside
      ("axiom f.a.c : Nat"
      ∷ "def f.a : Nat"
      ∷ "def f : Nat"
      ∷ "0 errors, 0 warnings"
      ∷ [])
  -- a helper has the level names of its declaration
  pub levels_shared_report : reports ground ("def f.{u} (A : Sort u) : Prop := True" ∷ "where" ∷ "  a (B : Sort u) : Prop := True" ∷ []) levels_shared
      ("def f.a : Sort u → Prop"
      ∷ "def f : Sort u → Prop"
      ∷ "0 errors, 0 warnings"
      ∷ [])
  -- and none of its variables
  pub no_variables_report : reports ground ("variable (n : Nat)" ∷ "def f (h : n = n) : Nat := 0" ∷ "where" ∷ "  a : n = n := rfl" ∷ []) no_variables
      ("4:6: error: unknown identifier n"
      ∷ "def f : ∀ (n : Nat), n = n → Nat"
      ∷ "1 errors, 0 warnings"
      ∷ [])
  -- two helpers of one name
  pub helper_twice_report : reports ground ("def f : Nat := 0" ∷ "where" ∷ "  a : Nat := 1" ∷ "  a : Nat := 2" ∷ []) helper_twice
      ("4:2: error: duplicate declaration f.a"
      ∷ "def f.a : Nat"
      ∷ "def f : Nat"
      ∷ "1 errors, 0 warnings"
      ∷ [])
  -- a block of a helper fails, and then the value: the body's own messages come before those of its blocks
  pub own_messages_first_report : reports ground ("def f : Nat := x" ∷ "where" ∷ "  a : 1 = 2 := by rfl" ∷ []) own_messages_first
      ("1:15: error: unknown identifier x"
      ∷ "3:18: error: type mismatch: has type ? = ? but is expected to have type 1 = 2"
      ∷ "def f.a : 1 = 2 (sorry)"
      ∷ "def f : Nat (sorry)"
      ∷ "2 errors, 0 warnings"
      ∷ [])
  -- each part has units of its own: a header of type `Nat` takes eleven
  pub each_its_own_report : reports (with_units 11) ("def f : Nat := 0" ∷ "where" ∷ "  a : Nat := 1" ∷ []) each_its_own
      ("def f.a : Nat"
      ∷ "def f : Nat"
      ∷ "0 errors, 0 warnings"
      ∷ [])
  -- ten are too few
  pub ten_report : reports (with_units 10) ("def f : Nat := 0" ∷ "where" ∷ "  a : Nat := 1" ∷ []) each_its_own
      ("1:4: error: budget spent"
      ∷ "1 errors, 0 warnings"
      ∷ [])
