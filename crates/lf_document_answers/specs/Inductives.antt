-- Inductive types, on small texts with their reports. Above each stands its text.
use Rattle.std.specs.Prelude.{false, Some, None, List, [], ◌∷◌}
use Rattle.lf_name.specs.declared.binder.BinderKind.TheVariants.{Implicit}
use Rattle.lf_syntax.specs.declared.command.Command.{Command}
use Rattle.lf_syntax.specs.declared.command.Command.TheVariants.{Axiom, Inductive, Universe, Variable}
use Rattle.lf_syntax.specs.Tree as tree
use Rattle.lf_document_answers.specs.Written.{ident, name, number, applied, equals, arrow, parens, binder, decl, levelled, type_u}
use Rattle.lf_document_answers.specs.Base.{ground, reports}

-- universe u
-- inductive List (α : Type u) : Type u where
--   | nil : List α
--   | cons (head : α) (tail : List α) : List α
abbrev pub polymorphic : List Command
polymorphic =
    Universe 0 (ident 9 "u" ∷ []) ∷ Inductive (decl 11 (ident 21 "List") (binder 26 27 "α" (type_u 32 37) ∷ []) (Some (type_u 42 47)))
    (record { at = 57; name = ident 59 "nil"; binders = []; ty = Some (applied (name 65 "List") (name 70 "α" ∷ [])) }
    ∷ record {
      at = 75;
      name = ident 77 "cons";
      binders = binder 82 83 "head" (name 90 "α") ∷ binder 94 95 "tail" (applied (name 102 "List") (name 107 "α" ∷ [])) ∷ [];
      ty = Some (applied (name 113 "List") (name 118 "α" ∷ []));
    } ∷ []) ∷ []

-- universe u
-- variable {α : Type u}
-- inductive List (α : Type u) : Type u where
--   | nil : List α
abbrev pub variable_hidden : List Command
variable_hidden =
    Universe 0 (ident 9 "u" ∷ []) ∷ Variable 11 (record { at = 20; kind = Implicit; names = ident 21 "α" ∷ []; ty = type_u 26 31 } ∷ [])
    ∷ Inductive (decl 34 (ident 44 "List") (binder 49 50 "α" (type_u 55 60) ∷ []) (Some (type_u 65 70)))
    (record { at = 80; name = ident 82 "nil"; binders = []; ty = Some (applied (name 88 "List") (name 93 "α" ∷ [])) } ∷ []) ∷ []

-- inductive T : T → Type
abbrev pub own_type : List Command
own_type =
    Inductive (decl 0 (ident 10 "T") [] (Some (arrow (name 14 "T") (tree.type_u 20 None)))) [] ∷ []

-- inductive Bad where | mk : (Bad → Nat) → Bad
abbrev pub not_positive : List Command
not_positive =
    Inductive (decl 0 (ident 10 "Bad") [] None) (record {
      at = 20;
      name = ident 22 "mk";
      binders = [];
      ty = Some (arrow (parens 27 (arrow (name 28 "Bad") (name 36 "Nat"))) (name 45 "Bad"));
    } ∷ []) ∷ []

-- inductive T where | a : T | a : T
abbrev pub two_of_a_name : List Command
two_of_a_name =
    Inductive (decl 0 (ident 10 "T") [] None) (record { at = 18; name = ident 20 "a"; binders = []; ty = Some (name 24 "T") }
    ∷ record { at = 26; name = ident 28 "a"; binders = []; ty = Some (name 32 "T") } ∷ []) ∷ []

-- inductive T where | mk (h : 1 = sorry)
abbrev pub warned_once : List Command
warned_once =
    Inductive (decl 0 (ident 10 "T") [] None) (record {
      at = 18;
      name = ident 20 "mk";
      binders = binder 23 24 "h" (equals (number 28 1)
          (tree.sorry_term 32)) ∷ [];
      ty = None;
    } ∷ []) ∷ []

-- axiom f.{u} : Prop
-- axiom P : f.{1} → Prop
-- inductive W (h : f) : Prop where
--   | mk (p : P h) : W h
abbrev pub level_by_constructor : List Command
level_by_constructor =
    Axiom (levelled (decl 0 (ident 6 "f") [] (Some (tree.prop 14))) (ident 9 "u" ∷ []))
    ∷ Axiom (decl 19 (ident 25 "P") [] (Some (arrow (tree.ident 29 false (ident 29 "f") (tree.level_number (record { at = 32; value = 1 }) ∷ []))
    (tree.prop 39))))
    ∷ Inductive (decl 44 (ident 54 "W") (binder 56 57 "h" (name 61 "f") ∷ []) (Some (tree.prop 66)))
    (record {
      at = 79;
      name = ident 81 "mk";
      binders = binder 84 85 "p" (applied (name 89 "P") (name 91 "h" ∷ [])) ∷ [];
      ty = Some (applied
          (name 96 "W") (name 98 "h" ∷ []));
    } ∷ []) ∷ []

-- inductive T (n : _) : Type where
--   | mk : T 1
abbrev pub open_parameter : List Command
open_parameter =
    Inductive (decl 0 (ident 10 "T") (binder 12 13 "n" (tree.hole 17) ∷ []) (Some (tree.type_u 22 None)))
    (record { at = 35; name = ident 37 "mk"; binders = []; ty = Some (applied (name 42 "T") (number 44 1 ∷ [])) } ∷ []) ∷ []

-- inductive T : Nat where | mk : x
abbrev pub bad_type_last : List Command
bad_type_last =
    Inductive (decl 0 (ident 10 "T") [] (Some (name 14 "Nat"))) (record { at = 24; name = ident 26 "mk"; binders = []; ty = Some (name 31 "x") } ∷ []) ∷ []

pub record InductiveAnswers : Type 0 where
  -- an inductive type with a level name and a parameter
  pub polymorphic_report : reports ground ("universe u" ∷ "inductive List (α : Type u) : Type u where" ∷ "  | nil : List α"
      ∷ "  | cons (head : α) (tail : List α) : List α" ∷ []) polymorphic
      ("inductive List : Type u → Type u"
      ∷ "constructor List.nil : ∀ {α : Type u}, List α"
      ∷ "constructor List.cons : ∀ {α : Type u}, α → List α → List α"
      ∷ "recursor List.rec : ∀ {α : Type u}, ∀ {motive : List α → Sort u_1}, motive (List.nil α) → (∀ (head : α), ∀ (tail : List α), motive tail → motive (List.cons α head tail)) → ∀ (t : List α), motive t"
      ∷ "0 errors, 0 warnings"
      ∷ [])
  -- a variable that a parameter of its name hides is taken all the same
  pub variable_hidden_report : reports ground ("universe u" ∷ "variable {α : Type u}" ∷ "inductive List (α : Type u) : Type u where"
      ∷ "  | nil : List α" ∷ []) variable_hidden
      ("4:10: error: cannot determine a placeholder"
      ∷ "1 errors, 0 warnings"
      ∷ [])
  -- an inductive type that names itself in its own type
  pub own_type_report : reports ground ("inductive T : T → Type" ∷ []) own_type
      ("1:14: error: kernel: unknown constant T"
      ∷ "1 errors, 0 warnings"
      ∷ [])
  -- a type that the kernel refuses
  pub not_positive_report : reports ground ("inductive Bad where | mk : (Bad → Nat) → Bad" ∷ []) not_positive
      ("1:10: error: kernel: constructor Bad.mk, field 1: not positive"
      ∷ "1 errors, 0 warnings"
      ∷ [])
  -- two constructors of one name
  pub two_of_a_name_report : reports ground ("inductive T where | a : T | a : T" ∷ []) two_of_a_name
      ("1:10: error: duplicate declaration T.a"
      ∷ "1 errors, 0 warnings"
      ∷ [])
  -- two constants that rest on `sorry`, the first of the command not: one warning
  pub warned_once_report : reports ground ("inductive T where | mk (h : 1 = sorry)" ∷ []) warned_once
      ("1:10: warning: declaration uses sorry"
      ∷ "inductive T : Type"
      ∷ "constructor T.mk : 1 = sorryAx Nat → T (sorry)"
      ∷ "recursor T.rec : ∀ {motive : T → Sort u}, (∀ (h : 1 = sorryAx Nat), motive (T.mk h)) → ∀ (t : T), motive t (sorry)"
      ∷ "0 errors, 1 warnings"
      ∷ [])
  -- a level of the type that a constructor determines
  pub level_by_constructor_report : reports ground ("axiom f.{u} : Prop" ∷ "axiom P : f.{1} → Prop"
      ∷ "inductive W (h : f) : Prop where" ∷ "  | mk (p : P h) : W h" ∷ []) level_by_constructor
      ("axiom f : Prop"
      ∷ "axiom P : f → Prop"
      ∷ "inductive W : f → Prop"
      ∷ "constructor W.mk : ∀ {h : f}, P h → W h"
      ∷ "recursor W.rec : ∀ {h : f}, ∀ {motive : W h → Sort u}, (∀ (p : P h), motive (W.mk h p)) → ∀ (t : W h), motive t"
      ∷ "0 errors, 0 warnings"
      ∷ [])
  -- parameters close with the type, so a constructor determines none
  pub open_parameter_report : reports ground ("inductive T (n : _) : Type where" ∷ "  | mk : T 1" ∷ []) open_parameter
      ("1:17: error: cannot determine a placeholder"
      ∷ "1 errors, 0 warnings"
      ∷ [])
  -- what the kernel says of the type comes behind the errors of constructors
  pub bad_type_last_report : reports ground ("inductive T : Nat where | mk : x" ∷ []) bad_type_last
      ("1:31: error: unknown identifier x"
      ∷ "1 errors, 0 warnings"
      ∷ [])
