-- Structures, classes and instances, on small texts with their reports. Above each stands its text.
use Rattle.std.specs.Prelude.{Some, None, List, [], ◌∷◌}
use Rattle.lf_syntax.specs.declared.command.Command.{Command}
use Rattle.lf_syntax.specs.declared.command.Command.TheVariants.{Axiom, Structure, Class, Instance, Check, Reduce}
use Rattle.lf_syntax.specs.Tree as tree
use Rattle.lf_document_answers.specs.Written.{ident, ident_of_two, name, name_of_two, number, applied, equals, binder, decl, field}
use Rattle.lf_document_answers.specs.Base.{ground, reports}

-- structure P where
--   x : Nat
--   y : Nat
abbrev pub structure_of_two : List Command
structure_of_two =
    Structure (decl 0 (ident 10 "P") [] None) (field (ident 20 "x") (name 24 "Nat") ∷ field (ident 30 "y") (name 34 "Nat") ∷ []) ∷ []

-- structure E (α : Type) where
--   a : α
--   h : a = a
abbrev pub later_field : List Command
later_field =
    Structure (decl 0 (ident 10 "E") (binder 12 13 "α" (tree.type_u 18 None) ∷ []) None) (field (ident 32 "a") (name 36 "α")
    ∷ field (ident 41 "h") (equals (name 45 "a") (name 49 "a")) ∷ []) ∷ []

-- structure R : Prop where
--   h : True
abbrev pub no_structure : List Command
no_structure =
    Structure (decl 0 (ident 10 "R") [] (Some (tree.prop 14))) (field (ident 27 "h") (name 31 "True") ∷ []) ∷ []

-- structure S where
--   x : Nat
--   x : Nat
abbrev pub field_twice : List Command
field_twice =
    Structure (decl 0 (ident 10 "S") [] None) (field (ident 20 "x") (name 24 "Nat") ∷ field (ident 30 "x") (name 34 "Nat") ∷ []) ∷ []

-- structure S where
--   mk : Nat
abbrev pub field_mk : List Command
field_mk =
    Structure (decl 0 (ident 10 "S") [] None) (field (ident 20 "mk") (name 25 "Nat") ∷ []) ∷ []

-- class Inh (α : Type) where
--   val : α
-- instance i : Inh Nat := Inh.mk 7
-- #reduce (Inh.val : Nat)
abbrev pub class_and_instance : List Command
class_and_instance =
    Class (decl 0 (ident 6 "Inh") (binder 10 11 "α" (tree.type_u 16 None) ∷ []) None) (field (ident 30 "val") (name 36 "α") ∷ [])
    ∷ Instance (decl 39 (ident 48 "i") [] (Some (applied (name 52 "Inh") (name 56 "Nat" ∷ [])))) (applied (name_of_two 63 "Inh" "mk") (number 70 7 ∷ []))
    ∷ Reduce 72 (tree.paren 80 (name_of_two 81 "Inh" "val") (tree.some_term (name 91 "Nat"))) ∷ []

-- class Inh (α : Type) where
--   val : α
-- #check (Inh.val : Bool)
abbrev pub no_instance : List Command
no_instance =
    Class (decl 0 (ident 6 "Inh") (binder 10 11 "α" (tree.type_u 16 None) ∷ []) None) (field (ident 30 "val") (name 36 "α") ∷ [])
    ∷ Check 39 (tree.paren 46 (name_of_two 47 "Inh" "val") (tree.some_term (name 57 "Bool"))) ∷ []

-- axiom P.x : Prop
-- structure P where
--   x : Nat
abbrev pub field_there : List Command
field_there =
    Axiom (decl 0 (ident_of_two 6 "P" "x") [] (Some (tree.prop 12)))
    ∷ Structure (decl 17 (ident 27 "P") [] None) (field (ident 37 "x") (name 41 "Nat") ∷ []) ∷ []

-- structure P where
--   rec : Nat
abbrev pub field_rec : List Command
field_rec =
    Structure (decl 0 (ident 10 "P") [] None) (field (ident 20 "rec") (name 26 "Nat") ∷ []) ∷ []

-- structure R : Prop where
--   h h : True
abbrev pub no_structure_first : List Command
no_structure_first =
    Structure (decl 0 (ident 10 "R") [] (Some (tree.prop 14))) (record { at = 27; names = ident 27 "h" ∷ ident 29 "h" ∷ []; ty = name 33 "True" }
    ∷ []) ∷ []

pub record StructureAnswers : Type 0 where
  -- a structure and the projections of its fields
  pub structure_of_two_report : reports ground ("structure P where" ∷ "  x : Nat" ∷ "  y : Nat" ∷ []) structure_of_two
      ("inductive P : Type"
      ∷ "constructor P.mk : Nat → Nat → P"
      ∷ "recursor P.rec : ∀ {motive : P → Sort u}, (∀ (x : Nat), ∀ (y : Nat), motive (P.mk x y)) → ∀ (t : P), motive t"
      ∷ "def P.x : P → Nat"
      ∷ "def P.y : P → Nat"
      ∷ "0 errors, 0 warnings"
      ∷ [])
  -- a field whose type names an earlier one
  pub later_field_report : reports ground ("structure E (α : Type) where" ∷ "  a : α" ∷ "  h : a = a" ∷ []) later_field
      ("inductive E : Type → Type"
      ∷ "constructor E.mk : ∀ {α : Type}, ∀ (a : α), a = a → E α"
      ∷ "recursor E.rec : ∀ {α : Type}, ∀ {motive : E α → Sort u}, (∀ (a : α), ∀ (h : a = a), motive (E.mk α a h)) → ∀ (t : E α), motive t"
      ∷ "def E.a : ∀ {α : Type}, E α → α"
      ∷ "def E.h : ∀ {α : Type}, ∀ (self : E α), E.a α self = E.a α self"
      ∷ "0 errors, 0 warnings"
      ∷ [])
  -- an inductive type that is no structure
  pub no_structure_report : reports ground ("structure R : Prop where" ∷ "  h : True" ∷ []) no_structure
      ("1:10: error: not a structure"
      ∷ "1 errors, 0 warnings"
      ∷ [])
  -- two fields of one name
  pub field_twice_report : reports ground ("structure S where" ∷ "  x : Nat" ∷ "  x : Nat" ∷ []) field_twice
      ("3:2: error: duplicate declaration S.x"
      ∷ "1 errors, 0 warnings"
      ∷ [])
  -- a field with the constructor's name
  pub field_mk_report : reports ground ("structure S where" ∷ "  mk : Nat" ∷ []) field_mk
      ("2:2: error: duplicate declaration S.mk"
      ∷ "1 errors, 0 warnings"
      ∷ [])
  -- a class, an instance of it, and a term that needs one
  pub class_and_instance_report : reports ground ("class Inh (α : Type) where" ∷ "  val : α" ∷ "instance i : Inh Nat := Inh.mk 7"
      ∷ "#reduce (Inh.val : Nat)" ∷ []) class_and_instance
      ("4:0: info: 7"
      ∷ "inductive Inh : Type → Type"
      ∷ "constructor Inh.mk : ∀ {α : Type}, α → Inh α"
      ∷ "recursor Inh.rec : ∀ {α : Type}, ∀ {motive : Inh α → Sort u}, (∀ (val : α), motive (Inh.mk α val)) → ∀ (t : Inh α), motive t"
      ∷ "def Inh.val : ∀ {α : Type}, ∀ [self : Inh α], α"
      ∷ "def i : Inh Nat"
      ∷ "0 errors, 0 warnings"
      ∷ [])
  -- a class without an instance
  pub no_instance_report : reports ground ("class Inh (α : Type) where" ∷ "  val : α" ∷ "#check (Inh.val : Bool)" ∷ []) no_instance
      ("3:8: error: failed to synthesize Inh Bool"
      ∷ "inductive Inh : Type → Type"
      ∷ "constructor Inh.mk : ∀ {α : Type}, α → Inh α"
      ∷ "recursor Inh.rec : ∀ {α : Type}, ∀ {motive : Inh α → Sort u}, (∀ (val : α), motive (Inh.mk α val)) → ∀ (t : Inh α), motive t"
      ∷ "def Inh.val : ∀ {α : Type}, ∀ [self : Inh α], α"
      ∷ "1 errors, 0 warnings"
      ∷ [])
  -- a field whose name is there before the command
  pub field_there_report : reports ground ("axiom P.x : Prop" ∷ "structure P where" ∷ "  x : Nat" ∷ []) field_there
      ("3:2: error: duplicate declaration P.x"
      ∷ "axiom P.x : Prop"
      ∷ "1 errors, 0 warnings"
      ∷ [])
  -- a field with the recursor's name
  pub field_rec_report : reports ground ("structure P where" ∷ "  rec : Nat" ∷ []) field_rec
      ("2:2: error: duplicate declaration P.rec"
      ∷ "1 errors, 0 warnings"
      ∷ [])
  -- what is no structure, with two fields of one name
  pub no_structure_first_report : reports ground ("structure R : Prop where" ∷ "  h h : True" ∷ []) no_structure_first
      ("1:10: error: not a structure"
      ∷ "1 errors, 0 warnings"
      ∷ [])
