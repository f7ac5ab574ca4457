-- Declared names, level names and scopes, on small texts with their reports. Above each stands its text.
use Rattle.std.specs.Prelude.{Some, None, List, [], ◌∷◌}
use Rattle.lf_syntax.specs.declared.leaf.SyntaxFault.TheVariants.{Token}
use Rattle.lf_syntax.specs.declared.command.Command.{Command}
use Rattle.lf_syntax.specs.declared.command.Command.TheVariants.{Axiom, Def, Inductive, Structure, Namespace, End, Check, Bad}
use Rattle.lf_syntax.specs.Tree as tree
use Rattle.lf_document_answers.specs.Written.{ident, ident_of_two, name, name_of_two, number, decl, levelled}
use Rattle.lf_document_answers.specs.Base.{ground, realizing, reports}

-- the empty text
abbrev pub empty : List Command
empty =
    []

-- axiom A : Prop
-- axiom A : Prop
abbrev pub duplicate : List Command
duplicate =
    Axiom (decl 0 (ident 6 "A") [] (Some (tree.prop 10))) ∷ Axiom (decl 15 (ident 21 "A") [] (Some (tree.prop 25))) ∷ []

-- axiom f.eq_1 : True
-- def f : Nat := 0
-- #check f.eq_1
abbrev pub early_axiom : List Command
early_axiom =
    Axiom (decl 0 (ident_of_two 6 "f" "eq_1") [] (Some (name 15 "True"))) ∷ Def (decl 20 (ident 24 "f") [] (Some (name 28 "Nat"))) (number 35 0) []
    ∷ Check 37 (name_of_two 44 "f" "eq_1") ∷ []

-- def f : Nat := 0
-- axiom f.eq_1 : True
abbrev pub reserved : List Command
reserved =
    Def (decl 0 (ident 4 "f") [] (Some (name 8 "Nat"))) (number 15 0) [] ∷ Axiom (decl 17 (ident_of_two 23 "f" "eq_1") [] (Some (name 32 "True"))) ∷ []

-- axiom A.{a, b, c, d, e, f, g, h, i} : Prop
abbrev pub levels : List Command
levels =
    Axiom (levelled (decl 0 (ident 6 "A") [] (Some (tree.prop 38))) (ident 9 "a" ∷ ident 12 "b" ∷ ident 15 "c" ∷ ident 18 "d" ∷ ident 21 "e"
    ∷ ident 24 "f" ∷ ident 27 "g" ∷ ident 30 "h" ∷ ident 33 "i" ∷ [])) ∷ []

-- axiom A.{u, u} : Prop
abbrev pub level_twice : List Command
level_twice =
    Axiom (levelled (decl 0 (ident 6 "A") [] (Some (tree.prop 17))) (ident 9 "u" ∷ ident 12 "u" ∷ [])) ∷ []

-- namespace N
-- axiom A : Prop
-- axiom a : A
-- end N
-- #check N.a
abbrev pub in_namespace : List Command
in_namespace =
    Namespace 0 (ident 10 "N") ∷ Axiom (decl 12 (ident 18 "A") [] (Some (tree.prop 22))) ∷ Axiom (decl 27 (ident 33 "a") [] (Some (name 37 "A")))
    ∷ End 39 (Some (ident 43 "N")) ∷ Check 45 (name_of_two 52 "N" "a") ∷ []

-- end X
abbrev pub mismatched : List Command
mismatched =
    End 0 (Some (ident 4 "X")) ∷ []

-- def := 3
abbrev pub bad : List Command
bad =
    Bad 4 Token ∷ []

-- axiom f.eq_1 : True
-- def f : Nat := 0
-- axiom f.eq_1 : True
abbrev pub reserved_first : List Command
reserved_first =
    Axiom (decl 0 (ident_of_two 6 "f" "eq_1") [] (Some (name 15 "True")))
    ∷ Def (decl 20 (ident 24 "f") [] (Some (name 28 "Nat"))) (number 35 0) []
    ∷ Axiom (decl 37 (ident_of_two 43 "f" "eq_1") [] (Some (name 52 "True"))) ∷ []

-- def f : Nat := 0
-- axiom f.inj : True
abbrev pub other_kind : List Command
other_kind =
    Def (decl 0 (ident 4 "f") [] (Some (name 8 "Nat"))) (number 15 0) []
    ∷ Axiom (decl 17 (ident_of_two 23 "f" "inj") [] (Some (name 31 "True"))) ∷ []

-- axiom A.{a, a, b, c, d, e, f, g, h} : Prop
abbrev pub repeated_first : List Command
repeated_first =
    Axiom (levelled (decl 0 (ident 6 "A") [] (Some (tree.prop 38))) (ident 9 "a" ∷ ident 12 "a" ∷ ident 15 "b" ∷ ident 18 "c" ∷ ident 21 "d"
    ∷ ident 24 "e" ∷ ident 27 "f" ∷ ident 30 "g" ∷ ident 33 "h" ∷ [])) ∷ []

-- inductive T.{a, b, c, d, e, f, g, h}
abbrev pub levels_of_inductive : List Command
levels_of_inductive =
    Inductive (levelled (decl 0 (ident 10 "T") [] None) (ident 13 "a" ∷ ident 16 "b" ∷ ident 19 "c" ∷ ident 22 "d" ∷ ident 25 "e" ∷ ident 28 "f"
    ∷ ident 31 "g" ∷ ident 34 "h" ∷ [])) [] ∷ []

-- structure T.{a, b, c, d, e, f, g, h}
abbrev pub levels_of_structure : List Command
levels_of_structure =
    Structure (levelled (decl 0 (ident 10 "T") [] None) (ident 13 "a" ∷ ident 16 "b" ∷ ident 19 "c" ∷ ident 22 "d" ∷ ident 25 "e" ∷ ident 28 "f"
    ∷ ident 31 "g" ∷ ident 34 "h" ∷ [])) [] ∷ []

pub record NameAnswers : Type 0 where
  -- the empty text
  pub empty_report : reports ground ([]) empty
      ("0 errors, 0 warnings"
      ∷ [])
  -- a name that is there already
  pub duplicate_report : reports ground ("axiom A : Prop" ∷ "axiom A : Prop" ∷ []) duplicate
      ("2:6: error: duplicate declaration A"
      ∷ "axiom A : Prop"
      ∷ "1 errors, 0 warnings"
      ∷ [])
  -- an axiom with a reserved name, before the definition that reserves it
  pub early_axiom_report : reports realizing ("axiom f.eq_1 : True" ∷ "def f : Nat := 0" ∷ "#check f.eq_1" ∷ []) early_axiom
      ("3:0: info: f.eq_1 : True"
      ∷ "axiom f.eq_1 : True"
      ∷ "def f : Nat"
      ∷ "0 errors, 0 warnings"
      ∷ [])
  -- and behind it
  pub reserved_report : reports ground ("def f : Nat := 0" ∷ "axiom f.eq_1 : True" ∷ []) reserved
      ("2:6: error: reserved name f.eq_1"
      ∷ "def f : Nat"
      ∷ "1 errors, 0 warnings"
      ∷ [])
  -- nine level names
  pub levels_report : reports ground ("axiom A.{a, b, c, d, e, f, g, h, i} : Prop" ∷ []) levels
      ("1:6: error: more than 8 level names"
      ∷ "1 errors, 0 warnings"
      ∷ [])
  -- a level name that stands twice
  pub level_twice_report : reports ground ("axiom A.{u, u} : Prop" ∷ []) level_twice
      ("1:12: error: duplicate level u"
      ∷ "1 errors, 0 warnings"
      ∷ [])
  -- declared names in a namespace
  pub in_namespace_report : reports ground ("namespace N" ∷ "axiom A : Prop" ∷ "axiom a : A" ∷ "end N" ∷ "#check N.a" ∷ []) in_namespace
      ("5:0: info: N.a : N.A"
      ∷ "axiom N.A : Prop"
      ∷ "axiom N.a : N.A"
      ∷ "0 errors, 0 warnings"
      ∷ [])
  -- an `end` without a scope
  pub mismatched_report : reports ground ("end X" ∷ []) mismatched
      ("1:0: error: mismatched end"
      ∷ "1 errors, 0 warnings"
      ∷ [])
  -- tokens that are no command
  pub bad_report : reports ground ("def := 3" ∷ []) bad
      ("1:4: error: unexpected token"
      ∷ "1 errors, 0 warnings"
      ∷ [])
  -- a name that is there and reserved: that it is reserved comes first
  pub reserved_first_report : reports ground ("axiom f.eq_1 : True" ∷ "def f : Nat := 0" ∷ "axiom f.eq_1 : True" ∷ []) reserved_first
      ("3:6: error: reserved name f.eq_1"
      ∷ "axiom f.eq_1 : True"
      ∷ "def f : Nat"
      ∷ "1 errors, 0 warnings"
      ∷ [])
  -- a suffix that the parent's kind doesn't fit reserves nothing
  pub other_kind_report : reports ground ("def f : Nat := 0" ∷ "axiom f.inj : True" ∷ []) other_kind
      ("def f : Nat"
      ∷ "axiom f.inj : True"
      ∷ "0 errors, 0 warnings"
      ∷ [])
  -- nine level names of which one stands twice: that comes first
  pub repeated_first_report : reports ground ("axiom A.{a, a, b, c, d, e, f, g, h} : Prop" ∷ []) repeated_first
      ("1:12: error: duplicate level a"
      ∷ "1 errors, 0 warnings"
      ∷ [])
  -- eight level names of an inductive type
  pub levels_of_inductive_report : reports ground ("inductive T.{a, b, c, d, e, f, g, h}" ∷ []) levels_of_inductive
      ("1:10: error: more than 7 level names"
      ∷ "1 errors, 0 warnings"
      ∷ [])
  -- and of a structure
  pub levels_of_structure_report : reports ground ("structure T.{a, b, c, d, e, f, g, h}" ∷ []) levels_of_structure
      ("1:10: error: more than 7 level names"
      ∷ "1 errors, 0 warnings"
      ∷ [])
