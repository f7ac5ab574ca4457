-- Declarations that are admitted: what is added, and what it costs.
use Rattle.std.specs.Prelude.{◌≡◌, true, false, Option, Some, None, List, [], ◌∷◌}
use Prim.Native.String.{String}
use Rattle.lf_rules.specs.Recursor.{recursor_of}
use Rattle.lf_rules.specs.Inductive.{declared_constants}
use Rattle.lf_core.specs.declared.constant.ConstInfo.{ConstInfo}
use Rattle.lf_core.specs.declared.constant.ConstKind.TheVariants.{Inductive, Constructor}
use Rattle.lf_core.specs.declared.constant.Detail.{Detail}
use Rattle.lf_core.specs.declared.constant.Detail.TheVariants.{Ind, Ctor}
use Rattle.lf_core.specs.declared.constant.IndDecl.{IndDecl}
use Rattle.lf_core.specs.Term.{Path, pi}
use Rattle.lf_checker.specs.View.{View}
use Rattle.lf_checker.specs.Run.{Answer, done, out}
use Rattle.lf_checker.specs.Admission.{add_inductive}
use Rattle.lf_examples.specs.Words.{text, word, dotted, explicit, type}
use Rattle.lf_examples.specs.Declarations.{
  nat,
  nat_declaration,
  list_declaration,
  eq_declaration,
  false_declaration,
  true_declaration,
  and_declaration,
  or_declaration,
  d_declaration,
  acc_declaration,
  w_declaration,
  vec_declaration,
  exists_declaration,
  tree_declaration,
  fan_declaration,
  sigma_declaration,
}
use Rattle.lf_examples.specs.Elimination.{holds_number, by_field, by_successor, hidden, unit_in_any_sort, two_in_any_sort, two_in_types, of_sort}
use Rattle.lf_inductive_answers.specs.Recursors.{nat_recursor}
use Rattle.lf_examples.specs.Views.{nothing, with_numbers, with_equality}

-- The numbers, written out.

abbrev pub nat_info : ConstInfo
nat_info = record {
  name = word "Nat";
  kind = Inductive;
  levels = [];
  ty = type;
  value = None;
  height = 0;
  detail = Ind 0 0
      (dotted "Nat" "zero" ∷ dotted "Nat" "succ" ∷ []) true;
}

abbrev pub zero_info : ConstInfo
zero_info = record { name = dotted "Nat" "zero"; kind = Constructor; levels = []; ty = nat; value = None; height = 0; detail = Ctor (word "Nat") 0 0 0 }

abbrev pub succ_info : ConstInfo
succ_info = record {
  name = dotted "Nat" "succ";
  kind = Constructor;
  levels = [];
  ty = pi (explicit "n") nat nat;
  value = None;
  height = 0;
  detail = Ctor
      (word "Nat") 1 0 1;
}

-- What is added, with many units.
abbrev pub given : {A : Type 0} → Answer A → Option A
given (done a n) = Some a
given _ = None

abbrev pub added : View → IndDecl → Option (List ConstInfo)
added V d = given (add_inductive V 512 d 100000)

-- The names of what is added, and what the type and its constructors are said to be.
abbrev pub names : List ConstInfo → List Path
names [] = []
names (c ∷ cs) = c.name ∷ names cs

abbrev pub details : List ConstInfo → List Detail
details [] = []
details (c ∷ []) = []
details (c ∷ d ∷ cs) = c.detail ∷ details (d ∷ cs)

abbrev pub names_added : View → IndDecl → Option (List Path)
names_added V d = of (added V d)
  where
    of : Option (List ConstInfo) → Option (List Path)
    of (Some cs) = Some (names cs)
    of None = None

abbrev pub details_added : View → IndDecl → Option (List Detail)
details_added V d = of (added V d)
  where
    of : Option (List ConstInfo) → Option (List Detail)
    of (Some cs) = Some (details cs)
    of None = None

abbrev pub in_lists : String → Path
in_lists last = text "Demo" ∷ text "List" ∷ text last ∷ []

pub record Admissions : Type 0 where
  -- 2 units for the type (it is inferred, and its sort reduced), 5 for `zero` (its type costs a unit and the three nodes of `Type`, and
  -- is reduced), and 11 for `succ` (5 for the field, one for the body that is opened, 5 for the end)
  pub numbers : add_inductive nothing 512 nat_declaration 18 ≡ done (nat_info ∷ zero_info ∷ succ_info ∷ nat_recursor ∷ []) 0
  pub numbers_too_few : add_inductive nothing 512 nat_declaration 17 ≡ out
  -- 2 units for the type and 4 for `intro`, the nodes of `Prop` being 2
  pub truth : add_inductive nothing 512 true_declaration 6 ≡ done (declared_constants true_declaration true) 0
  pub truth_too_few : add_inductive nothing 512 true_declaration 5 ≡ out
  -- 17 units for the type, 12 and 9 for the parameters that are opened, 9 and 7 for the fields, 25 for the end
  pub conjunction : add_inductive nothing 512 and_declaration 79 ≡ done (declared_constants and_declaration true) 0
  pub conjunction_too_few : add_inductive nothing 512 and_declaration 78 ≡ out
  -- no call in a call is made for the numbers
  pub nested_enough : given (add_inductive nothing 1 nat_declaration 100000) ≡ Some (declared_constants nat_declaration true)
  pub nested_too_deep : add_inductive nothing 0 nat_declaration 100000 ≡ out
  -- the type, its constructors and the recursor, in this order; counts of parameters, indices and fields
  pub names_of_lists : names_added nothing list_declaration ≡ Some (dotted "Demo" "List" ∷ in_lists "nil" ∷ in_lists "cons" ∷ in_lists "rec" ∷ [])
  pub details_of_lists : details_added nothing list_declaration
      ≡ Some (Ind 1 0 (in_lists "nil" ∷ in_lists "cons" ∷ []) true ∷ Ctor (dotted "Demo" "List") 0 1 0 ∷ Ctor (dotted "Demo" "List") 1 1 2 ∷ [])
  pub details_of_equality : details_added nothing eq_declaration ≡ Some (Ind 2 1 (dotted "Eq" "refl" ∷ []) true ∷ Ctor (word "Eq") 0 2 0 ∷ [])
  pub details_of_vectors : details_added with_numbers vec_declaration
      ≡ Some (Ind 1 1 (dotted "Vec" "nil" ∷ dotted "Vec" "cons" ∷ []) true ∷ Ctor (word "Vec") 0 1 0 ∷ Ctor (word "Vec") 1 1 3 ∷ [])
  pub details_of_disjunction : details_added nothing or_declaration
      ≡ Some (Ind 2 0 (dotted "Or" "inl" ∷ dotted "Or" "inr" ∷ []) false ∷ Ctor (word "Or") 0 2 1 ∷ Ctor (word "Or") 1 2 1 ∷ [])
  -- a recursor of depth 1,024 is given, and a deeper one isn't
  pub recursor_deep : added nothing (of_sort 1019) ≡ Some (declared_constants (of_sort 1019) false)
  pub recursor_too_deep : add_inductive nothing 512 (of_sort 1020) 100000 ≡ out
  -- types eliminate into every sort
  pub lists : added nothing list_declaration ≡ Some (declared_constants list_declaration true)
  pub trees : added with_numbers tree_declaration ≡ Some (declared_constants tree_declaration true)
  pub families : added nothing w_declaration ≡ Some (declared_constants w_declaration true)
  pub fans : added with_numbers fan_declaration ≡ Some (declared_constants fan_declaration true)
  pub vectors : added with_numbers vec_declaration ≡ Some (declared_constants vec_declaration true)
  pub pairs : added nothing sigma_declaration ≡ Some (declared_constants sigma_declaration true)
  pub dependent_field : added with_equality d_declaration ≡ Some (declared_constants d_declaration true)
  pub never_a_proposition : added nothing two_in_types ≡ Some (declared_constants two_in_types true)
  -- so do propositions without constructors, or with one whose fields are proofs or are indices
  pub falsity : added nothing false_declaration ≡ Some (declared_constants false_declaration true)
  pub equality : added nothing eq_declaration ≡ Some (declared_constants eq_declaration true)
  pub access : added nothing acc_declaration ≡ Some (declared_constants acc_declaration true)
  pub field_is_index : added with_numbers by_field ≡ Some (declared_constants by_field true)
  pub maybe_a_proposition : added nothing unit_in_any_sort ≡ Some (declared_constants unit_in_any_sort true)
  -- and others into `Prop` alone
  pub disjunction : added nothing or_declaration ≡ Some (declared_constants or_declaration false)
  pub existence : added nothing exists_declaration ≡ Some (declared_constants exists_declaration false)
  pub number_held : added with_numbers holds_number ≡ Some (declared_constants holds_number false)
  pub field_in_index : added with_numbers by_successor ≡ Some (declared_constants by_successor false)
  pub field_hidden_in_index : added with_numbers hidden ≡ Some (declared_constants hidden false)
  pub hidden_has_no_motive_level : (recursor_of hidden false).levels ≡ []
  pub two_maybe_propositions : added nothing two_in_any_sort ≡ Some (declared_constants two_in_any_sort false)
