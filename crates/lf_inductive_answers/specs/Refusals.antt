-- Declarations that are refused: why, and under which binders.
use Rattle.std.specs.Prelude.{◌≡◌, false, Option, Some, None, List, [], ◌∷◌}
use Rattle.lf_core.specs.Term.{Path, free, pi}
use Rattle.lf_rules.specs.Inductive.{own_family}
use Rattle.lf_core.specs.declared.constant.IndDecl.{IndDecl}
use Rattle.lf_checker.specs.View.{View, base_position}
use Rattle.lf_checker.specs.Run.{Answer, refused, Refusal}
use Rattle.lf_checker.specs.declared.fault.TypeFault.{TypeFault}
use Rattle.lf_checker.specs.declared.fault.TypeFault.TheVariants.{
  NotClosed,
  NotPositive,
  BadResult,
  LevelTooHigh,
  BadType,
  Duplicate,
  NotType,
  NotFunction,
  Unknown,
}
use Rattle.lf_checker.specs.Admission.{is_positive, add_inductive}
use Rattle.lf_examples.specs.Words.{word, dotted, explicit, ◌⟶◌, two, prop, type, at}
use Rattle.lf_examples.specs.Declarations.{nat, nat_zero}
use Rattle.lf_examples.specs.Refused.{
  bad,
  deep_domain,
  in_own_index,
  nested,
  other_parameter,
  other_levels,
  end_at_other_levels,
  end_at_other_parameter,
  other_end,
  index_missing,
  index_too_many,
  end_in_own_index,
  field_index_missing,
  field_index_too_many,
  renamed_inside,
  no_parameter,
  too_high,
  second_too_high,
  field_no_type,
  no_type_inside,
  missing_type,
  of_type,
  sort_by_reduction,
  parameter_missing,
  free_in_type,
  bound_in_type,
  free_in_constructor,
  meta_in_constructor,
  with_mk,
  with_names,
  empty_of_name,
}
use Rattle.lf_examples.specs.Views.{nothing, with_numbers, with_lists, document}

abbrev pub refusal_of : {A : Type 0} → Answer A → Option Refusal
refusal_of (refused r n) = Some r
refusal_of _ = None

abbrev pub refusal : View → IndDecl → Option Refusal
refusal V d = refusal_of (add_inductive V 512 d 100000)

-- This fault, with these binders opened.
abbrev pub for : TypeFault → List Path → Option Refusal
for e xs = Some (record { fault = e; opened = xs })

-- T : Type with constructors a and b of the type Nat
abbrev pub two_other_ends : IndDecl
two_other_ends = record {
  name = word "T";
  levels = [];
  params = 0;
  ty = type;
  ctors = record { name = dotted "T" "a"; ty = nat } ∷ record { name = dotted "T" "b"; ty = nat } ∷ [];
}

-- a type of this name with the constructor g
abbrev pub with_g : Path → IndDecl
with_g n = record { name = n; levels = []; params = 0; ty = type; ctors = record { name = word "g"; ty = at "T" } ∷ [] }

pub record Refusals : Type 0 where
  -- the type in a domain, at once or deeper
  pub negative : refusal with_numbers bad ≡ for (NotPositive (dotted "Bad" "mk") 1) []
  pub negative_deeper : refusal with_numbers deep_domain ≡ for (NotPositive (dotted "T" "mk") 2) (word "n" ∷ [])
  -- in its own index, in an argument of another type, at another parameter, at other levels
  pub in_index : refusal with_numbers in_own_index ≡ for (NotPositive (dotted "T" "mk") 1) []
  pub in_lists : refusal with_lists nested ≡ for (NotPositive (dotted "T" "mk") 1) []
  pub at_another_parameter : refusal with_numbers other_parameter ≡ for (NotPositive (dotted "T" "mk") 1) (word "α" ∷ [])
  pub at_other_levels : refusal nothing other_levels ≡ for (NotPositive (dotted "T" "up") 1) []
  -- the end
  pub ends_at_other_levels : refusal nothing end_at_other_levels ≡ for (BadResult (dotted "T" "mk")) []
  pub ends_at_another_parameter : refusal with_numbers end_at_other_parameter ≡ for (BadResult (dotted "T" "mk")) (word "α" ∷ [])
  pub ends_elsewhere : refusal with_numbers other_end ≡ for (BadResult (dotted "T" "mk")) []
  pub ends_with_own_index : refusal with_numbers end_in_own_index ≡ for (BadResult (dotted "T" "mk")) []
  pub ends_with_too_few_indices : refusal with_numbers index_missing ≡ for (BadResult (dotted "T" "mk")) []
  pub ends_with_too_many_indices : refusal with_numbers index_too_many ≡ for (BadResult (dotted "T" "mk")) []
  -- a field with too few or too many indices isn't positive; but it is no type either, which is tested before
  pub too_few_not_positive : is_positive (own_family field_index_missing) (at "T") ≡ false
  pub too_many_not_positive : is_positive (own_family field_index_missing) (two (at "T") nat_zero nat_zero) ≡ false
  pub too_few_no_type : refusal with_numbers field_index_missing ≡ for (NotType (nat ⟶ prop)) []
  pub too_many_no_function : refusal with_numbers field_index_too_many ≡ for (NotFunction prop) []
  -- parameters: the domains are the same tree, names of binders in them included
  pub parameter_renamed_inside : refusal nothing renamed_inside ≡ for (BadResult (dotted "T" "mk")) []
  pub parameter_not_taken : refusal with_numbers no_parameter ≡ for (BadResult (dotted "T" "mk")) []
  -- a field above the type's level, with the names of the parameter as the constructor has it and of the field before
  pub field_too_high : refusal nothing too_high ≡ for (LevelTooHigh (dotted "T" "mk") 1) []
  pub second_field_too_high : refusal nothing second_too_high ≡ for (LevelTooHigh (dotted "T" "mk") 2) (word "β" ∷ word "x" ∷ [])
  -- a field that is no type
  pub field_is_no_type : refusal nothing field_no_type ≡ for (NotType (free 0)) (word "α" ∷ word "x" ∷ [])
  pub field_holds_no_type : refusal with_numbers no_type_inside ≡ for (NotType nat) (word "n" ∷ word "y" ∷ [])
  pub field_unknown : refusal nothing missing_type ≡ for (Unknown (word "Missing")) []
  -- the type: it ends in no sort, or in one that isn't written; it has too few pis; it is no type
  pub no_sort : refusal with_numbers (of_type nat) ≡ for BadType []
  pub sort_not_written : refusal nothing sort_by_reduction ≡ for BadType []
  pub too_few_pis : refusal nothing parameter_missing ≡ for BadType []
  pub no_type : refusal with_numbers (of_type nat_zero) ≡ for (NotType nat) []
  -- open terms, also under a name that is there
  pub variable_in_type : refusal nothing free_in_type ≡ for NotClosed []
  pub loose_in_type : refusal nothing bound_in_type ≡ for NotClosed []
  pub variable_in_constructor : refusal nothing free_in_constructor ≡ for NotClosed []
  pub metavariable_in_constructor : refusal nothing meta_in_constructor ≡ for NotClosed []
  pub variable_under_a_taken_name : refusal document (record { name = word "f"; levels = []; params = 0; ty = free 0; ctors = [] }) ≡ for NotClosed []
  -- names that are there: of the type, of a constructor, of the recursor, each at its entry's place
  pub type_is_there : refusal document (empty_of_name (word "f")) ≡ for (Duplicate (word "f") 3) []
  pub type_is_in_base : refusal document (empty_of_name (word "Nat")) ≡ for (Duplicate (word "Nat") base_position) []
  pub constructor_is_there : refusal document (with_names (word "g" ∷ [])) ≡ for (Duplicate (word "g") 4) []
  pub recursor_is_there : refusal document (empty_of_name (word "S")) ≡ for (Duplicate (dotted "S" "rec") 5) []
  -- names that come twice in the declaration, at the view's own place
  pub constructor_twice : refusal document (with_names (dotted "T" "a" ∷ dotted "T" "b" ∷ dotted "T" "a" ∷ [])) ≡ for (Duplicate (dotted "T" "a") 7) []
  pub constructor_as_type : refusal document (with_names (word "T" ∷ [])) ≡ for (Duplicate (word "T") 7) []
  pub constructor_as_recursor : refusal document (with_names (dotted "T" "rec" ∷ [])) ≡ for (Duplicate (dotted "T" "rec") 7) []
  -- the first of two faults; a name that comes twice is refused before a later one waits
  pub first_twice : refusal document (with_names (dotted "T" "a" ∷ dotted "T" "a" ∷ word "g" ∷ [])) ≡ for (Duplicate (dotted "T" "a") 7) []
  pub twice_before_waiting : refusal document (with_names (dotted "T" "a" ∷ dotted "T" "a" ∷ dotted "f" "aux" ∷ [])) ≡ for (Duplicate (dotted "T" "a") 7) []
  -- the order of the tests: positive before low, new names before types, the type's name, the constructors' and then the recursor's, constructor by constructor
  pub positive_before_low : refusal nothing (with_mk (pi (explicit "f") (at "T" ⟶ type) (at "T"))) ≡ for (NotPositive (dotted "T" "mk") 1) []
  pub new_before_typed : refusal document (record { name = word "f"; levels = []; params = 0; ty = nat_zero; ctors = [] }) ≡ for (Duplicate (word "f") 3) []
  pub type_before_constructor : refusal document (with_g (word "f")) ≡ for (Duplicate (word "f") 3) []
  pub constructor_before_recursor : refusal document (with_g (word "S")) ≡ for (Duplicate (word "g") 4) []
  pub first_constructor : refusal with_numbers two_other_ends ≡ for (BadResult (dotted "T" "a")) []
  -- a constructor that is called like the recursor, where that name is there: at its entry's place
  pub constructor_there_as_recursor : refusal document (record (with_g (word "S")) { ctors = record { name = dotted "S" "rec"; ty = at "S" } ∷ [] })
      ≡ for (Duplicate (dotted "S" "rec") 5) []
