-- Projections, and eta for structures: what the checker answers, and what that costs.
use Rattle.std.specs.Prelude.{◌≡◌, ℕ, true, false, Some, [], ◌∷◌, ◌++◌}
use Prim.Native.String.{String}
use Rattle.lf_core.specs.Term.{level_zero, level_succ, Term, bound, free, sort, const, app, lam, pi, lit, proj}
use Rattle.lf_rules.specs.Environment.{Context}
use Rattle.lf_rules.specs.Inductive.{declared_constants}
use Rattle.lf_core.specs.declared.constant.ConstInfo.{ConstInfo}
use Rattle.lf_core.specs.declared.constant.ConstKind.TheVariants.{Def}
use Rattle.lf_core.specs.declared.constant.Detail.TheVariants.{Plain}
use Rattle.lf_core.specs.declared.constant.IndDecl.{IndDecl}
use Rattle.lf_checker.specs.View.{View, base_view}
use Rattle.lf_checker.specs.Run.{Answer, done, refused, out}
use Rattle.lf_checker.specs.declared.fault.TypeFault.TheVariants.{Argument, NotPositive, NotStructure}
use Rattle.lf_checker.specs.Calls.{unchecked}
use Rattle.lf_checker.specs.Checker.{calls, whnf, equal, infer, normalize}
use Rattle.lf_examples.specs.Words.{word, dotted, explicit, ◌⟶◌, two, u, one, prop, type, at, inductive_type, inductive_type_u, constructor}
use Rattle.lf_checker.specs.Admission.{add_inductive}
use Rattle.lf_examples.specs.Declarations.{nat, nat_zero, nat_declaration, and_declaration}
use Rattle.lf_inductive_answers.specs.Admissions.{given}
use Rattle.lf_inductive_answers.specs.Refusals.{refusal, for}

-- ---- Structures, and types that are none.

-- inductive P : Type where | mk (x : Nat) (y : Nat)
abbrev pub p_declaration : IndDecl
p_declaration = inductive_type "P" 0 type (constructor "P" "mk" (pi (explicit "x") nat (pi (explicit "y") nat (at "P"))) ∷ [])

-- inductive One : Type where | mk
abbrev pub one_declaration : IndDecl
one_declaration = inductive_type "One" 0 type (constructor "One" "mk" (at "One") ∷ [])

-- inductive Point : Type 1 where | mk (A : Type) (a : A)
abbrev pub point_declaration : IndDecl
point_declaration = inductive_type "Point" 0 (sort (level_succ one))
    (constructor "Point" "mk" (pi (explicit "A") type (pi (explicit "a") (bound 0) (at "Point"))) ∷ [])

-- inductive Box (A : Type u) : Type u where | mk (a : A)
abbrev pub box_declaration : IndDecl
box_declaration = inductive_type_u "Box" 1 (pi (explicit "A") (sort (level_succ u)) (sort (level_succ u)))
    (constructor "Box" "mk" (pi (explicit "A") (sort (level_succ u)) (pi (explicit "a") (bound 0) (app (const (word "Box") (u ∷ [])) (bound 1)))) ∷ [])

-- inductive Fixed : Nat → Type where | mk (x : Nat) : Fixed Nat.zero
abbrev pub fixed_declaration : IndDecl
fixed_declaration = inductive_type "Fixed" 0 (pi (explicit "a") nat type) (constructor "Fixed" "mk" (pi (explicit "x") nat (app (at "Fixed") nat_zero)) ∷ [])

-- inductive Again : Type where | mk (x : Again)
abbrev pub again_declaration : IndDecl
again_declaration = inductive_type "Again" 0 type (constructor "Again" "mk" (pi (explicit "x") (at "Again") (at "Again")) ∷ [])

-- def origin : P := P.mk 0 1
abbrev pub origin : ConstInfo
origin = record {
  name = word "origin";
  kind = Def;
  levels = [];
  ty = at "P";
  value = Some (two (const (dotted "P" "mk") []) (lit 0) (lit 1));
  height = 1;
  detail = Plain;
}

-- def Pair : Type := P
abbrev pub pair : ConstInfo
pair = record { name = word "Pair"; kind = Def; levels = []; ty = type; value = Some (at "P"); height = 1; detail = Plain }

abbrev pub V : View
V = base_view (declared_constants nat_declaration true ++
    (declared_constants p_declaration true ++
    (declared_constants one_declaration true ++
    (declared_constants point_declaration true ++
    (declared_constants box_declaration true ++
    (declared_constants fixed_declaration true ++ (declared_constants again_declaration true
    ++ (declared_constants and_declaration true ++ origin ∷ pair ∷ []))))))))

-- inductive Code : Type 1 where | mk (A : Type)
abbrev pub code_declaration : IndDecl
code_declaration = inductive_type "Code" 0 (sort (level_succ one)) (constructor "Code" "mk" (pi (explicit "A") type (at "Code")) ∷ [])

-- inductive T : Type where | mk (x : (Code.mk (T → Nat)).1): the field's type is T → Nat
abbrev pub by_code : IndDecl
by_code = inductive_type "T" 0 type (constructor "T" "mk"
    (pi (explicit "x") (proj (word "Code") 0 (app (const (dotted "Code" "mk") []) (at "T" ⟶ nat))) (at "T")) ∷ [])

-- inductive T : Type where | mk (x : (Code.mk Nat).1)
abbrev pub by_number_code : IndDecl
by_number_code = inductive_type "T" 0 type
    (constructor "T" "mk" (pi (explicit "x") (proj (word "Code") 0 (app (const (dotted "Code" "mk") []) nat)) (at "T")) ∷ [])

abbrev pub codes_known : View
codes_known = base_view (declared_constants nat_declaration true ++ declared_constants code_declaration true)

-- inductive T : Type where | mk (f : Nat) (x : f.1), the projection being one of T
abbrev pub own_projection : IndDecl
own_projection = inductive_type "T" 0 type (constructor "T" "mk" (pi (explicit "f") nat (pi (explicit "x") (proj (word "T") 0 (bound 0)) (at "T"))) ∷ [])

-- ---- Terms. The variable 0 is a member of the type in question.

abbrev pub p_mk : Term → Term → Term
p_mk a b = two (const (dotted "P" "mk") []) a b

abbrev pub field : String → ℕ → Term
field S i = proj (word S) i (free 0)

-- fun (x : P) => x at the variable
abbrev pub again : Term
again = app (lam (explicit "x") (at "P") (bound 0)) (free 0)

abbrev pub box : Term → Term
box A = app (const (word "Box") (level_zero ∷ [])) A

abbrev pub box_mk : Term → Term → Term
box_mk A a = two (const (dotted "Box" "mk") (level_zero ∷ [])) A a

abbrev pub of_type : Term → Context
of_type A = A ∷ []

abbrev pub no_structure : {A : Type 0} → Term → Answer A
no_structure T = refused (record { fault = NotStructure T; opened = [] }) 0

pub record Structures : Type 0 where
  -- a field of the constructor: a unit for the call, and one for its term's; before other arguments too
  pub of_constructor : whnf V 512 [] (proj (word "P") 0 (p_mk (free 0) (free 1))) 2 ≡ done (free 0) 0
  pub of_constructor_too_few : whnf V 512 [] (proj (word "P") 0 (p_mk (free 0) (free 1))) 1 ≡ out
  pub of_constructor_applied : whnf V 512 [] (app (proj (word "P") 1 (p_mk (free 0) (free 1))) (free 2)) 2 ≡ done (app (free 1) (free 2)) 0
  -- of a variable, and at a field too high
  pub of_variable : whnf V 512 (of_type (at "P")) (field "P" 0) 2 ≡ done (field "P" 0) 0
  pub too_high : whnf V 512 [] (proj (word "P") 2 (p_mk (free 0) (free 1))) 2 ≡ done (proj (word "P") 2 (p_mk (free 0) (free 1))) 0
  -- of a definition, which is unfolded also where none is at the head: its value has 5 nodes with its levels
  pub of_definition : (calls V 512).whnf false [] (proj (word "P") 1 (at "origin")) 7 ≡ done (lit 1) 0
  -- the type of a field: three calls, the constructor's type, and what is left of it at each argument
  pub first_field : infer V 512 (of_type (at "P")) (field "P" 0) 8 ≡ done nat 0
  pub first_field_too_few : infer V 512 (of_type (at "P")) (field "P" 0) 7 ≡ out
  pub second_field : infer V 512 (of_type (at "P")) (field "P" 1) 11 ≡ done nat 0
  pub after_an_earlier_field : infer V 512 (of_type (at "Point")) (field "Point" 1) 14 ≡ done (field "Point" 0) 0
  pub at_parameters : infer V 512 (of_type (box nat)) (field "Box" 0) 19 ≡ done nat 0
  -- without tests the term need have no type
  pub tested : infer V 512 [] (proj (word "P") 0 (p_mk prop prop)) 17 ≡ refused (record { fault = Argument type nat; opened = [] }) 0
  pub untested : (calls V 512).infer (unchecked []) [] (proj (word "P") 0 (p_mk prop prop)) 21 ≡ done nat 0
  -- no structure, with the type
  pub field_too_high : infer V 512 (of_type (at "P")) (field "P" 2) 3 ≡ no_structure (at "P")
  pub of_another : infer V 512 (of_type (at "P")) (field "One" 0) 3 ≡ no_structure (at "P")
  pub with_index : infer V 512 (of_type (app (at "Fixed") nat_zero)) (field "Fixed" 0) 3 ≡ no_structure (app (at "Fixed") nat_zero)
  pub recursive : infer V 512 (of_type (at "Again")) (field "Again" 0) 3 ≡ no_structure (at "Again")
  pub several_constructors : infer V 512 (of_type nat) (field "Nat" 0) 3 ≡ no_structure nat
  pub proposition : infer V 512 (prop ∷ prop ∷ two (at "And") (free 0) (free 1) ∷ []) (proj (word "And") 0 (free 2)) 3 ≡ no_structure
      (two (at "And") (free 0) (free 1))
  pub other_number_of_levels : infer V 512 (of_type (app (at "Box") nat)) (field "Box" 0) 3 ≡ no_structure (app (at "Box") nat)
  pub parameter_missing : infer V 512 (of_type (const (word "Box") (level_zero ∷ []))) (field "Box" 0) 3 ≡ no_structure (const (word "Box") (level_zero ∷ []))
  -- the normal form of a projection's term, behind those of the arguments
  pub normal : normalize V 512 (of_type (at "P")) (proj (word "P") 0 again) 7 ≡ done (field "P" 0) 0
  pub normal_applied : normalize V 512 (of_type (at "P")) (app (proj (word "P") 0 again) again) 10 ≡ done (app (field "P" 0) (free 0)) 0
  -- a declaration with its type under a projection in a field is refused, and one with another type there isn't
  pub under_a_projection : refusal codes_known by_code ≡ for (NotPositive (dotted "T" "mk") 1) []
  pub another_under_a_projection : given (add_inductive codes_known 512 by_number_code 100000) ≡ Some (declared_constants by_number_code true)
  pub own_projection_untyped : refusal codes_known own_projection ≡ for (NotStructure nat) (word "f" ∷ [])
  -- eta, both ways
  pub eta_left : equal V 512 (of_type (at "P")) (p_mk (field "P" 0) (field "P" 1)) (free 0) 51 ≡ done true 0
  pub eta_left_too_few : equal V 512 (of_type (at "P")) (p_mk (field "P" 0) (field "P" 1)) (free 0) 50 ≡ out
  pub eta_right : equal V 512 (of_type (at "P")) (free 0) (p_mk (field "P" 0) (field "P" 1)) 17 ≡ done true 0
  pub eta_right_too_few : equal V 512 (of_type (at "P")) (free 0) (p_mk (field "P" 0) (field "P" 1)) 16 ≡ out
  -- not with the fields the other way round
  pub exchanged_left : equal V 512 (of_type (at "P")) (p_mk (field "P" 1) (field "P" 0)) (free 0) 65 ≡ done false 0
  pub exchanged_right : equal V 512 (of_type (at "P")) (free 0) (p_mk (field "P" 1) (field "P" 0)) 31 ≡ done false 0
  -- without fields: the constructor is each member, and two variables aren't compared so
  pub unit_left : equal V 512 (of_type (at "One")) (const (dotted "One" "mk") []) (free 0) 12 ≡ done true 0
  pub unit_right : equal V 512 (of_type (at "One")) (free 0) (const (dotted "One" "mk") []) 11 ≡ done true 0
  pub units : equal V 512 (at "One" ∷ at "One" ∷ []) (free 0) (free 1) 9 ≡ done false 0
  -- at levels and parameters, which have to be the same and equal
  pub boxed_left : equal V 512 (of_type (box nat)) (box_mk nat (field "Box" 0)) (free 0) 78 ≡ done true 0
  pub boxed_right : equal V 512 (of_type (box nat)) (free 0) (box_mk nat (field "Box" 0)) 29 ≡ done true 0
  pub boxed_at_another_level : equal V 512 (of_type (box nat)) (two (const (dotted "Box" "mk") (one ∷ [])) nat (field "Box" 0)) (free 0) 26 ≡ done false 0
  pub boxed_at_another_type : equal V 512 (of_type (box nat)) (box_mk (at "P") (field "Box" 0)) (free 0) 68 ≡ done false 0
  -- not of a recursive type
  pub no_eta : equal V 512 (of_type (at "Again")) (app (const (dotted "Again" "mk") []) (field "Again" 0)) (free 0) 12 ≡ done false 0
  -- projections of one field, whose terms are equal
  pub one_field : equal V 512 (of_type (at "P")) (field "P" 0) (proj (word "P") 0 again) 23 ≡ done true 0
  pub two_fields : equal V 512 (of_type (at "P")) (field "P" 0) (field "P" 1) 18 ≡ done false 0
  pub two_terms : equal V 512 (at "P" ∷ at "P" ∷ []) (field "P" 0) (proj (word "P") 0 (free 1)) 27 ≡ done false 0
  -- not where both are built: 3 units, 23 for the type of the first and its sort, 1 and 9 for the two arguments
  pub both_built : equal V 512 [] (p_mk (lit 0) (lit 1)) (p_mk (lit 0) (lit 2)) 36 ≡ done false 0
  -- a structure by definition: a field's type, and eta
  pub field_by_definition : given (infer V 512 (of_type (at "Pair")) (field "P" 0) 100) ≡ Some nat
  pub eta_by_definition : given (equal V 512 (of_type (at "Pair")) (p_mk (field "P" 0) (field "P" 1)) (free 0) 1000) ≡ Some true
