-- Declarations that are refused. Most are of a type T with a constructor `T.mk`.
use Rattle.std.specs.Prelude.{List, [], ◌∷◌}
use Rattle.lf_core.specs.Term.{Path, level_zero, level_succ, level_max, Term, bound, free, meta, sort, const, app, lam, pi, proj}
use Rattle.lf_core.specs.declared.constant.CtorInfo.{CtorInfo}
use Rattle.lf_core.specs.declared.constant.IndDecl.{IndDecl}
use Rattle.lf_examples.specs.Words.{word, dotted, explicit, implicit, ◌⟶◌, two, u, one, prop, type, at, at_u, inductive_type, inductive_type_u, constructor}
use Rattle.lf_examples.specs.Declarations.{nat, nat_zero}

-- T : Type, mk of this type
abbrev pub with_mk : Term → IndDecl
with_mk A = inductive_type "T" 0 type (constructor "T" "mk" A ∷ [])

-- T (α : Type) : Type, mk of this type
abbrev pub over_type : Term → IndDecl
over_type A = inductive_type "T" 1 (pi (explicit "α") type type) (constructor "T" "mk" A ∷ [])

-- T : Nat → Prop, mk of this type
abbrev pub over_numbers : Term → IndDecl
over_numbers A = inductive_type "T" 0 (nat ⟶ prop) (constructor "T" "mk" A ∷ [])

-- T : Type → Type, mk of this type
abbrev pub at_types : Term → IndDecl
at_types A = inductive_type "T" 0 (type ⟶ type) (constructor "T" "mk" A ∷ [])

-- ---- Positivity.

-- Bad : Type, mk : (Bad → Nat) → Bad
abbrev pub bad : IndDecl
bad = inductive_type "Bad" 0 type (constructor "Bad" "mk" ((at "Bad" ⟶ nat) ⟶ at "Bad") ∷ [])

-- mk (n : Nat) (f : (Nat → T) → T) : T
abbrev pub deep_domain : IndDecl
deep_domain = with_mk (pi (explicit "n") nat (pi (explicit "f") ((nat ⟶ at "T") ⟶ at "T") (at "T")))

-- T : Type → Type, mk (x : T (T Nat)) : T Nat
abbrev pub in_own_index : IndDecl
in_own_index = at_types (pi (explicit "x") (app (at "T") (app (at "T") nat)) (app (at "T") nat))

-- mk (x : List T) : T, over the lists at level 0
abbrev pub nested : IndDecl
nested = with_mk (pi (explicit "x") (app (const (dotted "Demo" "List") (level_zero ∷ [])) (at "T")) (at "T"))

-- mk (x : (P.mk (T → False)).1) : T, over a structure P with a field of types
abbrev pub in_projected_type : IndDecl
in_projected_type = with_mk (pi (explicit "x") (proj (word "P") 0 (app (const (dotted "P" "mk") []) (at "T" ⟶ at "False"))) (at "T"))

-- mk (x : Nat.1) : T, as if T were a structure
abbrev pub in_own_projection : IndDecl
in_own_projection = with_mk (pi (explicit "x") (proj (word "T") 0 (at "Nat")) (at "T"))

-- mk {α : Type} (x : T Nat) : T α
abbrev pub other_parameter : IndDecl
other_parameter = over_type (pi (implicit "α") type (pi (explicit "x") (app (at "T") nat) (app (at "T") (bound 1))))

-- T.{u} : Type (max 1 u), base (A : Sort u) : T.{u}, up (x : T.{1}) : T.{u}
abbrev pub other_levels : IndDecl
other_levels = inductive_type_u "T" 0 (sort (level_succ (level_max one u)))
    (constructor "T" "base" (pi (explicit "A") (sort u) (at_u "T")) ∷ constructor "T" "up" (pi (explicit "x") (const (word "T") (one ∷ [])) (at_u "T")) ∷ [])

-- ---- The end of a constructor.

-- T.{u} : Type, mk : T.{0}
abbrev pub end_at_other_levels : IndDecl
end_at_other_levels = inductive_type_u "T" 0 type (constructor "T" "mk" (const (word "T") (level_zero ∷ [])) ∷ [])

-- mk {α : Type} : T Nat
abbrev pub end_at_other_parameter : IndDecl
end_at_other_parameter = over_type (pi (implicit "α") type (app (at "T") nat))

-- mk : Nat
abbrev pub other_end : IndDecl
other_end = with_mk nat

-- T : Nat → Prop with no index, and with two; T : Type → Type at an index that has it
abbrev pub index_missing : IndDecl
index_missing = over_numbers (at "T")

abbrev pub index_too_many : IndDecl
index_too_many = over_numbers (two (at "T") nat_zero nat_zero)

abbrev pub end_in_own_index : IndDecl
end_in_own_index = at_types (app (at "T") (app (at "T") nat))

-- fields of the same forms
abbrev pub field_index_missing : IndDecl
field_index_missing = over_numbers (pi (explicit "x") (at "T") (app (at "T") nat_zero))

abbrev pub field_index_too_many : IndDecl
field_index_too_many = over_numbers (pi (explicit "x") (two (at "T") nat_zero nat_zero) (app (at "T") nat_zero))

-- ---- Parameters.

-- T (p : (x : Prop) → Prop) : Prop, mk {p : (y : Prop) → Prop} : T p
abbrev pub renamed_inside : IndDecl
renamed_inside = inductive_type "T" 1 (pi (explicit "p") (pi (explicit "x") prop prop) prop)
    (constructor "T" "mk" (pi (implicit "p") (pi (explicit "y") prop prop) (app (at "T") (bound 0))) ∷ [])

-- mk : T Nat, with no parameter at all
abbrev pub no_parameter : IndDecl
no_parameter = over_type (app (at "T") nat)

-- ---- Levels.

-- mk (A : Type) : T, in Type
abbrev pub too_high : IndDecl
too_high = with_mk (pi (explicit "A") type (at "T"))

-- mk {β : Type} (x : β) (B : Type) : T β; the parameter has a name of its own here
abbrev pub second_too_high : IndDecl
second_too_high = over_type (pi (implicit "β") type (pi (explicit "x") (bound 0) (pi (explicit "B") type (app (at "T") (bound 2)))))

-- ---- Fields that are no types.

-- mk {α : Type} (x : α) (p : x) : T α
abbrev pub field_no_type : IndDecl
field_no_type = over_type (pi (implicit "α") type (pi (explicit "x") (bound 0) (pi (explicit "p") (bound 0) (app (at "T") (bound 2)))))

-- mk (n : Nat) (h : ∀ (y : Nat), y) : T
abbrev pub no_type_inside : IndDecl
no_type_inside = with_mk (pi (explicit "n") nat (pi (explicit "h") (pi (explicit "y") nat (bound 0)) (at "T")))

-- mk (x : Missing) : T
abbrev pub missing_type : IndDecl
missing_type = with_mk (pi (explicit "x") (at "Missing") (at "T"))

-- ---- The type itself, with no constructor.

abbrev pub of_type : Term → IndDecl
of_type A = inductive_type "T" 0 A []

-- (fun (x : Type 1) => x) Type is a sort, and isn't written as one
abbrev pub sort_by_reduction : IndDecl
sort_by_reduction = of_type (app (lam (explicit "x") (sort (level_succ one)) (bound 0)) type)

-- T : Type with one parameter
abbrev pub parameter_missing : IndDecl
parameter_missing = inductive_type "T" 1 type []

-- ---- Terms that aren't closed.

abbrev pub free_in_type : IndDecl
free_in_type = of_type (free 0)

abbrev pub bound_in_type : IndDecl
bound_in_type = of_type (bound 0)

abbrev pub free_in_constructor : IndDecl
free_in_constructor = with_mk (pi (explicit "x") (free 0) (at "T"))

abbrev pub meta_in_constructor : IndDecl
meta_in_constructor = with_mk (pi (explicit "x") (meta 0) (at "T"))

-- ---- Names.

-- T : Type with constructors T of these names
abbrev pub all_of : List Path → List CtorInfo
all_of [] = []
all_of (n ∷ ns) = record { name = n; ty = at "T" } ∷ all_of ns

abbrev pub with_names : List Path → IndDecl
with_names ns = inductive_type "T" 0 type (all_of ns)

abbrev pub empty_of_name : Path → IndDecl
empty_of_name n = record { name = n; levels = []; params = 0; ty = type; ctors = [] }
