-- Declarations that tell apart when a type eliminates into every sort.
use Rattle.std.specs.Prelude.{ℕ, zero, suc, [], ◌∷◌}
use Rattle.lf_core.specs.Term.{Universe, level_zero, level_succ, level_max, Term, bound, sort, app, lam, pi}
use Rattle.lf_core.specs.declared.constant.IndDecl.{IndDecl}
use Rattle.lf_examples.specs.Words.{explicit, ◌⟶◌, u, one, prop, at, at_u, inductive_type, inductive_type_u, constructor}
use Rattle.lf_examples.specs.Declarations.{nat, nat_zero, nat_succ}

-- P : Prop, mk (n : Nat) : P
abbrev pub holds_number : IndDecl
holds_number = inductive_type "P" 0 prop (constructor "P" "mk" (pi (explicit "n") nat (at "P")) ∷ [])

-- P : Nat → Prop, mk (n : Nat) : P at this index
abbrev pub indexed_by : Term → IndDecl
indexed_by i = inductive_type "P" 0 (nat ⟶ prop) (constructor "P" "mk" (pi (explicit "n") nat (app (at "P") i)) ∷ [])

abbrev pub by_field : IndDecl
by_field = indexed_by (bound 0)

abbrev pub by_successor : IndDecl
by_successor = indexed_by (app nat_succ (bound 0))

-- (fun m => Nat.zero) n has the field in it, and is no field
abbrev pub hidden : IndDecl
hidden = indexed_by (app (lam (explicit "m") nat nat_zero) (bound 0))

-- Unit.{u} : Sort u, unit : Unit
abbrev pub unit_in_any_sort : IndDecl
unit_in_any_sort = inductive_type_u "Unit" 0 (sort u) (constructor "Unit" "unit" (at_u "Unit") ∷ [])

-- Two.{u} : Sort u, and in a sort that is never `Prop`, with two constructors
abbrev pub two_in_any_sort : IndDecl
two_in_any_sort = inductive_type_u "Two" 0 (sort u) (constructor "Two" "left" (at_u "Two") ∷ constructor "Two" "right" (at_u "Two") ∷ [])

abbrev pub two_in_types : IndDecl
two_in_types = inductive_type_u "Two" 0 (sort (level_max one u)) (constructor "Two" "left" (at_u "Two") ∷ constructor "Two" "right" (at_u "Two") ∷ [])

-- P : Prop, mk (A : Sort n) : P; the constructor's type is n + 3 deep, and the recursor's n + 5
abbrev pub level_of : ℕ → Universe
level_of zero = level_zero
level_of (suc n) = level_succ (level_of n)

abbrev pub of_sort : ℕ → IndDecl
of_sort n = inductive_type "P" 0 prop (constructor "P" "mk" (pi (explicit "A") (sort (level_of n)) (at "P")) ∷ [])
