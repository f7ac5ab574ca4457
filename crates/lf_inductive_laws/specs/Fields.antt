-- What admission asks of fields, said along a constructor's type, and what it gives of propositions.
use Rattle.std.specs.Prelude.{◌≡◌, ◌↔◌, ◌⊎◌, ℕ, zero, suc, true, Bool, Some, List, [], ◌∷◌, length, slice_get, Contains}
use Rattle.lf_core.specs.Term.{Universe, level_zero, level_succ, Term, free, sort, pi}
use Rattle.lf_core.specs.Level.{Leq, Same}
use Rattle.lf_rules.specs.Environment.{Environment, Context, with, opened, nat, nat_type}
use Rattle.lf_rules.specs.Structure.{result_level}
use Rattle.lf_rules.specs.Judgment.{HasType, IsDeclaredProposition}
use Rattle.lf_rules.specs.Recursor.{Family, is_recursive}
use Rattle.lf_rules.specs.Inductive.{Recursive, Positive, with_type, Admitted}
use Rattle.lf_rules.specs.Derived.{Derived}
use Rattle.lf_name.specs.declared.binder.Binder.{Binder}
use Rattle.lf_core.specs.declared.constant.ConstInfo.{ConstInfo}
use Rattle.lf_core.specs.declared.constant.CtorInfo.{CtorInfo}
use Rattle.lf_core.specs.declared.constant.IndDecl.{IndDecl}

-- Behind n parameters of the type t over C, a field has the type A over D: its variable is `free (length D)`.
pub data FieldOf : ℕ → Context → Term → Context → Term → Type 0 where
  first : {C : Context} {x : Binder} {A B : Term} → FieldOf 0 C (pi x A B) C A
  later : {C D : Context} {x : Binder} {A B X : Term} → FieldOf 0 (with C A) (opened C B) D X → FieldOf 0 C (pi x A B) D X
  parameter : {n : ℕ} {C D : Context} {x : Binder} {A B X : Term} → FieldOf n (with C A) (opened C B) D X → FieldOf (suc n) C (pi x A B) D X

-- The field's type is in a sort of a level with this property.
abbrev pub InSortWith : Environment → Context → Term → (Universe → Type 0) → Type 0
InSortWith E D A P = (l : Universe) × HasType E D A (sort l) × P l

-- The declaration with this constructor alone.
abbrev pub with_only : IndDecl → CtorInfo → IndDecl
with_only d c = record d { ctors = c ∷ [] }

pub record AdmissionAsks : Type 0 where
  -- where the type isn't a proposition, no field's type is of a higher level than it
  pub low_fields : (E : Environment) (d : IndDecl) (large : Bool) → Admitted E d large → (index : ℕ) (c : CtorInfo) → slice_get d.ctors index ≡ Some c
      → (r : Universe) → result_level d.ty ≡ Some r
      → (D : Context) (A : Term) → FieldOf d.params [] c.ty D A → InSortWith (with_type E d) D A (λ l. Same r level_zero ⊎ Leq l r)
  -- a proposition of one constructor eliminates into every sort only where each field is a proof or is itself an index
  pub proofs_or_indices : (E : Environment) (d : IndDecl) (c : CtorInfo) (a : Admitted E (with_only d c) true) → Same a.result level_zero
      → (D : Context) (A : Term) → FieldOf d.params [] c.ty D A
      → InSortWith (with_type E (with_only d c)) D A (λ l. Same l level_zero ⊎ Contains a.constructors.0.indices (free (length D)))
  -- among positive fields the recursor takes for recursive just those that are
  pub recursive_fields : (f : Family) (A : Term) → Positive f A → (is_recursive f A ≡ true) ↔ Recursive f A
  -- where `Nat` is a type, numbers are no proofs
  pub numbers_are_no_proofs : (E : Environment) → Derived E → (c : ConstInfo) → Contains E c → c.name ≡ nat → c.ty ≡ sort (level_succ level_zero)
      → IsDeclaredProposition E nat_type → ⊥
