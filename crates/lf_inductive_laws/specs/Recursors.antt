-- What a recursor is made of: closed terms that name only the declaration and what it names, at the recursor's own levels.
use Rattle.std.specs.Prelude.{ℕ, Bool, List, [], ◌∷◌, ◌++◌, length}
use Rattle.lf_core.specs.Term.{Term}
use Rattle.lf_core.specs.Scope.{Scoped}
use Rattle.lf_rules.specs.Environment.{Environment, NamesDeclared, LevelsBelow}
use Rattle.lf_rules.specs.Recursor.{recursor_of, recursor_levels, recursor_rules}
use Rattle.lf_rules.specs.Inductive.{declared_constants}
use Rattle.lf_rules.specs.Derived.{Introduced}
use Rattle.lf_core.specs.declared.constant.IndDecl.{IndDecl}

-- A closed term that names only constants of E, and whose levels are below n.
pub record Right (E : Environment) (n : ℕ) (t : Term) : Type 0 where
  pub closed : Scoped 0 0 t
  pub named : NamesDeclared E t
  pub levels : LevelsBelow n t

abbrev pub AllRight : Environment → ℕ → List Term → Type 0
AllRight E n [] = Unit {0}
AllRight E n (t ∷ ts) = Right E n t × AllRight E n ts

pub record RecursorRight (E : Environment) (d : IndDecl) (large : Bool) : Type 0 where
  pub ty : Right E (length (recursor_levels d large)) (recursor_of d large).ty
  pub rules : AllRight E (length (recursor_levels d large)) (recursor_rules d large)

abbrev pub RecursorsAreRight : Type 0
RecursorsAreRight = (E : Environment) (d : IndDecl) (large : Bool) → Introduced E d large → RecursorRight (E ++ declared_constants d large) d large
