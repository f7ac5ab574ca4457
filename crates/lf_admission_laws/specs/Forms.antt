-- The tests of form are exact: they pass just what the rules of admission ask for.
use Rattle.std.specs.Prelude.{◌≡◌, ◌↔◌, true, List}
use Rattle.lf_core.specs.Term.{Term}
use Rattle.lf_core.specs.Same.{same}
use Rattle.lf_rules.specs.Recursor.{Family, indices_of}
use Rattle.lf_rules.specs.Inductive.{AtIndices, Positive}
use Rattle.lf_checker.specs.Admission.{is_at_indices, is_positive}

pub record FormTestsAreExact : Type 0 where
  -- the same tree
  pub tree : (a b : Term) → (same a b ≡ true) ↔ (a ≡ b)
  -- the type at indices, which are those that stand there
  pub at_indices : (f : Family) (t : Term) → (is_at_indices f t ≡ true) ↔ AtIndices f t (indices_of f t)
  pub indices : (f : Family) (t : Term) (is : List Term) → AtIndices f t is → indices_of f t ≡ is
  pub positive : (f : Family) (A : Term) → (is_positive f A ≡ true) ↔ Positive f A
