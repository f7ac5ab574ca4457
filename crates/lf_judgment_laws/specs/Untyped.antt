-- Steps of terms that needn't be formed, beside proof irrelevance: all closed terms are equal, and what has a type has each.
-- Each relation has only the rules that the collapse needs; the other rules could only add to it.
use Rattle.std.specs.Prelude.{◌≡◌, ℕ, Some, [], length, slice_get}
use Rattle.lf_core.specs.Term.{Universe, level_zero, level_succ, level_imax, Term, free, sort, app, lam, pi}
use Rattle.lf_core.specs.Level.{Same}
use Rattle.lf_core.specs.Scope.{Scoped}
use Rattle.lf_rules.specs.Environment.{Environment, Context, with, opened}
use Rattle.lf_rules.specs.Step.{Step}
use Rattle.lf_name.specs.declared.binder.Binder.{Binder}

mutual
  pub data UntypedEqual (E : Environment) : Context → Term → Term → Type 0 where
    reflexive : {C : Context} (a : Term) → UntypedEqual E C a a
    symmetric : {C : Context} {a b : Term} → UntypedEqual E C a b → UntypedEqual E C b a
    transitive : {C : Context} {a b c : Term} → UntypedEqual E C a b → UntypedEqual E C b c → UntypedEqual E C a c
    applications : {C : Context} {f g a b : Term} → UntypedEqual E C f g → UntypedEqual E C a b → UntypedEqual E C (app f a) (app g b)
    sorts : {C : Context} {l m : Universe} → Same l m → UntypedEqual E C (sort l) (sort m)
    step : {C : Context} {a b : Term} → Step E a b → Scoped 0 (length C) a → UntypedEqual E C a b
    proof_irrelevance : {C : Context} {a b P : Term} → UntypedType E C a P → UntypedType E C b P → UntypedType E C P (sort level_zero) → UntypedEqual E C a b

  pub data UntypedType (E : Environment) : Context → Term → Term → Type 0 where
    variable : {C : Context} {A : Term} (k : ℕ) → slice_get C k ≡ Some A → UntypedType E C (free k) A
    sort_type : {C : Context} (l : Universe) → UntypedType E C (sort l) (sort (level_succ l))
    lambda : {C : Context} {x : Binder} {A b B : Term} (u : Universe) → UntypedType E C A (sort u) → Scoped 1 (length C) b → Scoped 1 (length C) B
        → UntypedType E (with C A) (opened C b) (opened C B) → UntypedType E C (lam x A b) (pi x A B)
    pi_type : {C : Context} {x : Binder} {A B : Term} (u v : Universe) → UntypedType E C A (sort u) → Scoped 1 (length C) B
        → UntypedType E (with C A) (opened C B) (sort v) → UntypedType E C (pi x A B) (sort (level_imax u v))
    conversion : {C : Context} {t A B : Term} → UntypedType E C t A → UntypedEqual E C A B → UntypedType E C t B

pub record Alike (E : Environment) : Type 0 where
  pub equal : (a b : Term) → Scoped 0 0 a → Scoped 0 0 b → UntypedEqual E [] a b
  pub typed : (t A B : Term) → UntypedType E [] t A → Scoped 0 0 A → Scoped 0 0 B → UntypedType E [] t B

abbrev pub UntypedCollapses : Type 0
UntypedCollapses = (E : Environment) → Alike E
