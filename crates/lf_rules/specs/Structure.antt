-- Structures: inductive types with one constructor and no index, not recursive, never in `Prop`.
use Rattle.std.specs.Prelude.{◌≡◌, ℕ, zero, suc, Bool, Option, Some, None, List, [], ◌∷◌, ◌++◌, Contains}
use Rattle.lf_core.specs.Term.{Path, Universe, level_succ, Term, bound, free, meta, sort, const, app, lam, pi, letin, lit, proj}
use Rattle.lf_core.specs.Substitution.{instantiate}
use Rattle.lf_rules.specs.Environment.{Environment}
use Rattle.lf_name.specs.declared.binder.Binder.{Binder}
use Rattle.lf_core.specs.declared.constant.ConstInfo.{ConstInfo}
use Rattle.lf_core.specs.declared.constant.Detail.TheVariants.{Ind, Ctor}

-- The constant n stands nowhere in the term, nor is it the structure of a projection.
abbrev pub Without : Path → Term → Type 0
Without n (const c ls) = c ≡ n → ⊥
Without n (app f a) = Without n f × Without n a
Without n (lam x A b) = Without n A × Without n b
Without n (pi x A B) = Without n A × Without n B
Without n (letin x A v b) = Without n A × Without n v × Without n b
Without n (proj s i t) = (s ≡ n → ⊥) × Without n t
Without n (bound i) = Unit {0}
Without n (free k) = Unit {0}
Without n (meta k) = Unit {0}
Without n (sort l) = Unit {0}
Without n (lit k) = Unit {0}

-- The level of the sort in which a type of pis ends.
abbrev pub result_level : Term → Option Universe
result_level (sort l) = Some l
result_level (pi x A B) = result_level B
result_level _ = None

-- Behind n parameters no field's type names S.
abbrev pub FieldsWithout : Path → ℕ → Term → Type 0
FieldsWithout S zero (pi x A B) = Without S A × FieldsWithout S zero B
FieldsWithout S (suc n) (pi x A B) = FieldsWithout S n B
FieldsWithout S n t = Unit {0}

pub record IsStructure (E : Environment) (S : Path) : Type 0 where
  pub type : ConstInfo
  pub constructor : ConstInfo
  pub params : ℕ
  pub fields : ℕ
  pub large : Bool
  pub level : Universe
  pub within : Contains E type
  pub named : type.name ≡ S
  pub detail : type.detail ≡ Ind params 0 (constructor.name ∷ []) large
  pub result : result_level type.ty ≡ Some (level_succ level)
  pub constructor_within : Contains E constructor
  pub constructs : constructor.detail ≡ Ctor S 0 params fields
  pub flat : FieldsWithout S params constructor.ty

-- The first n projections of t.
abbrev pub projections : Path → ℕ → Term → List Term
projections S zero t = []
projections S (suc n) t = projections S n t ++ proj S n t ∷ []

-- A is the domain of the pi that is left of the type at these arguments.
pub data DomainAt : Term → List Term → Term → Type 0 where
  here : {x : Binder} {A B : Term} → DomainAt (pi x A B) [] A
  there : {x : Binder} {A B y D : Term} {ys : List Term} → DomainAt (instantiate B y) ys D → DomainAt (pi x A B) (y ∷ ys) D
