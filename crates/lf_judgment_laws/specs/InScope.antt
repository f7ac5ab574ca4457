-- The variables of what is typed or equal are those of the context.
use Rattle.std.specs.Prelude.{◌≡◌, ◌↔◌, ℕ, Some, List, [], ◌∷◌, length, slice_get, Contains}
use Rattle.lf_core.specs.Term.{Term}
use Rattle.lf_core.specs.Scope.{Scoped}
use Rattle.lf_rules.specs.Environment.{Environment, Context}
use Rattle.lf_rules.specs.Judgment.{Equal, HasType}
use Rattle.lf_core.specs.declared.constant.ConstInfo.{ConstInfo}
use Rattle.lf_core.specs.declared.constant.Detail.{Detail}
use Rattle.lf_core.specs.declared.constant.Detail.TheVariants.{Rec}

-- The rules of a recursor are closed.
abbrev pub RulesClosed : Detail → Type 0
RulesClosed (Rec ind params minors indices rules) = (k : ℕ) (r : Term) → slice_get rules k ≡ Some r → Scoped 0 0 r
RulesClosed _ = Unit {0}

-- A constant whose type, value and rules have no loose and no free variable.
pub record ConstantClosed (c : ConstInfo) : Type 0 where
  pub ty : Scoped 0 0 c.ty
  pub value : (v : Term) → c.value ≡ Some v → Scoped 0 0 v
  pub rules : RulesClosed c.detail

abbrev pub EnvironmentClosed : Environment → Type 0
EnvironmentClosed E = (c : ConstInfo) → Contains E c → ConstantClosed c

-- Each of the terms has only variables of a context of k types.
abbrev pub AllScoped : ℕ → List Term → Type 0
AllScoped k [] = Unit {0}
AllScoped k (x ∷ xs) = Scoped 0 k x × AllScoped k xs

abbrev pub ContextScoped : Context → Type 0
ContextScoped C = AllScoped (length C) C

-- Typed terms and their types are in scope, and equality keeps scope.
pub record KeepsScope (E : Environment) (C : Context) : Type 0 where
  pub typed : (t A : Term) → HasType E C t A → Scoped 0 (length C) t × Scoped 0 (length C) A
  pub equal : (a b : Term) → Equal E C a b → (Scoped 0 (length C) a ↔ Scoped 0 (length C) b)

abbrev pub RelationsKeepScope : Type 0
RelationsKeepScope = (E : Environment) (C : Context) → EnvironmentClosed E → ContextScoped C → KeepsScope E C
