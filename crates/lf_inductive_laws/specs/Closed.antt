-- The constants of a derived environment are closed, and name only constants of it, at their own levels.
use Rattle.std.specs.Prelude.{◌≡◌, Some, length, Contains}
use Rattle.lf_core.specs.Term.{Term}
use Rattle.lf_rules.specs.Environment.{Environment}
use Rattle.lf_rules.specs.Derived.{Derived}
use Rattle.lf_core.specs.declared.constant.ConstInfo.{ConstInfo}
use Rattle.lf_core.specs.declared.constant.Detail.{Detail}
use Rattle.lf_core.specs.declared.constant.Detail.TheVariants.{Rec}
use Rattle.lf_judgment_laws.specs.InScope.{EnvironmentClosed}
use Rattle.lf_inductive_laws.specs.Recursors.{Right, AllRight}

abbrev pub DerivedIsClosed : Type 0
DerivedIsClosed = (E : Environment) → Derived E → EnvironmentClosed E

abbrev pub RulesRight : Environment → ConstInfo → Detail → Type 0
RulesRight E c (Rec ind params minors indices rules) = AllRight E (length c.levels) rules
RulesRight E c _ = Unit {0}

pub record ConstantRight (E : Environment) (c : ConstInfo) : Type 0 where
  pub ty : Right E (length c.levels) c.ty
  pub value : (v : Term) → c.value ≡ Some v → Right E (length c.levels) v
  pub rules : RulesRight E c c.detail

abbrev pub DerivedIsRight : Type 0
DerivedIsRight = (E : Environment) → Derived E → (c : ConstInfo) → Contains E c → ConstantRight E c
