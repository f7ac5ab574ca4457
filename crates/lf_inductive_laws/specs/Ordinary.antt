-- A derived list that begins with ordinary numbers keeps them, and has no other constants of their names.
use Rattle.std.specs.Prelude.{◌≡◌, List, ◌++◌, Contains}
use Rattle.lf_rules.specs.Environment.{Environment}
use Rattle.lf_rules.specs.Derived.{Derived}
use Rattle.lf_rules.specs.Ordinary.{ordinary_constants, Ordinary}
use Rattle.lf_core.specs.declared.constant.ConstInfo.{ConstInfo}

pub record NumbersStay : Type 0 where
  pub kept : (base rest : Environment) → Ordinary base → Ordinary (base ++ rest)
  pub no_other : (E : Environment) → Derived E → Ordinary E → (c d : ConstInfo) → Contains ordinary_constants c → Contains E d → d.name ≡ c.name → d ≡ c
