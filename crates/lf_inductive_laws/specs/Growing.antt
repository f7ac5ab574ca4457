-- What is checked, stated or introduced over an environment is so over each that tells at least as much.
use Rattle.std.specs.Prelude.{Bool}
use Rattle.lf_core.specs.Term.{Term}
use Rattle.lf_rules.specs.Environment.{Environment, Fresh}
use Rattle.lf_rules.specs.Inductive.{declared_constants}
use Rattle.lf_rules.specs.Derived.{Checked, Stated, AllFresh, Introduced}
use Rattle.lf_core.specs.declared.constant.ConstInfo.{ConstInfo}
use Rattle.lf_core.specs.declared.constant.IndDecl.{IndDecl}
use Rattle.lf_judgment_laws.specs.Growth.{Grows}

-- Names are asked to be new in the longer list too.
pub record DerivationsGrow : Type 0 where
  pub checked : (E F : Environment) (c : ConstInfo) (t A : Term) → Grows E F → Checked E c t A → Checked F c t A
  pub stated : (E F : Environment) (c : ConstInfo) → Grows E F → Fresh F c.name → Stated E c → Stated F c
  pub introduced : (E F : Environment) (d : IndDecl) (large : Bool) → Grows E F → AllFresh F (declared_constants d large) → Introduced E d large
      → Introduced F d large
