-- What holds over an environment holds over each that tells at least as much.
use Rattle.std.specs.Prelude.{◌≡◌, Bool, Some, List, [], ◌∷◌, Contains}
use Rattle.lf_core.specs.Term.{Path, Term}
use Rattle.lf_rules.specs.Environment.{Environment, Context, NamesDeclared}
use Rattle.lf_rules.specs.Judgment.{Equal, HasType, Formed}
use Rattle.lf_core.specs.declared.constant.ConstInfo.{ConstInfo}
use Rattle.lf_core.specs.declared.constant.Detail.{Detail}
use Rattle.lf_core.specs.declared.constant.Detail.TheVariants.{Ind}

-- The same, but that a type may have its constructors later, and may be found later to eliminate into every sort.
abbrev pub SameDetail : Detail → Detail → Type 0
SameDetail (Ind params indices [] large) e = (names : List Path) × (later : Bool) × (e ≡ Ind params indices names later)
SameDetail (Ind params indices (n ∷ ns) large) e = (later : Bool) × (e ≡ Ind params indices (n ∷ ns) later)
SameDetail d e = d ≡ e

-- The second constant is the first, or the first with its value.
pub record Tells (c d : ConstInfo) : Type 0 where
  pub name : c.name ≡ d.name
  pub kind : c.kind ≡ d.kind
  pub levels : c.levels ≡ d.levels
  pub ty : c.ty ≡ d.ty
  pub detail : SameDetail c.detail d.detail
  pub value : (v : Term) → c.value ≡ Some v → d.value ≡ Some v

abbrev pub Grows : Environment → Environment → Type 0
Grows E F = (c : ConstInfo) → Contains E c → (d : ConstInfo) × Contains F d × Tells c d

pub record Holds (E F : Environment) : Type 0 where
  pub equal : (C : Context) (a b : Term) → Equal E C a b → Equal F C a b
  pub typed : (C : Context) (t A : Term) → HasType E C t A → HasType F C t A
  pub formed : (C : Context) (t : Term) → Formed E C t → Formed F C t
  pub named : (t : Term) → NamesDeclared E t → NamesDeclared F t

abbrev pub RelationsGrow : Type 0
RelationsGrow = (E F : Environment) → Grows E F → Holds E F
