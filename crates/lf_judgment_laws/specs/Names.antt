-- Why names are fresh, and why the numbers have to be the ordinary ones: what follows where they aren't.
use Rattle.std.specs.Prelude.{◌≡◌, Some, [], ◌∷◌}
use Rattle.lf_core.specs.Term.{Universe, level_zero, Term, bound, sort, pi}
use Rattle.lf_rules.specs.Environment.{Environment}
use Rattle.lf_rules.specs.Judgment.{HasType}
use Rattle.lf_rules.specs.Derived.{Checked, Derived}
use Rattle.lf_name.specs.declared.binder.Binder.{Binder}
use Rattle.lf_core.specs.declared.constant.ConstInfo.{ConstInfo}

-- That each proposition holds.
abbrev pub falsity : Binder → Term
falsity x = pi x (sort level_zero) (bound 0)

-- A constant with a value, right over E but for its name.
pub record RightBesideName (E : Environment) (c : ConstInfo) : Type 0 where
  pub level : Universe
  pub type : Checked E c c.ty (sort level)
  pub value : Term
  pub has : c.value ≡ Some value
  pub typed : Checked E c value c.ty

-- Two constants of one name, each right over those before it, prove falsity.
pub record TwiceNamed : Type 0 where
  pub first : ConstInfo
  pub second : ConstInfo
  pub same_name : first.name ≡ second.name
  pub first_right : RightBesideName [] first
  pub second_right : RightBesideName (first ∷ []) second
  pub binder : Binder
  pub proof : Term
  pub proves : HasType (first ∷ second ∷ []) [] proof (falsity binder)

-- A derived environment whose sum and successor aren't those of numbers, but to which the steps of literals apply, proves falsity:
-- what a derivation is worth rests on the constants that literals name.
pub record OddNumbers : Type 0 where
  pub environment : Environment
  pub derived : Derived environment
  pub binder : Binder
  pub proof : Term
  pub proves : HasType environment [] proof (falsity binder)
