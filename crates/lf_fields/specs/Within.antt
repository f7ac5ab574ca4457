-- What the code is given of a declaration; which constants are new to a view.
use Rattle.std.specs.Prelude.{◌≡◌, ℕ, None, List, [], ◌∷◌, length}
use Rattle.lf_core.specs.declared.constant.ConstInfo.{ConstInfo}
use Rattle.lf_checker.specs.View.{View, placed_of, pushed}
use Rattle.lf_document.specs.Setting.{Declaration}
use Rattle.lf_fields.specs.declared.owner.Owner.{Owner}

-- The declaration's own name, level names and number of parameters.
abbrev pub IsOf : Owner → Declaration → Type 0
IsOf o D = (D.name ≡ o.name.now) × (D.levels ≡ o.levels.now) × (length D.binders ≡ o.params)

-- No entry has the name of one, each after those before it are pushed.
abbrev pub AreNew : View → List ConstInfo → ℕ → Type 0
AreNew V [] p = Unit {0}
AreNew V (c ∷ cs) p = (placed_of V c.name ≡ None) × AreNew (pushed V c p) cs p
