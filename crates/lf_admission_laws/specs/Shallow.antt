-- The recursor that a declaration adds is within the limit of depth, its type and its rules.
use Rattle.std.specs.Prelude.{◌≡◌, ◌≤◌, ℕ, Bool, List, [], ◌∷◌}
use Rattle.lf_core.specs.Term.{Term}
use Rattle.lf_core.specs.Size.{depth}
use Rattle.lf_rules.specs.Recursor.{recursor_family, recursor_type, recursor_rules, motive_level}
use Rattle.lf_rules.specs.Inductive.{declared_constants}
use Rattle.lf_core.specs.declared.constant.ConstInfo.{ConstInfo}
use Rattle.lf_core.specs.declared.constant.IndDecl.{IndDecl}
use Rattle.lf_checker.specs.View.{View}
use Rattle.lf_checker.specs.Admission.{add_inductive}
use Rattle.lf_checker_laws.specs.Soundness.{Post}

abbrev pub AllShallow : List Term → Type 0
AllShallow [] = Unit {0}
AllShallow (t ∷ ts) = (depth t ≤ 1024) × AllShallow ts

pub record Shallow (d : IndDecl) (given : List ConstInfo) : Type 0 where
  pub large : Bool
  pub is : given ≡ declared_constants d large
  pub type : depth (recursor_type (recursor_family d large) (motive_level large)) ≤ 1024
  pub rules : AllShallow (recursor_rules d large)

abbrev pub RecursorsAreShallow : Type 0
RecursorsAreShallow = (V : View) (depth : ℕ) (d : IndDecl) (u : ℕ) → Post (Shallow d) (add_inductive V depth d u)
