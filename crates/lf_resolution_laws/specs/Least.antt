-- The walk finds the least tree, and none exactly where there is none, wherever it ends.
use Rattle.std.specs.Prelude.{ℕ, Option, Some, None}
use Rattle.lf_core.specs.Term.{Term}
use Rattle.lf_rules.specs.Environment.{Context}
use Rattle.lf_checker.specs.View.{View}
use Rattle.lf_checker.specs.Run.{Answer, done, refused, out, need}
use Rattle.lf_elaboration.specs.Scope.{Scope}
use Rattle.lf_resolution.specs.Tree.{greatest_tree, IsLeast, HasNone}
use Rattle.lf_resolution.specs.Walk.{resolve}

abbrev pub Finds : View → Scope → Context → ℕ → Term → Option Term → Type 0
Finds V S C d goal (Some t) = IsLeast V S C d goal t
Finds V S C d goal None = HasNone V S C d goal

-- Of the value that a run gives.
abbrev pub Ends : {A : Type 0} → (A → Type 0) → Answer A → Type 0
Ends P (done x u) = P x
Ends P (refused e u) = Unit {0}
Ends P out = Unit {0}
Ends P (need k) = Unit {0}

abbrev pub WalkFindsLeast : Type 0
WalkFindsLeast = (V : View) (S : Scope) (depth : ℕ) (C : Context) (goal : Term) (u : ℕ)
    → Ends (Finds V S C greatest_tree goal) (resolve V S depth C goal u)
