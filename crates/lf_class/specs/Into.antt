-- Lists that are taken into what is ready already, in order: devices of the proof.
use Rattle.std.specs.Prelude.{Option, Some, None, List, [], ◌∷◌, ◌++◌}
use Rattle.lf_core.specs.Term.{Term}
use Rattle.lf_checker.specs.Run.{Run, ◌>>=◌, gives, choose}
use Rattle.lf_elaboration.specs.Metavariables.{Changes}
use Rattle.lf_elaboration.specs.Unifier.{has_any_metavariable}
use Rattle.lf_elaboration.specs.Apply.{Given}
use Rattle.lf_resolution.specs.Walk.{Resolve, instantiated, on_found}

-- The goals that are left.
abbrev pub goals_into : Changes → List Term → List Given → Run (Option (List Term))
goals_into cs ready [] = gives (Some ready)
goals_into cs ready (g ∷ gs) = do
  t ← instantiated cs g.ty
  choose (has_any_metavariable t) (gives None) (goals_into cs (ready ++ t ∷ []) gs)

-- Their instances.
abbrev pub instances_into : Resolve → List Term → List Term → Run (Option (List Term))
instances_into self ready [] = gives (Some ready)
instances_into self ready (goal ∷ goals) = do
  t ← self goal
  on_found t λ x. instances_into self (ready ++ x ∷ []) goals
