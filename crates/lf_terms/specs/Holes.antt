-- A hole whose metavariable is known. A device of the proof.
use Rattle.std.specs.Prelude.{ℕ, Option, Some, None, List}
use Rattle.lf_core.specs.Term.{Term}
use Rattle.lf_syntax.specs.Tree.{ItemTree}
use Rattle.lf_elaboration.specs.Part.{Part, Locals, Run, Calls}
use Rattle.lf_elaboration.specs.Run.{◌>>=◌, ◌>>◌}
use Rattle.lf_elaboration.specs.Closing.{run_block, run_holes, unless_assigned, find_instance, taken_from, all_assigned, levels_from, none_escapes}
use Rattle.lf_elaboration.specs.declared.hole.Hole.{Hole}

abbrev pub run_made : Part → Calls → Locals → ℕ → Term → ℕ → Option (List ItemTree) → Run (Unit {0})
run_made P c L at A m (Some items) = run_block P c L at m A items
run_made P c L at A m None = unless_assigned m (find_instance P c L at m A)

unfoldable pub holes_from : ℕ → Run (List Hole)
holes_from k = taken_from k

unfoldable pub run_pending : Part → Calls → Locals → ℕ → Run (Unit {0})
run_pending P c L k = do
  hs ← holes_from k
  run_holes P c L hs

unfoldable pub closed : Part → Calls → Locals → ℕ → Option ℕ → Run (Unit {0})
closed P c L k levels = do
  run_pending P c L k
  all_assigned k
  levels_from P levels

unfoldable pub closed_at : Part → Calls → Locals → ℕ → ℕ → Run (Unit {0})
closed_at P c L k n = do
  closed P c L k None
  none_escapes n
