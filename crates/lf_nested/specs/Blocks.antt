-- The definition's runs where binders close, each opened by its name alone, in the parts that are functions of the code. A device of the proof.
use Rattle.std.specs.Prelude.{ℕ, Option, Some, None, List}
use Rattle.lf_core.specs.Term.{Term}
use Rattle.lf_core.specs.Summary.{has_metavariable}
use Rattle.lf_syntax.specs.Tree.{ItemTree}
use Rattle.lf_elaboration.specs.Messages as says
use Rattle.lf_elaboration.specs.declared.hole.Hole.{Hole}
use Rattle.lf_elaboration.specs.Run.{◌>>=◌, ◌>>◌, choose}
use Rattle.lf_elaboration.specs.Part.{Part, Locals, Run, Calls, instantiated, error}
use Rattle.lf_elaboration.specs.Closing as closing
use Rattle.lf_elaboration.specs.Closing.{as_block, settled, locals_put_in, unless_assigned, find_instance, all_assigned, levels_from, none_escapes}
use Rattle.lf_terms.specs.Holes.{holes_from}

unfoldable pub block_proof : Calls → Locals → Term → List ItemTree → Run (Option Term)
block_proof c L goal is = as_block (c.prove L goal is)

-- A block is run on a goal and locals with their assigned metavariables put in.
unfoldable pub block_settled : Part → Calls → Locals → ℕ → ℕ → Term → List ItemTree → Run (Unit {0})
block_settled P c L at m goal is = do
  proof ← block_proof c L goal is
  settled P c L at m goal proof

unfoldable pub run_block : Part → Calls → Locals → ℕ → ℕ → Term → List ItemTree → Run (Unit {0})
run_block P c L at m A is = do
  goal ← instantiated A
  choose (has_metavariable goal) (error at says.undetermined_placeholder) do
    M ← locals_put_in L
    block_settled P c M at m goal is

unfoldable pub run_made : Part → Calls → Locals → ℕ → Term → ℕ → Option (List ItemTree) → Run (Unit {0})
run_made P c L at A m (Some is) = run_block P c L at m A is
run_made P c L at A m None = unless_assigned m (find_instance P c L at m A)

unfoldable pub run_hole : Part → Calls → Locals → Hole → Run (Unit {0})
run_hole P c L h = closing.run_hole P c L h

unfoldable pub run_holes : Part → Calls → Locals → List Hole → Run (Unit {0})
run_holes P c L hs = closing.run_holes P c L hs

unfoldable pub run_pending : Part → Calls → Locals → ℕ → Run (Unit {0})
run_pending P c L k = do
  hs ← holes_from k
  run_holes P c L hs

unfoldable pub closed : Part → Calls → Locals → ℕ → Option ℕ → Run (Unit {0})
closed P c L k levels = do
  run_pending P c L k
  all_assigned k
  levels_from P levels

unfoldable pub closed_at : Part → Calls → Locals → ℕ → ℕ → Run (Unit {0})
closed_at P c L k n = do
  closed P c L k None
  none_escapes n
