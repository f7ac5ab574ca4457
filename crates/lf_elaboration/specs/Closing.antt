-- Where a binder closes, and at the end of a part: the holes that were made meanwhile are run, in the order in which they were made; then each
-- metavariable that was made has to be assigned.
use Rattle.std.specs.Prelude.{ℕ, Bool, Option, Some, None, is_some, not, nat_le, List, [], ◌∷◌, ◌++◌, codes, filter, slice_get}
use Rattle.lf_core.specs.Term.{Path, Universe, Term, meta, const, app}
use Rattle.lf_core.specs.Summary.{has_metavariable}
use Rattle.lf_syntax.specs.Tree.{ItemTree}
use Rattle.lf_elaboration.specs.declared.hole.Hole.{Hole}
use Rattle.lf_elaboration.specs.Metavariables.{Metavariable, metavariables, count, level_count, value, unassigned, level_unassigned, escaping}
use Rattle.lf_elaboration.specs.Messages as says
use Rattle.lf_elaboration.specs.Messages.{Message, node}
use Rattle.lf_elaboration.specs.Run as run
use Rattle.lf_elaboration.specs.Run.{Answer, done, failed, out, need, ◌>>=◌, ◌>>◌, gives, gives_up, reading, choose, or_else_fail, checks, put}
use Rattle.lf_elaboration.specs.Unifier.{has_any_metavariable}
use Rattle.lf_elaboration.specs.Part.{Part, Locals, State, Run, Calls, on_changes, instantiated, instantiated_all, unify, error, error_on, mismatch, sort_of}

-- ---- Marks

-- How many metavariables of terms and of levels there are.
pub record Mark : Type 0 where
  pub terms : ℕ
  pub levels : ℕ

abbrev pub mark : Run Mark
mark = reading λ s. gives (record { terms = count s.changes; levels = level_count s.changes })

-- ---- Blocks that fail leave only themselves: their holes are `sorryAx` of their types, and the part goes on.

abbrev pub sorry_name : Path
sorry_name = codes "sorryAx" ∷ []

-- `sorryAx` of a type in a sort of this level.
abbrev pub sorry_of : Universe → Term → Term
sorry_of l A = app (const sorry_name (l ∷ [])) A

-- A block has a node of its own for its error and for the nodes of the blocks that run in it. After an error the changes and the holes are
-- those before it, and none is given; what was asked for stays asked, and units stay spent.
abbrev pub after_block : {A : Type 0} → State → Answer State A → Answer State (Option A)
after_block s (done x u t) = done (Some x) u (record t { nodes = s.nodes ++ node [] t.nodes ∷ [] })
after_block s (failed m u t) = done None u (record s { asked = t.asked; nodes = s.nodes ++ node (m ∷ []) t.nodes ∷ [] })
after_block s (out t) = out (record t { nodes = s.nodes ++ node [] t.nodes ∷ [] })
after_block s (need k) = need k

abbrev pub as_block : {A : Type 0} → Run A → Run (Option A)
as_block m = λ u s. after_block s (m u (record s { nodes = [] }))

-- The term becomes what the metavariable of this type stands for, where it may; else it doesn't fit, with the goal as both types.
abbrev pub becomes : Part → Locals → ℕ → ℕ → Term → Term → Run (Unit {0})
becomes P L at m goal t = do
  fits ← on_changes (run.assign m t)
  or_else_fail fits (mismatch P L at goal goal)

abbrev pub is_assigned : ℕ → Run Bool
is_assigned m = reading λ s. gives (is_some (value s.changes m))

abbrev pub unless_assigned : ℕ → Run (Unit {0}) → Run (Unit {0})
unless_assigned m n = do
  has ← is_assigned m
  choose has (gives tt) n

-- A proof of the metavariable's type: where unification has put a term for it already, the two are unified.
abbrev pub fits_term : Part → Calls → Locals → ℕ → ℕ → Term → Term → Run (Unit {0})
fits_term P c L at m goal t = do
  fits ← unify c L (meta m) t
  or_else_fail fits (mismatch P L at goal goal)

abbrev pub proved_by : Part → Calls → Locals → ℕ → ℕ → Term → Term → Run (Unit {0})
proved_by P c L at m goal proof = do
  has ← is_assigned m
  choose has (fits_term P c L at m goal proof) (becomes P L at m goal proof)

abbrev pub sorry_for : Part → Calls → Locals → ℕ → Term → Run Term
sorry_for P c L at A = do
  l ← sort_of P c L at A
  put (sorry_of l A)

-- ---- One hole, whose metavariable was made by the node at `at`

-- Where the block failed, what stands for the metavariable already stays.
abbrev pub settled : Part → Calls → Locals → ℕ → ℕ → Term → Option Term → Run (Unit {0})
settled P c L at m goal (Some proof) = proved_by P c L at m goal proof
settled P c L at m goal None = unless_assigned m (sorry_for P c L at goal >>= (λ t. becomes P L at m goal t))

-- The goal and the types of the locals have their assigned metavariables put in.
abbrev pub locals_put_in : Locals → Run Locals
locals_put_in L = do
  types ← instantiated_all L.types
  gives (record { types = types; names = L.names })

abbrev pub run_block : Part → Calls → Locals → ℕ → ℕ → Term → List ItemTree → Run (Unit {0})
run_block P c L at m A items = do
  goal ← instantiated A
  choose (has_metavariable goal) (error at says.undetermined_placeholder) do
    L' ← locals_put_in L
    proof ← as_block (c.prove L' goal items)
    settled P c L' at m goal proof

abbrev pub instance_found : Part → Locals → ℕ → ℕ → Term → Option Term → Run (Unit {0})
instance_found P L at m goal (Some t) = becomes P L at m goal t
instance_found P L at m goal None = error_on P L.names at says.no_instance goal

-- An instance is looked for where nothing stands for the metavariable yet.
abbrev pub find_instance : Part → Calls → Locals → ℕ → ℕ → Term → Run (Unit {0})
find_instance P c L at m A = do
  goal ← instantiated A
  choose (has_any_metavariable goal) (error at says.undetermined_placeholder) do
    L' ← locals_put_in L
    t ← checks (c.synthesize L'.types goal)
    instance_found P L' at m goal t

-- By its items, or without items as an instance.
abbrev pub run_by : Part → Calls → Locals → ℕ → Metavariable → Option (List ItemTree) → Run (Unit {0})
run_by P c L h m (Some items) = run_block P c L m.at h m.ty items
run_by P c L h m None = unless_assigned h (find_instance P c L m.at h m.ty)

abbrev pub run_made : Part → Calls → Locals → Hole → Option Metavariable → Run (Unit {0})
run_made P c L h None = gives_up
run_made P c L h (Some m) = run_by P c L h.metavariable m h.items

abbrev pub run_hole : Part → Calls → Locals → Hole → Run (Unit {0})
run_hole P c L h = reading λ s. run_made P c L h (slice_get (metavariables s.changes) h.metavariable)

abbrev pub run_holes : Part → Calls → Locals → List Hole → Run (Unit {0})
run_holes P c L [] = gives tt
run_holes P c L (h ∷ hs) = run_hole P c L h >> run_holes P c L hs

-- The holes whose metavariables are numbered from k on no longer wait.
abbrev pub is_from : ℕ → Hole → Bool
is_from k h = nat_le k h.metavariable

abbrev pub taken_from : ℕ → Run (List Hole)
taken_from k = λ u s. done (filter (is_from k) s.pending) u (record s { pending = filter (λ h. not (is_from k h)) s.pending })

abbrev pub run_pending : Part → Calls → Locals → ℕ → Run (Unit {0})
run_pending P c L k = do
  hs ← taken_from k
  run_holes P c L hs

-- ---- What is left

abbrev pub undetermined_at : Option ℕ → Run (Unit {0})
undetermined_at (Some at) = error at says.undetermined_placeholder
undetermined_at None = gives tt

-- The first metavariable from number k on that isn't assigned is an error of the node that made it.
abbrev pub all_assigned : ℕ → Run (Unit {0})
all_assigned k = reading λ s. undetermined_at (unassigned s.changes k)

abbrev pub all_levels_assigned : Part → ℕ → Run (Unit {0})
all_levels_assigned P k = reading λ s. choose (level_unassigned s.changes k) (error P.place says.undetermined_level) (gives tt)

-- No value of an outer metavariable speaks of the local of number n.
abbrev pub none_escapes : ℕ → Run (Unit {0})
none_escapes n = reading λ s. undetermined_at (escaping s.changes n)

abbrev pub levels_from : Part → Option ℕ → Run (Unit {0})
levels_from P None = gives tt
levels_from P (Some k) = all_levels_assigned P k

-- The holes of metavariables numbered from k on are run, and these have to be assigned; at the end of a part the metavariables of levels from
-- a number on, too.
abbrev pub close : Part → Calls → Locals → ℕ → Option ℕ → Run (Unit {0})
close P c L k levels = do
  run_pending P c L k
  all_assigned k
  levels_from P levels

-- The binder of the innermost of these locals closes, which has the number n.
abbrev pub close_binder : Part → Calls → Locals → ℕ → ℕ → Run (Unit {0})
close_binder P c L k n = do
  close P c L k None
  none_escapes n
