-- What a close runs: a node for each block, and none for an instance.
use Rattle.std.proofs.Common.{◌≡◌, ℕ, ◌+◌, Bool, true, false, Option, Some, None, List, [], ◌∷◌, ◌++◌, length, slice_get, ◌∙◌, arith}
use Rattle.std.proofs.lemmas.List.{length-append}
use Rattle.lf_core.specs.Term.{Path, Universe, Term}
use Rattle.lf_core.specs.Summary.{has_metavariable}
use Rattle.lf_syntax.specs.Tree.{ItemTree}
use Rattle.lf_checker.specs.Run as checker
use Rattle.lf_checker.specs.Run.{Refusal}
use Rattle.lf_checker.specs.Calls.{unchecked}
use Rattle.lf_checker.specs.declared.fault.TypeFault.{TypeFault}
use Rattle.lf_checker.specs.declared.fault.TypeFault.TheVariants as fault
use Rattle.lf_elaboration.specs.declared.hole.Hole.{Hole}
use Rattle.lf_elaboration.specs.Metavariables.{Changes, Metavariable, metavariables, types_of, unassigned}
use Rattle.lf_elaboration.specs.Run as run
use Rattle.lf_elaboration.specs.Run.{Answer, done, failed, out, need, go_on, choose, or_else_fail, checks, answered}
use Rattle.lf_elaboration.specs.Part.{Part, Locals, State, Run, Calls, back, instantiated, instantiated_all, fault_at, refusal_at, type_of, level_in, sort_of}
use Rattle.lf_elaboration.specs.Closing.{
  after_block,
  as_block,
  proved_by,
  unless_assigned,
  sorry_for,
  settled,
  locals_put_in,
  run_block,
  instance_found,
  find_instance,
  run_by,
  run_made,
  run_hole,
  run_holes,
  undetermined_at,
  all_assigned,
  levels_from,
  close,
}
use Rattle.lf_elaboration.specs.Elaboration as elaboration
use Rattle.lf_elaboration_laws.specs.Closed.{Ends}
use Rattle.lf_elaboration_laws.specs.Once.{from, below, dropped, block_in, blocks, RunsEach, ClosingRunsEach}
use Rattle.lf_extension_laws.proofs.Calm.{Any}
use Rattle.lf_elaboration_laws.proofs.KeepingParts.{keeps_close}
use Rattle.lf_elaboration_laws.proofs.Pending.{Adding, Keeping, waiting_holes, hole_calls, keeps_pending, dropped_orderly}

-- Where a run gives a value there are so many nodes more.
abbrev More : ℕ → {A : Type 0} → State → Answer State A → Type 0
More n s o = Ends (λ t. length t.nodes ≡ length s.nodes + n) o

more_on : {A : Type 0} (m n : ℕ) (s t : State) (o : Answer State A) → length t.nodes ≡ length s.nodes + m → More n t o → More (m + n) s o
more_on m n s t (done x u r) h g = let a = h in let b = g in omega arith
more_on m n s t (failed e u r) h g = tt
more_on m n s t (out r) h g = tt
more_on m n s t (need k) h g = tt

more_then : {A B : Type 0} (m n : ℕ) (s : State) (o : Answer State A) (f : A → Run B) → More m s o → ((x : A) (u : ℕ) (t : State) → More n t (f x u t))
    → More (m + n) s (go_on o f)
more_then m n s (done x u t) f h g = more_on m n s t (f x u t) h (g x u t)
more_then m n s (failed e u t) f h g = tt
more_then m n s (out t) f h g = tt
more_then m n s (need k) f h g = tt

-- ---- Steps without a node

plus_none : (n : ℕ) → n ≡ n + 0
plus_none n = omega arith

same : (s : State) → length s.nodes ≡ length s.nodes + 0
same s = plus_none (length s.nodes)

still_then : {A B : Type 0} (s : State) (o : Answer State A) (f : A → Run B) → More 0 s o → ((x : A) (u : ℕ) (t : State) → More 0 t (f x u t))
    → More 0 s (go_on o f)
still_then s o f h g = more_then 0 0 s o f h g

more_choose : {A : Type 0} (k : ℕ) (b : Bool) (m n : Run A) (u : ℕ) (s : State) → More k s (m u s) → More k s (n u s) → More k s (choose b m n u s)
more_choose k true m n u s h g = h
more_choose k false m n u s h g = g

still_or_fail : (b : Bool) (m : Run (Unit {0})) (u : ℕ) (s : State) → More 0 s (m u s) → More 0 s (or_else_fail b m u s)
still_or_fail true m u s h = same s
still_or_fail false m u s h = h

still_back : {A : Type 0} (s : State) (o : Answer Changes A) → More 0 s (back s o)
still_back s (done x u cs) = same s
still_back s (failed m u cs) = tt
still_back s (out cs) = tt
still_back s (need k) = tt

still_answered : {A : Type 0} (f : Refusal → Run A) (s : State) (o : checker.Answer A) → ((r : Refusal) (u : ℕ) → More 0 s (f r u s))
    → More 0 s (answered f s o)
still_answered f s (checker.done x u) h = same s
still_answered f s (checker.refused r u) h = h r u
still_answered f s checker.out h = tt
still_answered f s (checker.need k) h = tt

still_checks : {A : Type 0} (m : checker.Run A) (u : ℕ) (s : State) → More 0 s (checks m u s)
still_checks m u s = still_answered (λ e. run.gives_up) s (m u) (λ r v. tt)

ruleset still = (same, still_then, more_choose, still_or_fail, still_back, still_checks)

still_all : (ts : List Term) (u : ℕ) (s : State) → More 0 s (instantiated_all ts u s)
still_all [] u s = same s
still_all (t ∷ ts) u s = search (still, still_all ts) depth 10

still_fault : (A : Type 0) (P : Part) (names : List Path) (at : ℕ) (f : TypeFault) (u : ℕ) (s : State) → More 0 s (fault_at {A = A} P names at f u s)
still_fault A P names at (fault.Unknown n) u s = tt
still_fault A P names at (fault.Levels n) u s = tt
still_fault A P names at (fault.NotFunction T) u s = search still depth 8
still_fault A P names at (fault.Argument S T) u s = search still depth 10
still_fault A P names at (fault.NotType T) u s = search still depth 8
still_fault A P names at (fault.Value S T) u s = search still depth 10
still_fault A P names at fault.NotClosed u s = tt
still_fault A P names at (fault.NotStructure T) u s = search still depth 8
still_fault A P names at (fault.NotPositive n k) u s = tt
still_fault A P names at (fault.BadResult n) u s = tt
still_fault A P names at (fault.LevelTooHigh n k) u s = tt
still_fault A P names at fault.BadType u s = tt
still_fault A P names at (fault.Duplicate n p) u s = tt

module _ (P : Part) (c : Calls) (L : Locals) where
  still_type_of : (at : ℕ) (t : Term) (u : ℕ) (s : State) → More 0 s (type_of P c L at t u s)
  still_type_of at t u s =
      still_answered (refusal_at P L at) s (c.check.infer (unchecked (types_of s.changes)) L.types t u)
      (λ r v. still_fault Term P (L.names ++ r.opened) at r.fault v s)

  still_level_in : (at : ℕ) (S : Term) (o : Option Universe) (u : ℕ) (s : State) → More 0 s (level_in P L at S o u s)
  still_level_in at S (Some l) u s = same s
  still_level_in at S None u s = still_fault Universe P L.names at (fault.NotType S) u s

  still_sort_of : (at : ℕ) (t : Term) (u : ℕ) (s : State) → More 0 s (sort_of P c L at t u s)
  still_sort_of at t u s = search (still, still_type_of, still_level_in) depth 12

  still_proved_by : (at m : ℕ) (goal t : Term) (u : ℕ) (s : State) → More 0 s (proved_by P c L at m goal t u s)
  still_proved_by at m goal t u s = search still depth 14

  still_sorry_for : (at : ℕ) (A : Term) (u : ℕ) (s : State) → More 0 s (sorry_for P c L at A u s)
  still_sorry_for at A u s = search (still, still_sort_of) depth 10

  still_unless_assigned : (m : ℕ) (n : Run (Unit {0})) (u : ℕ) (s : State) → ((v : ℕ) (z : State) → More 0 z (n v z)) → More 0 s (unless_assigned m n u s)
  still_unless_assigned m n u s h = search (still, h) depth 10

  still_settled : (at m : ℕ) (goal : Term) (o : Option Term) (u : ℕ) (s : State) → More 0 s (settled P c L at m goal o u s)
  still_settled at m goal (Some t) u s = still_proved_by at m goal t u s
  still_settled at m goal None u s = search (still, still_unless_assigned, still_sorry_for) depth 12

  still_found : (at m : ℕ) (goal : Term) (o : Option Term) (u : ℕ) (s : State) → More 0 s (instance_found P L at m goal o u s)
  still_found at m goal (Some t) u s = search still depth 10
  still_found at m goal None u s = search still depth 10

-- ---- Blocks

one_more : {A : Type 0} (s : State) (o : Answer State A) → More 1 s (after_block s o)
one_more s (done x u t) = length-append s.nodes _
one_more s (failed m u t) = length-append s.nodes _
one_more s (out t) = tt
one_more s (need k) = tt

module _ (P : Part) (c : Calls) (L : Locals) where
  more_proved : (L' : Locals) (at m : ℕ) (goal : Term) (is : List ItemTree) (u : ℕ) (s : State)
      → More 1 s (go_on (as_block (c.prove L' goal is) u s) (settled P c L' at m goal))
  more_proved L' at m goal is u s = more_then 1 0 s (as_block (c.prove L' goal is) u s) (settled P c L' at m goal)
      (one_more s (c.prove L' goal is u (record s { nodes = [] }))) (still_settled P c L' at m goal)

  more_goal : (at m : ℕ) (goal : Term) (is : List ItemTree) (u : ℕ) (s : State)
      → More 1 s (go_on (locals_put_in L u s) (λ L' v t. go_on (as_block (c.prove L' goal is) v t) (settled P c L' at m goal)))
  more_goal at m goal is u s =
      more_then 0 1 s (locals_put_in L u s) _ (search (still, still_all) depth 8) (λ L' v t. more_proved L' at m goal is v t)

  more_block : (at m : ℕ) (A : Term) (is : List ItemTree) (u : ℕ) (s : State) → More 1 s (run_block P c L at m A is u s)
  more_block at m A is u s =
      more_then 0 1 s (instantiated A u s) _ (still_back s (run.instantiated A u s.changes))
      (λ goal v t. more_choose 1 (has_metavariable goal) _ _ v t tt (more_goal at m goal is v t))

  still_instance : (at m : ℕ) (A : Term) (u : ℕ) (s : State) → More 0 s (find_instance P c L at m A u s)
  still_instance at m A u s = search (still, still_all, λ (M : Locals) (i : ℕ) (j : ℕ) (g : Term) (o : Option Term). still_found P c M i j g o) depth 18

  more_by : (h : ℕ) (m : Metavariable) (o : Option (List ItemTree)) (u : ℕ) (s : State) → More (block_in o) s (run_by P c L h m o u s)
  more_by h m (Some is) u s = more_block m.at h m.ty is u s
  more_by h m None u s = still_unless_assigned P c L h (find_instance P c L m.at h m.ty) u s (still_instance m.at h m.ty)

  more_made : (h : Hole) (o : Option Metavariable) (u : ℕ) (s : State) → More (block_in h.items) s (run_made P c L h o u s)
  more_made h None u s = tt
  more_made h (Some m) u s = more_by h.metavariable m h.items u s

  more_holes : (hs : List Hole) (u : ℕ) (s : State) → More (blocks hs) s (run_holes P c L hs u s)
  more_holes [] u s = same s
  more_holes (h ∷ hs) u s =
      more_then (block_in h.items) (blocks hs) s (run_hole P c L h u s) (λ x. run_holes P c L hs)
      (more_made h (slice_get (metavariables s.changes) h.metavariable) u s) (λ x v t. more_holes hs v t)

  still_undetermined : (o : Option ℕ) (u : ℕ) (s : State) → More 0 s (undetermined_at o u s)
  still_undetermined (Some at) u s = tt
  still_undetermined None u s = same s

  still_levels : (o : Option ℕ) (u : ℕ) (s : State) → More 0 s (levels_from P o u s)
  still_levels None u s = same s
  still_levels (Some k) u s = search still depth 8

  -- What was put together with numbers that are the same.
  more_close : (k : ℕ) (levels : Option ℕ) (u : ℕ) (s : State) → More (blocks (from k s.pending) + 0) (dropped k s) (close P c L k levels u s)
  more_close k levels u s =
      more_then (blocks (from k s.pending)) 0 (dropped k s) (run_holes P c L (from k s.pending) u (dropped k s)) _
      (more_holes (from k s.pending) u (dropped k s))
      (λ x v t. still_then t (all_assigned k v t) _ (still_undetermined (unassigned t.changes k) v t) (λ y w r. still_levels levels w r))

both : (k : ℕ) (w : State) (o : Answer State (Unit {0})) → Ends (λ t. t.pending ≡ below k w.pending) o → More (blocks (from k w.pending) + 0) (dropped k w) o
    → Ends (RunsEach k w) o
both k w (done x u t) h g = record { pending = h; nodes = g ∙ sum_none (length w.nodes) (blocks (from k w.pending)) }
  where
    sum_none : (m n : ℕ) → m + (n + 0) ≡ m + n
    sum_none m n = omega arith
both k w (failed m u t) h g = tt
both k w (out t) h g = tt
both k w (need j) h g = tt

pub closing_runs_each : ClosingRunsEach
closing_runs_each P n L k levels u w o =
    both k w (elaboration.close P n L k levels u w)
    (keeps_pending (dropped k w) (elaboration.close P n L k levels u w) (dropped_orderly k w o)
    (keeps_close Adding Keeping Adding waiting_holes Any P (elaboration.calls P n) (hole_calls P n) L k levels u w))
    (more_close P (elaboration.calls P n) L k levels u w)
