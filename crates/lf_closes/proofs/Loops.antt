-- The end of a close, and turns of its loop, where they were made with locals that are these.
use Rattle.std.proofs.Common.{◌≡◌, ℕ, ◌+◌, ◌<◌, ◌≤◌, List, length, drop, get_or, sym, ap, ◌∙◌}
use Rattle.std.specs.Prelude.{Option}
use Rattle.std.proofs.lemmas.List.{drop_all}
use Rattle.lf_elaboration.specs.declared.hole.Hole.{Hole}
use Rattle.lf_elaboration.specs.Run.{done, go_on, ◌>>◌}
use Rattle.lf_elaboration.specs.Part.{Part, State, Locals, Calls}
use Rattle.lf_elaboration.specs.Closing as closing
use Rattle.lf_elaboration.specs.Closing.{all_assigned, levels_from}
use Rattle.lf_part.specs.declared.ended.Ended.{Ended}
use Rattle.lf_part.specs.Runs.{ended}
use Rattle.lf_nested.specs.Blocks.{run_hole, run_holes, run_pending, closed}
use Rattle.lf_nested.proofs.Blocks.{holes_go_on, holes_halt}

pub holes_over : (P : Part) (c : Calls) (L : Locals) (hs : List Hole) (i u : ℕ) (s : State) → length hs ≤ i → run_holes P c L (drop i hs) u s ≡ done tt u s
unfolding run_holes
holes_over P c L hs i u s h = ap (λ gs. closing.run_holes P c L gs u s) (drop_all i hs h)

pub closed_ends : (P : Part) (c : Calls) (L : Locals) (k : ℕ) (levels : Option ℕ) (z y : Unit {0}) (u v w : ℕ) (s t r : State)
    → run_pending P c L k u s ≡ done z v t → all_assigned k v t ≡ done y w r → closed P c L k levels u s ≡ levels_from P levels w r
unfolding closed
closed_ends P c L k levels z y u v w s t r e f =
    ap (λ o. go_on o (λ x. all_assigned k >> levels_from P levels)) e ∙ ap (λ o. go_on o (λ x. levels_from P levels)) f

module _ (P : Part) (c : Calls) (L M : Locals) where
  pub hole_passed : (hs : List Hole) (i : ℕ) (h : Hole) (z : Unit {0}) (u u' : ℕ) (s s' : State) → M ≡ L → i < length hs → h ≡ get_or hs i h
      → run_hole P c M h u s ≡ done z u' s' → run_holes P c L (drop i hs) u s ≡ run_holes P c L (drop (i + 1) hs) u' s'
  hole_passed hs i h z u u' s s' k l e f =
      holes_go_on P c L hs i h z u u' s s' l e (ap (λ N. run_hole P c N h u s) (sym k) ∙ f)

  pub hole_halted : (hs : List Hole) (i : ℕ) (h : Hole) (r : Ended) (u v : ℕ) (s s' : State) → M ≡ L → i < length hs → h ≡ get_or hs i h
      → run_hole P c M h u s ≡ ended r v s' → run_holes P c L (drop i hs) u s ≡ ended r v s'
  hole_halted hs i h r u v s s' k l e f =
      holes_halt P c L hs i h r u v s s' l e (ap (λ N. run_hole P c N h u s) (sym k) ∙ f)
