-- Blocks and what closes.
use Rattle.std.proofs.Common.{◌≡◌, ℕ, zero, suc, List, [], ◌∷◌, ◌+◌, ◌<◌, ◌≤◌, length, drop, get_or, refl, sym, ap, ◌∙◌, arith}
use Rattle.std.specs.Prelude.{Option, Some, None, slice_get, option_map}
use Rattle.lf_core.specs.Term.{Term}
use Rattle.lf_syntax.specs.Tree.{ItemTree}
use Rattle.lf_elaboration.specs.Metavariables.{metavariables, count, types_of}
use Rattle.std.proofs.lemmas.List.{drop_more}
use Rattle.lf_elaboration.specs.declared.hole.Hole.{Hole}
use Rattle.lf_elaboration.specs.Run.{done, out, go_on}
use Rattle.lf_elaboration.specs.Part.{Part, State, Locals, Calls}
use Rattle.lf_elaboration.specs.Closing as spec
use Rattle.lf_part.specs.declared.ended.Ended.{Ended}
use Rattle.lf_part.specs.Runs.{ended}
use Rattle.lf_part.proofs.Runs.{ends}
use Rattle.lf_terms.specs.Holes as holes
use Rattle.lf_terms.specs.Holes.{holes_from}
use Rattle.lf_terms.proofs.Holes.{hole_none, hole_some}
use Rattle.lf_nested.specs.Blocks.{block_proof, block_settled, run_block, run_made, run_hole, run_holes, run_pending, closed, closed_at}

module _ (P : Part) (c : Calls) (L : Locals) where
  pub holes_none : (hs : List Hole) (i : ℕ) (u : ℕ) (s : State) → length hs ≡ i → run_holes P c L (drop i hs) u s ≡ done tt u s
  unfolding run_holes
  holes_none [] zero u s e = refl
  holes_none [] (suc i) u s e = absurd (omega (arith, e))
  holes_none (h ∷ hs) zero u s e = absurd (omega (arith, e))
  holes_none (h ∷ hs) (suc i) u s e = holes_none hs i u s (omega (arith, e))

  holes_some : (hs : List Hole) (i : ℕ) (h : Hole) (u : ℕ) (s : State) → i < length hs → h ≡ get_or hs i h
      → run_holes P c L (drop i hs) u s ≡ go_on (run_hole P c L h u s) (λ z. run_holes P c L (drop (i + 1) hs))
  unfolding run_holes run_hole
  holes_some hs i h u s l e = ap (λ gs. spec.run_holes P c L gs u s) (drop_more hs i h l ∙ ap (λ g. g ∷ drop (i + 1) hs) (sym e))

  pub holes_go_on : (hs : List Hole) (i : ℕ) (h : Hole) (z : Unit {0}) (u u' : ℕ) (s s' : State) → i < length hs → h ≡ get_or hs i h
      → run_hole P c L h u s ≡ done z u' s' → run_holes P c L (drop i hs) u s ≡ run_holes P c L (drop (i + 1) hs) u' s'
  holes_go_on hs i h z u u' s s' l e f = holes_some hs i h u s l e ∙ ap (λ o. go_on o (λ z. run_holes P c L (drop (i + 1) hs))) f

  pub holes_halt : (hs : List Hole) (i : ℕ) (h : Hole) (r : Ended) (u v : ℕ) (s s' : State) → i < length hs → h ≡ get_or hs i h
      → run_hole P c L h u s ≡ ended r v s' → run_holes P c L (drop i hs) u s ≡ ended r v s'
  holes_halt hs i h r u v s s' l e f =
      holes_some hs i h u s l e ∙ ap (λ o. go_on o (λ z. run_holes P c L (drop (i + 1) hs))) f ∙ ends r v s' _

  pub hole_out : (h : Hole) (u : ℕ) (s : State) → count s.changes ≤ h.metavariable → run_hole P c L h u s ≡ out s
  unfolding run_hole
  hole_out h u s e = hole_none P c L h u s e

  made_is : (at : ℕ) (A : Term) (m : ℕ) (o : Option (List ItemTree)) (u : ℕ) (s : State)
      → holes.run_made P c L at A m o u s ≡ run_made P c L at A m o u s
  unfolding run_made run_block block_settled block_proof
  made_is at A m None u s = refl
  made_is at A m (Some is) u s = refl

  pub hole_by : (h : Hole) (at : ℕ) (A : Term) (u : ℕ) (s : State) → option_map (λ v. v.at) (slice_get (metavariables s.changes) h.metavariable) ≡ Some at
      → slice_get (types_of s.changes) h.metavariable ≡ Some A → run_hole P c L h u s ≡ run_made P c L at A h.metavariable h.items u s
  unfolding run_hole
  hole_by h at A u s e f = hole_some P c L h at A u s e f ∙ made_is at A h.metavariable h.items u s

  pub close_is : (k : ℕ) (levels : Option ℕ) (u : ℕ) (s : State) → spec.close P c L k levels u s ≡ closed P c L k levels u s
  unfolding closed run_pending holes_from run_holes
  close_is k levels u s = refl

  pub close_binder_is : (k n : ℕ) (u : ℕ) (s : State) → spec.close_binder P c L k n u s ≡ closed_at P c L k n u s
  unfolding closed_at closed run_pending holes_from run_holes
  close_binder_is k n u s = refl
