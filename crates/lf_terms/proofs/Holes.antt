-- A hole, by what its metavariable was made with.
use Rattle.std.proofs.Common.{◌≡◌, ℕ, ◌≤◌, List, length, refl, sym, ap, ◌∙◌}
use Rattle.std.specs.Prelude.{Option, Some, None, slice_get, option_map, map}
use Rattle.std.proofs.lemmas.Option.{slice_get_past, slice_get-map}
use Rattle.lf_core.specs.Term.{Term}
use Rattle.lf_syntax.specs.Tree.{ItemTree}
use Rattle.lf_elaboration.specs.declared.hole.Hole.{Hole}
use Rattle.lf_elaboration.specs.Metavariables.{Changes, Metavariable, metavariables, count, types_of}
use Rattle.lf_elaboration.specs.Run.{out}
use Rattle.lf_elaboration.specs.Part.{Part, State, Locals, Calls}
use Rattle.lf_elaboration.specs.Closing as spec
use Rattle.lf_terms.specs.Holes.{run_made}
use Rattle.lf_terms.proofs.Binds.{some_is}

module _ (P : Part) (c : Calls) (L : Locals) where
  pub hole_none : (h : Hole) (u : ℕ) (s : State) → count s.changes ≤ h.metavariable → spec.run_hole P c L h u s ≡ out s
  hole_none h u s e = ap (λ o. spec.run_made P c L h o u s) (slice_get_past (metavariables s.changes) h.metavariable e)

  by_is : (at : ℕ) (A : Term) (h : ℕ) (m : Metavariable) (is : Option (List ItemTree)) (u : ℕ) (s : State) → m.at ≡ at → m.ty ≡ A
      → spec.run_by P c L h m is u s ≡ run_made P c L at A h is u s
  by_is at A h m None u s e f = ap (λ p. spec.unless_assigned h (spec.find_instance P c L p h m.ty) u s) e
      ∙ ap (λ B. spec.unless_assigned h (spec.find_instance P c L at h B) u s) f
  by_is at A h m (Some is) u s e f = ap (λ p. spec.run_block P c L p h m.ty is u s) e ∙ ap (λ B. spec.run_block P c L at h B is u s) f

  made_is : (at : ℕ) (A : Term) (h : Hole) (o : Option Metavariable) (u : ℕ) (s : State) → option_map (λ v. v.at) o ≡ Some at
      → option_map (λ v. v.ty) o ≡ Some A → spec.run_made P c L h o u s ≡ run_made P c L at A h.metavariable h.items u s
  made_is at A h None u s e f = cc
  made_is at A h (Some m) u s e f = by_is at A h.metavariable m h.items u s (some_is e) (some_is f)

  pub hole_some : (h : Hole) (at : ℕ) (A : Term) (u : ℕ) (s : State) → option_map (λ v. v.at) (slice_get (metavariables s.changes) h.metavariable) ≡ Some at
      → slice_get (types_of s.changes) h.metavariable ≡ Some A → spec.run_hole P c L h u s ≡ run_made P c L at A h.metavariable h.items u s
  hole_some h at A u s e f =
      made_is at A h (slice_get (metavariables s.changes) h.metavariable) u s e (sym (slice_get-map (λ m. m.ty) (metavariables s.changes) h.metavariable) ∙ f)
