-- A header that the kernel accepts has a new name.
use Rattle.std.proofs.Common.{◌≡◌, ℕ, Bool, true, false, refl}
use Rattle.std.specs.Prelude.{Option, Some, None, []}
use Rattle.lf_core.specs.Term.{Path, Universe, Term}
use Rattle.lf_checker.specs.Calls.{checked}
use Rattle.lf_checker.specs.Checker.{calls, is_closed, unless_there, add_header}
use Rattle.lf_checker.specs.Infer.{sort_of}
use Rattle.lf_checker.specs.Run.{done, Run, refuse, choose}
use Rattle.lf_checker.specs.View.{View, Entry, Lookup, There, there, not_there, not_known, find_entry, placed_of, lookup_of, there_by, there_of}
use Rattle.lf_checker.specs.declared.fault.TypeFault.TheVariants.{NotClosed}
use Rattle.lf_env.proofs.Shown.{unplaced}

-- What is done behind the test of a name.
passed : {A : Type 0} (n : Path) (t : There) (m : Run A) (u v : ℕ) (a : A) → unless_there n t m u ≡ done a v → t ≡ not_there
passed n (there p) m u v a h = absurd (cc)
passed n (not_known k) m u v a h = absurd (cc)
passed n not_there m u v a h = refl

chosen : {A : Type 0} (b : Bool) (m n : Run A) (u v : ℕ) (a : A) → (n u ≡ done a v → ⊥) → choose b m n u ≡ done a v → m u ≡ done a v
chosen true m n u v a r h = h
chosen false m n u v a r h = absurd (r h)

nowhere : (l : Lookup) (o : Option Entry) → there_by l o ≡ not_there → o ≡ None
nowhere l (Some e) h = absurd (cc)
nowhere l None h = refl

pub placed_nowhere : (V : View) (n : Path) → there_of V n ≡ not_there → placed_of V n ≡ None
placed_nowhere V n h = unplaced 0 V.entries n (nowhere (lookup_of V n) (find_entry V.entries n) h)

pub header_new : (V : View) (depth : ℕ) (n : Path) (T : Term) (u v : ℕ) (l : Universe) → add_header V depth n T u ≡ done l v → placed_of V n ≡ None
header_new V depth n T u v l h =
    let m : Run Universe = sort_of (calls V depth) checked [] T in
    let e = chosen (is_closed T) (unless_there n (there_of V n) m) (refuse NotClosed) u v l (λ q. cc) h in
    placed_nowhere V n (passed n (there_of V n) m u v l e)
