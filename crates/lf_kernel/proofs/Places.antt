-- What `placed` tells is what the test of a duplicate reads.
use Rattle.std.specs.Prelude.{Result}
use Rattle.std.proofs.Common.{◌≡◌, ℕ, suc, Bool, true, false, cond, List, [], ◌∷◌, Option, Some, None, refl, sym, ◌∙◌, ap, subst}
use Rattle.lf_core.specs.Term.{Path}
use Rattle.lf_core.specs.Same.{same_path}
use Rattle.lf_checker.specs.View.{
  View,
  Entry,
  Lookup,
  There,
  there,
  not_there,
  not_known,
  find_entry,
  placed_from,
  placed_of,
  lookup_of,
  no_entry,
  there_by,
  there_of,
}
use Rattle.lf_checker.specs.Run.{Run, go_on, gives}
use Rattle.lf_checker.specs.Checker.{unless_there}
use Rattle.lf_steps.specs.declared.halt.Halt.{Halt}
use Rattle.lf_steps.specs.Runs.{Runs}
use Rattle.lf_kernel.specs.Checked.{behind_name}
use Rattle.lf_env.proofs.Shown.{unfound}

record IsAt (es : List Entry) (n : Path) (p : ℕ) : Type 0 where
  pub entry : Entry
  pub stored : find_entry es n ≡ Some entry
  pub placed : entry.position ≡ p

first : Option (ℕ × ℕ) → ℕ
first (Some v) = v.0
first None = 0

step : (b : Bool) (d : Entry) (es : List Entry) (n : Path) (k p i : ℕ) → same_path d.info.name n ≡ b → (placed_from (suc k) es n ≡ Some (p, i) → IsAt es n p)
    → cond b (Some (d.position, k)) (placed_from (suc k) es n) ≡ Some (p, i) → IsAt (d ∷ es) n p
unfolding first
step true d es n k p i q r h = record { entry = d; stored = ap (λ b. cond b (Some d) (find_entry es n)) q; placed = ap first h }
step false d es n k p i q r h = let a = r h in record { entry = a.entry; stored = ap (λ b. cond b (Some d) (find_entry es n)) q ∙ a.stored; placed = a.placed }

is_at : (k : ℕ) (es : List Entry) (n : Path) (p i : ℕ) → placed_from k es n ≡ Some (p, i) → IsAt es n p
is_at k [] n p i h = absurd (cc)
is_at k (d ∷ es) n p i h = step (same_path d.info.name n) d es n k p i refl (is_at (suc k) es n p i) h

pub placed_there : (V : View) (n : Path) (p i : ℕ) → placed_of V n ≡ Some (p, i) → there_of V n ≡ there p
placed_there V n p i h =
    let a = is_at 0 V.entries n p i h in
    ap (λ o. there_by (lookup_of V n) o) a.stored ∙ ap there a.placed

pub unplaced_there : (V : View) (n : Path) → placed_of V n ≡ None → (l : Lookup) → l ≡ lookup_of V n → there_of V n ≡ no_entry l
unplaced_there V n h l e = ap (λ o. there_by (lookup_of V n) o) (unfound 0 V.entries n h) ∙ ap no_entry (sym e)

-- What comes after the test.
pub there_then : {A : Type 0} (n : Path) (t : There) (m : Run A) (u : ℕ) → unless_there n t m u ≡ go_on (unless_there n t (gives (tt {0})) u) (λ _. m)
there_then n (there p) m u = refl
there_then n (not_known k) m u = refl
there_then n not_there m u = refl

pub there_runs : {A : Type 0} (V : View) (n : Path) (m : Run A) (u : ℕ) (r : Result A Halt) (left : ℕ) → Runs (behind_name V n m u) r left
    → Runs (unless_there n (there_of V n) m u) r left
there_runs V n m u r left h = subst (λ o. Runs o r left) (sym (there_then n (there_of V n) m u)) h
