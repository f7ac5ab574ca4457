-- What `placed` tells is what the test of a duplicate reads.
use Rattle.std.specs.Prelude.{◌≡◌, ℕ, suc, ◌≤◌, Bool, true, false, cond, List, [], ◌∷◌, length, Option, Some, None, Result, Ok, Err, OnOk, IfErr}
use Rattle.std.proofs.Common.{refl, sym, ◌∙◌, ap, subst, arith}
use Rattle.lf_core.specs.Term.{Path}
use Rattle.lf_core.specs.Same.{same_path}
use Rattle.lf_core.specs.Suffix.{suffix_of}
use Rattle.lf_checker.specs.View.{View, Entry, Lookup, find_entry, placed_from, placed_of, parent_of, last_of, lookup_of, no_entry, there_by, there_of}
use Rattle.lf_env.proofs.Shown.{unfound}
use Rattle.lf_branch.specs.Branch.{Branch, Verdict, duplicate, not_owned, taken, by_there, by_suffix, verdict}
use Rattle.lf_branch.specs.Fault.{Tells}
use Rattle.lf_branch.specs.declared.branch.BranchFault.{BranchFault}

record IsAt (es : List Entry) (n : Path) (p : ℕ) : Type 0 where
  pub entry : Entry
  pub stored : find_entry es n ≡ Some entry
  pub placed : entry.position ≡ p

first : Option (ℕ × ℕ) → ℕ
first (Some v) = v.0
first None = 0

step : (b : Bool) (d : Entry) (es : List Entry) (n : Path) (k p i : ℕ) → same_path d.info.name n ≡ b → (placed_from (suc k) es n ≡ Some (p, i) → IsAt es n p)
    → cond b (Some (d.position, k)) (placed_from (suc k) es n) ≡ Some (p, i) → IsAt (d ∷ es) n p
unfolding first
step true d es n k p i q r h = record { entry = d; stored = ap (λ b. cond b (Some d) (find_entry es n)) q; placed = ap first h }
step false d es n k p i q r h = let a = r h in record { entry = a.entry; stored = ap (λ b. cond b (Some d) (find_entry es n)) q ∙ a.stored; placed = a.placed }

is_at : (k : ℕ) (es : List Entry) (n : Path) (p i : ℕ) → placed_from k es n ≡ Some (p, i) → IsAt es n p
is_at k [] n p i h = absurd (cc)
is_at k (d ∷ es) n p i h = step (same_path d.info.name n) d es n k p i refl (is_at (suc k) es n p i) h

pub placed_there : (V : View) (n : Path) (p i : ℕ) → placed_of V n ≡ Some (p, i) → by_there (there_of V n) ≡ duplicate p
placed_there V n p i h =
    let a = is_at 0 V.entries n p i h in
    ap (λ o. by_there (there_by (lookup_of V n) o)) a.stored ∙ ap duplicate a.placed

pub unplaced_there : (V : View) (n : Path) → placed_of V n ≡ None → (l : Lookup) → l ≡ lookup_of V n → by_there (there_of V n) ≡ by_there (no_entry l)
unplaced_there V n h l e = ap (λ o. by_there (there_by (lookup_of V n) o)) (unfound 0 V.entries n h) ∙ ap (λ x. by_there (no_entry x)) (sym e)

pub told_free : (r : Result (Unit {0}) BranchFault) (v w : Verdict) → v ≡ w → OnOk r (w ≡ taken) → OnOk r (v ≡ taken)
told_free (Ok x) v w e h = e ∙ h
told_free (Err f) v w e h = tt

pub told_fault : (r : Result (Unit {0}) BranchFault) (v w : Verdict) → v ≡ w → IfErr r (λ f. Tells f w) → IfErr r (λ f. Tells f v)
told_fault (Ok x) v w e h = tt
told_fault (Err f) v w e h = subst (Tells f) (sym e) h

pub verdict_at : (b : Branch) (n : Path) → 1 ≤ length n
    → verdict b n ≡ cond (same_path b.prefix (parent_of n)) (by_suffix (suffix_of (last_of n)) (by_there (there_of b.view n))) not_owned
verdict_at b [] h = absurd (omega arith)
verdict_at b (x ∷ xs) h = refl
