-- Whether a name is there, as `placed` and `lookup` tell it; and what a name of one part has for a parent.
use Rattle.std.proofs.Common.{◌≡◌, ℕ, ◌-◌, ◌≤◌, List, [], ◌∷◌, length, take, get_or, refl, ap, ◌∙◌, sym, arith}
use Rattle.std.specs.Prelude.{Some, None}
use Rattle.lf_core.specs.Term.{Path}
use Rattle.lf_core.specs.declared.suffix.Suffix.{Suffix}
use Rattle.lf_branch.specs.Branch.{Verdict, not_owned, reserved, duplicate, waits, taken, by_there}
use Rattle.lf_branch.proofs.Places as places
use Rattle.lf_checker.specs.Calls.{Seen}
use Rattle.lf_checker.specs.View.{
  View,
  Lookup,
  absent,
  There,
  there,
  not_there,
  not_known,
  find_entry,
  placed_of,
  lookup_of,
  no_entry,
  there_by,
  there_of,
  parent_of,
  last_of,
  by_suffix,
  by_branch,
  by_entry,
}
use Rattle.lf_document.specs.Naming.{by_parent}
use Rattle.lf_env.proofs.Entries.{parent_of-take, last_of-place}
use Rattle.lf_env.proofs.Parents.{over_none, nothing_last}

abbrev back : Verdict → There
back (duplicate p) = there p
back (waits k) = not_known k
back not_owned = not_there
back reserved = not_there
back taken = not_there

back_is : (t : There) → back (by_there t) ≡ t
back_is (there p) = refl
back_is (not_known k) = refl
back_is not_there = refl

same_there : (s t : There) → by_there s ≡ by_there t → s ≡ t
same_there s t h = sym (back_is s) ∙ ap back h ∙ back_is t

pub placed_there : (V : View) (n : Path) (p i : ℕ) → placed_of V n ≡ Some (p, i) → there_of V n ≡ there p
placed_there V n p i h = same_there _ _ (places.placed_there V n p i h)

pub unplaced_there : (V : View) (n : Path) → placed_of V n ≡ None → (l : Lookup) → l ≡ lookup_of V n → there_of V n ≡ no_entry l
unplaced_there V n h l e = same_there _ _ (places.unplaced_there V n h l e)

-- ---- The parts of a name

pub front_is : (n : Path) → 1 ≤ length n → take (length n - 1) n ≡ parent_of n
front_is n h = parent_of-take n h

pub last_is : (n : Path) (d : List ℕ) → 1 ≤ length n → get_or n (length n - 1) d ≡ last_of n
last_is n d h = last_of-place n d h

-- ---- No constant has a name of no parts.

nothing : (V : View) → by_entry V [] None ≡ absent
nothing V = (λ k. by_branch V [] (over_none V.branches [] (omega arith) k)) ∙ (λ k. by_suffix V [] (nothing_last [] (omega arith) k))

nowhere : (V : View) → find_entry V.entries [] ≡ None → there_of V [] ≡ not_there
nowhere V h =
    (λ i. there_by (by_entry V [] (h i)) (h i))
    ∙ (λ i. there_by (nothing V i) None)

is_empty : (n : Path) → length n ≡ 0 → n ≡ []
is_empty [] h = refl
is_empty (x ∷ xs) h = absurd (omega (arith, h))

pub no_parent : (V : View) (front : Path) (s : Suffix) (q : Seen) (v : Verdict) → length front ≡ 0 → find_entry V.entries [] ≡ None
    → by_parent V s (there_of V front) q v ≡ v
no_parent V front s q v h e = (λ i. by_parent V s (there_of V (is_empty front h i)) q v) ∙ (λ i. by_parent V s (nowhere V e i) q v)
