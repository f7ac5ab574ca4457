-- A name of one part, or one that doesn't end in a suffix, makes no constant.
use Rattle.std.proofs.Common.{◌≡◌, ℕ, ◌-◌, ◌≤◌, List, [], ◌∷◌, length, take, get_or, refl, ap, ◌∙◌, arith, inl, inr}
use Rattle.std.specs.Prelude.{Option, Some, None}
use Rattle.lf_core.specs.Suffix.{suffix_of}
use Rattle.lf_core.specs.Term.{Path}
use Rattle.lf_core.specs.declared.suffix.Suffix.{Suffix}
use Rattle.lf_checker.specs.Calls.{unknown, seen_as, see}
use Rattle.lf_checker.specs.Run.{done}
use Rattle.lf_checker.specs.View.{View, absent, find_entry, parent_of, last_of, by_suffix, by_branch, by_entry}
use Rattle.lf_elaboration.specs.Realizers.{realize_from, realize_by}
use Rattle.lf_env.proofs.Entries.{parent_of-take, last_of-place}
use Rattle.lf_env.proofs.Parents.{over_none, nothing_last}
use Rattle.lf_realizers.specs.Values.{HasParent, IsNoChild}

pub front_is : (n : Path) → 1 ≤ length n → take (length n - 1) n ≡ parent_of n
front_is n h = parent_of-take n h

pub last_is : (n : Path) (d : List ℕ) → 1 ≤ length n → get_or n (length n - 1) d ≡ last_of n
last_is n d h = last_of-place n d h

nothing : (V : View) → by_entry V [] None ≡ absent
nothing V = (λ k. by_branch V [] (over_none V.branches [] (omega arith) k)) ∙ (λ k. by_suffix V [] (nothing_last [] (omega arith) k))

unseen : (V : View) → find_entry V.entries [] ≡ None → see V [] ≡ unknown
unseen V h = (λ i. seen_as [] (by_entry V [] (h i))) ∙ ap (seen_as []) (nothing V)

no_parent : (n : Path) → length n ≤ 1 → parent_of n ≡ []
no_parent [] h = refl
no_parent (x ∷ []) h = refl
no_parent (x ∷ y ∷ n) h = absurd (omega (arith, h))

alone : (V : View) (depth : ℕ) (n : Path) (s : Option Suffix) (u : ℕ) → see V (parent_of n) ≡ unknown → realize_by V depth n s u ≡ done None u
alone V depth n None u h = refl
alone V depth n (Some s) u h = λ i. realize_from V depth n (parent_of n) s (h i) u

pub no_child : (V : View) (depth : ℕ) (n : Path) (u : ℕ) → IsNoChild n → HasParent V n → realize_by V depth n (suffix_of (last_of n)) u ≡ done None u
no_child V depth n u (inl h) (inl k) = absurd (omega (arith, h, k))
no_child V depth n u (inl h) (inr k) = alone V depth n (suffix_of (last_of n)) u (ap (see V) (no_parent n h) ∙ unseen V k)
no_child V depth n u (inr h) k = λ i. realize_by V depth n (h i) u
