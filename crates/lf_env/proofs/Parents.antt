-- Names by their parents.
use Rattle.std.specs.Prelude.{◌≡◌, ℕ, suc, ◌≤◌, ◌<◌, cond, List, [], ◌∷◌, length, Option, Some, None}
use Rattle.std.proofs.Common.{refl, sym, ◌∙◌, ap, arith}
use Rattle.lf_core.specs.Term.{Path}
use Rattle.lf_core.specs.Suffix.{suffix_of, equation_of}
use Rattle.lf_core.specs.Same.{same_path}
use Rattle.lf_checker.specs.View.{OpenBranch, find_branch, branch_over, parent_of, last_of}

pub is_empty : (n : Path) → length n < 1 → n ≡ []
is_empty [] h = refl
is_empty (x ∷ xs) h = absurd (omega arith)

-- A name of no parts is no child, and has no suffix.
pub over_none : (bs : List OpenBranch) (n : Path) → length n < 1 → branch_over bs n ≡ None
over_none [] n h = refl
over_none (b ∷ bs) [] h = over_none bs [] h
over_none (b ∷ bs) (x ∷ xs) h = absurd (omega arith)

pub nothing_last : (n : Path) → length n < 1 → suffix_of (last_of n) ≡ None
unfolding suffix_of equation_of
nothing_last [] h = refl
nothing_last (x ∷ xs) h = absurd (omega arith)

-- It would be a child of the branch of its parent.
pub over_parent : (bs : List OpenBranch) (n : Path) → 1 ≤ length n → branch_over bs n ≡ find_branch bs (parent_of n)
over_parent [] n h = refl
over_parent (b ∷ bs) [] h = absurd (omega arith)
over_parent (b ∷ bs) (x ∷ xs) h = ap (λ r. cond (same_path b.prefix (parent_of (x ∷ xs))) (Some b.position) r) (over_parent bs (x ∷ xs) h)
