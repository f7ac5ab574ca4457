-- Which layers stay, a layer more in front.
use Rattle.std.proofs.Common.{ℕ, zero, suc, ◌+◌, ◌<◌, ◌≤◌, List, [], ◌∷◌, arith}
use Rattle.std.specs.Prelude.{sum}
use Rattle.lf_env.specs.Few.{IsLonger, IsDue}

pub longer_first : (x : ℕ) (xs : List ℕ) → sum xs + 1 < x → IsLonger (x ∷ xs) 1
longer_first x xs h = h

pub longer_later : (x : ℕ) (xs : List ℕ) (k : ℕ) → 1 ≤ k → IsLonger xs k → IsLonger (x ∷ xs) (suc k)
longer_later x xs zero h l = absurd (omega arith)
longer_later x xs (suc k) h l = l

pub due_later : (x : ℕ) (xs : List ℕ) (k : ℕ) → IsDue xs k → IsDue (x ∷ xs) (suc k)
due_later x xs k h = h
