-- Words for values that are worked out for many assignments at once. No public contract rests on this file.
use Rattle.std.specs.Prelude.{◌≡◌, ◌≤◌, ◌<◌, ℕ, suc, Bool, true, false, All, get_or, nat_eq, if◌then◌else◌, List, [], ◌∷◌, ◌++◌, slice_set}
use Rattle.lf_core.specs.Term.{Universe}
use Rattle.lf_core.specs.Level.{value_of}
use Rattle.lf_level.specs.Decision.{assignment}

-- The place of the first name that is k, or that behind all.
abbrev pub place_of : List ℕ → ℕ → ℕ
place_of [] k = 0
place_of (n ∷ ns) k = if nat_eq n k then 0 else suc (place_of ns k)

-- No value is above 1,025.
abbrev pub IsSmall : List ℕ → Type 0
IsSmall values = All (λ v. v ≤ 1025) values

abbrev pub AreSmall : List (List ℕ) → Type 0
AreSmall trials = (k : ℕ) → k < 64 → IsSmall (get_or trials k [])

-- The values that are tried from a place on, as the decision tries them: 0 or 1 for each name that is left, or, if `far`, once 1,025.
abbrev pub trials : List ℕ → ℕ → List ℕ → Bool → List (List ℕ)
trials values at [] far = values ∷ []
trials values at (_ ∷ rest) far =
    trials (slice_set values at 0) (suc at) rest far ++
    (trials (slice_set values at 1) (suc at) rest far ++ (if far then trials (slice_set values at 1025) (suc at) rest false else []))

-- All that is tried for these names.
abbrev pub all_trials : List ℕ → List (List ℕ)
all_trials names = trials (0 ∷ 0 ∷ 0 ∷ 0 ∷ 0 ∷ 0 ∷ 0 ∷ 0 ∷ []) 0 names true

-- Equal, or at most.
abbrev pub Holds : Bool → ℕ → ℕ → Type 0
Holds true m n = m ≡ n
Holds false m n = m ≤ n

-- The two levels are equal, or the first is at most the second, under these values.
abbrev pub HoldsAt : Bool → Universe → Universe → List ℕ → List ℕ → Type 0
HoldsAt both u v names values = Holds both (value_of (assignment names values) u) (value_of (assignment names values) v)
