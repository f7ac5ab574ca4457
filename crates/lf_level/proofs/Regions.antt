-- On assignments with zeros at the same parameters a level is the greatest of numbers and of parameters plus numbers.
use Rattle.std.proofs.Common.{◌≡◌, ℕ, zero, suc, ◌+◌, ◌≤◌, ◌<◌, refl, arith, ◌∙◌, inl, inr}
use Rattle.std.specs.Prelude.{max, ◌⊎◌}
use Rattle.std.proofs.lemmas.Bool.{cases_lt}
use Rattle.lf_core.specs.Term.{Universe, level_zero, level_succ, level_max, level_imax, level_param, level_meta}
use Rattle.lf_core.specs.Level.{Assignment, value_of, impredicative_max}
use Rattle.lf_core.specs.Size.{level_depth}

-- Each parameter of the level satisfies P, and it has no metavariable.
abbrev pub Over : (ℕ → Type 0) → Universe → Type 0
Over P level_zero = Unit {0}
Over P (level_succ l) = Over P l
Over P (level_max l m) = Over P l × Over P m
Over P (level_imax l m) = Over P l × Over P m
Over P (level_param k) = P k
Over P (level_meta k) = ⊥

imax_rises : (a b c d : ℕ) → a ≤ c → b ≤ d → impredicative_max a b ≤ impredicative_max c d
imax_rises a zero c d p q = omega arith
imax_rises a (suc b) c zero p q = absurd (omega arith)
imax_rises a (suc b) c (suc d) p q = omega arith

imax_positive : (a b : ℕ) → 0 < b → impredicative_max a b ≡ max a b
imax_positive a zero p = absurd (omega arith)
imax_positive a (suc b) p = refl

imax_none : (a b : ℕ) → b ≡ 0 → impredicative_max a b ≡ 0
imax_none a zero p = refl
imax_none a (suc b) p = absurd (omega arith)

-- A level doesn't fall where no parameter does.
pub monotone : (P : ℕ → Type 0) (s t : Assignment) → ((k : ℕ) → P k → t.parameter k ≤ s.parameter k) → (l : Universe) → Over P l → value_of t l ≤ value_of s l
monotone P s t h level_zero o = omega arith
monotone P s t h (level_succ l) o = let p = monotone P s t h l o in omega arith
monotone P s t h (level_max l m) o = let p = monotone P s t h l o.0 in let q = monotone P s t h m o.1 in omega arith
monotone P s t h (level_imax l m) o = imax_rises _ _ _ _ (monotone P s t h l o.0) (monotone P s t h m o.1)
monotone P s t h (level_param k) o = h k o
monotone P s t h (level_meta k) o = absurd o

-- The two have zeros at the same parameters.
abbrev pub Alike : (ℕ → Type 0) → Assignment → Assignment → Type 0
Alike P s t = (k : ℕ) → P k → (s.parameter k ≡ 0 → t.parameter k ≡ 0) × (0 < s.parameter k → 0 < t.parameter k)

max_signs : (a b c d : ℕ) → (a ≡ 0 → c ≡ 0) × (0 < a → 0 < c) → (b ≡ 0 → d ≡ 0) × (0 < b → 0 < d) → (max a b ≡ 0 → max c d ≡ 0) × (0 < max a b → 0 < max c d)
max_signs zero zero c d p q = (λ e. let x = p.0 refl in let y = q.0 refl in omega arith, λ h. absurd (omega arith))
max_signs (suc a) b c d p q = (λ e. absurd (omega arith), λ h. let x = p.1 (omega arith) in omega arith)
max_signs zero (suc b) c d p q = (λ e. absurd (omega arith), λ h. let x = q.1 (omega arith) in omega arith)

imax_signs : (a b c d : ℕ) → (b ≡ 0 → d ≡ 0) × (0 < b → 0 < d)
    → (impredicative_max a b ≡ 0 → impredicative_max c d ≡ 0) × (0 < impredicative_max a b → 0 < impredicative_max c d)
imax_signs a zero c d q = (λ e. imax_none c d (q.0 refl), λ h. absurd (omega arith))
imax_signs a (suc b) c d q = (λ e. absurd (omega arith), λ h. let x = q.1 (omega arith) in let y = imax_positive c d x in omega arith)

-- Then levels are zero on both or on none.
pub signs : (P : ℕ → Type 0) (s t : Assignment) → Alike P s t → (l : Universe) → Over P l
    → (value_of s l ≡ 0 → value_of t l ≡ 0) × (0 < value_of s l → 0 < value_of t l)
signs P s t h level_zero o = (λ e. refl, λ e. e)
signs P s t h (level_succ l) o = (λ e. absurd (omega arith), λ e. omega arith)
signs P s t h (level_max l m) o = max_signs _ _ _ _ (signs P s t h l o.0) (signs P s t h m o.1)
signs P s t h (level_imax l m) o = imax_signs _ _ _ _ (signs P s t h m o.1)
signs P s t h (level_param k) o = h k o
signs P s t h (level_meta k) o = absurd o

-- The part of the level that gives its value at s: a number, or a parameter that isn't 0 and a number.
-- On all assignments like s the level is at least that part.
pub data Reached (P : ℕ → Type 0) (s : Assignment) (l : Universe) : Type 0 where
  by_number : (c : ℕ) → value_of s l ≡ c → c < level_depth l → ((t : Assignment) → Alike P s t → c ≤ value_of t l) → Reached P s l
  by_parameter : (p k : ℕ) → P p → 0 < s.parameter p → value_of s l ≡ s.parameter p + k → k < level_depth l
      → ((t : Assignment) → Alike P s t → t.parameter p + k ≤ value_of t l) → Reached P s l

-- A part of a part that has its value.
part : (P : ℕ → Type 0) (s : Assignment) (l x : Universe) → value_of s x ≡ value_of s l → level_depth l ≤ level_depth x
    → ((t : Assignment) → Alike P s t → value_of t l ≤ value_of t x) → Reached P s l → Reached P s x
part P s l x e d f (by_number c v h g) = by_number c (e ∙ v) (omega arith) (λ t a. let p = g t a in let q = f t a in omega arith)
part P s l x e d f (by_parameter p k o z v h g) = by_parameter p k o z (e ∙ v) (omega arith) (λ t a. let y = g t a in let q = f t a in omega arith)

next : (P : ℕ → Type 0) (s : Assignment) (l : Universe) → Reached P s l → Reached P s (level_succ l)
next P s l (by_number c v h g) = by_number (suc c) (omega arith) (omega arith) (λ t a. let p = g t a in omega arith)
next P s l (by_parameter p k o z v h g) = by_parameter p (suc k) o z (omega arith) (omega arith) (λ t a. let y = g t a in omega arith)

greater : (P : ℕ → Type 0) (s : Assignment) (l m : Universe) → Reached P s l → Reached P s m → (value_of s l < value_of s m) ⊎ (value_of s m ≤ value_of s l)
    → Reached P s (level_max l m)
greater P s l m x y (inl h) = part P s m (level_max l m) (omega arith) (omega arith) (λ t a. omega arith) y
greater P s l m x y (inr h) = part P s l (level_max l m) (omega arith) (omega arith) (λ t a. omega arith) x

greater_if : (P : ℕ → Type 0) (s : Assignment) (l m : Universe) → Over P m → Reached P s l → Reached P s m → (0 < value_of s m) ⊎ (value_of s m ≤ 0)
    → (value_of s l < value_of s m) ⊎ (value_of s m ≤ value_of s l) → Reached P s (level_imax l m)
greater_if P s l m o x y (inr z) h =
    let e : value_of s m ≡ 0 = omega arith in
    by_number 0 (imax_none (value_of s l) (value_of s m) e) (omega arith) (λ t a. omega arith)
greater_if P s l m o x y (inl z) (inl h) =
    let e = imax_positive (value_of s l) (value_of s m) z in
    part P s m (level_imax l m) (omega arith) (omega arith)
    (λ t a. let f = imax_positive (value_of t l) (value_of t m) ((signs P s t a m o).1 z) in omega arith) y
greater_if P s l m o x y (inl z) (inr h) =
    let e = imax_positive (value_of s l) (value_of s m) z in
    part P s l (level_imax l m) (omega arith) (omega arith)
    (λ t a. let f = imax_positive (value_of t l) (value_of t m) ((signs P s t a m o).1 z) in omega arith) x

at_parameter : (P : ℕ → Type 0) (s : Assignment) (k : ℕ) → P k → (0 < s.parameter k) ⊎ (s.parameter k ≤ 0) → Reached P s (level_param k)
at_parameter P s k o (inl z) = by_parameter k 0 o z (omega arith) (omega arith) (λ t a. omega arith)
at_parameter P s k o (inr z) = by_number 0 (omega arith) (omega arith) (λ t a. omega arith)

pub reached : (P : ℕ → Type 0) (s : Assignment) (l : Universe) → Over P l → Reached P s l
reached P s level_zero o = by_number 0 refl (omega arith) (λ t a. omega arith)
reached P s (level_succ l) o = next P s l (reached P s l o)
reached P s (level_max l m) o = greater P s l m (reached P s l o.0) (reached P s m o.1) (cases_lt _ _)
reached P s (level_imax l m) o = greater_if P s l m o.1 (reached P s l o.0) (reached P s m o.1) (cases_lt _ _) (cases_lt _ _)
reached P s (level_param k) o = at_parameter P s k o (cases_lt _ _)
reached P s (level_meta k) o = absurd o
