-- The texts of suffixes are told apart: each suffix is read back from its spelling, and no other text is read.
use Rattle.std.specs.Prelude.{
  ◌≡◌,
  ℕ,
  zero,
  suc,
  ◌+◌,
  ◌-◌,
  ◌*◌,
  ◌≤◌,
  Bool,
  true,
  false,
  ◌&&◌,
  nat_le,
  nat_eq,
  if◌then◌else◌,
  List,
  [],
  ◌∷◌,
  ◌++◌,
  Option,
  Some,
  None,
  IfSome,
  codes,
  ◌⊎◌,
}
use Rattle.std.specs.Fmt.{decimal, digits}
use Rattle.std.specs.Char.{encode_utf8}
use Rattle.std.specs.Str.{bytes_eq}
use Rattle.std.proofs.Common.{refl, sym, ◌∙◌, ap, subst, arith, inl, inr}
use Rattle.std.proofs.lemmas.Slice.Eq.{bytes_eq-Decides}
use Rattle.std.proofs.lemmas.Fmt.{decimal_digit}
use Rattle.lf_core.specs.Suffix.{spelling, IsNumbered, is_numeral, equation_numbered, equation_of, suffix_of}
use Rattle.lf_core.specs.declared.suffix.Suffix.{Suffix}
use Rattle.lf_core.specs.declared.suffix.Suffix.TheVariants.{Eq1, EqDef, Inj, InjEq, EqAt}

bytes_are : (x y : List ℕ) → bytes_eq x y ≡ true → x ≡ y
bytes_are x y = (bytes_eq-Decides x y).0

-- ---- A fact about each number up to one, by a test that computes.

all_up_to : (ℕ → Bool) → ℕ → Bool
all_up_to f zero = f zero
all_up_to f (suc n) = f (suc n) && all_up_to f n

both_left : (a b : Bool) → (a && b) ≡ true → a ≡ true
both_left true b h = refl
both_left false b h = h

both_right : (a b : Bool) → (a && b) ≡ true → b ≡ true
both_right true b h = h
both_right false b h = cc

at_end : (k n : ℕ) → k ≤ suc n → (k ≡ suc n) ⊎ (k ≤ n)
at_end k n h = grind arith

each_up_to : (f : ℕ → Bool) (n : ℕ) → all_up_to f n ≡ true → (k : ℕ) → k ≤ n → f k ≡ true
unfolding all_up_to
each_up_to f zero h k b = let e : zero ≡ k = omega arith in ap f (sym e) ∙ h
each_up_to f (suc n) h k b = elim (at_end k n b) [
  | inl e ↦ ap f e ∙ both_left (f (suc n)) (all_up_to f n) h
  | inr l ↦ each_up_to f n (both_right (f (suc n)) (all_up_to f n) h) k l
]

-- ---- Numbers of two digits.

two_digits : ℕ → ℕ → Bool
two_digits a b = bytes_eq (decimal (10 * suc a + b)) ((48 + suc a) ∷ (48 + b) ∷ [])

all_two_digits : all_up_to (λ a. all_up_to (two_digits a) 9) 8 ≡ true
unfolding all_up_to two_digits digits
all_two_digits = refl

decimal_two : (a b : ℕ) → a ≤ 8 → b ≤ 9 → decimal (10 * suc a + b) ≡ (48 + suc a) ∷ (48 + b) ∷ []
unfolding two_digits
decimal_two a b h g = bytes_are _ _ (each_up_to (two_digits a) 9 (each_up_to (λ x. all_up_to (two_digits x) 9) 8 all_two_digits a h) b g)

-- ---- Each suffix is read back.

is_equation : Option Suffix → ℕ → Bool
is_equation (Some (EqAt j)) k = nat_eq j k
is_equation _ k = false

is_read : ℕ → Bool
is_read k = is_equation (suffix_of (spelling (EqAt (k + 2)))) (k + 2)

all_read : all_up_to is_read 63 ≡ true
unfolding all_up_to is_read is_equation suffix_of equation_of spelling digits encode_utf8
all_read = refl

equation_is : (o : Option Suffix) (k : ℕ) → is_equation o k ≡ true → o ≡ Some (EqAt k)
unfolding is_equation
equation_is (Some (EqAt j)) k h = let e : j ≡ k = grind arith in ap (λ i. Some (EqAt i)) e
equation_is (Some Eq1) k h = cc
equation_is (Some EqDef) k h = cc
equation_is (Some Inj) k h = cc
equation_is (Some InjEq) k h = cc
equation_is None k h = cc

read_equation : (k : ℕ) → 2 ≤ k → k ≤ 65 → suffix_of (spelling (EqAt k)) ≡ Some (EqAt k)
unfolding is_read
read_equation k h g =
    let e : (k - 2) + 2 ≡ k = omega arith in
    let r : is_read (k - 2) ≡ true = each_up_to is_read 63 all_read (k - 2) (omega arith) in
    subst (λ i. suffix_of (spelling (EqAt i)) ≡ Some (EqAt i)) e (equation_is (suffix_of (spelling (EqAt ((k - 2) + 2)))) ((k - 2) + 2) r)

read_back : (s : Suffix) → IsNumbered s → suffix_of (spelling s) ≡ Some s
unfolding suffix_of spelling encode_utf8
read_back Eq1 h = refl
read_back EqDef h = refl
read_back Inj h = refl
read_back InjEq h = refl
read_back (EqAt k) h = read_equation k h.0 h.1

pub spelled_is_suffix : (t : List ℕ) (s : Suffix) → IsNumbered s → t ≡ spelling s → suffix_of t ≡ Some s
spelled_is_suffix t s h e = ap suffix_of e ∙ read_back s h

-- ---- What is read is a spelling.

abbrev IsSpelled : List ℕ → Option Suffix → Type 0
IsSpelled t o = IfSome o (λ s. IsNumbered s × (t ≡ spelling s))

chosen : (t : List ℕ) (b : Bool) (s : Suffix) (o : Option Suffix) → (b ≡ true → IsNumbered s × (t ≡ spelling s)) → IsSpelled t o
    → IsSpelled t (if b then Some s else o)
chosen t true s o h g = h refl
chosen t false s o h g = g

guarded : (t : List ℕ) (b : Bool) (o : Option Suffix) → (b ≡ true → IsSpelled t o) → IsSpelled t (if b then o else None)
guarded t true o h = h refl
guarded t false o h = tt

below : (a b : ℕ) → nat_le a b ≡ true → a ≤ b
below a b h = grind arith

one_digit : (e q l u : ℕ) → bytes_eq (e ∷ q ∷ l ∷ []) (codes "eq_") ≡ true → 50 ≤ u → u ≤ 57
    → IsNumbered (EqAt (u - 48)) × ((e ∷ q ∷ l ∷ u ∷ []) ≡ spelling (EqAt (u - 48)))
unfolding spelling encode_utf8
one_digit e q l u h low high =
    let back : 48 + (u - 48) ≡ u = omega arith in
    let shown : decimal (u - 48) ≡ u ∷ [] = decimal_digit (u - 48) (omega arith) ∙ ap (λ x. x ∷ []) back in
    ((omega arith, omega arith), ap (λ x. x ++ u ∷ []) (bytes_are (e ∷ q ∷ l ∷ []) (codes "eq_") h) ∙ ap (λ x. codes "eq_" ++ x) (sym shown))

two_shown : (t u : ℕ) → 49 ≤ t → t ≤ 57 → 48 ≤ u → u ≤ 57 → decimal (10 * (t - 48) + (u - 48)) ≡ t ∷ u ∷ []
two_shown t u a b c d =
    let e : suc (t - 49) ≡ t - 48 = omega arith in
    let f : 48 + (t - 48) ≡ t = omega arith in
    let g : 48 + (u - 48) ≡ u = omega arith in
    subst (λ x. decimal (10 * x + (u - 48)) ≡ t ∷ u ∷ []) e
    (decimal_two (t - 49) (u - 48) (omega arith) (omega arith) ∙ ap (λ x. (48 + x) ∷ (48 + (u - 48)) ∷ []) e ∙ ap (λ x. x ∷ (48 + (u - 48)) ∷ []) f ∙
    ap (λ x. t ∷ x ∷ []) g)

of_two_digits : (e q l t u : ℕ) → bytes_eq (e ∷ q ∷ l ∷ []) (codes "eq_") ≡ true → 48 ≤ t → t ≤ 57 → 48 ≤ u → u ≤ 57 → 10 ≤ 10 * (t - 48) + (u - 48)
    → 10 * (t - 48) + (u - 48) ≤ 65 → IsNumbered (EqAt (10 * (t - 48) + (u - 48))) × ((e ∷ q ∷ l ∷ t ∷ u ∷ []) ≡ spelling (EqAt (10 * (t - 48) + (u - 48))))
unfolding spelling encode_utf8
of_two_digits e q l t u h a b c d low high = (
  (omega arith, high),
  ap (λ x. x ++ t ∷ u ∷ []) (bytes_are (e ∷ q ∷ l ∷ []) (codes "eq_") h) ∙ ap (λ x. codes "eq_" ++ x)
      (sym (two_shown t u (omega arith) b c d)),
)

equation_spelled : (t : List ℕ) → IsSpelled t (equation_of t)
unfolding equation_of
equation_spelled [] = tt
equation_spelled (e ∷ []) = tt
equation_spelled (e ∷ q ∷ []) = tt
equation_spelled (e ∷ q ∷ l ∷ []) = tt
equation_spelled (e ∷ q ∷ l ∷ u ∷ []) =
    let start : Bool = bytes_eq (e ∷ q ∷ l ∷ []) (codes "eq_") in
    chosen (e ∷ q ∷ l ∷ u ∷ []) (start && (is_numeral u && nat_le 50 u)) (EqAt (u - 48)) None
    (λ h. one_digit e q l u (both_left start (is_numeral u && nat_le 50 u) h)
    (below 50 u (both_right (is_numeral u) (nat_le 50 u) (both_right start (is_numeral u && nat_le 50 u) h)))
    (below u 57 (both_right (nat_le 48 u) (nat_le u 57) (both_left (is_numeral u) (nat_le 50 u) (both_right start (is_numeral u && nat_le 50 u) h))))) tt
equation_spelled (e ∷ q ∷ l ∷ t ∷ u ∷ []) =
    let start : Bool = bytes_eq (e ∷ q ∷ l ∷ []) (codes "eq_") in
    let k : ℕ = 10 * (t - 48) + (u - 48) in
    guarded (e ∷ q ∷ l ∷ t ∷ u ∷ []) (start && (is_numeral t && is_numeral u)) (equation_numbered k) λ h.
    chosen (e ∷ q ∷ l ∷ t ∷ u ∷ []) (nat_le 10 k && nat_le k 65) (EqAt k) None (λ g. of_two_digits e q l t u (both_left start (is_numeral t && is_numeral u) h)
    (below 48 t (both_left (nat_le 48 t) (nat_le t 57) (both_left (is_numeral t) (is_numeral u) (both_right start (is_numeral t && is_numeral u) h))))
    (below t 57 (both_right (nat_le 48 t) (nat_le t 57) (both_left (is_numeral t) (is_numeral u) (both_right start (is_numeral t && is_numeral u) h))))
    (below 48 u (both_left (nat_le 48 u) (nat_le u 57) (both_right (is_numeral t) (is_numeral u) (both_right start (is_numeral t && is_numeral u) h))))
    (below u 57 (both_right (nat_le 48 u) (nat_le u 57) (both_right (is_numeral t) (is_numeral u) (both_right start (is_numeral t && is_numeral u) h))))
    (below 10 k (both_left (nat_le 10 k) (nat_le k 65) g)) (below k 65 (both_right (nat_le 10 k) (nat_le k 65) g))) tt
equation_spelled (e ∷ q ∷ l ∷ t ∷ u ∷ v ∷ w) = tt

all_spelled : (t : List ℕ) → IsSpelled t (suffix_of t)
unfolding suffix_of spelling
all_spelled t =
    chosen t (bytes_eq t (codes "eq_1")) Eq1 _ (λ h. (tt, bytes_are t (codes "eq_1") h))
    (chosen t (bytes_eq t (codes "eq_def")) EqDef _ (λ h. (tt, bytes_are t (codes "eq_def") h))
    (chosen t (bytes_eq t (codes "inj")) Inj _ (λ h. (tt, bytes_are t (codes "inj") h))
    (chosen t (bytes_eq t (codes "injEq")) InjEq _ (λ h. (tt, bytes_are t (codes "injEq") h)) (equation_spelled t))))

-- What is read is a suffix, and the text is its spelling.
pub suffix_is_spelled : (t : List ℕ) (o : Option Suffix) → suffix_of t ≡ o → IfSome o (λ s. IsNumbered s × (t ≡ spelling s))
suffix_is_spelled t o h = subst (IsSpelled t) h (all_spelled t)
