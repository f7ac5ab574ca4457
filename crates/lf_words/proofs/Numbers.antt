-- Decimal digits, as `parse` reads them.
use Rattle.std.proofs.Common.{arith, refl, ap, ◌≡◌, ◌≢◌, ℕ, ◌+◌, ◌<◌, ◌≤◌, ◌^◌, Bool, true, false, ◌&&◌, nat_le, List, [], ◌∷◌, length, get_or, Result, Some}
use Rattle.std.specs.Result.{OkIff, result_ok}
use Rattle.std.specs.Char.{digit_value}
use Rattle.std.specs.Str.Parse.{AllDigits, IsNumeral, ParsesUnsigned, digits_value, without_leading_plus}
use Rattle.std.proofs.lemmas.Str.{digit_value_digit}
use Rattle.std.proofs.lemmas.Str.Parse.{without_leading_plus_none}
use Rattle.std.proofs.lemmas.Int.Digits.{digits_value-lt}
use Rattle.std.proofs.lemmas.Result.{Ok-from_Ok_iff}
use Rattle.std.proofs.Math.Nat.{pow-le-pow_right}
use Rattle.lf_words.specs.Words.{are_digits}

left : (a b : Bool) → (a && b) ≡ true → a ≡ true
left true b e = refl
left false b e = e

right : (a b : Bool) → (a && b) ≡ true → b ≡ true
right true b e = e
right false true e = refl
right false false e = e

at_most : (a b : ℕ) → nat_le a b ≡ true → a ≤ b
at_most a b e = grind arith

digit : (c : ℕ) → 48 ≤ c → c ≤ 57 → digit_value c < 10
digit c l h = let at : digit_value c + 48 ≡ c = digit_value_digit c (l, h) in omega arith

all_digits : (cs : List ℕ) → are_digits cs ≡ true → AllDigits 10 cs
all_digits [] e = tt
all_digits (c ∷ cs) e =
    let rest = right (nat_le 48 c) (nat_le c 57 && are_digits cs) e in (
      digit c (at_most 48 c (left (nat_le 48 c) (nat_le c 57 && are_digits cs) e)) (at_most c 57 (left (nat_le c 57) (are_digits cs) rest)),
      all_digits cs (right (nat_le c 57) (are_digits cs) rest),
    )

no_zero : ◌≡◌ {A = ℕ} 0 43 → ⊥
no_zero same = omega arith

no_plus : (cs : List ℕ) → are_digits cs ≡ true → get_or cs 0 0 ≢ 43
no_plus [] e same = absurd (no_zero same)
no_plus (c ∷ cs) e same = let low : 48 ≤ c = at_most 48 c (left (nat_le 48 c) (nat_le c 57 && are_digits cs) e) in absurd (omega arith)

plain : {E : Type 0} (cs : List ℕ) (r : Result ℕ E) → without_leading_plus cs ≡ cs → ParsesUnsigned 32 10 cs r
    → OkIff r (IsNumeral 10 cs × (digits_value 10 cs < 2 ^ 32)) (digits_value 10 cs)
plain cs r e p = rw (← e) p

pub parses : {E : Type 0} (cs : List ℕ) (r : Result ℕ E) → are_digits cs ≡ true → 1 ≤ length cs → length cs ≤ 7 → ParsesUnsigned 32 10 cs r
    → result_ok r ≡ Some (digits_value 10 cs)
parses cs r e some few p =
    let digits = all_digits cs e in
    let below : digits_value 10 cs < 10 ^ length cs = digits_value-lt 10 cs digits in
    let ten : 0 < 10 = omega arith in
    let most : 10 ^ length cs ≤ 10 ^ 7 = pow-le-pow_right ten few in
    let small : digits_value 10 cs < 2 ^ 32 = omega arith in
    ap result_ok (Ok-from_Ok_iff r (IsNumeral 10 cs × (digits_value 10 cs < 2 ^ 32)) (digits_value 10 cs)
    (plain cs r (without_leading_plus_none cs (no_plus cs e)) p) ((some, digits), small))
