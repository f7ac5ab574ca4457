use Rattle.std.proofs.Common.{
  ◌≡◌,
  ℕ,
  ◌+◌,
  ◌*◌,
  ◌^◌,
  ◌≤◌,
  ◌<◌,
  List,
  [],
  ◌∷◌,
  length,
  drop,
  get_or,
  true,
  cond,
  refl,
  sym,
  arith,
  zero,
  suc,
  Some,
  None,
  drop-cons,
  add-one,
}
use Rattle.std.specs.Prelude.{nat_lt, nat_le}
use Rattle.std.specs.List.{list_all}
use Rattle.std.specs.Char.{digit_value}
use Rattle.std.specs.Str.Parse.{digits_value_after}
use Rattle.std.proofs.lemmas.Bool.{leb-true, ltb-true, lt-ltb}
use Rattle.lf_text.specs.Lexemes.{is_digit}
use Rattle.lf_token.proofs.Logic.{and_left, and_right, false_from, if_true, if_false}

-- digits behind a number make it no smaller
pub value_grows : (n : ℕ) (cs : List ℕ) → n ≤ digits_value_after 10 n cs
value_grows n [] = omega arith
value_grows n (c ∷ cs) = let h : n * 10 + digit_value c ≤ digits_value_after 10 (n * 10 + digit_value c) cs =
    value_grows (n * 10 + digit_value c) cs in omega arith

pub value_step : (n : ℕ) (cs : List ℕ) (i : ℕ) → i < length cs
    → digits_value_after 10 n (drop i cs) ≡ digits_value_after 10 (n * 10 + digit_value (get_or cs i 0)) (drop (i + 1) cs)
value_step n cs i l = rw (add-one, drop-cons cs i 0) refl

pub fits : (n : ℕ) → n < 2 ^ 128 → Some n ≡ cond (nat_lt n (2 ^ 128)) (Some n) None
fits n l = sym (if_true (nat_lt n (2 ^ 128)) (Some n) None (lt-ltb n (2 ^ 128) l))

pub passes : (n : ℕ) → 2 ^ 128 ≤ n → None ≡ cond (nat_lt n (2 ^ 128)) (Some n) None
passes n l = sym (if_false (nat_lt n (2 ^ 128)) (Some n) None
    (false_from (nat_lt n (2 ^ 128)) (λ e. absurd (let h : n < 2 ^ 128 = ltb-true n (2 ^ 128) e in omega arith))))

pub digit_in : (cs : List ℕ) (i : ℕ) → i < length cs → list_all is_digit cs ≡ true → is_digit (get_or cs i 0) ≡ true
digit_in [] i l e = absurd (omega arith)
digit_in (c ∷ cs) zero l e = and_left (is_digit c) (list_all is_digit cs) e
digit_in (c ∷ cs) (suc i) l e = digit_in cs i (omega arith) (and_right (is_digit c) (list_all is_digit cs) e)

-- a digit's code
pub record Code (c : ℕ) : Type 0 where
  pub low : 48 ≤ c
  pub high : c ≤ 57

pub code_of : (c : ℕ) → is_digit c ≡ true → Code c
code_of c e = record { low = leb-true 48 c (and_left (nat_le 48 c) (nat_le c 57) e); high = leb-true c 57 (and_right (nat_le 48 c) (nat_le c 57) e) }

pub drop_past : (n : ℕ) (cs : List ℕ) → length cs ≤ n → drop n cs ≡ []
drop_past zero [] l = refl
drop_past zero (c ∷ cs) l = absurd (omega arith)
drop_past (suc n) [] l = refl
drop_past (suc n) (c ∷ cs) l = drop_past n cs (omega arith)
