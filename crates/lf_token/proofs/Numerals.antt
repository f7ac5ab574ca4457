use Rattle.std.proofs.Common.{
  ◌≡◌,
  ℕ,
  ◌+◌,
  ◌-◌,
  ◌≤◌,
  ◌<◌,
  List,
  [],
  ◌∷◌,
  length,
  take,
  drop,
  Bool,
  true,
  false,
  cond,
  ◌||◌,
  ◌&&◌,
  ◌==◌,
  not,
  refl,
  sym,
  ap,
  ◌∙◌,
  arith,
  subst,
  zero,
  suc,
}
use Rattle.std.specs.Prelude.{nat_le, nat_lt}
use Rattle.std.specs.List.{list_all, prefix_len}
use Rattle.std.proofs.lemmas.Bool.{leb-true, eqb-true, lt-ltb}
use Rattle.std.proofs.lemmas.List.{length-take-le, length-drop, drop-take}
use Rattle.unicode_ident.proofs.IdentLemmas.{is_xid_start-ascii}
use Rattle.unicode_ident.specs.Ident.{is_xid_start}
use Rattle.lf_text.specs.Lexemes.{is_digit, is_apart, starts_part, continues_part, is_part, is_numeral, is_bad_numeral}
use Rattle.lf_token.specs.Scan.{part_len}
use Rattle.lf_token.proofs.Logic.{
  and_left,
  and_right,
  and_both,
  and_false,
  and_false_right,
  or_false,
  false_from,
  take_cons,
  all_prefix,
  all_bound,
  prefix_within,
}

below_false : (a b : ℕ) → b < a → nat_le a b ≡ false
below_false a b l = false_from (nat_le a b) (λ e. absurd (let h : a ≤ b = leb-true a b e in omega arith))

neq_false : (a b : ℕ) → a < b → (a == b) ≡ false
neq_false a b l = false_from (a == b) (λ f. absurd (let e : a ≡ b = eqb-true a b f in omega arith))

-- a digit starts no part
pub digit_starts : (c : ℕ) → is_digit c ≡ true → starts_part c ≡ false
unfolding starts_part
digit_starts c e =
    let low : c ≤ 57 = leb-true c 57 (and_right (nat_le 48 c) (nat_le c 57) e) in
    let xid : is_xid_start c ≡ false =
    is_xid_start-ascii c (omega arith)
    ∙ or_false (nat_le 65 c && nat_le c 90) (nat_le 97 c && nat_le c 122)
    (and_false (nat_le 65 c) (nat_le c 90) (below_false 65 c (omega arith))) (and_false (nat_le 97 c) (nat_le c 122) (below_false 97 c (omega arith))) in
    and_false (c == 95 || is_xid_start c) (not (is_apart c)) (or_false (c == 95) (is_xid_start c) (neq_false c 95 (omega arith)) xid)

-- what starts with no digit is no numeral
pub no_numeral : (c : ℕ) (cs : List ℕ) → is_digit c ≡ false → is_numeral (c ∷ cs) ≡ false
no_numeral c cs e = and_false_right (nat_lt 0 (length (c ∷ cs))) (is_digit c && list_all is_digit cs) (and_false (is_digit c) (list_all is_digit cs) e)

pub no_bad_numeral : (c : ℕ) (cs : List ℕ) → is_digit c ≡ false → is_bad_numeral (c ∷ cs) ≡ false
no_bad_numeral c cs e =
    subst (λ (b : Bool). is_numeral (take (cond b (1 + prefix_len is_digit cs) 0) (c ∷ cs)) && is_part (drop (cond b (1 + prefix_len is_digit cs) 0) (c ∷ cs))
    ≡ false)
    (sym e) refl

abbrev digits : List ℕ → ℕ
digits cs = prefix_len is_digit cs

-- the digits at the front are a numeral, and no longer front is one
pub numeral_front : (cs : List ℕ) → 0 < digits cs → is_numeral (take (digits cs) cs) ≡ true
numeral_front cs l =
    let within : digits cs ≤ length cs = prefix_within is_digit cs in
    let len : length (take (digits cs) cs) ≡ digits cs = length-take-le (digits cs) cs within in
    and_both (nat_lt 0 (length (take (digits cs) cs))) (list_all is_digit (take (digits cs) cs)) (lt-ltb 0 (length (take (digits cs) cs)) (omega arith))
    (all_prefix is_digit cs)

pub numeral_longer : (cs : List ℕ) (m : ℕ) → digits cs < m → m ≤ length cs → is_numeral (take m cs) ≡ false
numeral_longer cs m l w =
    false_from (is_numeral (take m cs)) (λ e.
    let short : m ≤ digits cs = all_bound is_digit cs m w (and_right (nat_lt 0 (length (take m cs))) (list_all is_digit (take m cs)) e) in absurd (omega arith))

prefix_step : (b : Bool) (x y m : ℕ) → cond b (1 + y) 0 ≤ suc m → (y ≤ m → x ≡ y) → cond b (1 + x) 0 ≡ cond b (1 + y) 0
prefix_step true x y m l f = let e : x ≡ y = f (omega arith) in omega arith
prefix_step false x y m l f = refl

prefix_take : (p : ℕ → Bool) (cs : List ℕ) (m : ℕ) → prefix_len p cs ≤ m → prefix_len p (take m cs) ≡ prefix_len p cs
prefix_take p [] zero l = refl
prefix_take p [] (suc m) l = refl
prefix_take p (c ∷ cs) zero l = omega arith
prefix_take p (c ∷ cs) (suc m) l = prefix_step (p c) (prefix_len p (take m cs)) (prefix_len p cs) m l (λ k. prefix_take p cs m k)

and_first : (a b : Bool) → a ≡ true → a && b ≡ b
and_first true b e = refl
and_first false b e = cc

-- a front that has more than the digits is one error token exactly where the rest is a part
bad_part : (cs : List ℕ) (m : ℕ) → 0 < digits cs → digits cs ≤ m → m ≤ length cs
    → is_bad_numeral (take m cs) ≡ is_part (take (m - digits cs) (drop (digits cs) cs))
bad_part cs m some l w =
    let e : digits (take m cs) ≡ digits cs = prefix_take is_digit cs m l in
    let same : take (digits cs) (take m cs) ≡ take (digits cs) cs = take_take (digits cs) m cs l in
    let rest : drop (digits cs) (take m cs) ≡ take (m - digits cs) (drop (digits cs) cs) =
    (let a : digits cs + (m - digits cs) ≡ m = omega arith in ap (λ (k : ℕ). drop (digits cs) (take k cs)) (sym a) ∙ drop-take (digits cs) (m - digits cs) cs)
    in
    ap (λ (k : ℕ). is_numeral (take k (take m cs)) && is_part (drop k (take m cs))) e
    ∙ ap (λ (xs : List ℕ). is_numeral xs && is_part (drop (digits cs) (take m cs))) same
    ∙ and_first (is_numeral (take (digits cs) cs)) (is_part (drop (digits cs) (take m cs))) (numeral_front cs some)
    ∙ ap is_part rest
  where
    take_take : (n m : ℕ) (xs : List ℕ) → n ≤ m → take n (take m xs) ≡ take n xs
    take_take zero m xs l = refl
    take_take (suc n) zero xs l = absurd (omega arith)
    take_take (suc n) (suc m) [] l = refl
    take_take (suc n) (suc m) (x ∷ xs) l = ap (λ ys. x ∷ ys) (take_take n m xs (omega arith))

part_front_step : (c : ℕ) (cs : List ℕ) (b : Bool) → starts_part c ≡ b → 0 < cond b (prefix_len continues_part cs + 1) 0 →
    is_part (take (cond b (prefix_len continues_part cs + 1) 0) (c ∷ cs)) ≡ true
part_front_step c cs true e l =
    rw (take_cons (prefix_len continues_part cs) c cs)
    (and_both (starts_part c) (list_all continues_part (take (prefix_len continues_part cs) cs)) e (all_prefix continues_part cs))
part_front_step c cs false e l = absurd (omega arith)

part_front : (cs : List ℕ) → 0 < part_len cs → is_part (take (part_len cs) cs) ≡ true
part_front [] l = absurd (omega arith)
part_front (c ∷ cs) l = part_front_step c cs (starts_part c) refl l

part_longer : (cs : List ℕ) (m : ℕ) → part_len cs < m → m ≤ length cs → is_part (take m cs) ≡ false
part_longer cs zero l w = absurd (omega arith)
part_longer [] (suc m) l w = refl
part_longer (c ∷ cs) (suc m) l w =
    false_from (is_part (c ∷ take m cs)) (λ e.
    let start : starts_part c ≡ true = and_left (starts_part c) (list_all continues_part (take m cs)) e in
    let short : m ≤ prefix_len continues_part cs =
    all_bound continues_part cs m (omega arith) (and_right (starts_part c) (list_all continues_part (take m cs)) e) in
    let long : cond true (prefix_len continues_part cs + 1) 0 < suc m = subst (λ (b : Bool). cond b (prefix_len continues_part cs + 1) 0 < suc m) start l in
    absurd (omega arith))

pub part_within : (cs : List ℕ) → part_len cs ≤ length cs
part_within [] = omega arith
part_within (c ∷ cs) = step (starts_part c) (prefix_len continues_part cs) (length cs) (prefix_within continues_part cs)
  where
    step : (b : Bool) (n m : ℕ) → n ≤ m → cond b (n + 1) 0 ≤ suc m
    step true n m l = omega arith
    step false n m l = omega arith

-- digits and a part are one error token, and no longer front is one
pub bad_front : (cs : List ℕ) → 0 < digits cs → 0 < part_len (drop (digits cs) cs) → digits cs + part_len (drop (digits cs) cs) ≤ length cs →
    is_bad_numeral (take (digits cs + part_len (drop (digits cs) cs)) cs) ≡ true
bad_front cs some part w =
    let a : digits cs + part_len (drop (digits cs) cs) - digits cs ≡ part_len (drop (digits cs) cs) = omega arith in
    bad_part cs (digits cs + part_len (drop (digits cs) cs)) some (omega arith) w
    ∙ ap (λ (k : ℕ). is_part (take k (drop (digits cs) cs))) a ∙ part_front (drop (digits cs) cs) part

pub bad_longer : (cs : List ℕ) (m : ℕ) → 0 < digits cs → digits cs + part_len (drop (digits cs) cs) < m → m ≤ length cs → is_bad_numeral (take m cs) ≡ false
bad_longer cs m some l w =
    let len : length (drop (digits cs) cs) ≡ length cs - digits cs = length-drop (digits cs) cs in
    bad_part cs m some (omega arith) w ∙ part_longer (drop (digits cs) cs) (m - digits cs) (omega arith) (omega arith)
