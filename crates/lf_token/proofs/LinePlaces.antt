use Rattle.std.proofs.Common.{
  ◌≡◌,
  ℕ,
  ◌+◌,
  ◌-◌,
  ◌≤◌,
  List,
  [],
  ◌∷◌,
  ◌++◌,
  length,
  take,
  drop,
  Bool,
  true,
  false,
  cond,
  not,
  ◌==◌,
  refl,
  sym,
  ap,
  ◌∙◌,
  arith,
  zero,
  suc,
  count_by,
}
use Rattle.std.specs.List.{prefix_len, suffix_len, after_last}
use Rattle.std.specs.Str.{encode_utf8_all}
use Rattle.std.specs.Char.{encode_utf8, len_utf8}
use Rattle.std.proofs.lemmas.List.{reverse-append, length-append}
use Rattle.std.proofs.lemmas.List.Recursion.{is_count_by}
use Rattle.std.proofs.lemmas.List.Sums.{suffix_len-le-length}
use Rattle.std.proofs.lemmas.Str.{encodes-append, length-encode}
use Rattle.lf_text.specs.Place.{is_line_feed}
use Rattle.lf_token.specs.declared.place.Place.{Place}
use Rattle.lf_token.specs.Spelling.{width}
use Rattle.lf_token.specs.Places.{IsAt}
use Rattle.lf_token.proofs.Logic.{if_true, if_false}

suffix_push : (p : ℕ → Bool) (xs : List ℕ) (x : ℕ) → suffix_len p (xs ++ x ∷ []) ≡ cond (p x) (1 + suffix_len p xs) 0
suffix_push p xs x = ap (prefix_len p) (reverse-append xs (x ∷ []))

drop_front : (n : ℕ) (xs ys : List ℕ) → n ≤ length xs → drop n (xs ++ ys) ≡ drop n xs ++ ys
drop_front zero xs ys l = refl
drop_front (suc n) [] ys l = absurd (omega arith)
drop_front (suc n) (x ∷ xs) ys l = drop_front n xs ys (omega arith)

-- what isn't a separator goes on after the last one
pub last_goes_on : (p : ℕ → Bool) (xs : List ℕ) (x : ℕ) → p x ≡ false → after_last p (xs ++ x ∷ []) ≡ after_last p xs ++ x ∷ []
last_goes_on p xs x e =
    let q : ℕ → Bool = λ y. not (p y) in
    let s : suffix_len (λ y. not (p y)) (xs ++ x ∷ []) ≡ 1 + suffix_len (λ y. not (p y)) xs =
    suffix_push (λ y. not (p y)) xs x ∙ if_true (not (p x)) (1 + suffix_len (λ y. not (p y)) xs) 0 (ap not e) in
    let len : length (xs ++ x ∷ []) ≡ length xs + 1 = length-append xs (x ∷ []) in
    let w : suffix_len (λ y. not (p y)) xs ≤ length xs = suffix_len-le-length (λ y. not (p y)) xs in
    let n : length (xs ++ x ∷ []) - suffix_len (λ y. not (p y)) (xs ++ x ∷ []) ≡ length xs - suffix_len (λ y. not (p y)) xs = omega arith in
    ap (λ (k : ℕ). drop k (xs ++ x ∷ [])) n ∙ drop_front (length xs - suffix_len (λ y. not (p y)) xs) xs (x ∷ []) (omega arith)

-- nothing stands after a separator at the end
pub last_ends : (p : ℕ → Bool) (xs : List ℕ) (x : ℕ) → p x ≡ true → after_last p (xs ++ x ∷ []) ≡ []
last_ends p xs x e =
    let s : suffix_len (λ y. not (p y)) (xs ++ x ∷ []) ≡ 0 =
    suffix_push (λ y. not (p y)) xs x ∙ if_false (not (p x)) (1 + suffix_len (λ y. not (p y)) xs) 0 (ap not e) in
    let n : length (xs ++ x ∷ []) - suffix_len (λ y. not (p y)) (xs ++ x ∷ []) ≡ length (xs ++ x ∷ []) = omega arith in
    ap (λ (k : ℕ). drop k (xs ++ x ∷ [])) n ∙ drop_all (xs ++ x ∷ [])
  where
    drop_all : (ys : List ℕ) → drop (length ys) ys ≡ []
    drop_all [] = refl
    drop_all (y ∷ ys) = drop_all ys

abbrev pub feeds : List ℕ → ℕ
feeds [] = 0
feeds (c ∷ cs) = cond (is_line_feed c) (1 + feeds cs) (feeds cs)

pub feeds_count : (cs : List ℕ) → feeds cs ≡ count_by is_line_feed cs
feeds_count cs = is_count_by feeds is_line_feed refl (λ x xs. refl) cs

cond_add : (b : Bool) (x y z : ℕ) → x ≡ y + z → cond b (1 + x) x ≡ cond b (1 + y) y + z
cond_add true x y z e = omega arith
cond_add false x y z e = e

pub feeds_append : (xs ys : List ℕ) → feeds (xs ++ ys) ≡ feeds xs + feeds ys
feeds_append [] ys = omega arith
feeds_append (x ∷ xs) ys = cond_add (is_line_feed x) (feeds (xs ++ ys)) (feeds xs) (feeds ys) (feeds_append xs ys)

count_append : (xs ys : List ℕ) → count_by is_line_feed (xs ++ ys) ≡ count_by is_line_feed xs + feeds ys
count_append xs ys = sym (feeds_count (xs ++ ys)) ∙ feeds_append xs ys ∙ ap (λ (n : ℕ). n + feeds ys) (feeds_count xs)

width_push : (before : List ℕ) (c : ℕ) → width (before ++ c ∷ []) ≡ width before + len_utf8 c
width_push before c =
    let a : width (before ++ c ∷ []) ≡ width before + length (encode_utf8_all (c ∷ [])) =
    ap length (encodes-append before (c ∷ [])) ∙ length-append (encode_utf8_all before) (encode_utf8_all (c ∷ [])) in
    let b : length (encode_utf8_all (c ∷ [])) ≡ length (encode_utf8 c) + 0 = length-append (encode_utf8 c) [] in
    let e : length (encode_utf8 c) ≡ len_utf8 c = length-encode c in omega arith

-- a line feed begins a line
pub at_feed : (before : List ℕ) (place : Place) (c len : ℕ) → (c == 10) ≡ true → len ≡ len_utf8 c → IsAt before place →
    IsAt (before ++ c ∷ []) (record { at = place.at + len; line = place.line + 1; column = 0 })
at_feed before place c len e l h = record {
  at = let w : width (before ++ c ∷ []) ≡ width before + len_utf8 c = width_push before c in omega (arith, h.at);
  line = let n : count_by is_line_feed (before ++ c ∷ []) ≡ count_by is_line_feed before + feeds (c ∷ []) = count_append before (c ∷ []) in
      let one : feeds (c ∷ []) ≡ 1 = if_true (is_line_feed c) (1 + 0) 0 e in omega (arith, h.line);
  column = sym (ap length (last_ends is_line_feed before c e));
}

-- another character goes on with it
pub at_other : (before : List ℕ) (place : Place) (c len : ℕ) → (c == 10) ≡ false → len ≡ len_utf8 c → IsAt before place →
    IsAt (before ++ c ∷ []) (record { at = place.at + len; line = place.line; column = place.column + 1 })
at_other before place c len e l h = record {
  at = let w : width (before ++ c ∷ []) ≡ width before + len_utf8 c = width_push before c in omega (arith, h.at);
  line = let n : count_by is_line_feed (before ++ c ∷ []) ≡ count_by is_line_feed before + feeds (c ∷ []) = count_append before (c ∷ []) in
      let none : feeds (c ∷ []) ≡ 0 = if_false (is_line_feed c) (1 + 0) 0 e in omega (arith, h.line);
  column = let n : length (after_last is_line_feed (before ++ c ∷ [])) ≡ length (after_last is_line_feed before ++ c ∷ []) =
      ap length (last_goes_on is_line_feed before c e) in
      let len : length (after_last is_line_feed before ++ c ∷ []) ≡ length (after_last is_line_feed before) + 1 =
      length-append (after_last is_line_feed before) (c ∷ []) in
      omega (arith, h.column);
}

pub take_whole : (n : ℕ) (cs : List ℕ) → length cs ≤ n → take n cs ≡ cs
take_whole zero [] l = refl
take_whole zero (c ∷ cs) l = absurd (omega arith)
take_whole (suc n) [] l = refl
take_whole (suc n) (c ∷ cs) l = ap (λ xs. c ∷ xs) (take_whole n cs (omega arith))
