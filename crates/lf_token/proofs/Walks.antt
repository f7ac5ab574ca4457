use Rattle.std.proofs.Common.{
  ◌≡◌,
  ℕ,
  ◌+◌,
  ◌-◌,
  ◌≤◌,
  ◌<◌,
  List,
  [],
  ◌∷◌,
  ◌++◌,
  length,
  take,
  drop,
  Bool,
  true,
  false,
  cond,
  ◌==◌,
  refl,
  sym,
  ap,
  ◌∙◌,
  subst,
  arith,
  zero,
  suc,
  append_assoc,
  append-nil,
  count_by,
  get_or,
}
use Rattle.std.specs.Str.{encode_utf8_all, all_scalars, chars}
use Rattle.std.specs.Char.{encode_utf8, len_utf8}
use Rattle.std.specs.List.{after_last}
use Rattle.std.proofs.lemmas.List.{length-append, take-append-drop, take_more}
use Rattle.std.proofs.Math.Seq.{take-append_seam, drop-append_seam}
use Rattle.std.proofs.lemmas.Str.{encodes-append, length-encode, chars-encodes, inside_one, length-le-encodes}
use Rattle.std.proofs.lemmas.List.Sums.{count_by-le-length}
use Rattle.std.proofs.lemmas.Bool.{eqb-true}
use Rattle.lf_text.specs.Place.{is_line_feed, line_of, column_of}
use Rattle.lf_text.specs.Lexemes.{piece_at, lexeme, lexemes_from}
use Rattle.lf_token.specs.declared.place.Place.{Place}
use Rattle.lf_token.specs.Places.{IsAt}
use Rattle.lf_token.specs.Spelling.{width}
use Rattle.lf_token.proofs.Logic.{and_left, and_right, and_both, if_false, false_from}
use Rattle.lf_token.proofs.LinePlaces.{feeds, feeds_count, feeds_append, last_goes_on, last_ends}

-- Fronts of a text

encode_cut : (n : ℕ) (cs : List ℕ) → encode_utf8_all cs ≡ encode_utf8_all (take n cs) ++ encode_utf8_all (drop n cs)
encode_cut n cs = ap encode_utf8_all (sym (take-append-drop n cs)) ∙ encodes-append (take n cs) (drop n cs)

pub take_width : (n : ℕ) (cs : List ℕ) → take (width (take n cs)) (encode_utf8_all cs) ≡ encode_utf8_all (take n cs)
take_width n cs = ap (take (width (take n cs))) (encode_cut n cs) ∙ take-append_seam (encode_utf8_all (take n cs)) (encode_utf8_all (drop n cs))

pub drop_width : (n : ℕ) (cs : List ℕ) → drop (width (take n cs)) (encode_utf8_all cs) ≡ encode_utf8_all (drop n cs)
drop_width n cs = ap (drop (width (take n cs))) (encode_cut n cs) ∙ drop-append_seam (encode_utf8_all (take n cs)) (encode_utf8_all (drop n cs))

pub scalars_take : (n : ℕ) (cs : List ℕ) → all_scalars cs ≡ true → all_scalars (take n cs) ≡ true
scalars_take zero cs e = refl
scalars_take (suc n) [] e = e
scalars_take (suc n) (c ∷ cs) e = and_both _ (all_scalars (take n cs)) (and_left _ (all_scalars cs) e) (scalars_take n cs (and_right _ (all_scalars cs) e))

pub scalars_drop : (n : ℕ) (cs : List ℕ) → all_scalars cs ≡ true → all_scalars (drop n cs) ≡ true
scalars_drop zero cs e = e
scalars_drop (suc n) [] e = e
scalars_drop (suc n) (c ∷ cs) e = scalars_drop n cs (and_right _ (all_scalars cs) e)

-- Tokens, piece by piece

lexemes_skip : (at k : ℕ) (cs : List ℕ) → k ≤ length cs → lexemes_from at k cs ≡ lexemes_from (at + width (take k cs)) 0 (drop k cs)
lexemes_skip at zero cs l = ap (λ (n : ℕ). lexemes_from n 0 cs) (let e : at ≡ at + 0 = omega arith in e)
lexemes_skip at (suc k) [] l = absurd (omega arith)
lexemes_skip at (suc k) (c ∷ cs) l =
    let w : width (c ∷ take k cs) ≡ length (encode_utf8 c) + width (take k cs) = length-append (encode_utf8 c) (encode_utf8_all (take k cs)) in
    let z : length (encode_utf8 c) ≡ len_utf8 c = length-encode c in
    lexemes_skip (at + len_utf8 c) k cs (omega arith)
    ∙ ap (λ (n : ℕ). lexemes_from n 0 (drop k cs)) (let e : at + len_utf8 c + width (take k cs) ≡ at + width (c ∷ take k cs) = omega arith in e)

pub lexemes_step : (at n : ℕ) (cs : List ℕ) → 0 < n → n ≤ length cs → n ≡ (piece_at cs).1 →
    lexemes_from at 0 cs ≡ lexeme at (take n cs) (piece_at cs).0 ++ lexemes_from (at + width (take n cs)) 0 (drop n cs)
lexemes_step at zero cs l w e = absurd (omega arith)
lexemes_step at (suc n) [] l w e = absurd (omega arith)
lexemes_step at (suc n) (c ∷ cs) l w e =
    let p = piece_at (c ∷ cs) in
    let v : width (c ∷ take n cs) ≡ length (encode_utf8 c) + width (take n cs) = length-append (encode_utf8 c) (encode_utf8_all (take n cs)) in
    let z : length (encode_utf8 c) ≡ len_utf8 c = length-encode c in
    ap (λ (m : ℕ). lexeme at (take m (c ∷ cs)) (piece_at (c ∷ cs)).0 ++ lexemes_from (at + len_utf8 c) (m - 1) cs) (sym e)
    ∙ ap (λ (m : ℕ). lexeme at (take (suc n) (c ∷ cs)) (piece_at (c ∷ cs)).0 ++ lexemes_from (at + len_utf8 c) m cs) (let a : suc n - 1 ≡ n = omega arith in a)
    ∙ ap (λ ts. lexeme at (take (suc n) (c ∷ cs)) (piece_at (c ∷ cs)).0 ++ ts)
    (lexemes_skip (at + len_utf8 c) n cs (omega arith)
    ∙ ap (λ (m : ℕ). lexemes_from m 0 (drop n cs)) (let a : at + len_utf8 c + width (take n cs) ≡ at + width (c ∷ take n cs) = omega arith in a))

-- Lines and columns

-- a character but the line feed has no such byte
no_feed : (c : ℕ) → (c == 10) ≡ false → (ys zs : List ℕ) → encode_utf8 c ≡ ys ++ zs → (y : ℕ) (ws : List ℕ) → zs ≡ y ∷ ws → is_line_feed y ≡ false
no_feed c e ys zs cut y ws z =
    false_from (is_line_feed y) (λ f.
    let ten : y ≡ 10 = eqb-true y 10 f in
    let all : encode_utf8 c ≡ ys ++ (y ∷ ws) = cut ∙ ap (λ xs. ys ++ xs) z in
    let here : get_or (encode_utf8 c) (length ys) 0 ≡ y = ap (λ xs. get_or xs (length ys) 0) all ∙ at_seam ys y ws in
    let len : length (encode_utf8 c) ≡ length ys + suc (length ws) = ap length all ∙ length-append ys (y ∷ ws) in
    let same : c ≡ get_or (encode_utf8 c) (length ys) 0 =
    inside_one c [] (encode_utf8 c) (length ys) (sym (append-nil (encode_utf8 c))) (omega arith) (omega arith) in
    sym e ∙ ap (λ (x : ℕ). x == 10) (same ∙ here ∙ ten))
  where
    at_seam : (xs : List ℕ) (x : ℕ) (vs : List ℕ) → get_or (xs ++ x ∷ vs) (length xs) 0 ≡ x
    at_seam [] x vs = refl
    at_seam (w ∷ xs) x vs = at_seam xs x vs

feeds_none : (c : ℕ) → (c == 10) ≡ false → (ys zs : List ℕ) → encode_utf8 c ≡ ys ++ zs → feeds zs ≡ 0
feeds_none c e ys [] cut = refl
feeds_none c e ys (z ∷ zs) cut =
    if_false (is_line_feed z) (1 + feeds zs) (feeds zs) (no_feed c e ys (z ∷ zs) cut z zs refl)
    ∙ feeds_none c e (ys ++ z ∷ []) zs (cut ∙ sym (append_assoc ys (z ∷ []) zs))

feed_bytes : encode_utf8 10 ≡ 10 ∷ []
unfolding encode_utf8
feed_bytes = refl

feeds_char : (c : ℕ) (b : Bool) → (c == 10) ≡ b → feeds (encode_utf8 c) ≡ cond b 1 0
feeds_char c true e = ap (λ (x : ℕ). feeds (encode_utf8 x)) (eqb-true c 10 e) ∙ ap feeds feed_bytes
feeds_char c false e = feeds_none c e [] (encode_utf8 c) refl

cond_sum : (b : Bool) (n : ℕ) → cond b 1 0 + n ≡ cond b (1 + n) n
cond_sum true n = refl
cond_sum false n = omega arith

feeds_encode : (cs : List ℕ) → feeds (encode_utf8_all cs) ≡ feeds cs
feeds_encode [] = refl
feeds_encode (c ∷ cs) =
    feeds_append (encode_utf8 c) (encode_utf8_all cs)
    ∙ ap (λ (n : ℕ). n + feeds (encode_utf8_all cs)) (feeds_char c (c == 10) refl)
    ∙ ap (λ (n : ℕ). cond (c == 10) 1 0 + n) (feeds_encode cs) ∙ cond_sum (c == 10) (feeds cs)

last_none : (c : ℕ) → (c == 10) ≡ false → (xs ys zs : List ℕ) → encode_utf8 c ≡ ys ++ zs → after_last is_line_feed (xs ++ zs) ≡ after_last is_line_feed xs ++ zs
last_none c e xs ys [] cut = ap (after_last is_line_feed) (append-nil xs) ∙ sym (append-nil (after_last is_line_feed xs))
last_none c e xs ys (z ∷ zs) cut =
    ap (after_last is_line_feed) (sym (append_assoc xs (z ∷ []) zs))
    ∙ last_none c e (xs ++ z ∷ []) (ys ++ z ∷ []) zs (cut ∙ sym (append_assoc ys (z ∷ []) zs))
    ∙ ap (λ vs. vs ++ zs) (last_goes_on is_line_feed xs z (no_feed c e ys (z ∷ zs) cut z zs refl))
    ∙ append_assoc (after_last is_line_feed xs) (z ∷ []) zs

encode_push : (xs : List ℕ) (c : ℕ) → encode_utf8_all (xs ++ c ∷ []) ≡ encode_utf8_all xs ++ encode_utf8 c
encode_push xs c = encodes-append xs (c ∷ []) ∙ ap (λ ys. encode_utf8_all xs ++ ys) (append-nil (encode_utf8 c))

last_push : (xs : List ℕ) (c : ℕ) (b : Bool) → (c == 10) ≡ b → after_last is_line_feed (encode_utf8_all xs) ≡ encode_utf8_all (after_last is_line_feed xs) →
    after_last is_line_feed (encode_utf8_all (xs ++ c ∷ [])) ≡ encode_utf8_all (after_last is_line_feed (xs ++ c ∷ []))
last_push xs c true e ih =
    ap (after_last is_line_feed) (encode_push xs c ∙ ap (λ (x : ℕ). encode_utf8_all xs ++ encode_utf8 x) (eqb-true c 10 e)
    ∙ ap (λ ys. encode_utf8_all xs ++ ys) feed_bytes)
    ∙ last_ends is_line_feed (encode_utf8_all xs) 10 refl
    ∙ sym (ap encode_utf8_all (last_ends is_line_feed xs c e))
last_push xs c false e ih =
    ap (after_last is_line_feed) (encode_push xs c) ∙ last_none c e (encode_utf8_all xs) [] (encode_utf8 c) refl
    ∙ ap (λ ys. ys ++ encode_utf8 c) ih ∙ sym (encode_push (after_last is_line_feed xs) c) ∙ sym (ap encode_utf8_all (last_goes_on is_line_feed xs c e))

last_encode : (cs : List ℕ) (n : ℕ) → n ≤ length cs
    → after_last is_line_feed (encode_utf8_all (take n cs)) ≡ encode_utf8_all (after_last is_line_feed (take n cs))
last_encode cs zero l = refl
last_encode cs (suc n) l =
    let in_range : n < length cs = omega arith in
    let e : take (suc n) cs ≡ take n cs ++ get_or cs n 0 ∷ [] =
    ap (λ (m : ℕ). take m cs) (let a : suc n ≡ n + 1 = omega arith in a) ∙ take_more cs n 0 in_range in
    subst (λ (xs : List ℕ). after_last is_line_feed (encode_utf8_all xs) ≡ encode_utf8_all (after_last is_line_feed xs)) (sym e)
    (last_push (take n cs) (get_or cs n 0) (get_or cs n 0 == 10) refl (last_encode cs n (omega arith)))

-- the line and the column of a place are those of the text
pub line_is : (cs : List ℕ) (n : ℕ) (place : Place) → IsAt (take n cs) place → place.line ≡ line_of (encode_utf8_all cs) place.at
line_is cs n place h =
    h.line ∙ ap (λ (k : ℕ). 1 + k)
    (sym (feeds_count (take n cs)) ∙ sym (feeds_encode (take n cs)) ∙ feeds_count (encode_utf8_all (take n cs))
    ∙ ap (count_by is_line_feed) (sym (ap (λ (k : ℕ). take k (encode_utf8_all cs)) h.at ∙ take_width n cs)))

pub column_is : (cs : List ℕ) (n : ℕ) (place : Place) → n ≤ length cs → all_scalars cs ≡ true → IsAt (take n cs) place
    → place.column ≡ column_of (encode_utf8_all cs) place.at
column_is cs n place l s h =
    h.column
    ∙ ap length (sym (chars-encodes (after_last is_line_feed (take n cs)) (scalars_drop _ (take n cs) (scalars_take n cs s))))
    ∙ ap (λ (bs : List ℕ). length (chars bs)) (sym (last_encode cs n l))
    ∙ ap (λ (bs : List ℕ). length (chars (after_last is_line_feed bs))) (sym (ap (λ (k : ℕ). take k (encode_utf8_all cs)) h.at ∙ take_width n cs))

-- they are no greater than the place
pub record Bounds (place : Place) : Type 0 where
  pub line : place.line ≤ place.at + 1
  pub column : place.column ≤ place.at

pub bounds_of : (before : List ℕ) (place : Place) → IsAt before place → Bounds place
bounds_of before place h =
    let w : length before ≤ width before = length-le-encodes before in
    let n : count_by is_line_feed before ≤ length before = count_by-le-length is_line_feed before in
    let d : length (after_last is_line_feed before) ≤ length before = last_within before in
    record { line = omega (arith, h.line, h.at); column = omega (arith, h.column, h.at) }
  where
    last_within : (xs : List ℕ) → length (after_last is_line_feed xs) ≤ length xs
    last_within xs = drop_within _ xs
      where
        drop_within : (k : ℕ) (ys : List ℕ) → length (drop k ys) ≤ length ys
        drop_within zero ys = omega arith
        drop_within (suc k) [] = omega arith
        drop_within (suc k) (y ∷ ys) = let r : length (drop k ys) ≤ length ys = drop_within k ys in omega arith
