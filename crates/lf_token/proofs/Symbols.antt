use Rattle.std.proofs.Common.{
  ◌≡◌,
  ℕ,
  ◌+◌,
  ◌≤◌,
  ◌<◌,
  List,
  [],
  ◌∷◌,
  ◌++◌,
  length,
  take,
  drop,
  map,
  get_or,
  Bool,
  true,
  false,
  cond,
  ◌||◌,
  refl,
  sym,
  ap,
  ◌∙◌,
  arith,
  subst,
  zero,
  suc,
  max,
  ⊎_elim,
  append_assoc,
  Some,
  None,
  Option,
}
use Rattle.std.specs.Prelude.{bytes_eq, nat_eq, nat_lt, is_some}
use Rattle.std.specs.List.{starts_with, list_any}
use Rattle.std.specs.Str.{encode_utf8_all}
use Rattle.std.specs.Char.{encode_utf8, len_utf8}
use Rattle.std.proofs.lemmas.Slice.Eq.{bytes_eq-Decides}
use Rattle.std.proofs.lemmas.Str.{encodes_same, cons_from_encodes, encodes-append, length-encode, len_utf8_bounds}
use Rattle.std.proofs.lemmas.List.{take-append-drop, length-append, length-take-le}
use Rattle.std.proofs.Math.Seq.{take-append_seam}
use Rattle.std.proofs.lemmas.Bool.{cases_lt, ltb-true}
use Rattle.std.proofs.lemmas.Bool.Decides.{nat_tests}
use Rattle.lf_tables.specs.Rows.{Row, value_of, reached, longer, longest_of}
use Rattle.lf_token.specs.Spelling.{width}
use Rattle.lf_token.proofs.Logic.{or_left, or_right, or_false, false_from, if_true}

-- Tables

-- the bytes are one of these texts
abbrev pub is_among : List (List ℕ) → List ℕ → Bool
is_among texts bytes = list_any (λ text. bytes_eq text bytes) texts

abbrev pub keys : {V : Type 0} → List (Row V) → List (List ℕ)
keys [] = []
keys (r ∷ rows) = r.0 ∷ keys rows

-- the length of the key where the text begins with it, else 0
abbrev pub reach : List ℕ → List ℕ → ℕ
reach key text = cond (starts_with nat_eq text key) (length key) 0

-- the greatest length of one of the texts that the bytes begin with, or 0
abbrev pub longest_among : List (List ℕ) → List ℕ → ℕ
longest_among [] bytes = 0
longest_among (text ∷ texts) bytes = max (reach text bytes) (longest_among texts bytes)

abbrev pub length_of : {V : Type 0} → Option (ℕ × V) → ℕ
length_of None = 0
length_of (Some p) = p.0

longer_length : {V : Type 0} (a b : Option (ℕ × V)) → length_of (longer a b) ≡ max (length_of a) (length_of b)
longer_length None b = let e : length_of b ≡ max 0 (length_of b) = omega arith in e
longer_length (Some p) None = let e : p.0 ≡ max p.0 0 = omega arith in e
longer_length (Some p) (Some q) = step (nat_lt p.0 q.0) refl
  where
    step : (b : Bool) → nat_lt p.0 q.0 ≡ b → length_of (cond b (Some q) (Some p)) ≡ max p.0 q.0
    step true e = let l : p.0 < q.0 = ltb-true p.0 q.0 e in omega arith
    step false e = let l : q.0 ≤ p.0 = grind (arith, nat_tests) in omega arith

reached_length : {V : Type 0} (r : Row V) (bytes : List ℕ) → length_of (reached r bytes) ≡ reach r.0 bytes
reached_length {V} r bytes = step (starts_with nat_eq bytes r.0)
  where
    step : (b : Bool) → length_of {V = V} (cond b (Some (length r.0, r.1)) None) ≡ cond b (length r.0) 0
    step true = refl
    step false = refl

pub longest_of-keys : {V : Type 0} (rows : List (Row V)) (bytes : List ℕ) → length_of (longest_of rows bytes) ≡ longest_among (keys rows) bytes
longest_of-keys [] bytes = refl
longest_of-keys (r ∷ rows) bytes =
    longer_length (reached r bytes) (longest_of rows bytes)
    ∙ ap (λ (n : ℕ). max n (length_of (longest_of rows bytes))) (reached_length r bytes)
    ∙ ap (λ (n : ℕ). max (reach r.0 bytes) n) (longest_of-keys rows bytes)

take_front : (n : ℕ) (xs : List ℕ) → take (length (take n xs)) xs ≡ take n xs
take_front zero xs = refl
take_front (suc n) [] = refl
take_front (suc n) (x ∷ xs) = ap (λ ys. x ∷ ys) (take_front n xs)

-- a key that the text doesn't begin with is no front of it
no_front : (key bytes : List ℕ) (n : ℕ) → starts_with nat_eq bytes key ≡ false → bytes_eq key (take n bytes) ≡ false
no_front key bytes n e =
    false_from (bytes_eq key (take n bytes)) (λ f.
    let same : key ≡ take n bytes = (bytes_eq-Decides key (take n bytes)).0 f in
    let front : take (length key) bytes ≡ key = ap (λ (k : List ℕ). take (length k) bytes) same ∙ take_front n bytes ∙ sym same in
    sym e ∙ (bytes_eq-Decides key (take (length key) bytes)).1 (sym front))

starts_within : (key bytes : List ℕ) → starts_with nat_eq bytes key ≡ true → length key ≤ length bytes
starts_within key bytes e =
    let same : key ≡ take (length key) bytes = (bytes_eq-Decides key (take (length key) bytes)).0 e in
    let l : length (take (length key) bytes) ≤ length bytes = take-length-le (length key) bytes in
    let k : length key ≡ length (take (length key) bytes) = ap length same in omega arith
  where
    take-length-le : (n : ℕ) (xs : List ℕ) → length (take n xs) ≤ length xs
    take-length-le zero xs = omega arith
    take-length-le (suc n) [] = omega arith
    take-length-le (suc n) (x ∷ xs) = let l : length (take n xs) ≤ length xs = take-length-le n xs in omega arith

-- What the longest key that stands at the front is: where it is, and that it has the value of the front.
record Front {V : Type 0} (rows : List (Row V)) (bytes : List ℕ) (p : ℕ × V) : Type 0 where
  within : p.0 ≤ length bytes
  value : value_of (take p.0 bytes) rows ≡ Some p.1

here : {V : Type 0} (r : Row V) (rows : List (Row V)) (bytes : List ℕ) → starts_with nat_eq bytes r.0 ≡ true → Front (r ∷ rows) bytes (length r.0, r.1)
here r rows bytes e = record {
  within = starts_within r.0 bytes e;
  value = ap (λ b. cond b (Some r.1) (value_of (take (length r.0) bytes) rows)) e;
}

later : {V : Type 0} (r : Row V) (rows : List (Row V)) (bytes : List ℕ) (p : ℕ × V) → bytes_eq r.0 (take p.0 bytes) ≡ false → Front rows bytes p
    → Front (r ∷ rows) bytes p
later r rows bytes p e f = record { within = f.within; value = ap (λ b. cond b (Some r.1) (value_of (take p.0 bytes) rows)) e ∙ f.value }

longer_key : {V : Type 0} (r : Row V) (bytes : List ℕ) (p : ℕ × V) → p.0 ≤ length bytes → length r.0 < p.0 → bytes_eq r.0 (take p.0 bytes) ≡ false
longer_key r bytes p w l =
    false_from (bytes_eq r.0 (take p.0 bytes)) (λ f.
    let same : r.0 ≡ take p.0 bytes = (bytes_eq-Decides r.0 (take p.0 bytes)).0 f in
    let n : length r.0 ≡ p.0 = ap length same ∙ length-take-le p.0 bytes w in absurd (omega arith))

abbrev IsFront : {V : Type 0} → List (Row V) → List ℕ → Option (ℕ × V) → Type 0
IsFront rows bytes None = Unit {0}
IsFront rows bytes (Some p) = Front rows bytes p

front_step : {V : Type 0} (r : Row V) (rows : List (Row V)) (bytes : List ℕ) (b : Bool) (o : Option (ℕ × V)) → starts_with nat_eq bytes r.0 ≡ b
    → IsFront rows bytes o →
    IsFront (r ∷ rows) bytes (longer (cond b (Some (length r.0, r.1)) None) o)
front_step r rows bytes false None e f = tt
front_step r rows bytes false (Some p) e f = later r rows bytes p (no_front r.0 bytes p.0 e) f
front_step r rows bytes true None e f = here r rows bytes e
front_step r rows bytes true (Some p) e f = step (nat_lt (length r.0) p.0) refl
  where
    step : (c : Bool) → nat_lt (length r.0) p.0 ≡ c → IsFront (r ∷ rows) bytes (cond c (Some p) (Some (length r.0, r.1)))
    step true l = later r rows bytes p (longer_key r bytes p f.within (ltb-true (length r.0) p.0 l)) f
    step false l = here r rows bytes e

is_front : {V : Type 0} (rows : List (Row V)) (bytes : List ℕ) → IsFront rows bytes (longest_of rows bytes)
is_front [] bytes = tt
is_front (r ∷ rows) bytes = front_step r rows bytes (starts_with nat_eq bytes r.0) (longest_of rows bytes) refl (is_front rows bytes)

-- the longest key that stands at the front has the value that is found
pub longest_value : {V : Type 0} (rows : List (Row V)) (bytes : List ℕ) (n : ℕ) (v : V) → longest_of rows bytes ≡ Some (n, v)
    → value_of (take n bytes) rows ≡ Some v
longest_value rows bytes n v e = let f : Front rows bytes (n, v) = subst (λ o. IsFront rows bytes o) e (is_front rows bytes) in f.value

found_step : {V : Type 0} (b : Bool) (v : V) (o : Option V) (rest : Bool) → is_some o ≡ rest → is_some (cond b (Some v) o) ≡ b || rest
found_step true v o rest e = refl
found_step false v o rest e = e

-- a key is found exactly where it is among the keys
pub found-keys : {V : Type 0} (rows : List (Row V)) (text : List ℕ) → is_some (value_of text rows) ≡ is_among (keys rows) text
found-keys [] text = refl
found-keys (r ∷ rows) text = found_step (bytes_eq r.0 text) r.1 (value_of text rows) (is_among (keys rows) text) (found-keys rows text)

-- Bytes and characters

same_test : (a b : Bool) → (a ≡ true → b ≡ true) → (b ≡ true → a ≡ true) → a ≡ b
same_test true b f g = sym (f refl)
same_test false b f g = sym (false_from b (λ e. g e))

bytes_same : (xs ys : List ℕ) → bytes_eq xs ys ≡ true → xs ≡ ys
bytes_same xs ys e = (bytes_eq-Decides xs ys).0 e

same_bytes : (xs ys : List ℕ) → xs ≡ ys → bytes_eq xs ys ≡ true
same_bytes xs ys e = (bytes_eq-Decides xs ys).1 e

-- what begins with the bytes of some characters begins with these characters
begins : (key cs rest : List ℕ) → encode_utf8_all cs ≡ encode_utf8_all key ++ rest → (ds : List ℕ) × (cs ≡ key ++ ds)
begins [] cs rest e = (cs, refl)
begins (k ∷ key) cs rest e =
    let (es, first, behind) = cons_from_encodes cs (encode_utf8_all key ++ rest) k (e ∙ append_assoc (encode_utf8 k) (encode_utf8_all key) rest) in
    let (ds, same) = begins key es rest behind in (ds, first ∙ ap (λ xs. k ∷ xs) same)

starts_same : (key cs : List ℕ) → starts_with nat_eq (encode_utf8_all cs) (encode_utf8_all key) ≡ starts_with nat_eq cs key
starts_same key cs =
    same_test (starts_with nat_eq (encode_utf8_all cs) (encode_utf8_all key)) (starts_with nat_eq cs key)
    (λ e.
    let front : encode_utf8_all key ≡ take (length (encode_utf8_all key)) (encode_utf8_all cs) =
    bytes_same (encode_utf8_all key) (take (length (encode_utf8_all key)) (encode_utf8_all cs)) e in
    let (ds, same) = begins key cs (drop (length (encode_utf8_all key)) (encode_utf8_all cs))
    (sym (take-append-drop (length (encode_utf8_all key)) (encode_utf8_all cs))
    ∙ ap (λ xs. xs ++ drop (length (encode_utf8_all key)) (encode_utf8_all cs)) (sym front)) in
    same_bytes key (take (length key) cs) (sym (ap (take (length key)) same ∙ take-append_seam key ds)))
    (λ e.
    let front : key ≡ take (length key) cs = bytes_same key (take (length key) cs) e in
    let all : cs ≡ key ++ drop (length key) cs = sym (take-append-drop (length key) cs) ∙ ap (λ xs. xs ++ drop (length key) cs) (sym front) in
    same_bytes (encode_utf8_all key) (take (length (encode_utf8_all key)) (encode_utf8_all cs))
    (sym (ap (λ xs. take (length (encode_utf8_all key)) (encode_utf8_all xs)) all
    ∙ ap (take (length (encode_utf8_all key))) (encodes-append key (drop (length key) cs))
    ∙ take-append_seam (encode_utf8_all key) (encode_utf8_all (drop (length key) cs)))))

-- how far a text of characters reaches
abbrev reach_in : List ℕ → List ℕ → ℕ
reach_in key cs = cond (starts_with nat_eq cs key) (length key) 0

reach_step : (key cs : List ℕ) (b : Bool) → starts_with nat_eq cs key ≡ b → cond b (length (encode_utf8_all key)) 0 ≡ width (take (cond b (length key) 0) cs)
reach_step key cs true e = ap width (bytes_same key (take (length key) cs) e)
reach_step key cs false e = refl

reach_width : (key cs : List ℕ) → reach (encode_utf8_all key) (encode_utf8_all cs) ≡ width (take (reach_in key cs) cs)
reach_width key cs =
    ap (λ (b : Bool). cond b (length (encode_utf8_all key)) 0) (starts_same key cs) ∙ reach_step key cs (starts_with nat_eq cs key) refl

width_cons : (c : ℕ) (cs : List ℕ) → width (c ∷ cs) ≡ length (encode_utf8 c) + width cs
width_cons c cs = length-append (encode_utf8 c) (encode_utf8_all cs)

width_rises : (a b : ℕ) (cs : List ℕ) → a ≤ b → width (take a cs) ≤ width (take b cs)
width_rises zero b cs l = omega arith
width_rises (suc a) zero cs l = absurd (omega arith)
width_rises (suc a) (suc b) [] l = omega arith
width_rises (suc a) (suc b) (c ∷ cs) l =
    let ih : width (take a cs) ≤ width (take b cs) = width_rises a b cs (omega arith) in
    let x : width (c ∷ take a cs) ≡ length (encode_utf8 c) + width (take a cs) = width_cons c (take a cs) in
    let y : width (c ∷ take b cs) ≡ length (encode_utf8 c) + width (take b cs) = width_cons c (take b cs) in omega arith

-- each character has a byte
pub width_rises_strictly : (a b : ℕ) (cs : List ℕ) → a < b → b ≤ length cs → width (take a cs) < width (take b cs)
width_rises_strictly a zero cs l w = absurd (omega arith)
width_rises_strictly a (suc b) [] l w = absurd (omega arith)
width_rises_strictly zero (suc b) (c ∷ cs) l w =
    let y : width (c ∷ take b cs) ≡ length (encode_utf8 c) + width (take b cs) = width_cons c (take b cs) in
    let z : length (encode_utf8 c) ≡ len_utf8 c = length-encode c in
    let o : 1 ≤ len_utf8 c = (len_utf8_bounds c).0 in omega arith
width_rises_strictly (suc a) (suc b) (c ∷ cs) l w =
    let ih : width (take a cs) < width (take b cs) = width_rises_strictly a b cs (omega arith) (omega arith) in
    let x : width (c ∷ take a cs) ≡ length (encode_utf8 c) + width (take a cs) = width_cons c (take a cs) in
    let y : width (c ∷ take b cs) ≡ length (encode_utf8 c) + width (take b cs) = width_cons c (take b cs) in omega arith

width_max : (a b : ℕ) (cs : List ℕ) → max (width (take a cs)) (width (take b cs)) ≡ width (take (max a b) cs)
width_max a b cs =
    ⊎_elim
    (λ (l : a < b). let h : width (take a cs) ≤ width (take b cs) = width_rises a b cs (omega arith) in
    let e : max a b ≡ b = omega arith in
    let f : max (width (take a cs)) (width (take b cs)) ≡ width (take b cs) = omega arith in f ∙ ap (λ (n : ℕ). width (take n cs)) (sym e))
    (λ (l : b ≤ a). let h : width (take b cs) ≤ width (take a cs) = width_rises b a cs l in
    let e : max a b ≡ a = omega arith in
    let f : max (width (take a cs)) (width (take b cs)) ≡ width (take a cs) = omega arith in f ∙ ap (λ (n : ℕ). width (take n cs)) (sym e))
    (cases_lt a b)

-- The longest symbol

abbrev pub longest_in : List (List ℕ) → List ℕ → ℕ
longest_in [] cs = 0
longest_in (text ∷ texts) cs = max (reach_in text cs) (longest_in texts cs)

pub longest_width : (texts : List (List ℕ)) (cs : List ℕ) →
    longest_among (map encode_utf8_all texts) (encode_utf8_all cs) ≡ width (take (longest_in texts cs) cs)
longest_width [] cs = refl
longest_width (text ∷ texts) cs =
    ap (λ (n : ℕ). max n (longest_among (map encode_utf8_all texts) (encode_utf8_all cs))) (reach_width text cs)
    ∙ ap (λ (n : ℕ). max (width (take (reach_in text cs) cs)) n) (longest_width texts cs)
    ∙ width_max (reach_in text cs) (longest_in texts cs) cs

reach_within : (key cs : List ℕ) (b : Bool) → starts_with nat_eq cs key ≡ b → cond b (length key) 0 ≤ length cs
reach_within key cs true e =
    let front : key ≡ take (length key) cs = bytes_same key (take (length key) cs) e in
    let all : length (key ++ drop (length key) cs) ≡ length cs = ap length (ap (λ xs. xs ++ drop (length key) cs) front ∙ take-append-drop (length key) cs) in
    let sum : length (key ++ drop (length key) cs) ≡ length key + length (drop (length key) cs) = length-append key (drop (length key) cs) in omega arith
reach_within key cs false e = omega arith

pub longest_within : (texts : List (List ℕ)) (cs : List ℕ) → longest_in texts cs ≤ length cs
longest_within [] cs = omega arith
longest_within (text ∷ texts) cs =
    let a : reach_in text cs ≤ length cs = reach_within text cs (starts_with nat_eq cs text) refl in
    let b : longest_in texts cs ≤ length cs = longest_within texts cs in omega arith

reach_taken : (key cs : List ℕ) (b : Bool) → starts_with nat_eq cs key ≡ b → 0 < cond b (length key) 0 →
    bytes_eq (encode_utf8_all key) (encode_utf8_all (take (cond b (length key) 0) cs)) ≡ true
reach_taken key cs true e l = same_bytes (encode_utf8_all key) (encode_utf8_all (take (length key) cs))
    (ap encode_utf8_all (bytes_same key (take (length key) cs) e))
reach_taken key cs false e l = absurd (omega arith)

-- it is one of the texts
pub longest_taken : (texts : List (List ℕ)) (cs : List ℕ) → 0 < longest_in texts cs →
    is_among (map encode_utf8_all texts) (encode_utf8_all (take (longest_in texts cs) cs)) ≡ true
longest_taken [] cs l = absurd (omega arith)
longest_taken (text ∷ texts) cs l =
    ⊎_elim
    (λ (u : reach_in text cs < longest_in texts cs).
    let e : longest_in texts cs ≡ max (reach_in text cs) (longest_in texts cs) = omega arith in
    subst (λ (n : ℕ). is_among (map encode_utf8_all (text ∷ texts)) (encode_utf8_all (take n cs)) ≡ true) e
    (or_right (bytes_eq (encode_utf8_all text) (encode_utf8_all (take (longest_in texts cs) cs)))
    (is_among (map encode_utf8_all texts) (encode_utf8_all (take (longest_in texts cs) cs))) (longest_taken texts cs (omega arith))))
    (λ (u : longest_in texts cs ≤ reach_in text cs).
    let e : reach_in text cs ≡ max (reach_in text cs) (longest_in texts cs) = omega arith in
    subst (λ (n : ℕ). is_among (map encode_utf8_all (text ∷ texts)) (encode_utf8_all (take n cs)) ≡ true) e
    (or_left (bytes_eq (encode_utf8_all text) (encode_utf8_all (take (reach_in text cs) cs)))
    (is_among (map encode_utf8_all texts) (encode_utf8_all (take (reach_in text cs) cs)))
    (reach_taken text cs (starts_with nat_eq cs text) refl (omega arith))))
    (cases_lt (reach_in text cs) (longest_in texts cs))

-- and no longer front is one
pub longest_passed : (texts : List (List ℕ)) (cs : List ℕ) (m : ℕ) → longest_in texts cs < m → m ≤ length cs →
    is_among (map encode_utf8_all texts) (encode_utf8_all (take m cs)) ≡ false
longest_passed [] cs m l w = refl
longest_passed (text ∷ texts) cs m l w =
    or_false (bytes_eq (encode_utf8_all text) (encode_utf8_all (take m cs))) (is_among (map encode_utf8_all texts) (encode_utf8_all (take m cs)))
    (false_from (bytes_eq (encode_utf8_all text) (encode_utf8_all (take m cs))) (λ e.
    let same : text ≡ take m cs = encodes_same text (take m cs) (bytes_same (encode_utf8_all text) (encode_utf8_all (take m cs)) e) in
    let len : length text ≡ m = ap length same ∙ length-take-le m cs w in
    let starts : starts_with nat_eq cs text ≡ true = same_bytes text (take (length text) cs) (same ∙ ap (λ (n : ℕ). take n cs) (sym len)) in
    let far : reach_in text cs ≡ length text = if_true (starts_with nat_eq cs text) (length text) 0 starts in absurd (omega arith)))
    (longest_passed texts cs m (omega arith) w)

-- one character more
pub width_step : (cs : List ℕ) (n : ℕ) → n < length cs → width (take (n + 1) cs) ≡ width (take n cs) + len_utf8 (get_or cs n 0)
width_step [] n l = absurd (omega arith)
width_step (c ∷ cs) zero l =
    let x : width (c ∷ []) ≡ length (encode_utf8 c) + width [] = width_cons c [] in
    let z : length (encode_utf8 c) ≡ len_utf8 c = length-encode c in omega arith
width_step (c ∷ cs) (suc n) l =
    let ih : width (take (n + 1) cs) ≡ width (take n cs) + len_utf8 (get_or cs n 0) = width_step cs n (omega arith) in
    let x : width (c ∷ take (n + 1) cs) ≡ length (encode_utf8 c) + width (take (n + 1) cs) = width_cons c (take (n + 1) cs) in
    let y : width (c ∷ take n cs) ≡ length (encode_utf8 c) + width (take n cs) = width_cons c (take n cs) in
    let e : suc n + 1 ≡ suc (n + 1) = omega arith in
    ap (λ (m : ℕ). width (take m (c ∷ cs))) e ∙ (let r : width (c ∷ take (n + 1) cs) ≡ width (c ∷ take n cs) + len_utf8 (get_or cs n 0) = omega arith in r)

-- the number of characters that have so many bytes
pub chars_exact : (cs : List ℕ) (n bytes : ℕ) → n ≤ length cs → ((j : ℕ) → j < n → width (take j cs) < bytes) →
    (width (take n cs) < bytes → length cs ≤ n) → (k : ℕ) → k ≤ length cs → bytes ≡ width (take k cs) → n ≡ k
chars_exact cs n bytes w before stop k v e =
    ⊎_elim
    (λ (l : n < k). let h : width (take n cs) < width (take k cs) =
    width_rises_strictly n k cs l v in absurd (let z : length cs ≤ n = stop (omega arith) in omega arith))
    (λ (l : k ≤ n). ⊎_elim
    (λ (u : k < n). let h : width (take k cs) < bytes = before k u in absurd (omega arith))
    (λ (u : n ≤ k). let r : n ≡ k = omega arith in r)
    (cases_lt k n))
    (cases_lt n k)

-- the bytes of some characters at the front
pub take_width : (n : ℕ) (cs : List ℕ) → take (width (take n cs)) (encode_utf8_all cs) ≡ encode_utf8_all (take n cs)
take_width n cs =
    ap (take (width (take n cs))) (ap encode_utf8_all (sym (take-append-drop n cs)) ∙ encodes-append (take n cs) (drop n cs))
    ∙ take-append_seam (encode_utf8_all (take n cs)) (encode_utf8_all (drop n cs))

pub width_within : (cs : List ℕ) (n : ℕ) → n ≤ length cs → width (take n cs) ≤ width cs
width_within cs n l =
    let h : width (take n cs) ≤ width (take (length cs) cs) = width_rises n (length cs) cs l in
    let e : take (length cs) cs ≡ cs = take-length cs in subst (λ (xs : List ℕ). width (take n cs) ≤ width xs) e h
  where
    take-length : (xs : List ℕ) → take (length xs) xs ≡ xs
    take-length [] = refl
    take-length (x ∷ xs) = ap (λ ys. x ∷ ys) (take-length xs)
