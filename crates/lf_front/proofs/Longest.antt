-- How far the scanner goes is the longest lexeme.
use Rattle.std.proofs.Common.{
  ◌≡◌,
  ℕ,
  zero,
  suc,
  ◌+◌,
  ◌≤◌,
  ◌<◌,
  List,
  [],
  ◌∷◌,
  length,
  take,
  drop,
  get_or,
  Bool,
  true,
  false,
  cond,
  ◌||◌,
  ◌&&◌,
  ◌==◌,
  refl,
  sym,
  ap,
  ◌∙◌,
  arith,
  min,
  drop-cons,
  add-one,
  one-add,
  subst,
  ⊎_elim,
  ◌⊎◌,
  inl,
  inr,
  codes,
}
use Rattle.std.specs.List.{list_all, prefix_len}
use Rattle.std.specs.Str.{bytes_eq}
use Rattle.std.proofs.lemmas.List.{length-take, length-take-le}
use Rattle.std.proofs.lemmas.Bool.{eqb-true, eq-eqb}
use Rattle.std.proofs.lemmas.Slice.Eq.{bytes_eq-Decides}
use Rattle.std.proofs.lemmas.List.Sums.{prefix_len-le-length}
use Rattle.lf_front.specs.Lexemes.{starts, goes_on, goes_over, part_next, is_tail, is_digit, is_symbol, is_lexeme, arrow, for_all, IsLongest}
use Rattle.lf_front.specs.Scan.{tail_len, symbol_len}

or_more : (a b c : Bool) → (b ≡ true → c ≡ true) → a || b ≡ true → a || c ≡ true
or_more true b c f e = refl
or_more false b c f e = f e

and_more : (a b c : Bool) → (b ≡ true → c ≡ true) → a && b ≡ true → a && c ≡ true
and_more true b c f e = f e
and_more false b c f e = e

and_left : (a b : Bool) → a && b ≡ true → a ≡ true
and_left true b e = refl
and_left false b e = e

and_right : (a b : Bool) → a && b ≡ true → b ≡ true
and_right true b e = e
and_right false b e = cc

and_both : (a b : Bool) → a ≡ true → b ≡ true → a && b ≡ true
and_both true b e f = f
and_both false b e f = e

or_cases : (a b : Bool) → a || b ≡ true → (a ≡ true) ⊎ (b ≡ true)
or_cases true b e = inl refl
or_cases false b e = inr e

or_right : (a b : Bool) → b ≡ true → a || b ≡ true
or_right true b e = refl
or_right false b e = e

or_left : (a b : Bool) → a ≡ true → a || b ≡ true
or_left true b e = refl
or_left false b e = cc

part_more : (m : ℕ) (cs : List ℕ) → part_next (take m cs) ≡ true → part_next cs ≡ true
part_more zero cs e = cc
part_more (suc m) [] e = e
part_more (suc m) (c ∷ cs) e = e

of_bytes_eq : (xs ys : List ℕ) → bytes_eq xs ys ≡ true → xs ≡ ys
of_bytes_eq xs ys e = (bytes_eq-Decides xs ys).0 e

not_below : 1 ≤ 0 → ⊥
not_below l = omega arith

-- A tail is no longer than the scan goes.
tail_longest : (cs : List ℕ) (m : ℕ) → m ≤ length cs → is_tail (take m cs) ≡ true → m ≤ tail_len cs
tail_longest cs zero l e = omega arith
tail_longest [] (suc m) l e = l
tail_longest (c ∷ cs) (suc m) l e =
    let here : goes_over c cs ≡ true =
    or_more (goes_on c) ((c == 46) && part_next (take m cs)) ((c == 46) && part_next cs)
    (and_more (c == 46) (part_next (take m cs)) (part_next cs) (part_more m cs)) (and_left (goes_over c (take m cs)) (is_tail (take m cs)) e) in
    let more : m ≤ tail_len cs = tail_longest cs m (omega arith) (and_right (goes_over c (take m cs)) (is_tail (take m cs)) e) in
    subst (λ (b : Bool). suc m ≤ cond b (tail_len cs + 1) 0) (sym here) (omega arith)

within_cond : (b : Bool) (n m : ℕ) → n ≤ m → cond b (n + 1) 0 ≤ suc m
within_cond true n m l = omega arith
within_cond false n m l = omega arith

tail_within : (cs : List ℕ) → tail_len cs ≤ length cs
tail_within [] = omega arith
tail_within (c ∷ cs) = within_cond (goes_over c cs) (tail_len cs) (length cs) (tail_within cs)

take_step : (n : ℕ) (c : ℕ) (cs : List ℕ) → take (n + 1) (c ∷ cs) ≡ c ∷ take n cs
take_step n c cs = rw add-one refl

-- The part behind a dot is in what the scan takes.
part_taken : (cs : List ℕ) → part_next cs ≡ true → part_next (take (tail_len cs) cs) ≡ true
part_taken [] e = e
part_taken (c ∷ cs) e =
    let on : goes_over c cs ≡ true = or_left (goes_on c) ((c == 46) && part_next cs) (or_left (starts c) (is_digit c) e) in
    subst (λ (b : Bool). part_next (take (cond b (tail_len cs + 1) 0) (c ∷ cs)) ≡ true) (sym on) (rw (take_step (tail_len cs) c cs) e)

passes_step : (c : ℕ) (cs : List ℕ) (b : Bool) → goes_over c cs ≡ b → is_tail (take (tail_len cs) cs) ≡ true →
    is_tail (take (cond b (tail_len cs + 1) 0) (c ∷ cs)) ≡ true
passes_step c cs false e ih = refl
passes_step c cs true e ih =
    rw (take_step (tail_len cs) c cs)
    (and_both (goes_over c (take (tail_len cs) cs)) (is_tail (take (tail_len cs) cs))
    (or_more (goes_on c) ((c == 46) && part_next cs) ((c == 46) && part_next (take (tail_len cs) cs))
    (and_more (c == 46) (part_next cs) (part_next (take (tail_len cs) cs)) (part_taken cs)) e)
    ih)

-- What the scan takes is a tail.
tail_passes : (cs : List ℕ) → is_tail (take (tail_len cs) cs) ≡ true
tail_passes [] = refl
tail_passes (c ∷ cs) = passes_step c cs (goes_over c cs) refl (tail_passes cs)

-- One step of the scan of a tail.
pub tail_step : (cs : List ℕ) (n : ℕ) → n < length cs →
    tail_len (drop n cs) ≡ cond (goes_over (get_or cs n 0) (drop (n + 1) cs)) (tail_len (drop (n + 1) cs) + 1) 0
tail_step cs n l = rw (add-one, drop-cons cs n 0) refl

-- The longest front of which each passes.
prefix_longest : (p : ℕ → Bool) (cs : List ℕ) (m : ℕ) → m ≤ length cs → list_all p (take m cs) ≡ true → m ≤ prefix_len p cs
prefix_longest p cs zero l e = omega arith
prefix_longest p [] (suc m) l e = l
prefix_longest p (c ∷ cs) (suc m) l e =
    let more : m ≤ prefix_len p cs = prefix_longest p cs m (omega arith) (and_right (p c) (list_all p (take m cs)) e) in
    let here : p c ≡ true = and_left (p c) (list_all p (take m cs)) e in
    subst (λ (b : Bool). suc m ≤ cond b (1 + prefix_len p cs) 0) (sym here) (omega arith)

take_one_more : (n : ℕ) (c : ℕ) (cs : List ℕ) → take (1 + n) (c ∷ cs) ≡ c ∷ take n cs
take_one_more n c cs = rw one-add refl

prefix_step : (p : ℕ → Bool) (c : ℕ) (cs : List ℕ) (b : Bool) → p c ≡ b → list_all p (take (prefix_len p cs) cs) ≡ true →
    list_all p (take (cond b (1 + prefix_len p cs) 0) (c ∷ cs)) ≡ true
prefix_step p c cs false e ih = refl
prefix_step p c cs true e ih = rw (take_one_more (prefix_len p cs) c cs) (and_both (p c) (list_all p (take (prefix_len p cs) cs)) e ih)

prefix_passes : (p : ℕ → Bool) (cs : List ℕ) → list_all p (take (prefix_len p cs) cs) ≡ true
prefix_passes p [] = refl
prefix_passes p (c ∷ cs) = prefix_step p c cs (p c) refl (prefix_passes p cs)

identifier_bound : (c : ℕ) (cs : List ℕ) → starts c ≡ true → (m : ℕ) → m ≤ suc (length cs) → is_lexeme (take m (c ∷ cs)) ≡ true → m ≤ tail_len cs + 1
identifier_bound c cs e zero l p = omega arith
identifier_bound c cs e (suc m) l p = let p' = rw e at p in let w : m ≤ tail_len cs = tail_longest cs m (omega arith) p' in omega arith

identifier_longest : (c : ℕ) (cs : List ℕ) → starts c ≡ true → IsLongest is_lexeme (c ∷ cs) (tail_len cs + 1)
identifier_longest c cs e = record {
  within = let w : tail_len cs ≤ length cs = tail_within cs in omega arith;
  passes = rw (take_step (tail_len cs) c cs, e) (tail_passes cs);
  longest = identifier_bound c cs e;
}

number_bound : (c : ℕ) (cs : List ℕ) → starts c ≡ false → is_digit c ≡ true → (m : ℕ) → m ≤ suc (length cs) → is_lexeme (take m (c ∷ cs)) ≡ true
    → m ≤ prefix_len goes_on cs + 1
number_bound c cs e d zero l p = omega arith
number_bound c cs e d (suc m) l p = let p' = rw (e, d) at p in let w : m ≤ prefix_len goes_on cs = prefix_longest goes_on cs m (omega arith) p' in omega arith

number_longest : (c : ℕ) (cs : List ℕ) → starts c ≡ false → is_digit c ≡ true → IsLongest is_lexeme (c ∷ cs) (prefix_len goes_on cs + 1)
number_longest c cs e d = record {
  within = let w : prefix_len goes_on cs ≤ length cs = prefix_len-le-length goes_on cs in omega arith;
  passes = rw (take_step (prefix_len goes_on cs) c cs, e, d) (prefix_passes goes_on cs);
  longest = number_bound c cs e d;
}

-- The front of this length, where it is one of the longer symbols, has it.
same_length : (m : ℕ) (cs symbol : List ℕ) → m ≤ length cs → bytes_eq (take m cs) symbol ≡ true → m ≡ length symbol
same_length m cs symbol l e = sym (length-take-le m cs l) ∙ ap length (of_bytes_eq (take m cs) symbol e)

three_when : (cs : List ℕ) → bytes_eq (take 3 cs) arrow || bytes_eq (take 3 cs) for_all ≡ true → symbol_len cs ≡ 3
three_when cs e = rw e refl

two_at_least : (cs : List ℕ) (b d : Bool) → bytes_eq (take 3 cs) arrow || bytes_eq (take 3 cs) for_all ≡ b → bytes_eq (take 2 cs) (codes "->") ≡ d → d ≡ true
    → 2 ≤ symbol_len cs
two_at_least cs true d e f g = rw e (omega arith)
two_at_least cs false true e f g = rw (e, f) (omega arith)
two_at_least cs false false e f g = cc

one_at_least : (cs : List ℕ) (b d : Bool) → bytes_eq (take 3 cs) arrow || bytes_eq (take 3 cs) for_all ≡ b → bytes_eq (take 2 cs) (codes "->") ≡ d
    → 1 ≤ symbol_len cs
one_at_least cs true d e f = rw e (omega arith)
one_at_least cs false true e f = rw (e, f) (omega arith)
one_at_least cs false false e f = rw (e, f) (omega arith)

symbol_bound : (cs : List ℕ) (m : ℕ) → m ≤ length cs → is_symbol (take m cs) ≡ true → m ≤ symbol_len cs
symbol_bound cs m l e =
    ⊎_elim
    (λ (one : (length (take m cs) == 1) ≡ true).
    let low : 1 ≤ symbol_len cs = one_at_least cs _ _ refl refl in
    let is : length (take m cs) ≡ 1 = eqb-true (length (take m cs)) 1 one in
    let long : length (take m cs) ≡ m = length-take-le m cs l in omega arith)
    (λ (more : bytes_eq (take m cs) arrow || (bytes_eq (take m cs) for_all || bytes_eq (take m cs) (codes "->")) ≡ true). ⊎_elim
    (λ (a : bytes_eq (take m cs) arrow ≡ true). let three : m ≡ 3 = same_length m cs arrow l a in
    let full : symbol_len cs ≡ 3 = three_when cs (or_left (bytes_eq (take 3 cs) arrow) (bytes_eq (take 3 cs) for_all) (rw three at a)) in omega arith)
    (λ (rest : bytes_eq (take m cs) for_all || bytes_eq (take m cs) (codes "->") ≡ true). ⊎_elim
    (λ (a : bytes_eq (take m cs) for_all ≡ true). let three : m ≡ 3 = same_length m cs for_all l a in
    let full : symbol_len cs ≡ 3 = three_when cs (or_right (bytes_eq (take 3 cs) arrow) (bytes_eq (take 3 cs) for_all) (rw three at a)) in omega arith)
    (λ (a : bytes_eq (take m cs) (codes "->") ≡ true). let two : m ≡ 2 = same_length m cs (codes "->") l a in
    let full : 2 ≤ symbol_len cs = two_at_least cs _ _ refl refl (rw two at a) in omega arith)
    (or_cases (bytes_eq (take m cs) for_all) (bytes_eq (take m cs) (codes "->")) rest))
    (or_cases (bytes_eq (take m cs) arrow) (bytes_eq (take m cs) for_all || bytes_eq (take m cs) (codes "->")) more))
    (or_cases (length (take m cs) == 1) (bytes_eq (take m cs) arrow || (bytes_eq (take m cs) for_all || bytes_eq (take m cs) (codes "->"))) e)

long_passes : (a b d : Bool) → a || b ≡ true → a || (b || d) ≡ true
long_passes true b d e = refl
long_passes false true d e = refl
long_passes false false d e = cc

pass_at_one : (m : ℕ) (cs : List ℕ) → m ≤ length cs → m ≡ 1 → is_symbol (take m cs) ≡ true
pass_at_one m cs l one =
    let is : length (take m cs) ≡ 1 = length-take-le m cs l ∙ one in or_left (length (take m cs) == 1) _ (eq-eqb (length (take m cs)) 1 is)

-- The front of the length that the scanner takes is a symbol, or one byte.
symbol_passes : (cs : List ℕ) → 1 ≤ length cs → (b d : Bool) → bytes_eq (take 3 cs) arrow || bytes_eq (take 3 cs) for_all ≡ b
    → bytes_eq (take 2 cs) (codes "->") ≡ d
    → is_symbol (take (symbol_len cs) cs) ≡ true
symbol_passes cs l true d e f = rw e (or_right (length (take 3 cs) == 1) _
    (long_passes (bytes_eq (take 3 cs) arrow) (bytes_eq (take 3 cs) for_all) (bytes_eq (take 3 cs) (codes "->")) e))
symbol_passes cs l false true e f = rw (e, f)
    (or_right (length (take 2 cs) == 1) _ (or_right (bytes_eq (take 2 cs) arrow) _ (or_right (bytes_eq (take 2 cs) for_all) _ f)))
symbol_passes cs l false false e f = rw (e, f) (pass_at_one 1 cs l refl)

within_when : (n : ℕ) (cs symbol : List ℕ) → length symbol ≡ n → bytes_eq (take n cs) symbol ≡ true → n ≤ length cs
within_when n cs symbol long e =
    let is : length (take n cs) ≡ n = ap length (of_bytes_eq (take n cs) symbol e) ∙ long in
    let cut : length (take n cs) ≡ min n (length cs) = length-take n cs in omega arith

-- And it lies within the bytes.
symbol_within : (cs : List ℕ) → 1 ≤ length cs → (b d : Bool) → bytes_eq (take 3 cs) arrow || bytes_eq (take 3 cs) for_all ≡ b
    → bytes_eq (take 2 cs) (codes "->") ≡ d
    → symbol_len cs ≤ length cs
symbol_within cs l true d e f =
    let long : 3 ≤ length cs = ⊎_elim (within_when 3 cs arrow refl) (within_when 3 cs for_all refl)
    (or_cases (bytes_eq (take 3 cs) arrow) (bytes_eq (take 3 cs) for_all) e) in
    rw e long
symbol_within cs l false true e f = let long : 2 ≤ length cs = within_when 2 cs (codes "->") refl f in rw (e, f) long
symbol_within cs l false false e f = rw (e, f) l

symbol_lexeme : (c : ℕ) (cs : List ℕ) → starts c ≡ false → is_digit c ≡ false → (m : ℕ) → is_lexeme (take m (c ∷ cs)) ≡ true
    → is_symbol (take m (c ∷ cs)) ≡ true
symbol_lexeme c cs s d zero p = cc
symbol_lexeme c cs s d (suc m) p = let p' = rw (s, d) at p in p'

back_to_lexeme : (c : ℕ) (cs : List ℕ) → starts c ≡ false → is_digit c ≡ false → (m : ℕ) → 1 ≤ m → is_symbol (take m (c ∷ cs)) ≡ true
    → is_lexeme (take m (c ∷ cs)) ≡ true
back_to_lexeme c cs s d zero l p = absurd (not_below l)
back_to_lexeme c cs s d (suc m) l p = rw (s, d) p

symbol_longest : (c : ℕ) (cs : List ℕ) → starts c ≡ false → is_digit c ≡ false → IsLongest is_lexeme (c ∷ cs) (symbol_len (c ∷ cs))
symbol_longest c cs s d = record {
  within = symbol_within (c ∷ cs) (omega arith) _ _ refl refl;
  passes = back_to_lexeme c cs s d (symbol_len (c ∷ cs)) (one_at_least (c ∷ cs) _ _ refl refl) (symbol_passes (c ∷ cs) (omega arith) _ _ refl refl);
  longest = λ m l p. symbol_bound (c ∷ cs) m l (symbol_lexeme c cs s d m p);
}

-- The scanner takes the longest lexeme.
pub identifier_front : (cs : List ℕ) (n : ℕ) → 0 < length cs → starts (get_or cs 0 0) ≡ true → n ≡ tail_len (drop 1 cs) → IsLongest is_lexeme cs (n + 1)
identifier_front [] n l s e = absurd (not_below l)
identifier_front (c ∷ cs) n l s e = rw e (identifier_longest c cs s)

pub number_front : (cs : List ℕ) (n : ℕ) → 0 < length cs → starts (get_or cs 0 0) ≡ false → is_digit (get_or cs 0 0) ≡ true → n ≡ prefix_len goes_on (drop 1 cs)
    → IsLongest is_lexeme cs (n + 1)
number_front [] n l s d e = absurd (not_below l)
number_front (c ∷ cs) n l s d e = rw e (number_longest c cs s d)

pub symbol_front : (cs : List ℕ) (n : ℕ) → 0 < length cs → starts (get_or cs 0 0) ≡ false → is_digit (get_or cs 0 0) ≡ false → n ≡ symbol_len cs
    → IsLongest is_lexeme cs n
symbol_front [] n l s d e = absurd (not_below l)
symbol_front (c ∷ cs) n l s d e = rw e (symbol_longest c cs s d)
