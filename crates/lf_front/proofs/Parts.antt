-- On the parts of an identifier and the values of numerals, as loops read them.
use Rattle.std.proofs.Common.{
  ◌≡◌,
  ℕ,
  zero,
  suc,
  ◌+◌,
  ◌*◌,
  ◌-◌,
  ◌≤◌,
  ◌<◌,
  List,
  [],
  ◌∷◌,
  ◌++◌,
  length,
  drop,
  take,
  get_or,
  Bool,
  true,
  false,
  ◌&&◌,
  ◌==◌,
  nat_le,
  refl,
  sym,
  ap,
  ◌∙◌,
  arith,
  add-one,
  drop-cons,
  append-nil,
  append_assoc,
}
use Rattle.std.specs.List.{list_all}
use Rattle.std.proofs.lemmas.Bool.Decides.{nat_tests}
use Rattle.std.proofs.lemmas.List.Folds.{list_all_at}
use Rattle.lf_core.specs.Term.{Path}
use Rattle.lf_front.specs.Lexemes.{is_ascii, is_digit, value_after, onto_first, parts_of}

and_right : (a b : Bool) → a && b ≡ true → b ≡ true
and_right true b e = e
and_right false b e = cc

-- These bytes before those of the first part.
abbrev pub onto_first_part : List ℕ → Path → Path
onto_first_part w [] = w ∷ []
onto_first_part w (part ∷ parts) = (w ++ part) ∷ parts

onto_both : (w : List ℕ) (c : ℕ) (parts : Path) → onto_first_part w (onto_first c parts) ≡ onto_first_part (w ++ c ∷ []) parts
onto_both w c [] = refl
onto_both w c (part ∷ parts) = ap (λ p. p ∷ parts) (sym (append_assoc w (c ∷ []) part))

nothing_onto : (c : ℕ) (parts : Path) → onto_first_part [] (onto_first c parts) ≡ onto_first c parts
nothing_onto c [] = refl
nothing_onto c (part ∷ parts) = refl

onto_nothing_at : (c : ℕ) (cs : List ℕ) (b : Bool) → (c == 46) ≡ b → onto_first_part [] (parts_of (c ∷ cs)) ≡ parts_of (c ∷ cs)
onto_nothing_at c cs true e = rw e refl
onto_nothing_at c cs false e = rw e (nothing_onto c (parts_of cs))

pub onto_nothing : (cs : List ℕ) → onto_first_part [] (parts_of cs) ≡ parts_of cs
onto_nothing [] = refl
onto_nothing (c ∷ cs) = onto_nothing_at c cs (c == 46) refl

-- At a dot a part ends.
pub at_dot : (words : Path) (w cs : List ℕ) (n : ℕ) → n < length cs → (get_or cs n 0 == 46) ≡ true
    → (words ++ w ∷ []) ++ onto_first_part [] (parts_of (drop (n + 1) cs)) ≡ words ++ onto_first_part w (parts_of (drop n cs))
at_dot words w cs n l e =
    let after : Path = parts_of (drop (suc n) cs) in
    rw (add-one, drop-cons cs n 0 l, e, onto_nothing (drop (suc n) cs), append-nil w) (append_assoc words (w ∷ []) after)

-- Another byte is in the part.
pub at_byte : (words : Path) (w cs : List ℕ) (n : ℕ) → n < length cs → (get_or cs n 0 == 46) ≡ false
    → words ++ onto_first_part (w ++ get_or cs n 0 ∷ []) (parts_of (drop (n + 1) cs)) ≡ words ++ onto_first_part w (parts_of (drop n cs))
at_byte words w cs n l e = rw (add-one, drop-cons cs n 0 l, e) (ap (λ p. words ++ p) (sym (onto_both w (get_or cs n 0) (parts_of (drop (suc n) cs)))))

-- More digits are worth no less.
value_grows : (n : ℕ) (cs : List ℕ) → n ≤ value_after n cs
value_grows n [] = omega arith
value_grows n (c ∷ cs) = let more : 10 * n + (c - 48) ≤ value_after (10 * n + (c - 48)) cs = value_grows (10 * n + (c - 48)) cs in omega arith

pub too_large : (n : ℕ) (cs : List ℕ) → 32 < n → (b : Bool) → b && nat_le (value_after n cs) 32 ≡ false
too_large n cs l b = let more : n ≤ value_after n cs = value_grows n cs in grind (arith, nat_tests)

pub ascii_at : (cs : List ℕ) (n : ℕ) → list_all is_ascii cs ≡ true → n < length cs → get_or cs n 0 < 128
ascii_at [] n e l = omega arith
ascii_at (c ∷ cs) zero e l = grind (arith, nat_tests)
ascii_at (c ∷ cs) (suc n) e l = ascii_at cs n (and_right (is_ascii c) (list_all is_ascii cs) e) (omega arith)

pub not_all_digits : (cs : List ℕ) (n : ℕ) (b : Bool) → n < length cs → is_digit (get_or cs n 0) ≡ false → list_all is_digit cs && b ≡ false
not_all_digits cs n b l e = rw (list_all_at is_digit cs n 0 l e) refl
