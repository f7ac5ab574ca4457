use Rattle.std.proofs.Common.{
  ◌≡◌,
  ℕ,
  ◌+◌,
  ◌-◌,
  ◌≤◌,
  ◌<◌,
  List,
  [],
  ◌∷◌,
  length,
  drop,
  get_or,
  Bool,
  true,
  false,
  cond,
  ◌&&◌,
  ◌==◌,
  refl,
  sym,
  ap,
  ◌∙◌,
  arith,
  zero,
  suc,
  Option,
  Some,
  None,
  drop-cons,
  add-one,
}
use Rattle.std.specs.Prelude.{option_map}
use Rattle.std.proofs.lemmas.List.{length-drop}
use Rattle.lf_text.specs.Lexemes.{Mark, mark_of, through}
use Rattle.lf_text.specs.Lexemes.Mark.{opens, closes, other}
use Rattle.lf_token.proofs.Logic.{if_true, if_false}

abbrev pub opened : ℕ → ℕ → Bool
opened a b = a == 47 && b == 45

abbrev pub closed : ℕ → ℕ → Bool
closed a b = a == 45 && b == 47

opens_mark : (a b : ℕ) → opened a b ≡ true → mark_of a b ≡ opens
opens_mark a b e = if_true (opened a b) opens (cond (closed a b) closes other) e

closes_mark : (a b : ℕ) → opened a b ≡ false → closed a b ≡ true → mark_of a b ≡ closes
closes_mark a b e f = if_false (opened a b) opens (cond (closed a b) closes other) e ∙ if_true (closed a b) closes other f

other_mark : (a b : ℕ) → opened a b ≡ false → closed a b ≡ false → mark_of a b ≡ other
other_mark a b e f = if_false (opened a b) opens (cond (closed a b) closes other) e ∙ if_false (closed a b) closes other f

-- what a mark leads to
abbrev led : Mark → Option ℕ → Option ℕ → Option ℕ → Option ℕ
led opens x y z = x
led closes x y z = y
led other x y z = z

led_zero : (m : Mark) (b : ℕ) (cs : List ℕ) →
    elim m as (λ _. Option ℕ) [ opens ↦ option_map (λ n. n + 2) (through 1 cs) | closes ↦ Some 2 | other ↦ option_map (λ n. n + 1) (through 0 (b ∷ cs)) ]
    ≡ led m (option_map (λ n. n + 2) (through 1 cs)) (Some 2) (option_map (λ n. n + 1) (through 0 (b ∷ cs)))
led_zero opens b cs = refl
led_zero closes b cs = refl
led_zero other b cs = refl

through_zero : (a b : ℕ) (cs : List ℕ) →
    through 0 (a ∷ b ∷ cs) ≡ led (mark_of a b) (option_map (λ n. n + 2) (through 1 cs)) (Some 2) (option_map (λ n. n + 1) (through 0 (b ∷ cs)))
through_zero a b cs = led_zero (mark_of a b) b cs

led_suc : (m : Mark) (d b : ℕ) (cs : List ℕ) →
    elim m as (λ _. Option ℕ) [
      | opens ↦ option_map (λ n. n + 2) (through (suc (suc d)) cs)
      | closes ↦ option_map (λ n. n + 2) (through d cs)
      | other ↦
          option_map (λ n. n + 1) (through (suc d) (b ∷ cs))
    ]
    ≡ led m (option_map (λ n. n + 2) (through (suc (suc d)) cs)) (option_map (λ n. n + 2) (through d cs)) (option_map (λ n. n + 1) (through (suc d) (b ∷ cs)))
led_suc opens d b cs = refl
led_suc closes d b cs = refl
led_suc other d b cs = refl

through_suc : (d a b : ℕ) (cs : List ℕ) →
    through (suc d) (a ∷ b ∷ cs) ≡ led (mark_of a b) (option_map (λ n. n + 2) (through (suc (suc d)) cs)) (option_map (λ n. n + 2) (through d cs))
    (option_map (λ n. n + 1) (through (suc d) (b ∷ cs)))
through_suc d a b cs = led_suc (mark_of a b) d b cs

pub through_opens : (d a b : ℕ) (cs : List ℕ) → opened a b ≡ true → through d (a ∷ b ∷ cs) ≡ option_map (λ n. n + 2) (through (suc d) cs)
through_opens zero a b cs e =
    through_zero a b cs ∙ ap (λ m. led m (option_map (λ n. n + 2) (through 1 cs)) (Some 2) (option_map (λ n. n + 1) (through 0 (b ∷ cs)))) (opens_mark a b e)
through_opens (suc d) a b cs e =
    through_suc d a b cs
    ∙ ap (λ m. led m (option_map (λ n. n + 2) (through (suc (suc d)) cs)) (option_map (λ n. n + 2) (through d cs))
    (option_map (λ n. n + 1) (through (suc d) (b ∷ cs)))) (opens_mark a b e)

pub through_last : (a b : ℕ) (cs : List ℕ) → opened a b ≡ false → closed a b ≡ true → through 0 (a ∷ b ∷ cs) ≡ Some 2
through_last a b cs e f =
    through_zero a b cs ∙ ap (λ m. led m (option_map (λ n. n + 2) (through 1 cs)) (Some 2) (option_map (λ n. n + 1) (through 0 (b ∷ cs)))) (closes_mark a b e f)

pub through_closes : (d a b : ℕ) (cs : List ℕ) → opened a b ≡ false → closed a b ≡ true → through (suc d) (a ∷ b ∷ cs) ≡ option_map (λ n. n + 2) (through d cs)
through_closes d a b cs e f =
    through_suc d a b cs
    ∙ ap (λ m. led m (option_map (λ n. n + 2) (through (suc (suc d)) cs)) (option_map (λ n. n + 2) (through d cs))
    (option_map (λ n. n + 1) (through (suc d) (b ∷ cs)))) (closes_mark a b e f)

pub through_other : (d a b : ℕ) (cs : List ℕ) → opened a b ≡ false → closed a b ≡ false → through d (a ∷ b ∷ cs) ≡ option_map (λ n. n + 1) (through d (b ∷ cs))
through_other zero a b cs e f =
    through_zero a b cs ∙ ap (λ m. led m (option_map (λ n. n + 2) (through 1 cs)) (Some 2) (option_map (λ n. n + 1) (through 0 (b ∷ cs)))) (other_mark a b e f)
through_other (suc d) a b cs e f =
    through_suc d a b cs
    ∙ ap (λ m. led m (option_map (λ n. n + 2) (through (suc (suc d)) cs)) (option_map (λ n. n + 2) (through d cs))
    (option_map (λ n. n + 1) (through (suc d) (b ∷ cs)))) (other_mark a b e f)

-- at n characters, with so many comments open inside, the rest tells where the first ends
abbrev pub Still : ℕ → ℕ → List ℕ → Type 0
Still d n cs = option_map (λ k. k + n) (through d (drop n cs)) ≡ through 0 cs

cut : (cs : List ℕ) (n : ℕ) → n + 1 < length cs → drop n cs ≡ get_or cs n 0 ∷ get_or cs (n + 1) 0 ∷ drop (n + 2) cs
cut cs n l =
    let m : n < length cs = omega arith in
    let k : suc n < length cs = omega arith in
    let two : suc (suc n) ≡ n + 2 = omega arith in
    drop-cons cs n 0 m ∙ ap (λ xs. get_or cs n 0 ∷ xs) (drop-cons cs (suc n) 0 k)
    ∙ ap (λ i. get_or cs n 0 ∷ get_or cs i 0 ∷ drop (suc (suc n)) cs) (sym (add-one n))
    ∙ ap (λ i. get_or cs n 0 ∷ get_or cs (n + 1) 0 ∷ drop i cs) two

behind_one : (cs : List ℕ) (n : ℕ) → n + 1 < length cs → get_or cs (n + 1) 0 ∷ drop (n + 2) cs ≡ drop (n + 1) cs
behind_one cs n l =
    let k : n + 1 < length cs = l in
    let two : suc (n + 1) ≡ n + 2 = omega arith in
    sym (drop-cons cs (n + 1) 0 k ∙ ap (λ i. get_or cs (n + 1) 0 ∷ drop i cs) two)

shift : (n j : ℕ) (o : Option ℕ) → option_map (λ k. k + n) (option_map (λ k. k + j) o) ≡ option_map (λ k. k + (n + j)) o
shift n j None = refl
shift n j (Some x) = ap Some (let e : x + j + n ≡ x + (n + j) = omega arith in e)

pub still_opens : (cs : List ℕ) (n d : ℕ) → n + 1 < length cs → opened (get_or cs n 0) (get_or cs (n + 1) 0) ≡ true → Still d n cs → Still (d + 1) (n + 2) cs
still_opens cs n d l e s =
    ap (λ i. option_map (λ k. k + (n + 2)) (through i (drop (n + 2) cs))) (add-one d)
    ∙ sym (shift n 2 (through (suc d) (drop (n + 2) cs)))
    ∙ ap (option_map (λ k. k + n)) (sym (ap (through d) (cut cs n l) ∙ through_opens d (get_or cs n 0) (get_or cs (n + 1) 0) (drop (n + 2) cs) e)) ∙ s

pub still_closes : (cs : List ℕ) (n d : ℕ) → n + 1 < length cs → opened (get_or cs n 0) (get_or cs (n + 1) 0) ≡ false
    → closed (get_or cs n 0) (get_or cs (n + 1) 0) ≡ true →
    0 < d → Still d n cs → Still (d - 1) (n + 2) cs
still_closes cs n zero l e f p s = absurd (omega arith)
still_closes cs n (suc d) l e f p s =
    ap (λ i. option_map (λ k. k + (n + 2)) (through i (drop (n + 2) cs))) (let a : suc d - 1 ≡ d = omega arith in a)
    ∙ sym (shift n 2 (through d (drop (n + 2) cs)))
    ∙ ap (option_map (λ k. k + n)) (sym (ap (through (suc d)) (cut cs n l) ∙ through_closes d (get_or cs n 0) (get_or cs (n + 1) 0) (drop (n + 2) cs) e f)) ∙ s

pub closes_last : (cs : List ℕ) (n : ℕ) → n + 1 < length cs → opened (get_or cs n 0) (get_or cs (n + 1) 0) ≡ false
    → closed (get_or cs n 0) (get_or cs (n + 1) 0) ≡ true →
    Still 0 n cs → Some (n + 2) ≡ through 0 cs
closes_last cs n l e f s =
    ap Some (let a : n + 2 ≡ 2 + n = omega arith in a)
    ∙ ap (option_map (λ k. k + n)) (sym (ap (through 0) (cut cs n l) ∙ through_last (get_or cs n 0) (get_or cs (n + 1) 0) (drop (n + 2) cs) e f)) ∙ s

pub still_other : (cs : List ℕ) (n d : ℕ) → n + 1 < length cs → opened (get_or cs n 0) (get_or cs (n + 1) 0) ≡ false
    → closed (get_or cs n 0) (get_or cs (n + 1) 0) ≡ false →
    Still d n cs → Still d (n + 1) cs
still_other cs n d l e f s =
    sym (shift n 1 (through d (drop (n + 1) cs)))
    ∙ ap (λ xs. option_map (λ k. k + n) (option_map (λ k. k + 1) (through d xs))) (sym (behind_one cs n l))
    ∙ ap (option_map (λ k. k + n)) (sym (ap (through d) (cut cs n l) ∙ through_other d (get_or cs n 0) (get_or cs (n + 1) 0) (drop (n + 2) cs) e f)) ∙ s

ends : (d : ℕ) (xs : List ℕ) → length xs ≤ 1 → through d xs ≡ None
ends d [] l = refl
ends d (a ∷ []) l = refl
ends d (a ∷ b ∷ xs) l = absurd (omega arith)

pub never_closes : (cs : List ℕ) (n d : ℕ) → length cs ≤ n + 1 → n ≤ length cs → Still d n cs → None ≡ through 0 cs
never_closes cs n d l w s =
    let e : length (drop n cs) ≡ length cs - n = length-drop n cs in
    sym (ap (option_map (λ k. k + n)) (ends d (drop n cs) (omega arith))) ∙ s

pub still_start : (cs : List ℕ) → Still 0 0 cs
still_start cs = same (through 0 cs)
  where
    same : (o : Option ℕ) → option_map (λ k. k + 0) o ≡ o
    same None = refl
    same (Some x) = ap Some (let e : x + 0 ≡ x = omega arith in e)
