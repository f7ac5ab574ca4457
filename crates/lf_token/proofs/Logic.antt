use Rattle.std.proofs.Common.{
  ◌≡◌,
  ℕ,
  ◌+◌,
  ◌-◌,
  ◌≤◌,
  ◌<◌,
  List,
  [],
  ◌∷◌,
  length,
  take,
  drop,
  Bool,
  true,
  false,
  cond,
  ◌||◌,
  ◌&&◌,
  refl,
  sym,
  ap,
  ◌∙◌,
  subst,
  arith,
  zero,
  suc,
  ◌⊎◌,
  inl,
  inr,
  ⊎_elim,
  add-one,
  Option,
  Some,
  None,
  max,
}
use Rattle.std.specs.Prelude.{is_some, unwrap_or}
use Rattle.std.specs.List.{list_all, prefix_len}
use Rattle.std.proofs.lemmas.Bool.{cases_lt}
use Rattle.lf_text.specs.declared.token.TokenKind.{TokenKind}
use Rattle.lf_text.specs.declared.token.TokenKind.TheVariants.{BadChar}
use Rattle.lf_text.specs.Lexemes.{kind_of, longest_up_to, longest_token, token_at}

-- Bool

pub and_left : (a b : Bool) → a && b ≡ true → a ≡ true
and_left true b e = refl
and_left false b e = e

pub and_right : (a b : Bool) → a && b ≡ true → b ≡ true
and_right true b e = e
and_right false b e = cc

pub and_both : (a b : Bool) → a ≡ true → b ≡ true → a && b ≡ true
and_both true b e f = f
and_both false b e f = e

pub and_false : (a b : Bool) → a ≡ false → a && b ≡ false
and_false true b e = cc
and_false false b e = refl

pub and_false_right : (a b : Bool) → b ≡ false → a && b ≡ false
and_false_right true b e = e
and_false_right false b e = refl

pub and_more : (a b c : Bool) → (b ≡ true → c ≡ true) → a && b ≡ true → a && c ≡ true
and_more true b c f e = f e
and_more false b c f e = e

pub or_left : (a b : Bool) → a ≡ true → a || b ≡ true
or_left true b e = refl
or_left false b e = cc

pub or_right : (a b : Bool) → b ≡ true → a || b ≡ true
or_right true b e = refl
or_right false b e = e

pub or_more : (a b c : Bool) → (b ≡ true → c ≡ true) → a || b ≡ true → a || c ≡ true
or_more true b c f e = refl
or_more false b c f e = f e

pub or_cases : (a b : Bool) → a || b ≡ true → (a ≡ true) ⊎ (b ≡ true)
or_cases true b e = inl refl
or_cases false b e = inr e

pub or_false : (a b : Bool) → a ≡ false → b ≡ false → a || b ≡ false
or_false true b e f = e
or_false false b e f = f

-- what isn't true is false
pub false_from : (b : Bool) → (b ≡ true → false ≡ true) → b ≡ false
false_from true f = sym (f refl)
false_from false f = refl

pub if_true : {A : Type 0} (b : Bool) (x y : A) → b ≡ true → cond b x y ≡ x
if_true true x y e = refl
if_true false x y e = cc

pub if_false : {A : Type 0} (b : Bool) (x y : A) → b ≡ false → cond b x y ≡ y
if_false true x y e = cc
if_false false x y e = refl

-- Fronts

pub take_cons : (n : ℕ) (c : ℕ) (cs : List ℕ) → take (n + 1) (c ∷ cs) ≡ c ∷ take n cs
take_cons n c cs = rw add-one refl

all_prefix_step : (p : ℕ → Bool) (c : ℕ) (cs : List ℕ) (b : Bool) → p c ≡ b → list_all p (take (prefix_len p cs) cs) ≡ true →
    list_all p (take (cond b (1 + prefix_len p cs) 0) (c ∷ cs)) ≡ true
all_prefix_step p c cs true e ih =
    let a : 1 + prefix_len p cs ≡ suc (prefix_len p cs) = omega arith in
    subst (λ (n : ℕ). list_all p (take n (c ∷ cs)) ≡ true) (sym a) (and_both (p c) (list_all p (take (prefix_len p cs) cs)) e ih)
all_prefix_step p c cs false e ih = refl

-- the front that a test lets through passes it, and no longer one does
pub all_prefix : (p : ℕ → Bool) (cs : List ℕ) → list_all p (take (prefix_len p cs) cs) ≡ true
all_prefix p [] = refl
all_prefix p (c ∷ cs) = all_prefix_step p c cs (p c) refl (all_prefix p cs)

pub all_bound : (p : ℕ → Bool) (cs : List ℕ) (m : ℕ) → m ≤ length cs → list_all p (take m cs) ≡ true → m ≤ prefix_len p cs
all_bound p cs zero l e = omega arith
all_bound p [] (suc m) l e = l
all_bound p (c ∷ cs) (suc m) l e =
    let here : p c ≡ true = and_left (p c) (list_all p (take m cs)) e in
    let more : m ≤ prefix_len p cs = all_bound p cs m (omega arith) (and_right (p c) (list_all p (take m cs)) e) in
    subst (λ (b : Bool). suc m ≤ cond b (1 + prefix_len p cs) 0) (sym here) (omega arith)

cond_within : (b : Bool) (n m : ℕ) → n ≤ m → cond b (1 + n) 0 ≤ suc m
cond_within true n m l = omega arith
cond_within false n m l = omega arith

pub prefix_within : (p : ℕ → Bool) (cs : List ℕ) → prefix_len p cs ≤ length cs
prefix_within p [] = omega arith
prefix_within p (c ∷ cs) = cond_within (p c) (prefix_len p cs) (length cs) (prefix_within p cs)

-- The longest front that is a token

pub longest_is : (test : List ℕ → Bool) (cs : List ℕ) (n : ℕ) → (0 < n → test (take n cs) ≡ true) →
    ((m : ℕ) → n < m → m ≤ length cs → test (take m cs) ≡ false) → (N : ℕ) → n ≤ N → N ≤ length cs → longest_up_to test cs N ≡ n
longest_is test cs n passes longer zero l w = omega arith
longest_is test cs n passes longer (suc N) l w =
    ⊎_elim
    (λ (at : N < n). let e : n ≡ suc N = omega arith in
    if_true (test (take (suc N) cs)) (suc N) (longest_up_to test cs N) (subst (λ (k : ℕ). test (take k cs) ≡ true) e (passes (omega arith))) ∙ sym e)
    (λ (below : n ≤ N).
    if_false (test (take (suc N) cs)) (suc N) (longest_up_to test cs N) (longer (suc N) (omega arith) w)
    ∙ longest_is test cs n passes longer N below (omega arith))
    (cases_lt N n)

-- the token of a front whose kind is known, where no longer front has one
pub token_is : (cs : List ℕ) (n : ℕ) (kind : TokenKind) → 0 < n → n ≤ length cs → kind_of (take n cs) ≡ Some kind →
    ((m : ℕ) → n < m → m ≤ length cs → kind_of (take m cs) ≡ None) → token_at cs ≡ (Some kind, n)
token_is cs n kind some within is longer =
    let e : longest_token cs ≡ n =
    longest_is (λ front. is_some (kind_of front)) cs n (λ _. ap is_some is) (λ m l w. ap is_some (longer m l w)) (length cs) within (omega arith) in
    ap (λ (k : ℕ). (Some (unwrap_or (kind_of (take k cs)) BadChar), max k 1)) e
    ∙ ap (λ (o : Option TokenKind). (Some (unwrap_or o BadChar), max n 1)) is
    ∙ ap (λ (k : ℕ). (Some kind, k)) (let m : max n 1 ≡ n = omega arith in m)

-- a character that begins no token
pub bad_is : (cs : List ℕ) → ((m : ℕ) → 0 < m → m ≤ length cs → kind_of (take m cs) ≡ None) → kind_of [] ≡ None → token_at cs ≡ (Some BadChar, 1)
bad_is cs longer none =
    let e : longest_token cs ≡ 0 =
    longest_is (λ front. is_some (kind_of front)) cs 0 (λ l. absurd (omega arith)) (λ m l w. ap is_some (longer m l w)) (length cs) (omega arith)
    (omega arith) in
    ap (λ (k : ℕ). (Some (unwrap_or (kind_of (take k cs)) BadChar), max k 1)) e
    ∙ ap (λ (o : Option TokenKind). (Some (unwrap_or o BadChar), max 0 1)) none

-- a slice to the end
pub slice_end : (n : ℕ) (cs : List ℕ) → take (length cs - n) (drop n cs) ≡ drop n cs
slice_end zero [] = refl
slice_end zero (c ∷ cs) = ap (λ (m : ℕ). take m (c ∷ cs)) (let e : length (c ∷ cs) - 0 ≡ suc (length cs) = omega arith in e) ∙ ap (λ xs. c ∷ xs) (take_all cs)
  where
    take_all : (xs : List ℕ) → take (length xs) xs ≡ xs
    take_all [] = refl
    take_all (x ∷ xs) = ap (λ ys. x ∷ ys) (take_all xs)
slice_end (suc n) [] = ap (λ (m : ℕ). take m []) (let e : 0 - suc n ≡ 0 = omega arith in e)
slice_end (suc n) (c ∷ cs) =
    ap (λ (m : ℕ). take m (drop n cs)) (let e : length (c ∷ cs) - suc n ≡ length cs - n = omega arith in e) ∙ slice_end n cs
