-- The order in which two entries stand is that among the axioms.
use Rattle.std.proofs.Common.{◌≡◌, ℕ, suc, ◌<◌, ◌≤◌, Bool, true, false, List, [], ◌∷◌, filter, Option, Some, None, refl, sym, ap, ◌∙◌, cond, arith, true≢false}
use Rattle.std.specs.Prelude.{◌↔◌}
use Rattle.lf_core.specs.Term.{Path}
use Rattle.lf_core.specs.Same.{same_path}
use Rattle.lf_checker.specs.View.{Entry, find_entry, placed_from}

-- The entry of m is met before one of n.
abbrev pub precedes : List Entry → Path → Path → Bool
precedes [] m n = false
precedes (e ∷ es) m n = cond (same_path e.info.name n) false (cond (same_path e.info.name m) true (precedes es m n))

unplaced : {P : Type 0} (k : ℕ) (n : Path) (p : ℕ × ℕ) → placed_from k [] n ≡ Some p → P
unplaced k n p h = cc

place : Option (ℕ × ℕ) → ℕ
place (Some q) = q.1
place None = 0

at_least_step : (b : Bool) (k : ℕ) (e : Entry) (o : Option (ℕ × ℕ)) (p : ℕ × ℕ) → (o ≡ Some p → suc k ≤ p.1)
    → cond b (Some (e.position, k)) o ≡ Some p → k ≤ p.1
unfolding place
at_least_step true k e o p r h = let s : k ≡ p.1 = ap place h in omega arith
at_least_step false k e o p r h = let s : suc k ≤ p.1 = r h in omega arith

at_least : (k : ℕ) (es : List Entry) (n : Path) (p : ℕ × ℕ) → placed_from k es n ≡ Some p → k ≤ p.1
at_least k [] n p h = unplaced k n p h
at_least k (e ∷ es) n p h = at_least_step (same_path e.info.name n) k e (placed_from (suc k) es n) p (at_least (suc k) es n p) h

order_step : (s t r : Bool) (k : ℕ) (e : Entry) (o u : Option (ℕ × ℕ)) (p q : ℕ × ℕ) → (o ≡ Some p → suc k ≤ p.1) → (u ≡ Some q → suc k ≤ q.1)
    → (o ≡ Some p → u ≡ Some q → (p.1 < q.1) ↔ (r ≡ true))
    → cond s (Some (e.position, k)) o ≡ Some p → cond t (Some (e.position, k)) u ≡ Some q → (p.1 < q.1) ↔ (cond t false (cond s true r) ≡ true)
unfolding place
order_step true true r k e o u p q lp lq i h g =
    let a : k ≡ p.1 = ap place h in
    let b : k ≡ q.1 = ap place g in
    (λ x. absurd (omega arith), λ x. absurd (true≢false (sym x)))
order_step true false r k e o u p q lp lq i h g = let a : k ≡ p.1 = ap place h in let b : suc k ≤ q.1 = lq g in (λ x. refl, λ x. omega arith)
order_step false true r k e o u p q lp lq i h g =
    let a : suc k ≤ p.1 = lp h in
    let b : k ≡ q.1 = ap place g in
    (λ x. absurd (omega arith), λ x. absurd (true≢false (sym x)))
order_step false false r k e o u p q lp lq i h g = i h g

-- By their places.
pub ordered : (k : ℕ) (es : List Entry) (m n : Path) (p q : ℕ × ℕ) → placed_from k es m ≡ Some p → placed_from k es n ≡ Some q
    → (p.1 < q.1) ↔ (precedes es m n ≡ true)
ordered k [] m n p q h g = unplaced k m p h
ordered k (e ∷ es) m n p q h g =
    order_step (same_path e.info.name m) (same_path e.info.name n) (precedes es m n) k e (placed_from (suc k) es m) (placed_from (suc k) es n) p q
    (at_least (suc k) es m p) (at_least (suc k) es n q) (ordered (suc k) es m n p q) h g

-- Among those that pass a test, where the two do.
passes_step : {A : Type 0} (test : A → Bool) (x d : A) (b : Bool) → test x ≡ b → cond true (Some x) None ≡ Some d → test d ≡ true → b ≡ true
passes_step test x d b h g t = let s : x ≡ d = cc in sym h ∙ ap test s ∙ t

among_step : (test : Entry → Bool) (s t c r r' : Bool) (x : Entry) (xs : List Entry) (m n : Path) (o u : Option Entry) (d e : Entry) → test x ≡ c
    → test d ≡ true → test e ≡ true → same_path x.info.name m ≡ s → same_path x.info.name n ≡ t
    → (o ≡ Some d → u ≡ Some e → precedes xs m n ≡ r)
    → cond s (Some x) o ≡ Some d → cond t (Some x) u ≡ Some e
    → precedes (cond c (x ∷ xs) xs) m n ≡ cond t false (cond s true r)
among_step test s t true r r' x xs m n o u d e hx hd he hs ht i h g = at s t hs ht h g
  where
    at : (s t : Bool) → same_path x.info.name m ≡ s → same_path x.info.name n ≡ t → cond s (Some x) o ≡ Some d → cond t (Some x) u ≡ Some e
        → precedes (x ∷ xs) m n ≡ cond t false (cond s true r)
    at s true a b h g = ap (λ z. cond z false (cond (same_path x.info.name m) true (precedes xs m n))) b
    at true false a b h g =
        ap (λ z. cond z false (cond (same_path x.info.name m) true (precedes xs m n))) b ∙ ap (λ z. cond z true (precedes xs m n)) a
    at false false a b h g =
        ap (λ z. cond z false (cond (same_path x.info.name m) true (precedes xs m n))) b ∙ ap (λ z. cond z true (precedes xs m n)) a ∙ i h g
among_step test true t false r r' x xs m n o u d e hx hd he hs ht i h g = absurd (true≢false (sym (passes_step test x d false hx h hd)))
among_step test false true false r r' x xs m n o u d e hx hd he hs ht i h g = absurd (true≢false (sym (passes_step test x e false hx g he)))
among_step test false false false r r' x xs m n o u d e hx hd he hs ht i h g = i h g

pub ordered_among : (test : Entry → Bool) (es : List Entry) (m n : Path) (d e : Entry) → find_entry es m ≡ Some d → find_entry es n ≡ Some e → test d ≡ true
    → test e ≡ true → precedes (filter test es) m n ≡ precedes es m n
ordered_among test [] m n d e h g hd he = refl
ordered_among test (x ∷ xs) m n d e h g hd he =
    among_step test (same_path x.info.name m) (same_path x.info.name n) (test x) (precedes xs m n) true x (filter test xs) m n (find_entry xs m)
    (find_entry xs n) d e refl hd he refl refl (λ a b. ordered_among test xs m n d e a b hd he) h g
