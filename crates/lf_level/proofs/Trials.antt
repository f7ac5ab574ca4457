-- The assignments at which the order is tested.
use Rattle.std.proofs.Common.{◌≡◌, ℕ, zero, suc, ◌≤◌, Bool, true, false, List, [], ◌∷◌, ◌++◌, refl, arith, ap, subst, append_assoc, append-nil}
use Rattle.std.proofs.lemmas.Bool.Decides.{nat_tests}
use Rattle.std.specs.Prelude.{nat_eq, nat_le, if◌then◌else◌, ◌&&◌, ◌||◌}
use Rattle.std.specs.List.{list_any}
use Rattle.lf_core.specs.Term.{Universe}
use Rattle.lf_core.specs.Level.{Assignment, value_of, Leq}
use Rattle.lf_level.specs.Decision.{assigned, assignment, passes}

abbrev pub sign : ℕ → ℕ
sign zero = 0
sign (suc n) = 1

-- Values with the zeros of s, and else 1.
abbrev pub near : Assignment → List ℕ → List ℕ
near s [] = []
near s (n ∷ ns) = sign (s.parameter n) ∷ near s ns

-- The same, but 1,025 at the first place of p.
abbrev pub far_at : ℕ → Assignment → List ℕ → List ℕ
far_at p s [] = []
far_at p s (n ∷ ns) = if nat_eq n p then 1025 ∷ near s ns else sign (s.parameter n) ∷ far_at p s ns

abbrev pub Among : List ℕ → ℕ → Type 0
Among names k = list_any (λ j. nat_eq j k) names ≡ true

same_if : (n k : ℕ) → nat_eq n k ≡ true → n ≡ k
same_if n k e = grind (arith, nat_tests)

near_step : (b : Bool) (s : Assignment) (n k : ℕ) (r : Bool) (rest : ℕ) → nat_eq n k ≡ b → (b || r) ≡ true → (r ≡ true → rest ≡ sign (s.parameter k))
    → (if b then sign (s.parameter n) else rest) ≡ sign (s.parameter k)
near_step true s n k r rest e h g = ap (λ j. sign (s.parameter j)) (same_if n k e)
near_step false s n k r rest e h g = g h

pub near_at : (s : Assignment) (names : List ℕ) (k : ℕ) → Among names k → assigned names (near s names) k ≡ sign (s.parameter k)
near_at s [] k h = absurd (let e : false ≡ true = h in cc)
near_at s (n ∷ ns) k h = near_step (nat_eq n k) s n k (list_any (λ j. nat_eq j k) ns) (assigned ns (near s ns) k) refl h (near_at s ns k)

-- p itself, and the others.
pub far_here : (p : ℕ) (s : Assignment) (names : List ℕ) → Among names p → assigned names (far_at p s names) p ≡ 1025
far_here p s [] h = absurd (let e : false ≡ true = h in cc)
far_here p s (n ∷ ns) h = by (far_here p s ns) (nat_eq n p) refl h where
  by : (Among ns p → assigned ns (far_at p s ns) p ≡ 1025) → (b : Bool) → nat_eq n p ≡ b → (b || list_any (λ j. nat_eq j p) ns) ≡ true
      → assigned (n ∷ ns) (if b then 1025 ∷ near s ns else sign (s.parameter n) ∷ far_at p s ns) p ≡ 1025
  by r true e g = rw e refl
  by r false e g = rw e (r g)

pub far_there : (p : ℕ) (s : Assignment) (names : List ℕ) (k : ℕ) → nat_eq k p ≡ false → Among names k
    → assigned names (far_at p s names) k ≡ sign (s.parameter k)
far_there p s [] k d h = absurd (let e : false ≡ true = h in cc)
far_there p s (n ∷ ns) k d h = by (far_there p s ns k d) (nat_eq n p) refl where
  other : (b : Bool) → nat_eq n k ≡ b → (b || list_any (λ j. nat_eq j k) ns) ≡ true → nat_eq n p ≡ true
      → (if b then 1025 else assigned ns (near s ns) k) ≡ sign (s.parameter k)
  other true e g f = absurd (grind (arith, nat_tests))
  other false e g f = near_at s ns k g

  by : (Among ns k → assigned ns (far_at p s ns) k ≡ sign (s.parameter k)) → (b : Bool) → nat_eq n p ≡ b
      → assigned (n ∷ ns) (if b then 1025 ∷ near s ns else sign (s.parameter n) ∷ far_at p s ns) k ≡ sign (s.parameter k)
  by r true e = other (nat_eq n k) refl h e
  by r false e = near_step (nat_eq n k) s n k (list_any (λ j. nat_eq j k) ns) (assigned ns (far_at p s ns) k) refl h r

pub and_parts : (a b : Bool) → (a && b) ≡ true → (a ≡ true) × (b ≡ true)
and_parts true true h = (refl, refl)
and_parts true false h = absurd (let e : false ≡ true = h in cc)
and_parts false b h = absurd (let e : false ≡ true = h in cc)

at_most : (a b : ℕ) → nat_le a b ≡ true → a ≤ b
at_most a b h = grind (arith, nat_tests)

module _ (u v : Universe) (names : List ℕ) where
  -- The order holds at these values of the names.
  abbrev pub Holds : List ℕ → Type 0
  Holds values = value_of (assignment names values) u ≤ value_of (assignment names values) v

  three : (values rest : List ℕ) (far : Bool) (n : ℕ) → passes u v names values (n ∷ rest) far ≡ true
      → (passes u v names (values ++ 0 ∷ []) rest far ≡ true) × (passes u v names (values ++ 1 ∷ []) rest far ≡ true) ×
      ((if far then passes u v names (values ++ 1025 ∷ []) rest false else true) ≡ true)
  three values rest far n h = let p = and_parts _ _ h in let q = and_parts _ _ p.0 in (q.0, q.1, p.1)

  by_sign : (values rest : List ℕ) → Holds (values ++ 0 ∷ [] ++ rest) → Holds (values ++ 1 ∷ [] ++ rest) → (m : ℕ) → Holds (values ++ sign m ∷ rest)
  by_sign values rest p q zero = subst Holds (append_assoc values (0 ∷ []) rest) p
  by_sign values rest p q (suc m) = subst Holds (append_assoc values (1 ∷ []) rest) q

  by_place : (b : Bool) (values other rest : List ℕ) → Holds (values ++ other) → Holds (values ++ 1025 ∷ [] ++ rest)
      → Holds (values ++ (if b then 1025 ∷ rest else other))
  by_place true values other rest p q = subst Holds (append_assoc values (1025 ∷ []) rest) q
  by_place false values other rest p q = p

  pub pass_near : (s : Assignment) (rest values : List ℕ) (far : Bool) → passes u v names values rest far ≡ true → Holds (values ++ near s rest)
  pass_near s [] values far h = rw append-nil (at_most _ _ h)
  pass_near s (n ∷ rest) values far h =
      let t = three values rest far n h in
      by_sign values (near s rest) (pass_near s rest (values ++ 0 ∷ []) far t.0) (pass_near s rest (values ++ 1 ∷ []) far t.1) (s.parameter n)

  pub pass_far : (p : ℕ) (s : Assignment) (rest values : List ℕ) → passes u v names values rest true ≡ true → Holds (values ++ far_at p s rest)
  pass_far p s [] values h = rw append-nil (at_most _ _ h)
  pass_far p s (n ∷ rest) values h =
      let t = three values rest true n h in
      by_place (nat_eq n p) values (sign (s.parameter n) ∷ far_at p s rest) (near s rest)
      (by_sign values (far_at p s rest) (pass_far p s rest (values ++ 0 ∷ []) t.0) (pass_far p s rest (values ++ 1 ∷ []) t.1) (s.parameter n))
      (pass_near s rest (values ++ 1025 ∷ []) false t.2)

  and_both : (a b c : Bool) → a ≡ true → b ≡ true → c ≡ true → (a && b && c) ≡ true
  and_both true true true p q r = refl
  and_both false b c p q r = absurd (let e : false ≡ true = p in cc)
  and_both true false c p q r = absurd (let e : false ≡ true = q in cc)
  and_both true true false p q r = absurd (let e : false ≡ true = r in cc)

  -- Where the order holds each test passes.
  pub passes_if : Leq u v → (rest values : List ℕ) (far : Bool) → passes u v names values rest far ≡ true
  passes_if h [] values far = let p = h (assignment names values) in grind (arith, nat_tests)
  passes_if h (n ∷ rest) values true = and_both _ _ _ (passes_if h rest (values ++ 0 ∷ []) true) (passes_if h rest (values ++ 1 ∷ []) true)
      (passes_if h rest (values ++ 1025 ∷ []) false)
  passes_if h (n ∷ rest) values false = and_both _ _ _ (passes_if h rest (values ++ 0 ∷ []) false) (passes_if h rest (values ++ 1 ∷ []) false) refl
