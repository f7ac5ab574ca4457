-- The tests decide the order.
use Rattle.std.proofs.Common.{◌≡◌, ℕ, zero, suc, ◌+◌, ◌≤◌, ◌<◌, Bool, true, false, List, [], ◌∷◌, ◌++◌, refl, arith, ap, sym, ◌∙◌, inl, inr}
use Rattle.std.proofs.lemmas.Bool.Decides.{nat_tests}
use Rattle.std.specs.Prelude.{nat_eq, if◌then◌else◌, ◌||◌, ◌&&◌, ◌⊎◌, IsTrue, ◌↔◌}
use Rattle.std.specs.List.{list_any}
use Rattle.lf_core.specs.Term.{Universe, level_zero, level_succ, level_max, level_imax, level_param, level_meta}
use Rattle.lf_core.specs.Level.{Assignment, value_of, Leq, Same}
use Rattle.lf_core.specs.Size.{level_depth}
use Rattle.lf_level.specs.Parameters.{HasNoMetavariable, occurrences, distinct_behind, parameters_of}
use Rattle.lf_level.specs.Decision.{assigned, assignment, passes}
use Rattle.lf_level.proofs.Regions.{Over, Alike, monotone, Reached, by_number, by_parameter, reached}
use Rattle.lf_level.proofs.Trials.{sign, near, far_at, Among, near_at, far_here, far_there, Holds, pass_near, pass_far, passes_if, and_parts}

sign_below : (n : ℕ) → sign n ≤ n
sign_below zero = omega arith
sign_below (suc n) = omega arith

sign_signs : (n : ℕ) → (n ≡ 0 → sign n ≡ 0) × (0 < n → 0 < sign n)
sign_signs zero = (λ e. refl, λ h. h)
sign_signs (suc n) = (λ e. absurd (omega arith), λ h. omega arith)

signs_sign : (n : ℕ) → (sign n ≡ 0 → n ≡ 0) × (0 < sign n → 0 < n)
signs_sign zero = (λ e. refl, λ h. h)
signs_sign (suc n) = (λ e. absurd (omega arith), λ h. omega arith)

sign_one : (n : ℕ) → sign n ≤ 1
sign_one zero = omega arith
sign_one (suc n) = omega arith

module _ (names : List ℕ) (s : Assignment) where
  abbrev nearby : Assignment
  nearby = assignment names (near s names)

  near_below : (k : ℕ) → Among names k → assigned names (near s names) k ≤ s.parameter k
  near_below k h = let e = near_at s names k h in let f = sign_below (s.parameter k) in omega arith

  near_alike : Alike (Among names) s (assignment names (near s names))
  near_alike k h = let e = near_at s names k h in let f = sign_signs (s.parameter k) in rw e f

  module _ (p : ℕ) (positive : 0 < s.parameter p) (among : Among names p) where
    far_value : (k : ℕ) → Among names k → (b : Bool) → nat_eq k p ≡ b → assigned names (far_at p s names) k ≡ (if b then 1025 else sign (s.parameter k))
    far_value k h true e = let f : k ≡ p = grind (arith, nat_tests) in ap (λ j. assigned names (far_at p s names) j) f ∙ far_here p s names among
    far_value k h false e = far_there p s names k e h

    far_alike : Alike (Among names) s (assignment names (far_at p s names))
    far_alike k h = by (nat_eq k p) refl where
      by : (b : Bool) → nat_eq k p ≡ b → (s.parameter k ≡ 0 → assigned names (far_at p s names) k ≡ 0) ×
          (0 < s.parameter k → 0 < assigned names (far_at p s names) k)
      by true e =
          let f : k ≡ p = grind (arith, nat_tests) in
          let g = ap (λ j. s.parameter j) f in
          let v = far_value k h true e in
          (λ z. absurd (omega arith), λ z. omega arith)
      by false e = let v = far_value k h false e in rw v (sign_signs (s.parameter k))

    far_alike_back : Alike (Among names) (assignment names (far_at p s names)) s
    far_alike_back k h = by (nat_eq k p) refl where
      by : (b : Bool) → nat_eq k p ≡ b → (assigned names (far_at p s names) k ≡ 0 → s.parameter k ≡ 0) ×
          (0 < assigned names (far_at p s names) k → 0 < s.parameter k)
      by true e =
          let f : k ≡ p = grind (arith, nat_tests) in
          let g = ap (λ j. s.parameter j) f in
          let v = far_value k h true e in
          (λ z. absurd (omega arith), λ z. omega arith)
      by false e = let v = far_value k h false e in rw v (signs_sign (s.parameter k))

module _ (u v : Universe) (names : List ℕ) (ou : Over (Among names) u) (ov : Over (Among names) v) (deep : level_depth v ≤ 1024)
    (h : passes u v names [] names true ≡ true) (s : Assignment) where
  at_near : Holds u v names (near s names)
  at_near = pass_near u v names s names [] true h

  at_far : (p : ℕ) → Holds u v names (far_at p s names)
  at_far p = pass_far u v names p s names [] h

  -- v has a part that is as great, where u has one with a parameter
  far_part : (p k : ℕ) (o : Among names p) (z : 0 < s.parameter p) → s.parameter p + k ≡ value_of s u
      → 1025 + k ≤ value_of (assignment names (far_at p s names)) v → Reached (Among names) (assignment names (far_at p s names)) v
      → value_of s u ≤ value_of s v
  far_part p k o z e f (by_number c x d g) = absurd (omega arith)
  far_part p k o z e f (by_parameter q j w y x d g) = by (nat_eq q p) refl where
    by : (b : Bool) → nat_eq q p ≡ b → value_of s u ≤ value_of s v
    by true r =
        let i : q ≡ p = grind (arith, nat_tests) in
        let same = ap (λ n. s.parameter n) i in
        let great = far_value names s p z o q w true r in
        let below = g s (far_alike_back names s p z o) in
        omega arith
    by false r =
        let small = far_value names s p z o q w false r in
        let one = sign_one (s.parameter q) in
        absurd (omega arith)

  by_part : Reached (Among names) s u → value_of s u ≤ value_of s v
  by_part (by_number c e d f) =
      let low = f (assignment names (near s names)) (near_alike names s) in
      let test = at_near in
      let up = monotone (Among names) s (assignment names (near s names)) (near_below names s) v ov in
      omega arith
  by_part (by_parameter p k o z e d f) =
      let low = f (assignment names (far_at p s names)) (far_alike names s p z o) in
      let here = far_here p s names o in
      let test = at_far p in
      far_part p k o z (sym e) (omega arith) (reached (Among names) (assignment names (far_at p s names)) v ov)

  pub holds : value_of s u ≤ value_of s v
  holds = by_part (reached (Among names) s u ou)

-- ---- the parameters are among the names

or_left : (a b : Bool) → a ≡ true → (a || b) ≡ true
or_left true b h = refl
or_left false b h = absurd (let e : false ≡ true = h in cc)

or_right : (a b : Bool) → b ≡ true → (a || b) ≡ true
or_right true b h = refl
or_right false b h = h

or_more : (a b c d : Bool) → b ≡ (c || d) → (a || b) ≡ (a || c || d)
or_more true b c d e = refl
or_more false b c d e = e

any-append : (p : ℕ → Bool) (xs ys : List ℕ) → list_any p (xs ++ ys) ≡ (list_any p xs || list_any p ys)
any-append p [] ys = refl
any-append p (x ∷ xs) ys = or_more (p x) _ _ _ (any-append p xs ys)

or_split : (a b : Bool) → (a || b) ≡ true → (a ≡ true) ⊎ (b ≡ true)
or_split true b h = inl refl
or_split false b h = inr h

kept : (seen xs : List ℕ) (k : ℕ) → Among seen k → Among (distinct_behind seen xs) k
kept seen [] k h = h
kept seen (x ∷ xs) k h = kept (if list_any (λ j. nat_eq j x) seen then seen else seen ++ x ∷ []) xs k (by (list_any (λ j. nat_eq j x) seen)) where
  by : (b : Bool) → Among (if b then seen else seen ++ x ∷ []) k
  by true = h
  by false = any-append (λ j. nat_eq j k) seen (x ∷ []) ∙ or_left _ _ h

found : (seen xs : List ℕ) (k : ℕ) → Among xs k → Among (distinct_behind seen xs) k
found seen [] k h = absurd (let e : false ≡ true = h in cc)
found seen (x ∷ xs) k h = by (found (if list_any (λ j. nat_eq j x) seen then seen else seen ++ x ∷ []) xs k)
    (or_split (nat_eq x k) (list_any (λ j. nat_eq j k) xs) h) where
      here : (b : Bool) → list_any (λ j. nat_eq j x) seen ≡ b → nat_eq x k ≡ true → Among (if b then seen else seen ++ x ∷ []) k
      here true e q = let i : x ≡ k = grind (arith, nat_tests) in ap (λ m. list_any (λ j. nat_eq j m) seen) (sym i) ∙ e
      here false e q = any-append (λ j. nat_eq j k) seen (x ∷ []) ∙ last (list_any (λ j. nat_eq j k) seen) (nat_eq x k) q where
        last : (a b : Bool) → b ≡ true → (a || (b || false)) ≡ true
        last true b r = refl
        last false true r = refl
        last false false r = r

      by : (Among xs k → Among (distinct_behind seen (x ∷ xs)) k) → (nat_eq x k ≡ true) ⊎ (list_any (λ j. nat_eq j k) xs ≡ true)
          → Among (distinct_behind seen (x ∷ xs)) k
      by r (inl q) = kept (if list_any (λ j. nat_eq j x) seen then seen else seen ++ x ∷ []) xs k (here (list_any (λ j. nat_eq j x) seen) refl q)
      by r (inr q) = r q

over : (P : ℕ → Type 0) (l : Universe) → HasNoMetavariable l → ((k : ℕ) → Among (occurrences l) k → P k) → Over P l
over P level_zero o h = tt
over P (level_succ l) o h = over P l o h
over P (level_max l m) o h = (
  over P l o.0 (λ k a. h k (any-append _ (occurrences l) (occurrences m) ∙ or_left _ _ a)),
  over P m o.1
      (λ k a. h k (any-append _ (occurrences l) (occurrences m) ∙ or_right _ _ a)),
)
over P (level_imax l m) o h = (
  over P l o.0 (λ k a. h k (any-append _ (occurrences l) (occurrences m) ∙ or_left _ _ a)),
  over P m o.1
      (λ k a. h k (any-append _ (occurrences l) (occurrences m) ∙ or_right _ _ a)),
)
over P (level_param k) o h = h k (self k) where
  self : (n : ℕ) → (nat_eq n n || false) ≡ true
  self n = let e : nat_eq n n ≡ true = grind (arith, nat_tests) in rw e refl
over P (level_meta k) o h = absurd o

-- ---- both orders

left_over : (u v : Universe) → HasNoMetavariable u → Over (Among (parameters_of u v)) u
left_over u v o = over _ u o (λ k a. found [] (occurrences u ++ occurrences v) k (any-append _ (occurrences u) (occurrences v) ∙ or_left _ _ a))

right_over : (u v : Universe) → HasNoMetavariable v → Over (Among (parameters_of u v)) v
right_over u v o = over _ v o (λ k a. found [] (occurrences u ++ occurrences v) k (any-append _ (occurrences u) (occurrences v) ∙ or_right _ _ a))

pub leq_if : (u v : Universe) → HasNoMetavariable u → HasNoMetavariable v → level_depth v ≤ 1024
    → passes u v (parameters_of u v) [] (parameters_of u v) true ≡ true → Leq u v
leq_if u v ou ov d h s = holds u v (parameters_of u v) (left_over u v ou) (right_over u v ov) d h s

pub geq_if : (u v : Universe) → HasNoMetavariable u → HasNoMetavariable v → level_depth u ≤ 1024
    → passes v u (parameters_of u v) [] (parameters_of u v) true ≡ true → Leq v u
geq_if u v ou ov d h s = holds v u (parameters_of u v) (right_over u v ov) (left_over u v ou) d h s

-- ---- what the calls answer

and_true : (a b : Bool) → a ≡ true → b ≡ true → (a && b) ≡ true
and_true true b p q = q
and_true false b p q = p

pub leq_answer : (u v : Universe) (names : List ℕ) (b : Bool) → names ≡ parameters_of u v → HasNoMetavariable u → HasNoMetavariable v → level_depth v ≤ 1024
    → b ≡ passes u v names [] names true → IsTrue b ↔ Leq u v
leq_answer u v names b e ou ov d p =
    let f : passes u v names [] names true ≡ passes u v (parameters_of u v) [] (parameters_of u v) true = ap (λ n. passes u v n [] n true) e in
    (λ t. leq_if u v ou ov d (sym f ∙ sym p ∙ t), λ h. p ∙ passes_if u v names h names [] true)

pub same_answer : (u v : Universe) (names : List ℕ) (b : Bool) → names ≡ parameters_of u v → HasNoMetavariable u → HasNoMetavariable v → level_depth u ≤ 1024
    → level_depth v ≤ 1024 → b ≡ (passes u v names [] names true && passes v u names [] names true) → IsTrue b ↔ Same u v
same_answer u v names b e ou ov d d' p =
    let f : passes u v names [] names true ≡ passes u v (parameters_of u v) [] (parameters_of u v) true = ap (λ n. passes u v n [] n true) e in
    let g : passes v u names [] names true ≡ passes v u (parameters_of u v) [] (parameters_of u v) true = ap (λ n. passes v u n [] n true) e in (
      λ t s. let w = and_parts _ _ (sym p ∙ t) in
          let x = leq_if u v ou ov d' (sym f ∙ w.0) s in
          let y = geq_if u v ou ov d (sym g ∙ w.1) s in
          omega arith,
      λ h. p ∙ and_true _ _ (passes_if u v names (λ s. let x = h s in omega arith) names [] true)
          (passes_if v u names (λ s. let x = h s in omega arith) names [] true),
    )
