-- The code's test of levels is the definition's.
use Rattle.std.proofs.Common.{◌≡◌, ℕ, ◌≤◌, ◌<◌, true, false, ◌&&◌, ◌||◌, nat_lt, Bool, length, refl, sym, ap, ◌∙◌, ◌↔◌, arith, true≢false, IsTrue}
use Rattle.std.proofs.lemmas.Bool.{cond_both, ltb-true, ltb-false, or_parts, or_from, cond-false, false_from_ne_true, lt-ltb}
use Rattle.std.specs.Prelude.{if◌then◌else◌}
use Rattle.lf_core.specs.Term.{Universe, level_zero, level_succ, level_max, level_imax, level_param, level_meta}
use Rattle.lf_core.specs.Level.{Same}
use Rattle.lf_core.specs.Same.{same_universe}
use Rattle.lf_core.specs.Size.{level_depth}
use Rattle.lf_core.specs.Summary.{level_has_metavariable}
use Rattle.lf_level.specs.Parameters.{HasNoMetavariable, parameters_of}
use Rattle.lf_level.specs.Decision.{passes}
use Rattle.lf_level.proofs.Decided.{same_answer}
use Rattle.lf_checker.specs.LevelTest.{both_orders, is_too_great, is_same}

pub no_metavariable : (l : Universe) → level_has_metavariable l ≡ false → HasNoMetavariable l
no_metavariable level_zero h = tt
no_metavariable (level_succ l) h = no_metavariable l h
no_metavariable (level_max l m) h = let p = or_parts (level_has_metavariable l) (level_has_metavariable m) h in (no_metavariable l p.0, no_metavariable m p.1)
no_metavariable (level_imax l m) h = let p = or_parts (level_has_metavariable l) (level_has_metavariable m) h in (no_metavariable l p.0, no_metavariable m p.1)
no_metavariable (level_param k) h = tt
no_metavariable (level_meta k) h = absurd (true≢false h)

-- With a metavariable the tree decides.
met : (a b : Bool) (s : Bool) (rest : Bool) → (a || b) ≡ true → (if a || b then s else rest) ≡ s
met true b s rest h = refl
met false true s rest h = refl
met false false s rest h = absurd (true≢false (sym h))

pub left_meta : (l m : Universe) → level_has_metavariable l ≡ true → same_universe l m ≡ is_same l m
unfolding is_same
left_meta l m h = let e : (level_has_metavariable l || level_has_metavariable m) ≡ true = rw h refl in
    sym (met (level_has_metavariable l) (level_has_metavariable m) (same_universe l m) _ e)

or_right : (a b : Bool) → b ≡ true → (a || b) ≡ true
or_right true b h = refl
or_right false b h = h

pub right_meta : (l m : Universe) → level_has_metavariable m ≡ true → same_universe l m ≡ is_same l m
unfolding is_same
right_meta l m h = sym (met (level_has_metavariable l) (level_has_metavariable m) (same_universe l m) _
    (or_right (level_has_metavariable l) (level_has_metavariable m) h))

-- Without one, the limits and then both orders.
plain : (l m : Universe) → level_has_metavariable l ≡ false → level_has_metavariable m ≡ false
    → is_same l m ≡ (if is_too_great l m then false else both_orders l m)
unfolding is_same
plain l m p q = cond-false (level_has_metavariable l || level_has_metavariable m) (same_universe l m) _
    (or_from (level_has_metavariable l) (level_has_metavariable m) p q)

great : (b r : Bool) → b ≡ true → (if b then false else r) ≡ false
great true r h = refl
great false r h = absurd (true≢false (sym h))

or_left : (a b : Bool) → a ≡ true → (a || b) ≡ true
or_left true b h = refl
or_left false b h = absurd (true≢false (sym h))

refused : (l m : Universe) → level_has_metavariable l ≡ false → level_has_metavariable m ≡ false → is_too_great l m ≡ true → false ≡ is_same l m
refused l m p q h = sym (plain l m p q ∙ great (is_too_great l m) (both_orders l m) h)

pub too_many : (l m : Universe) → level_has_metavariable l ≡ false → level_has_metavariable m ≡ false → 8 < length (parameters_of l m) → false ≡ is_same l m
too_many l m p q h = refused l m p q (or_left (nat_lt 8 (length (parameters_of l m))) _ (lt-ltb 8 (length (parameters_of l m)) h))

pub left_deep : (l m : Universe) → level_has_metavariable l ≡ false → level_has_metavariable m ≡ false → 1024 < level_depth l → false ≡ is_same l m
left_deep l m p q h = refused l m p q (or_right (nat_lt 8 (length (parameters_of l m))) _
    (or_left (nat_lt 1024 (level_depth l)) _ (lt-ltb 1024 (level_depth l) h)))

pub right_deep : (l m : Universe) → level_has_metavariable l ≡ false → level_has_metavariable m ≡ false → 1024 < level_depth m → false ≡ is_same l m
right_deep l m p q h = refused l m p q (or_right (nat_lt 8 (length (parameters_of l m))) _
    (or_right (nat_lt 1024 (level_depth l)) _ (lt-ltb 1024 (level_depth m) h)))

not_above : (a b : ℕ) → b ≤ a → nat_lt a b ≡ false
not_above a b h = false_from_ne_true (nat_lt a b) (λ e. let l = ltb-true a b e in omega arith)

within : (l m : Universe) → level_depth l ≤ 1024 → level_depth m ≤ 1024 → length (parameters_of l m) ≤ 8 → is_too_great l m ≡ false
within l m d d' n =
    or_from (nat_lt 8 (length (parameters_of l m))) (nat_lt 1024 (level_depth l) || nat_lt 1024 (level_depth m)) (not_above 8 (length (parameters_of l m)) n)
    (or_from (nat_lt 1024 (level_depth l)) (nat_lt 1024 (level_depth m)) (not_above 1024 (level_depth l) d) (not_above 1024 (level_depth m) d'))

-- Two tests of one fact.
one_answer : {P : Type 0} (a b : Bool) → IsTrue a ↔ P → IsTrue b ↔ P → a ≡ b
one_answer true true p q = refl
one_answer false false p q = refl
one_answer true false p q = absurd (true≢false (sym (q.1 (p.0 refl))))
one_answer false true p q = absurd (true≢false (sym (p.1 (q.0 refl))))

pub tested_is : (l m : Universe) (b : Bool) → level_has_metavariable l ≡ false → level_has_metavariable m ≡ false → level_depth l ≤ 1024 → level_depth m ≤ 1024
    → length (parameters_of l m) ≤ 8 → IsTrue b ↔ Same l m → b ≡ is_same l m
tested_is l m b p q d d' n h =
    let fits = within l m d d' n in
    let told = same_answer l m (parameters_of l m) (both_orders l m) refl (no_metavariable l p) (no_metavariable m q) d d' refl in
    one_answer b (both_orders l m) h told ∙ sym (plain l m p q ∙ cond-false (is_too_great l m) false (both_orders l m) fits)
