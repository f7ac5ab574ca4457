-- What the tests of names, levels and terms tell.
use Rattle.std.proofs.Common.{◌≡◌, ℕ, ◌≤◌, true, false, ◌||◌, nat_lt, Bool, length, List, [], ◌∷◌, refl, sym, ap, ◌∙◌, ◌↔◌, arith, true≢false}
use Rattle.std.proofs.lemmas.Bool.{cond_both, ltb-true, ltb-false, and_parts, or_parts, or_from, cond-false, false_from_ne_true}
use Rattle.lf_core.specs.Term.{Universe, level_zero, level_succ, level_max, level_imax, level_param, level_meta}
use Rattle.lf_core.specs.Level.{value_of, Leq, Same, AllSame}
use Rattle.lf_core.specs.Same.{same_universe}
use Rattle.lf_level.specs.Parameters.{HasNoMetavariable, parameters_of}
use Rattle.lf_level.specs.Decision.{passes}
use Rattle.lf_level.proofs.Decided.{same_answer, leq_answer}
use Rattle.lf_core.specs.Size.{level_depth}
use Rattle.lf_checker_laws.specs.Levels.{LevelTestIsExact}
use Rattle.lf_core.proofs.Trees.{universe_is}
use Rattle.lf_checker.specs.LevelTest.{has_metavariable, both_orders, is_too_great, is_same, is_at_most, are_same}

pub no_false : {P : Type 0} → false ≡ true → P
no_false e = absurd (true≢false (sym e))

no_metavariable : (l : Universe) → has_metavariable l ≡ false → HasNoMetavariable l
no_metavariable level_zero h = tt
no_metavariable (level_succ l) h = no_metavariable l h
no_metavariable (level_max l m) h = let p = or_parts (has_metavariable l) (has_metavariable m) h in (no_metavariable l p.0, no_metavariable m p.1)
no_metavariable (level_imax l m) h = let p = or_parts (has_metavariable l) (has_metavariable m) h in (no_metavariable l p.0, no_metavariable m p.1)
no_metavariable (level_param k) h = tt
no_metavariable (level_meta k) h = absurd (true≢false h)

tested : (l m : Universe) → has_metavariable l ≡ false → has_metavariable m ≡ false → is_too_great l m ≡ false → both_orders l m ≡ true → Same l m
tested l m p q g h =
    let a = or_parts (nat_lt 8 (length (parameters_of l m))) (nat_lt 1024 (level_depth l) || nat_lt 1024 (level_depth m)) g in
    let b = or_parts (nat_lt 1024 (level_depth l)) (nat_lt 1024 (level_depth m)) a.1 in
    (same_answer l m (parameters_of l m) (both_orders l m) refl (no_metavariable l p) (no_metavariable m q) (ltb-false 1024 (level_depth l) b.0)
    (ltb-false 1024 (level_depth m) b.1) refl).0 h

-- Levels that the test says are the same are the same.
pub level_same : (l m : Universe) → is_same l m ≡ true → Same l m
unfolding is_same
level_same l m =
    cond_both (has_metavariable l || has_metavariable m) (same_universe l m) _ (λ b. b ≡ true → Same l m)
    (λ e h s. ap (λ k. value_of s k) (universe_is l m h))
    (λ e. cond_both (is_too_great l m) false (both_orders l m) (λ b. b ≡ true → Same l m) (λ g h. no_false h)
    (λ g h. let p = or_parts (has_metavariable l) (has_metavariable m) e in tested l m p.0 p.1 g h))

pub levels_same : (ls ms : List Universe) → are_same ls ms ≡ true → AllSame ls ms
levels_same [] [] h = tt
levels_same (l ∷ ls) (m ∷ ms) h = let p = and_parts (is_same l m) (are_same ls ms) h in (level_same l m p.0, levels_same ls ms p.1)
levels_same [] (m ∷ ms) h = no_false h
levels_same (l ∷ ls) [] h = no_false h

-- And the test passes where they are, within its limits.

found_none : (l : Universe) → HasNoMetavariable l → has_metavariable l ≡ false
found_none level_zero h = refl
found_none (level_succ l) h = found_none l h
found_none (level_max l m) h = or_from (has_metavariable l) (has_metavariable m) (found_none l h.0) (found_none m h.1)
found_none (level_imax l m) h = or_from (has_metavariable l) (has_metavariable m) (found_none l h.0) (found_none m h.1)
found_none (level_param k) h = refl
found_none (level_meta k) h = absurd h

not_above : (a b : ℕ) → b ≤ a → nat_lt a b ≡ false
not_above a b h = false_from_ne_true (nat_lt a b) (λ e. let l = ltb-true a b e in omega arith)

within : (l m : Universe) → level_depth l ≤ 1024 → level_depth m ≤ 1024 → length (parameters_of l m) ≤ 8 → is_too_great l m ≡ false
within l m d d' n =
    or_from (nat_lt 8 (length (parameters_of l m))) (nat_lt 1024 (level_depth l) || nat_lt 1024 (level_depth m)) (not_above 8 (length (parameters_of l m)) n)
    (or_from (nat_lt 1024 (level_depth l)) (nat_lt 1024 (level_depth m)) (not_above 1024 (level_depth l) d) (not_above 1024 (level_depth m) d'))

test_is : (l m : Universe) → HasNoMetavariable l → HasNoMetavariable m → level_depth l ≤ 1024 → level_depth m ≤ 1024 → length (parameters_of l m) ≤ 8
    → is_same l m ≡ both_orders l m
unfolding is_same
test_is l m o o' d d' n =
    cond-false (has_metavariable l || has_metavariable m) (same_universe l m) _
    (or_from (has_metavariable l) (has_metavariable m) (found_none l o) (found_none m o'))
    ∙ cond-false (is_too_great l m) false (both_orders l m) (within l m d d' n)

level_exact : (l m : Universe) → HasNoMetavariable l → HasNoMetavariable m → level_depth l ≤ 1024 → level_depth m ≤ 1024 → length (parameters_of l m) ≤ 8
    → (is_same l m ≡ true) ↔ Same l m
level_exact l m o o' d d' n = same_answer l m (parameters_of l m) (is_same l m) refl o o' d d' (test_is l m o o' d d' n)

-- The same of the order.

abbrev one_order : Universe → Universe → Bool
one_order l m = passes l m (parameters_of l m) [] (parameters_of l m) true

ordered : (l m : Universe) → has_metavariable l ≡ false → has_metavariable m ≡ false → is_too_great l m ≡ false → one_order l m ≡ true → Leq l m
ordered l m p q g h =
    let a = or_parts (nat_lt 8 (length (parameters_of l m))) (nat_lt 1024 (level_depth l) || nat_lt 1024 (level_depth m)) g in
    let b = or_parts (nat_lt 1024 (level_depth l)) (nat_lt 1024 (level_depth m)) a.1 in
    (leq_answer l m (parameters_of l m) (one_order l m) refl (no_metavariable l p) (no_metavariable m q) (ltb-false 1024 (level_depth m) b.1) refl).0 h

pub level_at_most : (l m : Universe) → is_at_most l m ≡ true → Leq l m
unfolding is_at_most
level_at_most l m =
    cond_both (has_metavariable l || has_metavariable m) (same_universe l m) _ (λ b. b ≡ true → Leq l m)
    (λ e h s. let v : value_of s l ≡ value_of s m = ap (λ k. value_of s k) (universe_is l m h) in omega (arith, v))
    (λ e. cond_both (is_too_great l m) false (one_order l m) (λ b. b ≡ true → Leq l m) (λ g h. no_false h)
    (λ g h. let p = or_parts (has_metavariable l) (has_metavariable m) e in ordered l m p.0 p.1 g h))

order_is : (l m : Universe) → HasNoMetavariable l → HasNoMetavariable m → level_depth l ≤ 1024 → level_depth m ≤ 1024 → length (parameters_of l m) ≤ 8
    → is_at_most l m ≡ one_order l m
unfolding is_at_most
order_is l m o o' d d' n =
    cond-false (has_metavariable l || has_metavariable m) (same_universe l m) _
    (or_from (has_metavariable l) (has_metavariable m) (found_none l o) (found_none m o'))
    ∙ cond-false (is_too_great l m) false (one_order l m) (within l m d d' n)

pub order_exact : (l m : Universe) → HasNoMetavariable l → HasNoMetavariable m → level_depth l ≤ 1024 → level_depth m ≤ 1024 → length (parameters_of l m) ≤ 8
    → (is_at_most l m ≡ true) ↔ Leq l m
order_exact l m o o' d d' n = leq_answer l m (parameters_of l m) (is_at_most l m) refl o o' d' (order_is l m o o' d d' n)

pub level_test_is_exact : LevelTestIsExact
level_test_is_exact = record { sound = level_same; exact = level_exact; sound_order = level_at_most; exact_order = order_exact }
