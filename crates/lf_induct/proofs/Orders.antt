-- The code's test of one level at most another is the definition's.
use Rattle.std.proofs.Common.{◌≡◌, ℕ, ◌≤◌, ◌<◌, true, false, ◌||◌, nat_lt, Bool, [], length, refl, sym, ◌∙◌, ◌↔◌, arith, true≢false, IsTrue}
use Rattle.std.proofs.lemmas.Bool.{ltb-true, or_from, cond-false, false_from_ne_true, lt-ltb}
use Rattle.std.specs.Prelude.{if◌then◌else◌}
use Rattle.lf_core.specs.Term.{Universe}
use Rattle.lf_core.specs.Level.{Leq}
use Rattle.lf_core.specs.Same.{same_universe}
use Rattle.lf_core.specs.Size.{level_depth}
use Rattle.lf_core.specs.Summary.{level_has_metavariable}
use Rattle.lf_level.specs.Parameters.{parameters_of}
use Rattle.lf_level.specs.Decision.{passes}
use Rattle.lf_level.proofs.Decided.{leq_answer}
use Rattle.lf_checker.specs.LevelTest.{is_too_great, is_at_most}
use Rattle.lf_steps.proofs.LevelTests.{no_metavariable}

abbrev one_order : Universe → Universe → Bool
one_order l m = passes l m (parameters_of l m) [] (parameters_of l m) true

met : (a b : Bool) (s : Bool) (rest : Bool) → (a || b) ≡ true → (if a || b then s else rest) ≡ s
met true b s rest h = refl
met false true s rest h = refl
met false false s rest h = absurd (true≢false (sym h))

pub left_meta : (l m : Universe) → level_has_metavariable l ≡ true → same_universe l m ≡ is_at_most l m
unfolding is_at_most
left_meta l m h = let e : (level_has_metavariable l || level_has_metavariable m) ≡ true = rw h refl in
    sym (met (level_has_metavariable l) (level_has_metavariable m) (same_universe l m) _ e)

or_right : (a b : Bool) → b ≡ true → (a || b) ≡ true
or_right true b h = refl
or_right false b h = h

or_left : (a b : Bool) → a ≡ true → (a || b) ≡ true
or_left true b h = refl
or_left false b h = absurd (true≢false (sym h))

pub right_meta : (l m : Universe) → level_has_metavariable m ≡ true → same_universe l m ≡ is_at_most l m
unfolding is_at_most
right_meta l m h = sym (met (level_has_metavariable l) (level_has_metavariable m) (same_universe l m) _
    (or_right (level_has_metavariable l) (level_has_metavariable m) h))

-- Without a metavariable, the limits and then the order.
plain : (l m : Universe) → level_has_metavariable l ≡ false → level_has_metavariable m ≡ false
    → is_at_most l m ≡ (if is_too_great l m then false else one_order l m)
unfolding is_at_most
plain l m p q = cond-false (level_has_metavariable l || level_has_metavariable m) (same_universe l m) _
    (or_from (level_has_metavariable l) (level_has_metavariable m) p q)

great : (b r : Bool) → b ≡ true → (if b then false else r) ≡ false
great true r h = refl
great false r h = absurd (true≢false (sym h))

refused : (l m : Universe) → level_has_metavariable l ≡ false → level_has_metavariable m ≡ false → is_too_great l m ≡ true → false ≡ is_at_most l m
refused l m p q h = sym (plain l m p q ∙ great (is_too_great l m) (one_order l m) h)

pub too_many : (l m : Universe) → level_has_metavariable l ≡ false → level_has_metavariable m ≡ false → 8 < length (parameters_of l m)
    → false ≡ is_at_most l m
too_many l m p q h = refused l m p q (or_left (nat_lt 8 (length (parameters_of l m))) _ (lt-ltb 8 (length (parameters_of l m)) h))

pub left_deep : (l m : Universe) → level_has_metavariable l ≡ false → level_has_metavariable m ≡ false → 1024 < level_depth l → false ≡ is_at_most l m
left_deep l m p q h = refused l m p q (or_right (nat_lt 8 (length (parameters_of l m))) _
    (or_left (nat_lt 1024 (level_depth l)) _ (lt-ltb 1024 (level_depth l) h)))

pub right_deep : (l m : Universe) → level_has_metavariable l ≡ false → level_has_metavariable m ≡ false → 1024 < level_depth m → false ≡ is_at_most l m
right_deep l m p q h = refused l m p q (or_right (nat_lt 8 (length (parameters_of l m))) _
    (or_right (nat_lt 1024 (level_depth l)) _ (lt-ltb 1024 (level_depth m) h)))

not_above : (a b : ℕ) → b ≤ a → nat_lt a b ≡ false
not_above a b h = false_from_ne_true (nat_lt a b) (λ e. let l = ltb-true a b e in omega arith)

within : (l m : Universe) → level_depth l ≤ 1024 → level_depth m ≤ 1024 → length (parameters_of l m) ≤ 8 → is_too_great l m ≡ false
within l m d d' n =
    or_from (nat_lt 8 (length (parameters_of l m))) (nat_lt 1024 (level_depth l) || nat_lt 1024 (level_depth m)) (not_above 8 (length (parameters_of l m)) n)
    (or_from (nat_lt 1024 (level_depth l)) (nat_lt 1024 (level_depth m)) (not_above 1024 (level_depth l) d) (not_above 1024 (level_depth m) d'))

-- Two tests of one fact.
one_answer : {P : Type 0} (a b : Bool) → IsTrue a ↔ P → IsTrue b ↔ P → a ≡ b
one_answer true true p q = refl
one_answer false false p q = refl
one_answer true false p q = absurd (true≢false (sym (q.1 (p.0 refl))))
one_answer false true p q = absurd (true≢false (sym (p.1 (q.0 refl))))

pub tested_is : (l m : Universe) (b : Bool) → level_has_metavariable l ≡ false → level_has_metavariable m ≡ false → level_depth l ≤ 1024 → level_depth m ≤ 1024
    → length (parameters_of l m) ≤ 8 → IsTrue b ↔ Leq l m → b ≡ is_at_most l m
tested_is l m b p q d d' n h =
    let fits = within l m d d' n in
    let told = leq_answer l m (parameters_of l m) (one_order l m) refl (no_metavariable l p) (no_metavariable m q) d' refl in
    one_answer b (one_order l m) h told ∙ sym (plain l m p q ∙ cond-false (is_too_great l m) false (one_order l m) fits)
