-- What holds in all trials is what the decision passes.
use Rattle.std.proofs.Common.{
  ◌≡◌,
  ℕ,
  zero,
  suc,
  ◌+◌,
  ◌<◌,
  ◌≤◌,
  nat_eq,
  nat_le,
  Bool,
  true,
  false,
  ◌&&◌,
  All,
  List,
  [],
  ◌∷◌,
  ◌++◌,
  length,
  take,
  refl,
  sym,
  ap,
  subst,
  ◌∙◌,
  ◌↔◌,
  IsTrue,
  arith,
}
use Rattle.std.specs.Prelude.{if◌then◌else◌, slice_set}
use Rattle.std.proofs.lemmas.Bool.{and_parts, leb-true}
use Rattle.std.proofs.lemmas.Bool.Decides.{nat_tests}
use Rattle.std.proofs.lemmas.List.{take_more_set, length-set}
use Rattle.std.proofs.lemmas.List.Elements.{All-append, All-take, All-drop, All-cons, All-head, All-set}
use Rattle.std.proofs.Math.Seq.{take-append_seam, drop-append_seam}
use Rattle.lf_core.specs.Term.{Universe}
use Rattle.lf_core.specs.Level.{value_of}
use Rattle.lf_level.specs.Decision.{assigned, assignment, passes}
use Rattle.lf_level.specs.Lanes.{IsSmall, trials, all_trials, HoldsAt}

-- ---- The values behind the names count for nothing.

front_assigned : (names vs : List ℕ) (n k : ℕ) → length names ≤ n → assigned names (take n vs) k ≡ assigned names vs k
front_assigned [] vs n k h = refl
front_assigned (m ∷ ms) [] zero k h = refl
front_assigned (m ∷ ms) [] (suc n) k h = refl
front_assigned (m ∷ ms) (v ∷ vs) zero k h = absurd (omega arith)
front_assigned (m ∷ ms) (v ∷ vs) (suc n) k h = ap (λ r. if nat_eq m k then v else r) (front_assigned ms vs n k (omega arith))

front_assignment : (names vs : List ℕ) (n : ℕ) → length names ≤ n → assignment names (take n vs) ≡ assignment names vs
front_assignment names vs n h = λ i. record { parameter = λ k. front_assigned names vs n k h i; metavariable = λ k. 0 }

front_value : (names vs : List ℕ) (n : ℕ) (l : Universe) → length names ≤ n → value_of (assignment names (take n vs)) l ≡ value_of (assignment names vs) l
front_value names vs n l h = ap (λ s. value_of s l) (front_assignment names vs n h)

-- ---- Both ways.

le_true : (m n : ℕ) → m ≤ n → nat_le m n ≡ true
le_true m n h = grind (arith, nat_tests)

and_true : (a b : Bool) → a ≡ true → b ≡ true → (a && b) ≡ true
and_true true b p q = q
and_true false b p q = p

none : (P : List ℕ → Type 0) → All P []
none P = λ k d l. absurd (omega arith)

one : (P : List ℕ → Type 0) (x : List ℕ) → P x → All P (x ∷ [])
one P x h = All-cons P x [] h (none P)

left_all : (P : List ℕ → Type 0) (xs ys : List (List ℕ)) → All P (xs ++ ys) → All P xs
left_all P xs ys h = subst (All P) (take-append_seam xs ys) (All-take P (length xs) (xs ++ ys) h)

right_all : (P : List ℕ → Type 0) (xs ys : List (List ℕ)) → All P (xs ++ ys) → All P ys
right_all P xs ys h = subst (All P) (drop-append_seam xs ys) (All-drop P (length xs) (xs ++ ys) h)

more_values : (u v : Universe) (names values : List ℕ) (at n : ℕ) (rest : List ℕ) (far : Bool) → at < length values
    → passes u v names (take (suc at) (slice_set values at n)) rest far ≡ passes u v names (take at values ++ n ∷ []) rest far
more_values u v names values at n rest far h =
    let e : at + 1 ≡ suc at = omega arith in
    ap (λ w. passes u v names w rest far) (subst (λ m. take m (slice_set values at n) ≡ take at values ++ n ∷ []) e (take_more_set values at n h))

same_length : (values : List ℕ) (at n : ℕ) → length values ≡ 8 → length (slice_set values at n) ≡ 8
same_length values at n e = length-set values at n ∙ e

pub tried_if_passed : (u v : Universe) (names values : List ℕ) (at : ℕ) (rest : List ℕ) (far : Bool) → length values ≡ 8 → at + length rest ≤ 8
    → length names ≤ at + length rest → passes u v names (take at values) rest far ≡ true
    → All (HoldsAt false u v names) (trials values at rest far)
tried_if_passed u v names values at [] far l room n p =
    let le : value_of (assignment names (take at values)) u ≤ value_of (assignment names (take at values)) v = leb-true _ _ p in
    let h : HoldsAt false u v names values = subst (λ m. m ≤ value_of (assignment names values) v) (front_value names values at u (omega (arith, n)))
    (subst (λ m. value_of (assignment names (take at values)) u ≤ m) (front_value names values at v (omega (arith, n))) le) in
    one (HoldsAt false u v names) values h
tried_if_passed u v names values at (r ∷ rest) true l room n p =
    let here : at < length values = omega (arith, l) in
    let a = and_parts (passes u v names (take at values ++ 0 ∷ []) rest true && passes u v names (take at values ++ 1 ∷ []) rest true)
    (passes u v names (take at values ++ 1025 ∷ []) rest false) p in
    let b = and_parts (passes u v names (take at values ++ 0 ∷ []) rest true) (passes u v names (take at values ++ 1 ∷ []) rest true) a.0 in
    let P : List ℕ → Type 0 = HoldsAt false u v names in
    All-append P (trials (slice_set values at 0) (suc at) rest true)
    (trials (slice_set values at 1) (suc at) rest true ++ trials (slice_set values at 1025) (suc at) rest false)
    (tried_if_passed u v names (slice_set values at 0) (suc at) rest true (same_length values at 0 l) (omega (arith, room)) (omega (arith, n))
    (more_values u v names values at 0 rest true here ∙ b.0))
    (All-append P (trials (slice_set values at 1) (suc at) rest true) (trials (slice_set values at 1025) (suc at) rest false)
    (tried_if_passed u v names (slice_set values at 1) (suc at) rest true (same_length values at 1 l) (omega (arith, room)) (omega (arith, n))
    (more_values u v names values at 1 rest true here ∙ b.1))
    (tried_if_passed u v names (slice_set values at 1025) (suc at) rest false (same_length values at 1025 l) (omega (arith, room)) (omega (arith, n))
    (more_values u v names values at 1025 rest false here ∙ a.1)))
tried_if_passed u v names values at (r ∷ rest) false l room n p =
    let here : at < length values = omega (arith, l) in
    let a = and_parts (passes u v names (take at values ++ 0 ∷ []) rest false && passes u v names (take at values ++ 1 ∷ []) rest false) true p in
    let b = and_parts (passes u v names (take at values ++ 0 ∷ []) rest false) (passes u v names (take at values ++ 1 ∷ []) rest false) a.0 in
    let P : List ℕ → Type 0 = HoldsAt false u v names in
    All-append P (trials (slice_set values at 0) (suc at) rest false) (trials (slice_set values at 1) (suc at) rest false ++ [])
    (tried_if_passed u v names (slice_set values at 0) (suc at) rest false (same_length values at 0 l) (omega (arith, room)) (omega (arith, n))
    (more_values u v names values at 0 rest false here ∙ b.0))
    (All-append P (trials (slice_set values at 1) (suc at) rest false) []
    (tried_if_passed u v names (slice_set values at 1) (suc at) rest false (same_length values at 1 l) (omega (arith, room)) (omega (arith, n))
    (more_values u v names values at 1 rest false here ∙ b.1))
    (none _))

pub passed_if_tried : (u v : Universe) (names values : List ℕ) (at : ℕ) (rest : List ℕ) (far : Bool) → length values ≡ 8 → at + length rest ≤ 8
    → length names ≤ at + length rest → All (HoldsAt false u v names) (trials values at rest far)
    → passes u v names (take at values) rest far ≡ true
passed_if_tried u v names values at [] far l room n h =
    let le : HoldsAt false u v names values = All-head (HoldsAt false u v names) values [] h in
    le_true _ _ (subst (λ m. m ≤ value_of (assignment names (take at values)) v) (sym (front_value names values at u (omega (arith, n))))
    (subst (λ m. value_of (assignment names values) u ≤ m) (sym (front_value names values at v (omega (arith, n)))) le))
passed_if_tried u v names values at (r ∷ rest) true l room n h =
    let here : at < length values = omega (arith, l) in
    let P : List ℕ → Type 0 = HoldsAt false u v names in
    let behind = trials (slice_set values at 1) (suc at) rest true ++ trials (slice_set values at 1025) (suc at) rest false in
    let a = left_all P (trials (slice_set values at 0) (suc at) rest true) behind h in
    let b = right_all P (trials (slice_set values at 0) (suc at) rest true) behind h in
    let c = left_all P (trials (slice_set values at 1) (suc at) rest true) (trials (slice_set values at 1025) (suc at) rest false) b in
    let d = right_all P (trials (slice_set values at 1) (suc at) rest true) (trials (slice_set values at 1025) (suc at) rest false) b in
    and_true (passes u v names (take at values ++ 0 ∷ []) rest true && passes u v names (take at values ++ 1 ∷ []) rest true) _ (and_true _ _
    (sym (more_values u v names values at 0 rest true here) ∙ passed_if_tried u v names (slice_set values at 0) (suc at) rest true (same_length values at 0 l)
    (omega (arith, room)) (omega (arith, n)) a)
    (sym (more_values u v names values at 1 rest true here) ∙ passed_if_tried u v names (slice_set values at 1) (suc at) rest true (same_length values at 1 l)
    (omega (arith, room)) (omega (arith, n)) c))
    (sym (more_values u v names values at 1025 rest false here) ∙ passed_if_tried u v names (slice_set values at 1025) (suc at) rest false
    (same_length values at 1025 l) (omega (arith, room)) (omega (arith, n)) d)
passed_if_tried u v names values at (r ∷ rest) false l room n h =
    let here : at < length values = omega (arith, l) in
    let P : List ℕ → Type 0 = HoldsAt false u v names in
    let behind = trials (slice_set values at 1) (suc at) rest false ++ [] in
    let a = left_all P (trials (slice_set values at 0) (suc at) rest false) behind h in
    let b = right_all P (trials (slice_set values at 0) (suc at) rest false) behind h in
    let c = left_all P (trials (slice_set values at 1) (suc at) rest false) [] b in
    and_true (passes u v names (take at values ++ 0 ∷ []) rest false && passes u v names (take at values ++ 1 ∷ []) rest false) true (and_true _ _
    (sym (more_values u v names values at 0 rest false here) ∙ passed_if_tried u v names (slice_set values at 0) (suc at) rest false (same_length values at 0 l)
    (omega (arith, room)) (omega (arith, n)) a)
    (sym (more_values u v names values at 1 rest false here) ∙ passed_if_tried u v names (slice_set values at 1) (suc at) rest false (same_length values at 1 l)
    (omega (arith, room)) (omega (arith, n)) c))
    refl

-- ---- All that is tried is small.

pub trials_small : (values : List ℕ) (at : ℕ) (rest : List ℕ) (far : Bool) → IsSmall values → All IsSmall (trials values at rest far)
trials_small values at [] far s = one IsSmall values s
trials_small values at (r ∷ rest) true s =
    All-append IsSmall (trials (slice_set values at 0) (suc at) rest true) _
    (trials_small (slice_set values at 0) (suc at) rest true (All-set (λ x. x ≤ 1025) values at 0 (omega arith) s))
    (All-append IsSmall (trials (slice_set values at 1) (suc at) rest true) _
    (trials_small (slice_set values at 1) (suc at) rest true (All-set (λ x. x ≤ 1025) values at 1 (omega arith) s))
    (trials_small (slice_set values at 1025) (suc at) rest false (All-set (λ x. x ≤ 1025) values at 1025 (omega arith) s)))
trials_small values at (r ∷ rest) false s =
    All-append IsSmall (trials (slice_set values at 0) (suc at) rest false) _
    (trials_small (slice_set values at 0) (suc at) rest false (All-set (λ x. x ≤ 1025) values at 0 (omega arith) s))
    (All-append IsSmall (trials (slice_set values at 1) (suc at) rest false) []
    (trials_small (slice_set values at 1) (suc at) rest false (All-set (λ x. x ≤ 1025) values at 1 (omega arith) s))
    (none _))

-- ---- What is answered.

abbrev zeros : List ℕ
zeros = 0 ∷ 0 ∷ 0 ∷ 0 ∷ 0 ∷ 0 ∷ 0 ∷ 0 ∷ []

leq_tried : (u v : Universe) (names : List ℕ) → length names ≤ 8 → (passes u v names [] names true ≡ true) ↔ All (HoldsAt false u v names) (all_trials names)
leq_tried u v names h = (
  tried_if_passed u v names zeros 0 names true refl (omega (arith, h)) (omega arith),
  passed_if_tried u v names zeros 0 names true refl
      (omega (arith, h)) (omega arith),
)

both_ways : (u v : Universe) (names : List ℕ) (ts : List (List ℕ)) → All (HoldsAt false u v names) ts → All (HoldsAt false v u names) ts
    → All (HoldsAt true u v names) ts
both_ways u v names ts a b = λ k d l. let x = a k d l in let y = b k d l in omega arith

one_way : (u v : Universe) (names : List ℕ) (ts : List (List ℕ)) → All (HoldsAt true u v names) ts → All (HoldsAt false u v names) ts
one_way u v names ts a = λ k d l. let x = a k d l in omega arith

other_way : (u v : Universe) (names : List ℕ) (ts : List (List ℕ)) → All (HoldsAt true u v names) ts → All (HoldsAt false v u names) ts
other_way u v names ts a = λ k d l. let x = a k d l in omega arith

-- A test that is told by what is tried answers as the decision does.
told : (b c : Bool) {P : Type 0} → IsTrue b ↔ P → (c ≡ true) ↔ P → b ≡ c
told true true p q = refl
told false false p q = refl
told true false p q = sym (q.1 (p.0 refl))
told false true p q = p.1 (q.0 refl)

pub leq_told : (u v : Universe) (names : List ℕ) (b : Bool) → length names ≤ 8 → IsTrue b ↔ All (HoldsAt false u v names) (all_trials names)
    → b ≡ passes u v names [] names true
leq_told u v names b h t = told b (passes u v names [] names true) t (leq_tried u v names h)

pub same_told : (u v : Universe) (names : List ℕ) (b : Bool) → length names ≤ 8 → IsTrue b ↔ All (HoldsAt true u v names) (all_trials names)
    → b ≡ (passes u v names [] names true && passes v u names [] names true)
same_told u v names b h t =
    let l = leq_tried u v names h in
    let g = leq_tried v u names h in
    told b (passes u v names [] names true && passes v u names [] names true) t (
      (λ e. let p = and_parts (passes u v names [] names true) (passes v u names [] names true) e in both_ways u v names (all_trials names) (l.0 p.0)
          (g.0 p.1)),
      (λ a. and_true (passes u v names [] names true) (passes v u names [] names true) (l.1 (one_way u v names (all_trials names) a))
          (g.1 (other_way u v names (all_trials names) a))),
    )
