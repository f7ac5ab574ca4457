-- What the tests of form tell of a field, of an end, and of levels.
use Rattle.std.proofs.Common.{◌≡◌, ◌⊎◌, inl, inr, ℕ, zero, suc, Bool, true, false, not, ◌&&◌, ◌||◌, nat_eq, List, [], ◌∷◌, length, refl, sym, arith, Contains}
use Rattle.std.proofs.lemmas.Bool.{eqb-true, and_parts, or_parts, not-true}
use Rattle.lf_core.specs.Term.{Path, Universe, level_zero, level_succ, Term, bound, free, meta, sort, const, app, lam, pi, letin, lit, proj}
use Rattle.lf_core.specs.Level.{Leq, Same}
use Rattle.lf_core.specs.Same.{same}
use Rattle.lf_core.specs.Spine.{apply}
use Rattle.lf_rules.specs.Telescope.{pi_count}
use Rattle.lf_rules.specs.Recursor.{Family, self, indices_of}
use Rattle.lf_rules.specs.Inductive.{AllWithout, AtIndices, Recursive, at_indices, over, Positive, NeverZero, ProofsOrIndices}
use Rattle.lf_checker.specs.LevelTest.{is_same, is_at_most}
use Rattle.lf_checker.specs.Structures.{mentions}
use Rattle.lf_checker.specs.Admission.{any_mentions, is_at_indices, ends_at_indices, is_positive, is_low, is_never_zero, is_index, are_proofs_or_indices}
use Rattle.lf_checker_laws.proofs.Structures.{without}
use Rattle.lf_core.proofs.Trees.{term_is}
use Rattle.lf_checker_laws.proofs.Tests.{no_false, level_same, level_at_most}

pub either : (x y : Bool) → (x || y) ≡ true → (x ≡ true) ⊎ (y ≡ true)
either true y e = inl refl
either false y e = inr e

all_without : (n : Path) (ts : List Term) → any_mentions n ts ≡ false → AllWithout n ts
all_without n [] e = tt
all_without n (t ∷ ts) e = let p = or_parts (mentions n t) (any_mentions n ts) e in (without n t p.0, all_without n ts p.1)

pub at_indices_is : (f : Family) (t : Term) → is_at_indices f t ≡ true → AtIndices f t (indices_of f t)
at_indices_is f t e =
    let p = and_parts (same t (apply (self f) (indices_of f t)))
    (nat_eq (length (indices_of f t)) (pi_count f.rest) && not (any_mentions f.name (indices_of f t))) e in
    let q = and_parts (nat_eq (length (indices_of f t)) (pi_count f.rest)) (not (any_mentions f.name (indices_of f t))) p.1 in
    record {
      form = term_is t (apply (self f) (indices_of f t)) p.0;
      whole = eqb-true (length (indices_of f t)) (pi_count f.rest) q.0;
      nowhere = all_without f.name (indices_of f t) (not-true (any_mentions f.name (indices_of f t)) q.1);
    }

recursive_at : (f : Family) (t : Term) → is_at_indices f t ≡ true → Recursive f t
recursive_at f t e = at_indices (indices_of f t) (at_indices_is f t e)

recursive_is : (f : Family) (A : Term) → ends_at_indices f A ≡ true → Recursive f A
recursive_is f (pi x A B) e =
    let p = and_parts (not (mentions f.name A)) (ends_at_indices f B) e in
    over (without f.name A (not-true (mentions f.name A) p.0)) (recursive_is f B p.1)
recursive_is f (bound i) e = recursive_at f (bound i) e
recursive_is f (free k) e = recursive_at f (free k) e
recursive_is f (meta k) e = recursive_at f (meta k) e
recursive_is f (sort l) e = recursive_at f (sort l) e
recursive_is f (const c ls) e = recursive_at f (const c ls) e
recursive_is f (app g a) e = recursive_at f (app g a) e
recursive_is f (lam x A b) e = recursive_at f (lam x A b) e
recursive_is f (letin x A v b) e = recursive_at f (letin x A v b) e
recursive_is f (lit k) e = recursive_at f (lit k) e
recursive_is f (proj s i t) e = recursive_at f (proj s i t) e

pub positive_is : (f : Family) (A : Term) → is_positive f A ≡ true → Positive f A
positive_is f A e = one (either (not (mentions f.name A)) (ends_at_indices f A) e)
  where
    one : (not (mentions f.name A) ≡ true) ⊎ (ends_at_indices f A ≡ true) → Positive f A
    one (inl p) = inl (without f.name A (not-true (mentions f.name A) p))
    one (inr p) = inr (recursive_is f A p)

pub low_is : (l r : Universe) → is_low l r ≡ true → Same r level_zero ⊎ Leq l r
low_is l r e = one (either (is_same r level_zero) (is_at_most l r) e)
  where
    one : (is_same r level_zero ≡ true) ⊎ (is_at_most l r ≡ true) → Same r level_zero ⊎ Leq l r
    one (inl p) = inl (level_same r level_zero p)
    one (inr p) = inr (level_at_most l r p)

pub never_zero_is : (r : Universe) → is_never_zero r ≡ true → NeverZero r
never_zero_is r e s = let h = level_at_most (level_succ level_zero) r e s in omega (arith, h)

index_is : (k : ℕ) (ts : List Term) → is_index k ts ≡ true → Contains ts (free k)
index_is k [] e = no_false e
index_is k (t ∷ ts) e = one (either (same (free k) t) (is_index k ts) e) (λ p. index_is k ts p)
  where
    one : (same (free k) t ≡ true) ⊎ (is_index k ts ≡ true) → (is_index k ts ≡ true → Contains ts (free k)) → Contains (t ∷ ts) (free k)
    one (inl p) g = (zero, omega arith, sym (term_is (free k) t p))
    one (inr p) g = let w = g p in (suc w.0, omega (arith, w.1), w.2)

pub small_is : (k : ℕ) (ls : List Universe) (is : List Term) → are_proofs_or_indices k ls is ≡ true → ProofsOrIndices k ls is
small_is k [] is e = tt
small_is k (l ∷ ls) is e =
    let p = and_parts (is_same l level_zero || is_index k is) (are_proofs_or_indices (suc k) ls is) e in
    (one (either (is_same l level_zero) (is_index k is) p.0), small_is (suc k) ls is p.1)
  where
    one : (is_same l level_zero ≡ true) ⊎ (is_index k is ≡ true) → Same l level_zero ⊎ Contains is (free k)
    one (inl q) = inl (level_same l level_zero q)
    one (inr q) = inr (index_is k is q)
