-- Which variables stand in terms, and which locals depend on them.
use Rattle.std.proofs.Common.{◌≡◌, ℕ, zero, suc, ◌+◌, ◌≤◌, ◌<◌, Bool, true, false, List, [], ◌∷◌, length, drop, get_or, refl, ap, sym, ◌∙◌, arith, true≢false}
use Rattle.std.proofs.Math.Seq.{drop-cons}
use Rattle.std.proofs.lemmas.Bool.Decides.{nat_tests}
use Rattle.std.specs.Prelude.{◌||◌, ◌&&◌, nat_eq}
use Rattle.lf_core.specs.Term.{Term, bound, free, meta, sort, const, app, lam, pi, letin, lit, proj}
use Rattle.lf_core.specs.Summary.{free_bound}
use Rattle.lf_elaboration.specs.Induction.{speaks_of, none_depends}
use Rattle.lf_cases.specs.Parts.{is_independent}

neither : (p q : Bool) → p ≡ false → q ≡ false → (p || q) ≡ false
neither false false h k = refl
neither false true h k = absurd (true≢false k)
neither true q h k = absurd (true≢false h)

earlier : (j k : ℕ) → j + 1 ≤ k → nat_eq j k ≡ false
earlier j k h = grind (arith, nat_tests)

pub silent : (k : ℕ) (t : Term) → free_bound t ≤ k → speaks_of k t ≡ false
silent k (free j) h = earlier j k h
silent k (bound i) h = refl
silent k (meta j) h = refl
silent k (sort l) h = refl
silent k (const c ls) h = refl
silent k (app f a) h = neither _ _ (silent k f (omega (arith, h))) (silent k a (omega (arith, h)))
silent k (lam x a b) h = neither _ _ (silent k a (omega (arith, h))) (silent k b (omega (arith, h)))
silent k (pi x a b) h = neither _ _ (silent k a (omega (arith, h))) (silent k b (omega (arith, h)))
silent k (letin x a v b) h = neither _ _ (silent k a (omega (arith, h))) (neither _ _ (silent k v (omega (arith, h))) (silent k b (omega (arith, h))))
silent k (lit n) h = refl
silent k (proj s i t) h = silent k t h

-- The locals from number i on: the first of them, and the others.
none_from : (x : ℕ) (ks : List ℕ) (C : List Term) (i : ℕ) (A : Term) → i < length C → get_or C i A ≡ A
    → none_depends x ks i (drop i C) ≡ (is_independent x ks i A && none_depends x ks (suc i) (drop (suc i) C))
none_from x ks C i A h e = ap (none_depends x ks i) (drop-cons C i A h ∙ ap (λ B. B ∷ drop (suc i) C) e)

pub none_left : (x : ℕ) (ks : List ℕ) (C : List Term) (i : ℕ) → length C ≤ i → none_depends x ks i (drop i C) ≡ true
none_left x ks [] zero h = refl
none_left x ks [] (suc i) h = refl
none_left x ks (A ∷ C) zero h = absurd (omega (arith, h))
none_left x ks (A ∷ C) (suc i) h = none_left_from x ks C i (suc i) (omega (arith, h))
  where
    none_left_from : (x : ℕ) (ks : List ℕ) (C : List Term) (i j : ℕ) → length C ≤ i → none_depends x ks j (drop i C) ≡ true
    none_left_from x ks [] zero j h = refl
    none_left_from x ks [] (suc i) j h = refl
    none_left_from x ks (A ∷ C) zero j h = absurd (omega (arith, h))
    none_left_from x ks (A ∷ C) (suc i) j h = none_left_from x ks C i j (omega (arith, h))

and_false : (p q : Bool) → p ≡ false → (p && q) ≡ false
and_false false q h = refl
and_false true q h = absurd (true≢false h)

and_true : (p q : Bool) → p ≡ true → (p && q) ≡ q
and_true true q h = refl
and_true false q h = absurd (true≢false (sym h))

pub one_dependent : (x : ℕ) (ks : List ℕ) (C : List Term) (i : ℕ) (A : Term) → i < length C → get_or C i A ≡ A → is_independent x ks i A ≡ false
    → none_depends x ks i (drop i C) ≡ false
one_dependent x ks C i A h e d = none_from x ks C i A h e ∙ and_false (is_independent x ks i A) _ d

pub one_independent : (x : ℕ) (ks : List ℕ) (C : List Term) (i : ℕ) (A : Term) → i < length C → get_or C i A ≡ A → is_independent x ks i A ≡ true
    → none_depends x ks i (drop i C) ≡ none_depends x ks (i + 1) (drop (i + 1) C)
one_independent x ks C i A h e d =
    let j : suc i ≡ i + 1 = omega arith in
    none_from x ks C i A h e ∙ and_true (is_independent x ks i A) _ d ∙ ap (λ k. none_depends x ks k (drop k C)) j
