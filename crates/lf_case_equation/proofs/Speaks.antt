-- A variable that is later than all of a term doesn't stand in it.
use Rattle.std.proofs.Common.{◌≡◌, ℕ, ◌+◌, ◌≤◌, Bool, true, false, refl, arith, true≢false}
use Rattle.std.proofs.lemmas.Bool.Decides.{nat_tests}
use Rattle.std.specs.Prelude.{◌||◌, nat_eq}
use Rattle.lf_core.specs.Term.{Term, bound, free, meta, sort, const, app, lam, pi, letin, lit, proj}
use Rattle.lf_core.specs.Summary.{free_bound}
use Rattle.lf_elaboration.specs.Induction.{speaks_of}

neither : (p q : Bool) → p ≡ false → q ≡ false → (p || q) ≡ false
neither false false h k = refl
neither false true h k = absurd (true≢false k)
neither true q h k = absurd (true≢false h)

earlier : (j k : ℕ) → j + 1 ≤ k → nat_eq j k ≡ false
earlier j k h = grind (arith, nat_tests)

pub silent : (k : ℕ) (t : Term) → free_bound t ≤ k → speaks_of k t ≡ false
silent k (free j) h = earlier j k h
silent k (bound i) h = refl
silent k (meta j) h = refl
silent k (sort l) h = refl
silent k (const c ls) h = refl
silent k (app f a) h = neither _ _ (silent k f (omega (arith, h))) (silent k a (omega (arith, h)))
silent k (lam x a b) h = neither _ _ (silent k a (omega (arith, h))) (silent k b (omega (arith, h)))
silent k (pi x a b) h = neither _ _ (silent k a (omega (arith, h))) (silent k b (omega (arith, h)))
silent k (letin x a v b) h = neither _ _ (silent k a (omega (arith, h))) (neither _ _ (silent k v (omega (arith, h))) (silent k b (omega (arith, h))))
silent k (lit n) h = refl
silent k (proj s i t) h = silent k t h
