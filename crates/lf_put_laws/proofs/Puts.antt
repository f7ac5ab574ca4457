-- Putting in with later values gives a later form.
use Rattle.std.proofs.Common.{◌≡◌, ℕ, zero, suc, ◌-◌, ◌≤◌, sym, ap, subst, arith, zero-le, map}
use Rattle.lf_core.specs.Term.{Universe, Term, bound, free, meta, sort, const, app, lam, pi, letin, lit, proj}
use Rattle.lf_elaboration.specs.Metavariables.{Put, as_it_is, leading_lambdas, reduced, put_before, with_values, level_with}
use Rattle.lf_put_laws.specs.Later.{Later, stands, bounds, frees, metas, sorts, consts, lits, apps, lams, pis, lets, projs, reduces}
use Rattle.lf_put_laws.proofs.Instances.{by_eq}
use Rattle.lf_put_laws.specs.Scope.{Shows}
use Rattle.lf_put_laws.proofs.Shown.{instance_shows}
use Rattle.lf_put_laws.proofs.Laters.{Closing, later_instance, lambdas_instance}

-- The later form of a term with the lambdas that an application reduces: at least as many, and all of them are there.
pub record LaterPut (S : ℕ → Term → Type 0) (p q : Put) : Type 0 where
  pub terms : Later S p.term q.term
  pub fewer : p.lambdas ≤ q.lambdas
  pub first : p.lambdas ≤ leading_lambdas p.term
  pub second : q.lambdas ≤ leading_lambdas q.term

abbrev pub put_of : Term → ℕ → Put
put_of t n = record { term = t; lambdas = n }

pub later_as : (S : ℕ → Term → Type 0) {t u : Term} → Later S t u → LaterPut S (as_it_is t) (as_it_is u)
later_as S h = record { terms = h; fewer = zero-le; first = zero-le; second = zero-le }

-- Only the later function is a lambda.
reduces_later : (S : ℕ → Term → Type 0) {f a b : Term} (g : Term) (q : ℕ) → suc q ≤ leading_lambdas g → Later S f g → Later S a b
    → LaterPut S (put_of (app f a) 0) (put_of (reduced g b) q)
reduces_later S {b = b} (lam x A d) q h p r =
    record { terms = reduces x p r; fewer = zero-le; first = zero-le; second = omega (arith, h, lambdas_instance 0 d b) }
reduces_later S (bound i) q h p r = absurd (omega arith)
reduces_later S (free i) q h p r = absurd (omega arith)
reduces_later S (meta i) q h p r = absurd (omega arith)
reduces_later S (sort l) q h p r = absurd (omega arith)
reduces_later S (const c ls) q h p r = absurd (omega arith)
reduces_later S (app g c) q h p r = absurd (omega arith)
reduces_later S (pi x A d) q h p r = absurd (omega arith)
reduces_later S (letin x A v d) q h p r = absurd (omega arith)
reduces_later S (lit n) q h p r = absurd (omega arith)
reduces_later S (proj s i t) q h p r = absurd (omega arith)

-- Both are.
reduce_both : (S : ℕ → Term → Type 0) → Closing S → (p q : ℕ) {f g a b : Term} → Later S f g → p ≤ q → suc p ≤ leading_lambdas f
    → suc q ≤ leading_lambdas g → Later S a b → LaterPut S (put_of (reduced f a) p) (put_of (reduced g b) q)
reduce_both S cl p q {a = a} {b = b} (lams {b = d} {d = e} x r s) l h k w =
    record {
      terms = later_instance S cl 0 s w;
      fewer = l;
      first = omega (arith, h, lambdas_instance 0 d a);
      second = omega (arith, k, lambdas_instance 0 e b);
    }
reduce_both S cl p q (stands r) l h k w = absurd (omega arith)
reduce_both S cl p q (bounds i) l h k w = absurd (omega arith)
reduce_both S cl p q (frees i) l h k w = absurd (omega arith)
reduce_both S cl p q (metas i) l h k w = absurd (omega arith)
reduce_both S cl p q (sorts i m) l h k w = absurd (omega arith)
reduce_both S cl p q (consts c ls ms) l h k w = absurd (omega arith)
reduce_both S cl p q (lits n) l h k w = absurd (omega arith)
reduce_both S cl p q (apps r s) l h k w = absurd (omega arith)
reduce_both S cl p q (pis x r s) l h k w = absurd (omega arith)
reduce_both S cl p q (lets x r v s) l h k w = absurd (omega arith)
reduce_both S cl p q (projs z i r) l h k w = absurd (omega arith)
reduce_both S cl p q (reduces x r s) l h k w = absurd (omega arith)

-- An application that has lambdas is reduced.
before_reduces : (g b : Term) (q : ℕ) → put_before (put_of g (suc q)) b ≡ put_of (reduced g b) q
before_reduces g b q =
    by_eq (λ r. r ≡ put_of (reduced g b) q) (suc q) 0 (as_it_is (app g b)) (put_of (reduced g b) (suc q - 1)) (λ e. absurd (omega arith)) λ n.
    ap (put_of (reduced g b)) (omega arith)

pub before : (S : ℕ → Term → Type 0) → Closing S → (p q : ℕ) {f g a b : Term} → Later S f g → p ≤ q → p ≤ leading_lambdas f → q ≤ leading_lambdas g
    → Later S a b → LaterPut S (put_before (put_of f p) a) (put_before (put_of g q) b)
before S cl zero zero h l i j w = later_as S (apps h w)
before S cl zero (suc q) {f = f} {g = g} {a = a} {b = b} h l i j w =
    subst (LaterPut S (put_of (app f a) 0)) (sym (before_reduces g b q)) (reduces_later S g q j h w)
before S cl (suc p) zero h l i j w = absurd (omega arith)
before S cl (suc p) (suc q) {f = f} {g = g} {a = a} {b = b} h l i j w =
    subst (λ r. LaterPut S r (put_before (put_of g (suc q)) b)) (sym (before_reduces f a p))
    (subst (LaterPut S (put_of (reduced f a) p)) (sym (before_reduces g b q)) (reduce_both S cl p q h (omega arith) i j w))

pub later_values : (S : ℕ → Term → Type 0) → Closing S → (g i : ℕ → Universe) (f h : ℕ → Put) → ((k : ℕ) → LaterPut S (f k) (h k)) → (t : Term)
    → LaterPut S (with_values g f t) (with_values i h t)
later_values S cl g i f h e (meta k) = e k
later_values S cl g i f h e (app u a) =
    let p = later_values S cl g i f h e u in
    before S cl (with_values g f u).lambdas (with_values i h u).lambdas p.terms p.fewer p.first p.second (later_values S cl g i f h e a).terms
later_values S cl g i f h e (bound j) = later_as S (bounds j)
later_values S cl g i f h e (free k) = later_as S (frees k)
later_values S cl g i f h e (sort l) = later_as S (sorts (level_with g l) (level_with i l))
later_values S cl g i f h e (const c ls) = later_as S (consts c (map (level_with g) ls) (map (level_with i) ls))
later_values S cl g i f h e (lam x A b) = later_as S (lams x (later_values S cl g i f h e A).terms (later_values S cl g i f h e b).terms)
later_values S cl g i f h e (pi x A b) = later_as S (pis x (later_values S cl g i f h e A).terms (later_values S cl g i f h e b).terms)
later_values S cl g i f h e (letin x A v b) =
    later_as S (lets x (later_values S cl g i f h e A).terms (later_values S cl g i f h e v).terms (later_values S cl g i f h e b).terms)
later_values S cl g i f h e (lit n) = later_as S (lits n)
later_values S cl g i f h e (proj s j t) = later_as S (projs s j (later_values S cl g i f h e t).terms)

-- From a term as it is.
pub later_raw : (S : ℕ → Term → Type 0) → Closing S → (g : ℕ → Universe) (f : ℕ → Put) → ((k : ℕ) → LaterPut S (as_it_is (meta k)) (f k)) → (t : Term)
    → LaterPut S (as_it_is t) (with_values g f t)
later_raw S cl g f e (meta k) = e k
later_raw S cl g f e (app u a) =
    let p = later_raw S cl g f e u in
    before S cl 0 (with_values g f u).lambdas p.terms p.fewer zero-le p.second (later_raw S cl g f e a).terms
later_raw S cl g f e (bound j) = later_as S (bounds j)
later_raw S cl g f e (free k) = later_as S (frees k)
later_raw S cl g f e (sort l) = later_as S (sorts l (level_with g l))
later_raw S cl g f e (const c ls) = later_as S (consts c ls (map (level_with g) ls))
later_raw S cl g f e (lam x A b) = later_as S (lams x (later_raw S cl g f e A).terms (later_raw S cl g f e b).terms)
later_raw S cl g f e (pi x A b) = later_as S (pis x (later_raw S cl g f e A).terms (later_raw S cl g f e b).terms)
later_raw S cl g f e (letin x A v b) =
    later_as S (lets x (later_raw S cl g f e A).terms (later_raw S cl g f e v).terms (later_raw S cl g f e b).terms)
later_raw S cl g f e (lit n) = later_as S (lits n)
later_raw S cl g f e (proj s j t) = later_as S (projs s j (later_raw S cl g f e t).terms)

-- ---- Which metavariables show

reduced_shows : (P : ℕ → Type 0) (f a : Term) → Shows P f → Shows P a → Shows P (reduced f a)
reduced_shows P (lam x A b) a s r = instance_shows P 0 b a s.1 r
reduced_shows P (bound i) a s r = (s, r)
reduced_shows P (free i) a s r = (s, r)
reduced_shows P (meta i) a s r = (s, r)
reduced_shows P (sort l) a s r = (s, r)
reduced_shows P (const c ls) a s r = (s, r)
reduced_shows P (app f b) a s r = (s, r)
reduced_shows P (pi x A b) a s r = (s, r)
reduced_shows P (letin x A v b) a s r = (s, r)
reduced_shows P (lit n) a s r = (s, r)
reduced_shows P (proj z i t) a s r = (s, r)

before_shows : (P : ℕ → Type 0) (f : Put) (a : Term) → Shows P f.term → Shows P a → Shows P (put_before f a).term
before_shows P f a s r = by_eq (λ p. Shows P p.term) f.lambdas 0 (as_it_is (app f.term a)) (put_of (reduced f.term a) (f.lambdas - 1)) (λ e. (s, r)) λ n.
    reduced_shows P f.term a s r

pub values_show : (P : ℕ → Type 0) (g : ℕ → Universe) (f : ℕ → Put) → ((k : ℕ) → Shows P (f k).term) → (t : Term) → Shows P (with_values g f t).term
values_show P g f e (meta k) = e k
values_show P g f e (app u a) = before_shows P (with_values g f u) (with_values g f a).term (values_show P g f e u) (values_show P g f e a)
values_show P g f e (bound j) = tt
values_show P g f e (free k) = tt
values_show P g f e (sort l) = tt
values_show P g f e (const c ls) = tt
values_show P g f e (lam x A b) = (values_show P g f e A, values_show P g f e b)
values_show P g f e (pi x A b) = (values_show P g f e A, values_show P g f e b)
values_show P g f e (letin x A v b) = (values_show P g f e A, values_show P g f e v, values_show P g f e b)
values_show P g f e (lit n) = tt
values_show P g f e (proj s j t) = values_show P g f e t
