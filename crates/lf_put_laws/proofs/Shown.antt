-- Which metavariables and variables later forms show.
use Rattle.std.proofs.Common.{ℕ, suc, ◌≤◌, max, sym, subst, arith, zero-le}
use Rattle.lf_core.specs.Term.{Term, bound, free, meta, sort, const, app, lam, pi, letin, lit, proj}
use Rattle.lf_core.specs.Substitution.{raise, instantiate_at}
use Rattle.lf_core.specs.Summary.{free_bound}
use Rattle.lf_put_laws.specs.Later.{Later, stands, bounds, frees, metas, sorts, consts, lits, apps, lams, pis, lets, projs, reduces}
use Rattle.lf_put_laws.specs.Scope.{Shows}
use Rattle.lf_put_laws.proofs.Instances.{raise_below, raise_above, instantiate_below, instantiate_here, instantiate_above, split_lt, split_three}
use Rattle.lf_put_laws.proofs.Laters.{instance_free}

-- ---- Free variables: what stands for a metavariable that shows has those below n.

pub later_free : (S : ℕ → Term → Type 0) (P : ℕ → Type 0) (n : ℕ) → ((k : ℕ) (T : Term) → P k → S k T → free_bound T ≤ n) → {t u : Term}
    → Later S t u → Shows P t → free_bound t ≤ n → free_bound u ≤ n
later_free S P n g (stands {k = k} {T = T} h) s b = g k T s h
later_free S P n g (bounds i) s b = b
later_free S P n g (frees k) s b = b
later_free S P n g (metas k) s b = b
later_free S P n g (sorts l m) s b = zero-le
later_free S P n g (consts c ls ms) s b = zero-le
later_free S P n g (lits m) s b = zero-le
later_free S P n g (apps p q) s b = omega (arith, later_free S P n g p s.0 (omega arith), later_free S P n g q s.1 (omega arith))
later_free S P n g (lams x p q) s b = omega (arith, later_free S P n g p s.0 (omega arith), later_free S P n g q s.1 (omega arith))
later_free S P n g (pis x p q) s b = omega (arith, later_free S P n g p s.0 (omega arith), later_free S P n g q s.1 (omega arith))
later_free S P n g (lets x p r q) s b =
    omega (arith, later_free S P n g p s.0 (omega arith), later_free S P n g r s.1 (omega arith), later_free S P n g q s.2 (omega arith))
later_free S P n g (projs z i p) s b = later_free S P n g p s b
later_free S P n g (reduces {b = v} {A = A} {d = e} x p q) s b =
    instance_free 0 n e v (body (free_bound A) (free_bound e) (later_free S P n g p s.0 (omega arith))) (later_free S P n g q s.1 (omega arith))
  where
    body : (i j : ℕ) → max i j ≤ n → j ≤ n
    body i j h = omega arith

-- ---- Metavariables

raise_shows : (P : ℕ → Type 0) (d n : ℕ) (t : Term) → Shows P t → Shows P (raise d n t)
raise_shows P d n (bound i) s =
    split_lt i d (λ e. subst (Shows P) (sym (raise_below d n i e)) tt) (λ e. subst (Shows P) (sym (raise_above d n i e)) tt)
raise_shows P d n (free k) s = tt
raise_shows P d n (meta k) s = s
raise_shows P d n (sort l) s = tt
raise_shows P d n (const c ls) s = tt
raise_shows P d n (app f a) s = (raise_shows P d n f s.0, raise_shows P d n a s.1)
raise_shows P d n (lam x A b) s = (raise_shows P d n A s.0, raise_shows P (suc d) n b s.1)
raise_shows P d n (pi x A b) s = (raise_shows P d n A s.0, raise_shows P (suc d) n b s.1)
raise_shows P d n (letin x A v b) s = (raise_shows P d n A s.0, raise_shows P d n v s.1, raise_shows P (suc d) n b s.2)
raise_shows P d n (lit m) s = tt
raise_shows P d n (proj z i t) s = raise_shows P d n t s

pub instance_shows : (P : ℕ → Type 0) (d : ℕ) (t a : Term) → Shows P t → Shows P a → Shows P (instantiate_at d t a)
instance_shows P d (bound i) a s r =
    split_three i d
    (λ e. subst (Shows P) (sym (instantiate_below d i a e)) tt)
    (λ e. subst (Shows P) (sym (instantiate_here d i a e)) (raise_shows P 0 d a r))
    (λ e. subst (Shows P) (sym (instantiate_above d i a e)) tt)
instance_shows P d (free k) a s r = tt
instance_shows P d (meta k) a s r = s
instance_shows P d (sort l) a s r = tt
instance_shows P d (const c ls) a s r = tt
instance_shows P d (app f b) a s r = (instance_shows P d f a s.0 r, instance_shows P d b a s.1 r)
instance_shows P d (lam x A b) a s r = (instance_shows P d A a s.0 r, instance_shows P (suc d) b a s.1 r)
instance_shows P d (pi x A b) a s r = (instance_shows P d A a s.0 r, instance_shows P (suc d) b a s.1 r)
instance_shows P d (letin x A v b) a s r = (instance_shows P d A a s.0 r, instance_shows P d v a s.1 r, instance_shows P (suc d) b a s.2 r)
instance_shows P d (lit m) a s r = tt
instance_shows P d (proj z i t) a s r = instance_shows P d t a s r

pub both_show : (P Q : ℕ → Type 0) (t : Term) → Shows P t → Shows Q t → Shows (λ k. P k × Q k) t
both_show P Q (bound i) s r = tt
both_show P Q (free k) s r = tt
both_show P Q (meta k) s r = (s, r)
both_show P Q (sort l) s r = tt
both_show P Q (const c ls) s r = tt
both_show P Q (app f b) s r = (both_show P Q f s.0 r.0, both_show P Q b s.1 r.1)
both_show P Q (lam x A b) s r = (both_show P Q A s.0 r.0, both_show P Q b s.1 r.1)
both_show P Q (pi x A b) s r = (both_show P Q A s.0 r.0, both_show P Q b s.1 r.1)
both_show P Q (letin x A v b) s r = (both_show P Q A s.0 r.0, both_show P Q v s.1 r.1, both_show P Q b s.2 r.2)
both_show P Q (lit m) s r = tt
both_show P Q (proj z i t) s r = both_show P Q t s r

pub fewer : (P Q : ℕ → Type 0) → ((k : ℕ) → P k → Q k) → (t : Term) → Shows P t → Shows Q t
fewer P Q f (bound i) s = tt
fewer P Q f (free k) s = tt
fewer P Q f (meta k) s = f k s
fewer P Q f (sort l) s = tt
fewer P Q f (const c ls) s = tt
fewer P Q f (app g b) s = (fewer P Q f g s.0, fewer P Q f b s.1)
fewer P Q f (lam x A b) s = (fewer P Q f A s.0, fewer P Q f b s.1)
fewer P Q f (pi x A b) s = (fewer P Q f A s.0, fewer P Q f b s.1)
fewer P Q f (letin x A v b) s = (fewer P Q f A s.0, fewer P Q f v s.1, fewer P Q f b s.2)
fewer P Q f (lit m) s = tt
fewer P Q f (proj z i t) s = fewer P Q f t s
