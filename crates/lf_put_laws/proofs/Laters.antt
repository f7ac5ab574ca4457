-- Later forms of terms: of a term raised, of an instance; how many lambdas they have, and which variables.
use Rattle.std.proofs.Common.{◌≡◌, ℕ, suc, ◌+◌, ◌-◌, ◌≤◌, max, sym, subst, arith, zero-le}
use Rattle.lf_core.specs.Term.{Term, bound, free, meta, sort, const, app, lam, pi, letin, lit, proj}
use Rattle.lf_core.specs.Substitution.{raise, instantiate_at}
use Rattle.lf_core.specs.Summary.{loose_bound, free_bound}
use Rattle.lf_subst.proofs.Unchanged.{raise_unchanged, instantiate_unchanged}
use Rattle.lf_elaboration.specs.Metavariables.{leading_lambdas}
use Rattle.lf_put_laws.specs.Later.{Later, stands, bounds, frees, metas, sorts, consts, lits, apps, lams, pis, lets, projs, reduces}
use Rattle.lf_put_laws.proofs.Instances.{
  raise_below,
  raise_above,
  instantiate_below,
  instantiate_here,
  instantiate_above,
  split_lt,
  split_three,
  raise_instance,
  two_at,
}

-- What is stood for is closed.
abbrev pub Closing : (ℕ → Term → Type 0) → Type 0
Closing Stands = (k : ℕ) (T : Term) → Stands k T → loose_bound T ≤ 0

pub later_same : (S : ℕ → Term → Type 0) (t : Term) → Later S t t
later_same S (bound i) = bounds i
later_same S (free k) = frees k
later_same S (meta k) = metas k
later_same S (sort l) = sorts l l
later_same S (const c ls) = consts c ls ls
later_same S (app f a) = apps (later_same S f) (later_same S a)
later_same S (lam x A b) = lams x (later_same S A) (later_same S b)
later_same S (pi x A b) = pis x (later_same S A) (later_same S b)
later_same S (letin x A v b) = lets x (later_same S A) (later_same S v) (later_same S b)
later_same S (lit n) = lits n
later_same S (proj s i t) = projs s i (later_same S t)

-- ---- Raised

pub later_raise : (S : ℕ → Term → Type 0) → Closing S → (d n : ℕ) {t u : Term} → Later S t u → Later S (raise d n t) (raise d n u)
later_raise S cl d n (stands {k = k} {T = T} h) = subst (Later S (meta k)) (sym (raise_unchanged d n T (omega (arith, cl k T h)))) (stands h)
later_raise S cl d n (bounds i) = later_same S (raise d n (bound i))
later_raise S cl d n (frees k) = frees k
later_raise S cl d n (metas k) = metas k
later_raise S cl d n (sorts l m) = sorts l m
later_raise S cl d n (consts c ls ms) = consts c ls ms
later_raise S cl d n (lits m) = lits m
later_raise S cl d n (apps p q) = apps (later_raise S cl d n p) (later_raise S cl d n q)
later_raise S cl d n (lams x p q) = lams x (later_raise S cl d n p) (later_raise S cl (suc d) n q)
later_raise S cl d n (pis x p q) = pis x (later_raise S cl d n p) (later_raise S cl (suc d) n q)
later_raise S cl d n (lets x p r q) = lets x (later_raise S cl d n p) (later_raise S cl d n r) (later_raise S cl (suc d) n q)
later_raise S cl d n (projs s i p) = projs s i (later_raise S cl d n p)
later_raise S cl d n (reduces {f = f} {a = a} {b = b} {A = A} {d = e} x p q) =
    subst (Later S (app (raise d n f) (raise d n a))) (sym (raise_instance 0 d n d e b (omega arith)))
    (reduces x (later_raise S cl d n p) (later_raise S cl d n q))

-- ---- At an argument

later_variable : (S : ℕ → Term → Type 0) → Closing S → (d i : ℕ) {a b : Term} → Later S a b
    → Later S (instantiate_at d (bound i) a) (instantiate_at d (bound i) b)
later_variable S cl d i {a = a} {b = b} q =
    split_three i d
    (λ h. subst (λ r. Later S r (instantiate_at d (bound i) b)) (sym (instantiate_below d i a h))
    (subst (Later S (bound i)) (sym (instantiate_below d i b h)) (bounds i)))
    (λ h. subst (λ r. Later S r (instantiate_at d (bound i) b)) (sym (instantiate_here d i a h))
    (subst (Later S (raise 0 d a)) (sym (instantiate_here d i b h)) (later_raise S cl 0 d q)))
    (λ h. subst (λ r. Later S r (instantiate_at d (bound i) b)) (sym (instantiate_above d i a h))
    (subst (Later S (bound (i - 1))) (sym (instantiate_above d i b h)) (bounds (i - 1))))

pub later_instance : (S : ℕ → Term → Type 0) → Closing S → (d : ℕ) {t u a b : Term} → Later S t u → Later S a b
    → Later S (instantiate_at d t a) (instantiate_at d u b)
later_instance S cl d {b = b} (stands {k = k} {T = T} h) q =
    subst (Later S (meta k)) (sym (instantiate_unchanged d T b (omega (arith, cl k T h)))) (stands h)
later_instance S cl d (bounds i) q = later_variable S cl d i q
later_instance S cl d (frees k) q = frees k
later_instance S cl d (metas k) q = metas k
later_instance S cl d (sorts l m) q = sorts l m
later_instance S cl d (consts c ls ms) q = consts c ls ms
later_instance S cl d (lits m) q = lits m
later_instance S cl d (apps p r) q = apps (later_instance S cl d p q) (later_instance S cl d r q)
later_instance S cl d (lams x p r) q = lams x (later_instance S cl d p q) (later_instance S cl (suc d) r q)
later_instance S cl d (pis x p r) q = pis x (later_instance S cl d p q) (later_instance S cl (suc d) r q)
later_instance S cl d (lets x p v r) q = lets x (later_instance S cl d p q) (later_instance S cl d v q) (later_instance S cl (suc d) r q)
later_instance S cl d (projs s i p) q = projs s i (later_instance S cl d p q)
later_instance S cl d {a = a} {b = b} (reduces {f = f} {a = g} {b = h} {A = A} {d = e} x p r) q =
    subst (Later S (app (instantiate_at d f a) (instantiate_at d g a))) (sym (two_at 0 d d e h b (omega arith)))
    (reduces x (later_instance S cl d p q) (later_instance S cl d r q))

-- ---- Leading lambdas

pub lambdas_later : (S : ℕ → Term → Type 0) {t u : Term} → Later S t u → leading_lambdas t ≤ leading_lambdas u
lambdas_later S (stands h) = zero-le
lambdas_later S (bounds i) = zero-le
lambdas_later S (frees k) = zero-le
lambdas_later S (metas k) = zero-le
lambdas_later S (sorts l m) = zero-le
lambdas_later S (consts c ls ms) = zero-le
lambdas_later S (lits m) = zero-le
lambdas_later S (apps p q) = zero-le
lambdas_later S (lams x p q) = omega (arith, lambdas_later S q)
lambdas_later S (pis x p q) = zero-le
lambdas_later S (lets x p r q) = zero-le
lambdas_later S (projs s i p) = zero-le
lambdas_later S (reduces x p q) = zero-le

pub lambdas_instance : (d : ℕ) (t a : Term) → leading_lambdas t ≤ leading_lambdas (instantiate_at d t a)
lambdas_instance d (bound i) a = zero-le
lambdas_instance d (free k) a = zero-le
lambdas_instance d (meta k) a = zero-le
lambdas_instance d (sort l) a = zero-le
lambdas_instance d (const c ls) a = zero-le
lambdas_instance d (app f b) a = zero-le
lambdas_instance d (lam x A b) a = omega (arith, lambdas_instance (suc d) b a)
lambdas_instance d (pi x A b) a = zero-le
lambdas_instance d (letin x A v b) a = zero-le
lambdas_instance d (lit n) a = zero-le
lambdas_instance d (proj s i t) a = zero-le

-- ---- Loose variables, and free ones

raise_loose : (c d n : ℕ) (t : Term) → c ≤ d → loose_bound t ≤ d → loose_bound (raise c n t) ≤ d + n
raise_loose c d n (bound i) p h =
    split_lt i c
    (λ e. subst (λ r. loose_bound r ≤ d + n) (sym (raise_below c n i e)) (omega arith))
    (λ e. subst (λ r. loose_bound r ≤ d + n) (sym (raise_above c n i e)) (omega arith))
raise_loose c d n (free k) p h = zero-le
raise_loose c d n (meta k) p h = zero-le
raise_loose c d n (sort l) p h = zero-le
raise_loose c d n (const k ls) p h = zero-le
raise_loose c d n (lit m) p h = zero-le
raise_loose c d n (app f a) p h = omega (arith, raise_loose c d n f p (omega arith), raise_loose c d n a p (omega arith))
raise_loose c d n (lam x A b) p h =
    omega (arith, raise_loose c d n A p (omega arith), raise_loose (suc c) (suc d) n b (omega arith) (omega arith))
raise_loose c d n (pi x A b) p h =
    omega (arith, raise_loose c d n A p (omega arith), raise_loose (suc c) (suc d) n b (omega arith) (omega arith))
raise_loose c d n (letin x A v b) p h = omega
    (arith, raise_loose c d n A p (omega arith), raise_loose c d n v p (omega arith), raise_loose (suc c) (suc d) n b (omega arith) (omega arith))
raise_loose c d n (proj s i t) p h = raise_loose c d n t p h

instance_loose : (e d n : ℕ) (t a : Term) → n ≡ d + e → loose_bound t ≤ suc n → loose_bound a ≤ d → loose_bound (instantiate_at e t a) ≤ n
instance_loose e d n (bound i) a q h k =
    split_three i e
    (λ l. subst (λ r. loose_bound r ≤ n) (sym (instantiate_below e i a l)) (omega arith))
    (λ l. subst (λ r. loose_bound r ≤ n) (sym (instantiate_here e i a l)) (omega (arith, q, raise_loose 0 d e a zero-le k)))
    (λ l. subst (λ r. loose_bound r ≤ n) (sym (instantiate_above e i a l)) (omega arith))
instance_loose e d n (free j) a q h k = zero-le
instance_loose e d n (meta j) a q h k = zero-le
instance_loose e d n (sort l) a q h k = zero-le
instance_loose e d n (const c ls) a q h k = zero-le
instance_loose e d n (lit m) a q h k = zero-le
instance_loose e d n (app f b) a q h k = omega (arith, instance_loose e d n f a q (omega arith) k, instance_loose e d n b a q (omega arith) k)
instance_loose e d n (lam x A b) a q h k =
    omega (arith, instance_loose e d n A a q (omega arith) k, instance_loose (suc e) d (suc n) b a (omega arith) (omega arith) k)
instance_loose e d n (pi x A b) a q h k =
    omega (arith, instance_loose e d n A a q (omega arith) k, instance_loose (suc e) d (suc n) b a (omega arith) (omega arith) k)
instance_loose e d n (letin x A v b) a q h k = omega (
  arith,
  instance_loose e d n A a q (omega arith) k,
  instance_loose e d n v a q (omega arith) k,
  instance_loose (suc e) d (suc n) b a (omega arith) (omega arith) k,
)
instance_loose e d n (proj s i t) a q h k = instance_loose e d n t a q h k

pub later_loose : (S : ℕ → Term → Type 0) → Closing S → (d : ℕ) {t u : Term} → Later S t u → loose_bound t ≤ d → loose_bound u ≤ d
later_loose S cl d (stands {k = k} {T = T} h) b = omega (arith, cl k T h)
later_loose S cl d (bounds i) b = b
later_loose S cl d (frees k) b = zero-le
later_loose S cl d (metas k) b = zero-le
later_loose S cl d (sorts l m) b = zero-le
later_loose S cl d (consts c ls ms) b = zero-le
later_loose S cl d (lits m) b = zero-le
later_loose S cl d (apps p q) b = omega (arith, later_loose S cl d p (omega arith), later_loose S cl d q (omega arith))
later_loose S cl d (lams x p q) b = omega (arith, later_loose S cl d p (omega arith), later_loose S cl (suc d) q (omega arith))
later_loose S cl d (pis x p q) b = omega (arith, later_loose S cl d p (omega arith), later_loose S cl (suc d) q (omega arith))
later_loose S cl d (lets x p r q) b =
    omega (arith, later_loose S cl d p (omega arith), later_loose S cl d r (omega arith), later_loose S cl (suc d) q (omega arith))
later_loose S cl d (projs s i p) b = later_loose S cl d p b
later_loose S cl d (reduces {b = g} {A = A} {d = e} x p q) b =
    instance_loose 0 d d e g (omega arith) (below (loose_bound A) (loose_bound e) d (later_loose S cl d p (omega arith))) (later_loose S cl d q (omega arith))
  where
    below : (m n d : ℕ) → max m (n - 1) ≤ d → n ≤ suc d
    below m n d h = omega arith

raise_free : (c n k : ℕ) (t : Term) → free_bound t ≤ k → free_bound (raise c n t) ≤ k
raise_free c n k (bound i) h =
    split_lt i c
    (λ e. subst (λ r. free_bound r ≤ k) (sym (raise_below c n i e)) zero-le)
    (λ e. subst (λ r. free_bound r ≤ k) (sym (raise_above c n i e)) zero-le)
raise_free c n k (free j) h = h
raise_free c n k (meta j) h = h
raise_free c n k (sort l) h = h
raise_free c n k (const j ls) h = h
raise_free c n k (lit m) h = h
raise_free c n k (app f a) h = omega (arith, raise_free c n k f (omega arith), raise_free c n k a (omega arith))
raise_free c n k (lam x A b) h = omega (arith, raise_free c n k A (omega arith), raise_free (suc c) n k b (omega arith))
raise_free c n k (pi x A b) h = omega (arith, raise_free c n k A (omega arith), raise_free (suc c) n k b (omega arith))
raise_free c n k (letin x A v b) h =
    omega (arith, raise_free c n k A (omega arith), raise_free c n k v (omega arith), raise_free (suc c) n k b (omega arith))
raise_free c n k (proj s i t) h = raise_free c n k t h

pub instance_free : (d k : ℕ) (t a : Term) → free_bound t ≤ k → free_bound a ≤ k → free_bound (instantiate_at d t a) ≤ k
instance_free d k (bound i) a h l =
    split_three i d
    (λ e. subst (λ r. free_bound r ≤ k) (sym (instantiate_below d i a e)) zero-le)
    (λ e. subst (λ r. free_bound r ≤ k) (sym (instantiate_here d i a e)) (raise_free 0 d k a l))
    (λ e. subst (λ r. free_bound r ≤ k) (sym (instantiate_above d i a e)) zero-le)
instance_free d k (free j) a h l = h
instance_free d k (meta j) a h l = h
instance_free d k (sort u) a h l = h
instance_free d k (const c ls) a h l = h
instance_free d k (lit m) a h l = h
instance_free d k (app f b) a h l = omega (arith, instance_free d k f a (omega arith) l, instance_free d k b a (omega arith) l)
instance_free d k (lam x A b) a h l = omega (arith, instance_free d k A a (omega arith) l, instance_free (suc d) k b a (omega arith) l)
instance_free d k (pi x A b) a h l = omega (arith, instance_free d k A a (omega arith) l, instance_free (suc d) k b a (omega arith) l)
instance_free d k (letin x A v b) a h l =
    omega (arith, instance_free d k A a (omega arith) l, instance_free d k v a (omega arith) l, instance_free (suc d) k b a (omega arith) l)
instance_free d k (proj s i t) a h l = instance_free d k t a h l
