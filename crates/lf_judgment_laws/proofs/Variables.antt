-- Where the variables of a term lie, through binders and back.
use Rattle.std.proofs.Common.{
  ◌≡◌,
  ℕ,
  zero,
  suc,
  ◌+◌,
  ◌-◌,
  ◌<◌,
  ◌≤◌,
  nat_eq,
  nat_lt,
  if◌then◌else◌,
  List,
  [],
  ◌∷◌,
  ◌++◌,
  length,
  length-append,
  refl,
  sym,
  ap,
  ap₂,
  subst,
  arith,
  Some,
  slice_get,
  take,
  drop,
}
use Rattle.std.proofs.lemmas.Bool.{cond_both, eqb-true, eqb-false, ltb-true, ltb-false}
use Rattle.lf_core.specs.Term.{Universe, Term, bound, free, meta, sort, const, app, lam, pi, letin, lit, proj}
use Rattle.lf_core.specs.Substitution.{raise, instantiate_variable, instantiate_at, instantiate, abstract_at, abstract, level_instantiate}
use Rattle.lf_core.specs.Spine.{apply, head_of, arguments_before, arguments_of}
use Rattle.lf_core.specs.Scope.{Scoped}
use Rattle.lf_rules.specs.Environment.{Context, with, opened}
use Rattle.lf_judgment_laws.specs.InScope.{AllScoped, ContextScoped}

pub by_eq : {X : Type 0} (P : X → Type 0) (i k : ℕ) (x y : X) → (i ≡ k → P x) → ((i ≡ k → ⊥) → P y) → P (if nat_eq i k then x else y)
by_eq P i k x y f g = cond_both (nat_eq i k) x y P (λ e. f (eqb-true i k e)) (λ e. g (eqb-false i k e))

pub by_lt : {X : Type 0} (P : X → Type 0) (i k : ℕ) (x y : X) → (i < k → P x) → (k ≤ i → P y) → P (if nat_lt i k then x else y)
by_lt P i k x y f g = cond_both (nat_lt i k) x y P (λ e. f (ltb-true i k e)) (λ e. g (ltb-false i k e))

pub scoped_up : {d e k l : ℕ} (t : Term) → d ≤ e → k ≤ l → Scoped d k t → Scoped e l t
scoped_up (bound i) p q h = omega arith
scoped_up (free i) p q h = omega arith
scoped_up (meta i) p q h = h
scoped_up (sort l) p q h = tt
scoped_up (const c ms) p q h = tt
scoped_up (app f a) p q h = (scoped_up f p q h.0, scoped_up a p q h.1)
scoped_up (lam x A b) p q h = (scoped_up A p q h.0, scoped_up b (omega arith) q h.1)
scoped_up (pi x A b) p q h = (scoped_up A p q h.0, scoped_up b (omega arith) q h.1)
scoped_up (letin x A v b) p q h = (scoped_up A p q h.0, scoped_up v p q h.1, scoped_up b (omega arith) q h.2)
scoped_up (lit n) p q h = tt
scoped_up (proj s i t) p q h = scoped_up t p q h

-- Nothing is raised in a term whose loose variables are below d.
pub raise-scoped : (d n k : ℕ) (t : Term) → Scoped d k t → raise d n t ≡ t
raise-scoped d n k (bound i) h = by_lt (λ r. r ≡ bound i) i d (bound i) (bound (i + n)) (λ e. refl) (λ e. absurd (omega arith))
raise-scoped d n k (free i) h = refl
raise-scoped d n k (meta i) h = refl
raise-scoped d n k (sort l) h = refl
raise-scoped d n k (const c ms) h = refl
raise-scoped d n k (app f a) h = ap₂ app (raise-scoped d n k f h.0) (raise-scoped d n k a h.1)
raise-scoped d n k (lam x A b) h = ap₂ (lam x) (raise-scoped d n k A h.0) (raise-scoped (suc d) n k b h.1)
raise-scoped d n k (pi x A b) h = ap₂ (pi x) (raise-scoped d n k A h.0) (raise-scoped (suc d) n k b h.1)
raise-scoped d n k (letin x A v b) h = cc (raise-scoped d n k A h.0, raise-scoped d n k v h.1, raise-scoped (suc d) n k b h.2)
raise-scoped d n k (lit m) h = refl
raise-scoped d n k (proj s i t) h = ap (proj s i) (raise-scoped d n k t h)

scoped_variable : (d k : ℕ) (a : Term) (i : ℕ) → i < suc d → Scoped 0 k a → Scoped d k (instantiate_variable d a i)
scoped_variable d k a i h s =
    by_lt (Scoped d k) i d (bound i) (if nat_eq i d then raise 0 d a else bound (i - 1)) (λ e. e) λ e.
    by_eq (Scoped d k) i d (raise 0 d a) (bound (i - 1))
    (λ q. subst (Scoped d k) (sym (raise-scoped 0 d k a s)) (scoped_up a (omega arith) (omega arith) s))
    (λ n. absurd (n (omega arith)))

pub scoped_instantiate_at : (d k : ℕ) (b a : Term) → Scoped (suc d) k b → Scoped 0 k a → Scoped d k (instantiate_at d b a)
scoped_instantiate_at d k (bound i) a h s = scoped_variable d k a i h s
scoped_instantiate_at d k (free i) a h s = h
scoped_instantiate_at d k (meta i) a h s = h
scoped_instantiate_at d k (sort l) a h s = tt
scoped_instantiate_at d k (const c ms) a h s = tt
scoped_instantiate_at d k (app f t) a h s = (scoped_instantiate_at d k f a h.0 s, scoped_instantiate_at d k t a h.1 s)
scoped_instantiate_at d k (lam x A b) a h s = (scoped_instantiate_at d k A a h.0 s, scoped_instantiate_at (suc d) k b a h.1 s)
scoped_instantiate_at d k (pi x A b) a h s = (scoped_instantiate_at d k A a h.0 s, scoped_instantiate_at (suc d) k b a h.1 s)
scoped_instantiate_at d k (letin x A v b) a h s =
    (scoped_instantiate_at d k A a h.0 s, scoped_instantiate_at d k v a h.1 s, scoped_instantiate_at (suc d) k b a h.2 s)
scoped_instantiate_at d k (lit n) a h s = tt
scoped_instantiate_at d k (proj r i t) a h s = scoped_instantiate_at d k t a h s

pub scoped_instantiate : (k : ℕ) (b a : Term) → Scoped 1 k b → Scoped 0 k a → Scoped 0 k (instantiate b a)
scoped_instantiate k b a h s = scoped_instantiate_at 0 k b a h s

pub scoped_abstract_at : (d k : ℕ) (t : Term) → Scoped d (suc k) t → Scoped (suc d) k (abstract_at d t k)
scoped_abstract_at d k (bound i) h = by_lt (Scoped (suc d) k) i d (bound i) (bound (suc i)) (λ e. omega arith) (λ e. absurd (omega arith))
scoped_abstract_at d k (free i) h = by_eq (Scoped (suc d) k) i k (bound d) (free i) (λ e. omega arith) (λ n. omega arith)
scoped_abstract_at d k (meta i) h = h
scoped_abstract_at d k (sort l) h = tt
scoped_abstract_at d k (const c ms) h = tt
scoped_abstract_at d k (app f a) h = (scoped_abstract_at d k f h.0, scoped_abstract_at d k a h.1)
scoped_abstract_at d k (lam x A b) h = (scoped_abstract_at d k A h.0, scoped_abstract_at (suc d) k b h.1)
scoped_abstract_at d k (pi x A b) h = (scoped_abstract_at d k A h.0, scoped_abstract_at (suc d) k b h.1)
scoped_abstract_at d k (letin x A v b) h = (scoped_abstract_at d k A h.0, scoped_abstract_at d k v h.1, scoped_abstract_at (suc d) k b h.2)
scoped_abstract_at d k (lit n) h = tt
scoped_abstract_at d k (proj s i t) h = scoped_abstract_at d k t h

variable_back : (d k i : ℕ) → instantiate_at d (if nat_eq i k then bound d else free i) (free k) ≡ free i
variable_back d k i =
    by_eq (λ r. instantiate_at d r (free k) ≡ free i) i k (bound d) (free i)
    (λ e. by_lt (λ r. r ≡ free i) d d (bound d) (if nat_eq d d then raise 0 d (free k) else bound (d - 1)) (λ l. absurd (omega arith)) (λ l.
    by_eq (λ r. r ≡ free i) d d (free k) (bound (d - 1)) (λ w. ap free (sym e)) (λ n. absurd (n refl))))
    (λ n. refl)

-- A term with a variable abstracted, opened with that variable.
pub instantiate_at-abstract_at : (d k l : ℕ) (t : Term) → Scoped d l t → instantiate_at d (abstract_at d t k) (free k) ≡ t
instantiate_at-abstract_at d k l (bound i) h =
    by_lt (λ r. instantiate_at d r (free k) ≡ bound i) i d (bound i) (bound (suc i))
    (λ e. by_lt (λ r. r ≡ bound i) i d (bound i) (if nat_eq i d then raise 0 d (free k) else bound (i - 1)) (λ q. refl) (λ q. absurd (omega arith)))
    (λ e. absurd (omega arith))
instantiate_at-abstract_at d k l (free i) h = variable_back d k i
instantiate_at-abstract_at d k l (meta i) h = refl
instantiate_at-abstract_at d k l (sort u) h = refl
instantiate_at-abstract_at d k l (const c ms) h = refl
instantiate_at-abstract_at d k l (app f a) h = ap₂ app (instantiate_at-abstract_at d k l f h.0) (instantiate_at-abstract_at d k l a h.1)
instantiate_at-abstract_at d k l (lam x A b) h = ap₂ (lam x) (instantiate_at-abstract_at d k l A h.0) (instantiate_at-abstract_at (suc d) k l b h.1)
instantiate_at-abstract_at d k l (pi x A b) h = ap₂ (pi x) (instantiate_at-abstract_at d k l A h.0) (instantiate_at-abstract_at (suc d) k l b h.1)
instantiate_at-abstract_at d k l (letin x A v b) h = cc
    (instantiate_at-abstract_at d k l A h.0, instantiate_at-abstract_at d k l v h.1, instantiate_at-abstract_at (suc d) k l b h.2)
instantiate_at-abstract_at d k l (lit n) h = refl
instantiate_at-abstract_at d k l (proj s i t) h = ap (proj s i) (instantiate_at-abstract_at d k l t h)

pub all_get : (k : ℕ) (xs : List Term) (i : ℕ) (A : Term) → AllScoped k xs → slice_get xs i ≡ Some A → Scoped 0 k A
all_get k [] i A h e = absurd (cc)
all_get k (x ∷ xs) zero A h e = let e' : x ≡ A = cc in subst (Scoped 0 k) e' h.0
all_get k (x ∷ xs) (suc i) A h e = all_get k xs i A h.1 e

pub all_with : {k l : ℕ} (xs : List Term) (A : Term) → k ≤ l → AllScoped k xs → Scoped 0 k A → AllScoped l (xs ++ (A ∷ []))
all_with [] A p h s = (scoped_up A (omega arith) p s, tt)
all_with (x ∷ xs) A p h s = (scoped_up x (omega arith) p h.0, all_with xs A p h.1 s)

pub length-with : (C : Context) (A : Term) → length (with C A) ≡ suc (length C)
length-with C A = omega (arith, length-append C (A ∷ []))

pub context_with : (C : Context) (A : Term) → ContextScoped C → Scoped 0 (length C) A → ContextScoped (with C A)
context_with C A h s = all_with C A (omega (arith, length-with C A)) h s

pub scoped_opened : (C : Context) (A b : Term) → Scoped 1 (length C) b → Scoped 0 (length (with C A)) (opened C b)
scoped_opened C A b h =
    subst (λ n. Scoped 0 n (opened C b)) (sym (length-with C A))
    (scoped_instantiate (suc (length C)) b (free (length C)) (scoped_up b (omega arith) (omega arith) h) (omega arith))

pub scoped_closed : (C : Context) (A t : Term) → Scoped 0 (length (with C A)) t → Scoped 1 (length C) (abstract t (length C))
scoped_closed C A t h = scoped_abstract_at 0 (length C) t (subst (λ n. Scoped 0 n t) (length-with C A) h)

pub opened-abstract : (C : Context) (l : ℕ) (t : Term) → Scoped 0 l t → opened C (abstract t (length C)) ≡ t
opened-abstract C l t h = instantiate_at-abstract_at 0 (length C) l t h

pub scoped_apply : (k : ℕ) (f : Term) (xs : List Term) → Scoped 0 k f → AllScoped k xs → Scoped 0 k (apply f xs)
scoped_apply k f [] s h = s
scoped_apply k f (x ∷ xs) s h = scoped_apply k (app f x) xs (s, h.0) h.1

pub scoped_head : (k : ℕ) (t : Term) → Scoped 0 k t → Scoped 0 k (head_of t)
scoped_head k (app f a) h = scoped_head k f h.0
scoped_head k _ h = h

pub scoped_before : (k : ℕ) (t : Term) (xs : List Term) → Scoped 0 k t → AllScoped k xs → AllScoped k (arguments_before t xs)
scoped_before k (app f a) xs h s = scoped_before k f (a ∷ xs) h.0 (h.1, s)
scoped_before k _ xs h s = s

pub scoped_arguments : (k : ℕ) (t : Term) → Scoped 0 k t → AllScoped k (arguments_of t)
scoped_arguments k t h = scoped_before k t [] h tt

pub apply-before : (t : Term) (xs : List Term) → apply (head_of t) (arguments_before t xs) ≡ apply t xs
apply-before (app f a) xs = apply-before f (a ∷ xs)
apply-before _ xs = refl

-- A term is its head, applied to its arguments.
pub rebuilt : (t : Term) → t ≡ apply (head_of t) (arguments_of t)
rebuilt t = sym (apply-before t [])

pub scoped_levels : (d k : ℕ) (ls : List Universe) (t : Term) → Scoped d k t → Scoped d k (level_instantiate ls t)
scoped_levels d k ls (bound i) h = h
scoped_levels d k ls (free i) h = h
scoped_levels d k ls (meta i) h = h
scoped_levels d k ls (sort l) h = tt
scoped_levels d k ls (const c ms) h = tt
scoped_levels d k ls (app f a) h = (scoped_levels d k ls f h.0, scoped_levels d k ls a h.1)
scoped_levels d k ls (lam x A b) h = (scoped_levels d k ls A h.0, scoped_levels (suc d) k ls b h.1)
scoped_levels d k ls (pi x A b) h = (scoped_levels d k ls A h.0, scoped_levels (suc d) k ls b h.1)
scoped_levels d k ls (letin x A v b) h = (scoped_levels d k ls A h.0, scoped_levels d k ls v h.1, scoped_levels (suc d) k ls b h.2)
scoped_levels d k ls (lit n) h = tt
scoped_levels d k ls (proj s i t) h = scoped_levels d k ls t h

pub all_append : (k : ℕ) (xs ys : List Term) → AllScoped k xs → AllScoped k ys → AllScoped k (xs ++ ys)
all_append k [] ys h g = g
all_append k (x ∷ xs) ys h g = (h.0, all_append k xs ys h.1 g)

pub all_front : (k : ℕ) (xs ys : List Term) → AllScoped k (xs ++ ys) → AllScoped k xs
all_front k [] ys h = tt
all_front k (x ∷ xs) ys h = (h.0, all_front k xs ys h.1)

pub all_back : (k : ℕ) (xs ys : List Term) → AllScoped k (xs ++ ys) → AllScoped k ys
all_back k [] ys h = h
all_back k (x ∷ xs) ys h = all_back k xs ys h.1

pub all_take : (k n : ℕ) (xs : List Term) → AllScoped k xs → AllScoped k (take n xs)
all_take k zero xs h = tt
all_take k (suc n) [] h = tt
all_take k (suc n) (x ∷ xs) h = (h.0, all_take k n xs h.1)

pub all_drop : (k n : ℕ) (xs : List Term) → AllScoped k xs → AllScoped k (drop n xs)
all_drop k zero xs h = h
all_drop k (suc n) [] h = tt
all_drop k (suc n) (x ∷ xs) h = all_drop k n xs h.1

pub apply-append : (f : Term) (xs ys : List Term) → apply f (xs ++ ys) ≡ apply (apply f xs) ys
apply-append f [] ys = refl
apply-append f (x ∷ xs) ys = apply-append (app f x) xs ys

pub scoped_of_apply : (k : ℕ) (f : Term) (xs : List Term) → Scoped 0 k (apply f xs) → Scoped 0 k f × AllScoped k xs
scoped_of_apply k f [] h = (h, tt)
scoped_of_apply k f (x ∷ xs) h = let r = scoped_of_apply k (app f x) xs h in (r.0.0, (r.0.1, r.1))
