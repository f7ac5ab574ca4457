-- Terms that are in scope and name only the list, through binders, levels and applications.
use Rattle.std.proofs.Common.{◌≡◌, ℕ, zero, suc, ◌+◌, ◌-◌, ◌≤◌, nat_eq, if◌then◌else◌, List, [], ◌∷◌, ◌++◌, length, Some, slice_get, take, drop, subst, arith}
use Rattle.lf_core.specs.Term.{Universe, Term, bound, free, meta, sort, const, app, lam, pi, letin, lit, proj}
use Rattle.lf_core.specs.Substitution.{raise, instantiate_variable, instantiate_at, instantiate, abstract_at, abstract, level_instantiate}
use Rattle.lf_core.specs.Spine.{apply, head_of, arguments_before, arguments_of}
use Rattle.lf_core.specs.Scope.{Scoped}
use Rattle.lf_rules.specs.Environment.{Environment, Context, with, opened, AllParametersBelow, LevelsBelow}
use Rattle.lf_judgment_laws.proofs.Variables.{by_eq, by_lt, scoped_up, scoped_instantiate, scoped_levels, length-with, scoped_opened, scoped_closed}
use Rattle.lf_inductive_laws.proofs.Places.{below_substitute, all_substitute}
use Rattle.lf_checker.specs.View.{View}
use Rattle.lf_checker_laws.specs.Soundness.{Names, Fits, AllFit, ContextFits}

names_raise : (V : View) (E : Environment) (top : ℕ) (d n : ℕ) (t : Term) → Names V E top t → Names V E top (raise d n t)
names_raise V E top d n (bound i) h = by_lt (Names V E top) i d (bound i) (bound (i + n)) (λ e. tt) (λ e. tt)
names_raise V E top d n (free k) h = tt
names_raise V E top d n (meta k) h = tt
names_raise V E top d n (sort l) h = h
names_raise V E top d n (const c ls) h = h
names_raise V E top d n (app f a) h = (names_raise V E top d n f h.0, names_raise V E top d n a h.1)
names_raise V E top d n (lam x A b) h = (names_raise V E top d n A h.0, names_raise V E top (suc d) n b h.1)
names_raise V E top d n (pi x A b) h = (names_raise V E top d n A h.0, names_raise V E top (suc d) n b h.1)
names_raise V E top d n (letin x A v b) h = (names_raise V E top d n A h.0, names_raise V E top d n v h.1, names_raise V E top (suc d) n b h.2)
names_raise V E top d n (lit m) h = h
names_raise V E top d n (proj s i t) h = (h.0, names_raise V E top d n t h.1)

names_variable : (V : View) (E : Environment) (top : ℕ) (d i : ℕ) (a : Term) → Names V E top a → Names V E top (instantiate_variable d a i)
names_variable V E top d i a h =
    by_lt (Names V E top) i d (bound i) (if nat_eq i d then raise 0 d a else bound (i - 1)) (λ e. tt) λ e.
    by_eq (Names V E top) i d (raise 0 d a) (bound (i - 1)) (λ q. names_raise V E top 0 d a h) (λ n. tt)

pub names_instantiate_at : (V : View) (E : Environment) (top : ℕ) (d : ℕ) (b a : Term) → Names V E top b → Names V E top a
    → Names V E top (instantiate_at d b a)
names_instantiate_at V E top d (bound i) a h g = names_variable V E top d i a g
names_instantiate_at V E top d (free k) a h g = tt
names_instantiate_at V E top d (meta k) a h g = tt
names_instantiate_at V E top d (sort l) a h g = h
names_instantiate_at V E top d (const c ls) a h g = h
names_instantiate_at V E top d (app f t) a h g = (names_instantiate_at V E top d f a h.0 g, names_instantiate_at V E top d t a h.1 g)
names_instantiate_at V E top d (lam x A b) a h g = (names_instantiate_at V E top d A a h.0 g, names_instantiate_at V E top (suc d) b a h.1 g)
names_instantiate_at V E top d (pi x A b) a h g = (names_instantiate_at V E top d A a h.0 g, names_instantiate_at V E top (suc d) b a h.1 g)
names_instantiate_at V E top d (letin x A v b) a h g =
    (names_instantiate_at V E top d A a h.0 g, names_instantiate_at V E top d v a h.1 g, names_instantiate_at V E top (suc d) b a h.2 g)
names_instantiate_at V E top d (lit m) a h g = h
names_instantiate_at V E top d (proj s i t) a h g = (h.0, names_instantiate_at V E top d t a h.1 g)

names_abstract_at : (V : View) (E : Environment) (top : ℕ) (d k : ℕ) (t : Term) → Names V E top t → Names V E top (abstract_at d t k)
names_abstract_at V E top d k (bound i) h = by_lt (Names V E top) i d (bound i) (bound (suc i)) (λ e. tt) (λ e. tt)
names_abstract_at V E top d k (free i) h = by_eq (Names V E top) i k (bound d) (free i) (λ e. tt) (λ n. tt)
names_abstract_at V E top d k (meta i) h = tt
names_abstract_at V E top d k (sort l) h = h
names_abstract_at V E top d k (const c ls) h = h
names_abstract_at V E top d k (app f a) h = (names_abstract_at V E top d k f h.0, names_abstract_at V E top d k a h.1)
names_abstract_at V E top d k (lam x A b) h = (names_abstract_at V E top d k A h.0, names_abstract_at V E top (suc d) k b h.1)
names_abstract_at V E top d k (pi x A b) h = (names_abstract_at V E top d k A h.0, names_abstract_at V E top (suc d) k b h.1)
names_abstract_at V E top d k (letin x A v b) h =
    (names_abstract_at V E top d k A h.0, names_abstract_at V E top d k v h.1, names_abstract_at V E top (suc d) k b h.2)
names_abstract_at V E top d k (lit m) h = h
names_abstract_at V E top d k (proj s i t) h = (h.0, names_abstract_at V E top d k t h.1)

-- A term at levels below n, at as many levels that are below `top`.
names_levels : (V : View) (E : Environment) (top n : ℕ) (ls : List Universe) (t : Term) → length ls ≡ n → AllParametersBelow top ls → Names V E n t
    → Names V E top (level_instantiate ls t)
names_levels V E top n ls (bound i) e b h = tt
names_levels V E top n ls (free k) e b h = tt
names_levels V E top n ls (meta k) e b h = tt
names_levels V E top n ls (sort l) e b h = below_substitute n top ls l (omega (arith, e)) b h
names_levels V E top n ls (const c ms) e b h = (h.0, h.1, all_substitute n top ls ms (omega (arith, e)) b h.2)
names_levels V E top n ls (app f a) e b h = (names_levels V E top n ls f e b h.0, names_levels V E top n ls a e b h.1)
names_levels V E top n ls (lam x A t) e b h = (names_levels V E top n ls A e b h.0, names_levels V E top n ls t e b h.1)
names_levels V E top n ls (pi x A t) e b h = (names_levels V E top n ls A e b h.0, names_levels V E top n ls t e b h.1)
names_levels V E top n ls (letin x A v t) e b h =
    (names_levels V E top n ls A e b h.0, names_levels V E top n ls v e b h.1, names_levels V E top n ls t e b h.2)
names_levels V E top n ls (lit m) e b h = h
names_levels V E top n ls (proj s i t) e b h = (h.0, names_levels V E top n ls t e b h.1)

-- Parts, and what is put together of parts.

pub fits_up : (V : View) (E : Environment) (top : ℕ) {d e k l : ℕ} (t : Term) → d ≤ e → k ≤ l → Fits V E top d k t → Fits V E top e l t
fits_up V E top t p q h = (scoped_up t p q h.0, h.1)

pub instantiate_fits : (V : View) (E : Environment) (top : ℕ) (k : ℕ) (b a : Term) → Fits V E top 1 k b → Fits V E top 0 k a
    → Fits V E top 0 k (instantiate b a)
instantiate_fits V E top k b a h g = (scoped_instantiate k b a h.0 g.0, names_instantiate_at V E top 0 b a h.1 g.1)

pub opened_fits : (V : View) (E : Environment) (top : ℕ) (C : Context) (A b : Term) → Fits V E top 1 (length C) b
    → Fits V E top 0 (length (with C A)) (opened C b)
opened_fits V E top C A b h = (scoped_opened C A b h.0, names_instantiate_at V E top 0 b (free (length C)) h.1 tt)

pub closed_fits : (V : View) (E : Environment) (top : ℕ) (C : Context) (A t : Term) → Fits V E top 0 (length (with C A)) t
    → Fits V E top 1 (length C) (abstract t (length C))
closed_fits V E top C A t h = (scoped_closed C A t h.0, names_abstract_at V E top 0 (length C) t h.1)

pub levels_fit : (V : View) (E : Environment) (top k n : ℕ) (ls : List Universe) (t : Term) → length ls ≡ n → AllParametersBelow top ls → Scoped 0 0 t
    → Names V E n t → Fits V E top 0 k (level_instantiate ls t)
levels_fit V E top k n ls t e b s h = (scoped_levels 0 k ls t (scoped_up t (omega arith) (omega arith) s), names_levels V E top n ls t e b h)

pub apply_fits : (V : View) (E : Environment) (top : ℕ) (k : ℕ) (f : Term) (xs : List Term) → Fits V E top 0 k f → AllFit V E top k xs
    → Fits V E top 0 k (apply f xs)
apply_fits V E top k f [] h g = h
apply_fits V E top k f (x ∷ xs) h g = apply_fits V E top k (app f x) xs ((h.0, g.0.0), (h.1, g.0.1)) g.1

pub head_fits : (V : View) (E : Environment) (top : ℕ) (k : ℕ) (t : Term) → Fits V E top 0 k t → Fits V E top 0 k (head_of t)
head_fits V E top k (app f a) h = head_fits V E top k f (h.0.0, h.1.0)
head_fits V E top k (bound i) h = h
head_fits V E top k (free i) h = h
head_fits V E top k (meta i) h = h
head_fits V E top k (sort l) h = h
head_fits V E top k (const c ls) h = h
head_fits V E top k (lam x A b) h = h
head_fits V E top k (pi x A b) h = h
head_fits V E top k (letin x A v b) h = h
head_fits V E top k (lit n) h = h
head_fits V E top k (proj s i t) h = h

before_fits : (V : View) (E : Environment) (top : ℕ) (k : ℕ) (t : Term) (xs : List Term) → Fits V E top 0 k t → AllFit V E top k xs
    → AllFit V E top k (arguments_before t xs)
before_fits V E top k (app f a) xs h g = before_fits V E top k f (a ∷ xs) (h.0.0, h.1.0) ((h.0.1, h.1.1), g)
before_fits V E top k (bound i) xs h g = g
before_fits V E top k (free i) xs h g = g
before_fits V E top k (meta i) xs h g = g
before_fits V E top k (sort l) xs h g = g
before_fits V E top k (const c ls) xs h g = g
before_fits V E top k (lam x A b) xs h g = g
before_fits V E top k (pi x A b) xs h g = g
before_fits V E top k (letin x A v b) xs h g = g
before_fits V E top k (lit n) xs h g = g
before_fits V E top k (proj s i t) xs h g = g

pub arguments_fit : (V : View) (E : Environment) (top : ℕ) (k : ℕ) (t : Term) → Fits V E top 0 k t → AllFit V E top k (arguments_of t)
arguments_fit V E top k t h = before_fits V E top k t [] h tt

pub all_get : (V : View) (E : Environment) (top : ℕ) (k : ℕ) (xs : List Term) (i : ℕ) (A : Term) → AllFit V E top k xs → slice_get xs i ≡ Some A
    → Fits V E top 0 k A
all_get V E top k [] i A h e = absurd (cc)
all_get V E top k (x ∷ xs) zero A h e = let e' : x ≡ A = cc in subst (Fits V E top 0 k) e' h.0
all_get V E top k (x ∷ xs) (suc i) A h e = all_get V E top k xs i A h.1 e

all_with : (V : View) (E : Environment) (top : ℕ) {k l : ℕ} (xs : List Term) (A : Term) → k ≤ l → AllFit V E top k xs → Fits V E top 0 k A
    → AllFit V E top l (xs ++ (A ∷ []))
all_with V E top [] A p h s = (fits_up V E top A (omega arith) p s, tt)
all_with V E top (x ∷ xs) A p h s = (fits_up V E top x (omega arith) p h.0, all_with V E top xs A p h.1 s)

pub context_with : (V : View) (E : Environment) (top : ℕ) (C : Context) (A : Term) → ContextFits V E top C → Fits V E top 0 (length C) A
    → ContextFits V E top (with C A)
context_with V E top C A h s = all_with V E top C A (omega (arith, length-with C A)) h s

pub all_append : (V : View) (E : Environment) (top : ℕ) (k : ℕ) (xs ys : List Term) → AllFit V E top k xs → AllFit V E top k ys → AllFit V E top k (xs ++ ys)
all_append V E top k [] ys h g = g
all_append V E top k (x ∷ xs) ys h g = (h.0, all_append V E top k xs ys h.1 g)

pub all_front : (V : View) (E : Environment) (top : ℕ) (k : ℕ) (xs ys : List Term) → AllFit V E top k (xs ++ ys) → AllFit V E top k xs
all_front V E top k [] ys h = tt
all_front V E top k (x ∷ xs) ys h = (h.0, all_front V E top k xs ys h.1)

pub all_back : (V : View) (E : Environment) (top : ℕ) (k : ℕ) (xs ys : List Term) → AllFit V E top k (xs ++ ys) → AllFit V E top k ys
all_back V E top k [] ys h = h
all_back V E top k (x ∷ xs) ys h = all_back V E top k xs ys h.1

pub all_take : (V : View) (E : Environment) (top : ℕ) (k n : ℕ) (xs : List Term) → AllFit V E top k xs → AllFit V E top k (take n xs)
all_take V E top k zero xs h = tt
all_take V E top k (suc n) [] h = tt
all_take V E top k (suc n) (x ∷ xs) h = (h.0, all_take V E top k n xs h.1)

pub all_drop : (V : View) (E : Environment) (top : ℕ) (k n : ℕ) (xs : List Term) → AllFit V E top k xs → AllFit V E top k (drop n xs)
all_drop V E top k zero xs h = h
all_drop V E top k (suc n) [] h = tt
all_drop V E top k (suc n) (x ∷ xs) h = all_drop V E top k n xs h.1

-- The levels of what fits.
pub names_below : (V : View) (E : Environment) (top : ℕ) (t : Term) → Names V E top t → LevelsBelow top t
names_below V E top (bound i) h = tt
names_below V E top (free k) h = tt
names_below V E top (meta k) h = tt
names_below V E top (sort l) h = h
names_below V E top (const c ls) h = h.2
names_below V E top (app f a) h = (names_below V E top f h.0, names_below V E top a h.1)
names_below V E top (lam x A b) h = (names_below V E top A h.0, names_below V E top b h.1)
names_below V E top (pi x A b) h = (names_below V E top A h.0, names_below V E top b h.1)
names_below V E top (letin x A v b) h = (names_below V E top A h.0, names_below V E top v h.1, names_below V E top b h.2)
names_below V E top (lit m) h = tt
names_below V E top (proj s i t) h = names_below V E top t h.1
