-- What the looser relations give.
use Rattle.std.proofs.Common.{◌≡◌, ℕ, suc, ◌+◌, ◌-◌, nat_eq, if◌then◌else◌, [], ◌∷◌, refl, ap, ap₂, subst, arith, codes}
use Rattle.lf_core.specs.Term.{Universe, level_zero, level_succ, Term, bound, free, meta, sort, const, app, lam, pi, letin, lit, proj}
use Rattle.lf_core.specs.Substitution.{raise, instantiate_at, instantiate}
use Rattle.lf_core.specs.Scope.{Scoped}
use Rattle.lf_rules.specs.Environment.{Environment}
use Rattle.lf_rules.specs.Step.{beta}
use Rattle.lf_name.specs.declared.binder.Binder.{Binder}
use Rattle.lf_name.specs.declared.binder.BinderKind.TheVariants.{Explicit}
use Rattle.lf_judgment_laws.specs.Loose.{
  Unfresh,
  reflexive,
  symmetric,
  transitive,
  applications,
  lambdas,
  step,
  UnfreshCollapses,
  Capturing,
  reflexive',
  symmetric',
  transitive',
  applications',
  lambdas',
  beta',
  CapturingCollapses,
  Partial,
  variable,
  sort_type,
  application,
  lambda,
  PartialCollapses,
}
use Rattle.lf_judgment_laws.proofs.Variables.{by_lt, raise-scoped}

abbrev pub named : Binder
named = record { name = codes "x" ∷ []; kind = Explicit }

raise-zero : (d : ℕ) (t : Term) → raise d 0 t ≡ t
raise-zero d (bound i) = by_lt (λ r. r ≡ bound i) i d (bound i) (bound (i + 0)) (λ e. refl) (λ e. ap bound (omega arith))
raise-zero d (free k) = refl
raise-zero d (meta k) = refl
raise-zero d (sort l) = refl
raise-zero d (const c ls) = refl
raise-zero d (app f a) = ap₂ app (raise-zero d f) (raise-zero d a)
raise-zero d (lam x A b) = ap₂ (lam x) (raise-zero d A) (raise-zero (suc d) b)
raise-zero d (pi x A b) = ap₂ (pi x) (raise-zero d A) (raise-zero (suc d) b)
raise-zero d (letin x A v b) = cc (raise-zero d A, raise-zero d v, raise-zero (suc d) b)
raise-zero d (lit n) = refl
raise-zero d (proj s i t) = ap (proj s i) (raise-zero d t)

all_free : (E : Environment) (a : Term) → Unfresh E [] a (free 0)
all_free E a =
    let A : Term = lit 0 in
    let id : Unfresh E [] (app (lam named A (bound 0)) a) a = subst (Unfresh E [] (app (lam named A (bound 0)) a)) (raise-zero 0 a)
    (step (beta named A (bound 0) a)) in
    let out : Unfresh E [] (app (lam named A (free 0)) a) (free 0) = step (beta named A (free 0) a) in
    let body : Unfresh E (A ∷ []) (free 0) (free 0) = reflexive (free 0) in
    let fun : Unfresh E [] (lam named A (bound 0)) (lam named A (free 0)) = lambdas (reflexive A) body in
    transitive (symmetric id) (transitive (applications fun (reflexive a)) out)

pub unfresh_collapses : UnfreshCollapses
unfresh_collapses E a b = transitive (all_free E a) (symmetric (all_free E b))

pub capturing_collapses : CapturingCollapses
capturing_collapses m n =
    let A : Term = lit 0 in
    let K : Term = lam named A (lam named A (bound 1)) in
    let I : Term = lam named A (lam named A (bound 0)) in
    let Y : Term = lam named A (lam named A (lam named A (bound 2))) in
    let Z : Term = lam named A (lam named A (app K (bound 1))) in
    -- the two functions are the same by a step of terms without loose variables
    let inner : Capturing (A ∷ A ∷ []) (app K (free 0)) (lam named A (free 0)) = beta' named A (lam named A (bound 1)) (free 0) in
    let mid : Capturing (A ∷ []) (lam named A (app K (free 0))) (lam named A (lam named A (free 0))) = lambdas' (reflexive' A)
    (((tt, (tt, omega arith)), omega arith)) (tt, omega arith) inner in
    let outer : Capturing [] Z Y = lambdas' (reflexive' A) (tt, ((tt, (tt, omega arith)), omega arith)) (tt, (tt, omega arith)) mid in
    -- and a loose variable put in is captured in the one and not in the other
    let left : Capturing [] (app Y (bound 0)) I = beta' named A (lam named A (lam named A (bound 2))) (bound 0) in
    let right : Capturing [] (app Z (bound 0)) (lam named A (app K (bound 0))) = beta' named A (lam named A (app K (bound 1))) (bound 0) in
    let last : Capturing [] (lam named A (app K (bound 0))) K = lambdas' (reflexive' A) ((tt, (tt, omega arith)), omega arith) (tt, omega arith)
    (beta' named A (lam named A (bound 1)) (free 0)) in
    let booleans : Capturing [] I K = transitive' (symmetric' left)
    (transitive' (applications' (symmetric' outer) (reflexive' (bound 0))) (transitive' right last)) in
    let second : Capturing [] (app (app I (lit m)) (lit n)) (lit n) = transitive'
    (applications' (beta' named A (lam named A (bound 0)) (lit m)) (reflexive' (lit n))) (beta' named A (bound 0) (lit n)) in
    let first : Capturing [] (app (app K (lit m)) (lit n)) (lit m) = transitive'
    (applications' (beta' named A (lam named A (bound 1)) (lit m)) (reflexive' (lit n))) (beta' named A (lit m) (lit n)) in
    transitive' (symmetric' first) (transitive' (applications' (applications' (symmetric' booleans) (reflexive' (lit m))) (reflexive' (lit n))) second)

-- Nothing is put into a term without loose variables.
instantiate_at-scoped : (d k : ℕ) (t a : Term) → Scoped d k t → instantiate_at d t a ≡ t
instantiate_at-scoped d k (bound i) a h = by_lt (λ r. r ≡ bound i) i d (bound i) (if nat_eq i d then raise 0 d a else bound (i - 1)) (λ e. refl)
    (λ e. absurd (omega arith))
instantiate_at-scoped d k (free i) a h = refl
instantiate_at-scoped d k (meta i) a h = refl
instantiate_at-scoped d k (sort l) a h = refl
instantiate_at-scoped d k (const c ls) a h = refl
instantiate_at-scoped d k (app f t) a h = ap₂ app (instantiate_at-scoped d k f a h.0) (instantiate_at-scoped d k t a h.1)
instantiate_at-scoped d k (lam x A b) a h = ap₂ (lam x) (instantiate_at-scoped d k A a h.0) (instantiate_at-scoped (suc d) k b a h.1)
instantiate_at-scoped d k (pi x A b) a h = ap₂ (pi x) (instantiate_at-scoped d k A a h.0) (instantiate_at-scoped (suc d) k b a h.1)
instantiate_at-scoped d k (letin x A v b) a h = cc
    (instantiate_at-scoped d k A a h.0, instantiate_at-scoped d k v a h.1, instantiate_at-scoped (suc d) k b a h.2)
instantiate_at-scoped d k (lit n) a h = refl
instantiate_at-scoped d k (proj s i t) a h = ap (proj s i) (instantiate_at-scoped d k t a h)

-- The identity on the types of a level, its body, and two types for it that are wrong, since the variable 0 isn't in the context.
id : Universe → Term
id u = lam named (sort u) (lam named (bound 0) (bound 0))

body : (E : Environment) (u : Universe) → Partial E (sort u ∷ []) (lam named (free 0) (bound 0)) (pi named (free 0) (free 0))
body E u =
    let A : Partial E (sort u ∷ []) (free 0) (sort u) = variable 0 refl in
    let x : Partial E (sort u ∷ free 0 ∷ []) (free 1) (free 0) = variable 1 refl in
    lambda u A (omega arith) x

gives_free : (E : Environment) (u : Universe) → Partial E [] (id u) (pi named (sort u) (pi named (bound 0) (free 0)))
unfolding id
gives_free E u = lambda (level_succ u) (sort_type u) (omega arith, omega arith) (body E u)

takes_free : (E : Environment) (u : Universe) → Partial E [] (id u) (pi named (sort u) (pi named (free 0) (bound 1)))
unfolding id
takes_free E u = lambda (level_succ u) (sort_type u) (omega arith, omega arith) (body E u)

-- An inhabitant of the variable 0, in the empty context.
free_term : Term
free_term = app (app (id (level_succ (level_succ level_zero))) (sort (level_succ level_zero))) (sort level_zero)

free_typed : (E : Environment) → Partial E [] free_term (free 0)
unfolding free_term
free_typed E =
    let two : Universe = level_succ (level_succ level_zero) in
    let f : Partial E [] (app (id two) (sort (level_succ level_zero))) (pi named (sort (level_succ level_zero)) (free 0)) = application (gives_free E two)
    (sort_type (level_succ level_zero)) in
    application f (sort_type level_zero)

pub partial_collapses : PartialCollapses
partial_collapses E u A s h =
    let f : Partial E [] (app (id u) A) (pi named (free 0) (raise 0 1 A)) = application (takes_free E u) h in
    let f' : Partial E [] (app (id u) A) (pi named (free 0) A) = subst (λ B. Partial E [] (app (id u) A) (pi named (free 0) B)) (raise-scoped 0 1 0 A s) f in
    let t : Term = app (app (id u) A) free_term in
    let r : Partial E [] t (instantiate A free_term) = application f' (free_typed E) in
    (t, subst (Partial E [] t) (instantiate_at-scoped 0 0 A free_term s) r)
