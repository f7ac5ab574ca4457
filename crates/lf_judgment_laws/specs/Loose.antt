-- Looser relations, which hold of all terms: why bodies and codomains are asked to be in scope, and why substitution lifts.
-- Each has only the rules that its collapse needs; the other rules could only add to it.
use Rattle.std.specs.Prelude.{◌≡◌, ℕ, suc, nat_eq, if◌then◌else◌, Some, [], length, slice_get}
use Rattle.lf_core.specs.Term.{Universe, level_succ, Term, bound, free, meta, sort, const, app, lam, pi, letin, lit, proj}
use Rattle.lf_core.specs.Substitution.{instantiate}
use Rattle.lf_core.specs.Scope.{Scoped}
use Rattle.lf_rules.specs.Environment.{Environment, Context, with, opened}
use Rattle.lf_rules.specs.Step.{Step}
use Rattle.lf_name.specs.declared.binder.Binder.{Binder}

-- Bodies are opened by the next variable, which may stand in them already.
pub data Unfresh (E : Environment) : Context → Term → Term → Type 0 where
  reflexive : {C : Context} (a : Term) → Unfresh E C a a
  symmetric : {C : Context} {a b : Term} → Unfresh E C a b → Unfresh E C b a
  transitive : {C : Context} {a b c : Term} → Unfresh E C a b → Unfresh E C b c → Unfresh E C a c
  applications : {C : Context} {f g a b : Term} → Unfresh E C f g → Unfresh E C a b → Unfresh E C (app f a) (app g b)
  lambdas : {C : Context} {x y : Binder} {A B b c : Term} → Unfresh E C A B → Unfresh E (with C A) (opened C b) (opened C c)
      → Unfresh E C (lam x A b) (lam y B c)
  step : {C : Context} {a b : Term} → Step E a b → Unfresh E C a b

abbrev pub UnfreshCollapses : Type 0
UnfreshCollapses = (E : Environment) (a b : Term) → Unfresh E [] a b

-- The argument is put in as it stands: under binders its loose variables are captured.
abbrev pub put_at : ℕ → Term → Term → Term
put_at d (bound i) a = if nat_eq i d then a else bound i
put_at d (free k) a = free k
put_at d (meta k) a = meta k
put_at d (sort l) a = sort l
put_at d (const c ls) a = const c ls
put_at d (app f t) a = app (put_at d f a) (put_at d t a)
put_at d (lam x A b) a = lam x (put_at d A a) (put_at (suc d) b a)
put_at d (pi x A b) a = pi x (put_at d A a) (put_at (suc d) b a)
put_at d (letin x A v b) a = letin x (put_at d A a) (put_at d v a) (put_at (suc d) b a)
put_at d (lit n) a = lit n
put_at d (proj s i t) a = proj s i (put_at d t a)

pub data Capturing : Context → Term → Term → Type 0 where
  reflexive' : {C : Context} (a : Term) → Capturing C a a
  symmetric' : {C : Context} {a b : Term} → Capturing C a b → Capturing C b a
  transitive' : {C : Context} {a b c : Term} → Capturing C a b → Capturing C b c → Capturing C a c
  applications' : {C : Context} {f g a b : Term} → Capturing C f g → Capturing C a b → Capturing C (app f a) (app g b)
  lambdas' : {C : Context} {x y : Binder} {A B b c : Term} → Capturing C A B → Scoped 1 (length C) b → Scoped 1 (length C) c
      → Capturing (with C A) (opened C b) (opened C c) → Capturing C (lam x A b) (lam y B c)
  beta' : {C : Context} (x : Binder) (A b a : Term) → Capturing C (app (lam x A b) a) (put_at 0 b a)

abbrev pub CapturingCollapses : Type 0
CapturingCollapses = (m n : ℕ) → Capturing [] (lit m) (lit n)

-- A type may be abstracted in part: the codomain of a lambda's pi need not be in scope.
pub data Partial (E : Environment) : Context → Term → Term → Type 0 where
  variable : {C : Context} {A : Term} (k : ℕ) → slice_get C k ≡ Some A → Partial E C (free k) A
  sort_type : {C : Context} (l : Universe) → Partial E C (sort l) (sort (level_succ l))
  application : {C : Context} {x : Binder} {f a A B : Term} → Partial E C f (pi x A B) → Partial E C a A → Partial E C (app f a) (instantiate B a)
  lambda : {C : Context} {x : Binder} {A b B : Term} (u : Universe) → Partial E C A (sort u) → Scoped 1 (length C) b
      → Partial E (with C A) (opened C b) (opened C B) → Partial E C (lam x A b) (pi x A B)

abbrev pub PartialCollapses : Type 0
PartialCollapses = (E : Environment) (u : Universe) (A : Term) → Scoped 0 0 A → Partial E [] A (sort u) → (t : Term) × Partial E [] t A
