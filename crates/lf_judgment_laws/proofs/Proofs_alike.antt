-- Two proofs of a proposition are equal, so are their applications to what has not their type, and these step.
use Rattle.std.proofs.Common.{ℕ, [], ◌∷◌, refl, subst, arith}
use Rattle.lf_core.specs.Term.{level_zero, level_succ, level_imax, Term, bound, free, sort, app, lam, pi}
use Rattle.lf_core.specs.Substitution.{raise}
use Rattle.lf_core.specs.Scope.{Scoped}
use Rattle.lf_rules.specs.Environment.{Environment}
use Rattle.lf_rules.specs.Step.{beta}
use Rattle.lf_judgment_laws.specs.Untyped.{
  UntypedEqual,
  reflexive,
  symmetric,
  transitive,
  applications,
  sorts,
  step,
  proof_irrelevance,
  UntypedType,
  variable,
  sort_type,
  lambda,
  pi_type,
  conversion,
  Alike,
}
use Rattle.lf_judgment_laws.proofs.Variables.{raise-scoped}
use Rattle.lf_judgment_laws.proofs.Collapses.{named}

-- The proposition that each proposition follows from itself, and its proof.
abbrev pub truth : Term
truth = pi named (sort level_zero) (pi named (bound 0) (bound 1))

abbrev pub trivial : Term
trivial = lam named (sort level_zero) (lam named (bound 0) (bound 0))

abbrev prop : Term
prop = sort level_zero

true_prop : (E : Environment) → UntypedType E [] truth prop
true_prop E =
    let p : UntypedType E (prop ∷ []) (free 0) prop = variable 0 refl in
    let q : UntypedType E (prop ∷ free 0 ∷ []) (free 0) prop = variable 0 refl in
    conversion (pi_type (level_succ level_zero) (level_imax level_zero level_zero) (sort_type level_zero) (omega arith, omega arith)
    (pi_type level_zero level_zero p (omega arith) q)) (sorts (λ s. refl))

true_prop_under : (E : Environment) → UntypedType E (truth ∷ []) truth prop
true_prop_under E =
    let p : UntypedType E (truth ∷ prop ∷ []) (free 1) prop = variable 1 refl in
    let q : UntypedType E (truth ∷ prop ∷ free 1 ∷ []) (free 1) prop = variable 1 refl in
    conversion (pi_type (level_succ level_zero) (level_imax level_zero level_zero) (sort_type level_zero) (omega arith, omega arith)
    (pi_type level_zero level_zero p (omega arith) q)) (sorts (λ s. refl))

trivial_typed : (E : Environment) → UntypedType E (truth ∷ []) trivial truth
trivial_typed E =
    let p : UntypedType E (truth ∷ prop ∷ []) (free 1) prop = variable 1 refl in
    let x : UntypedType E (truth ∷ prop ∷ free 1 ∷ []) (free 2) (free 1) = variable 2 refl in
    lambda (level_succ level_zero) (sort_type level_zero) (omega arith, omega arith) (omega arith, omega arith)
    (lambda level_zero p (omega arith) (omega arith) x)

true_scoped : (d k : ℕ) → Scoped d k truth
true_scoped d k = (tt, (omega arith, omega arith))

trivial_scoped : (d k : ℕ) → Scoped d k trivial
trivial_scoped d k = (tt, (omega arith, omega arith))

-- Two proofs that truth follows from truth.
proofs_equal : (E : Environment) → UntypedEqual E [] (lam named truth (bound 0)) (lam named truth trivial)
proofs_equal E =
    let T : UntypedType E [] truth prop = true_prop E in
    let a : UntypedType E [] (lam named truth (bound 0)) (pi named truth truth) = lambda level_zero T (omega arith) (true_scoped 1 0) (variable 0 refl) in
    let b : UntypedType E [] (lam named truth trivial) (pi named truth truth) = lambda level_zero T (trivial_scoped 1 0) (true_scoped 1 0) (trivial_typed E) in
    let p : UntypedType E [] (pi named truth truth) prop = conversion (pi_type level_zero level_zero T (true_scoped 1 0) (true_prop_under E))
    (sorts (λ s. refl)) in
    proof_irrelevance a b p

-- x need not be a proof of truth.
all_trivial : (E : Environment) (x : Term) → Scoped 0 0 x → UntypedEqual E [] x trivial
all_trivial E x s =
    let left : UntypedEqual E [] (app (lam named truth (bound 0)) x) (raise 0 0 x) = step (beta named truth (bound 0) x) ((true_scoped 0 0, omega arith), s) in
    let left' : UntypedEqual E [] (app (lam named truth (bound 0)) x) x = subst (UntypedEqual E [] (app (lam named truth (bound 0)) x)) (raise-scoped 0 0 0 x s)
    left in
    let right : UntypedEqual E [] (app (lam named truth trivial) x) trivial = step (beta named truth trivial x) ((true_scoped 0 0, trivial_scoped 1 0), s) in
    transitive (symmetric left') (transitive (applications (proofs_equal E) (reflexive x)) right)

all_equal : (E : Environment) (a b : Term) → Scoped 0 0 a → Scoped 0 0 b → UntypedEqual E [] a b
all_equal E a b s r = transitive (all_trivial E a s) (symmetric (all_trivial E b r))

pub alike : (E : Environment) → Alike E
alike E = record { equal = λ a b s r. all_equal E a b s r; typed = λ t A B h s r. conversion h (all_equal E A B s r) }
