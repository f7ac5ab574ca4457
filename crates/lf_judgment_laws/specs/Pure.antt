-- Carneiro's relations (2019, chapter 2), where both sides of an equation have a type at each rule, and what is known of them on paper.
use Rattle.std.specs.Prelude.{◌≡◌, ℕ, ◌<◌, Some, List, [], ◌++◌, length, slice_get, Contains}
use Rattle.lf_core.specs.Term.{Path, Universe, level_zero, level_succ, level_imax, Term, bound, free, sort, const, app, lam, pi, letin, lit, proj}
use Rattle.lf_core.specs.Level.{Same, AllSame}
use Rattle.lf_core.specs.Substitution.{instantiate, level_instantiate}
use Rattle.lf_core.specs.Spine.{apply}
use Rattle.lf_core.specs.Scope.{Scoped}
use Rattle.lf_rules.specs.Environment.{Environment, Context, with, opened, nat_type}
use Rattle.lf_rules.specs.Structure.{IsStructure, projections, DomainAt}
use Rattle.lf_rules.specs.Step.{Step}
use Rattle.lf_rules.specs.Judgment.{IsDeclaredProposition, HasType}
use Rattle.lf_name.specs.declared.binder.Binder.{Binder}
use Rattle.lf_core.specs.declared.constant.ConstInfo.{ConstInfo}

abbrev pub IsLambda : Term → Type 0
IsLambda (lam x A b) = Unit {0}
IsLambda _ = ⊥

-- An application that beta is for.
abbrev pub IsRedex : Term → Type 0
IsRedex (app f a) = IsLambda f
IsRedex _ = ⊥

mutual
  pub data PureEqual (E : Environment) : Context → Term → Term → Type 0 where
    reflexive' : {C : Context} {a T : Term} → PureType E C a T → PureEqual E C a a
    symmetric' : {C : Context} {a b : Term} → PureEqual E C a b → PureEqual E C b a
    transitive' : {C : Context} {a b c : Term} → PureEqual E C a b → PureEqual E C b c → PureEqual E C a c
    applications' : {C : Context} {x : Binder} {f g a b A B : Term} → PureType E C f (pi x A B) → PureType E C g (pi x A B) → PureType E C a A
        → PureType E C b A → PureEqual E C f g → PureEqual E C a b → PureEqual E C (app f a) (app g b)
    lambdas' : {C : Context} {x y : Binder} {A B b c : Term} (u : Universe) → PureType E C A (sort u) → PureEqual E C A B → Scoped 1 (length C) b
        → Scoped 1 (length C) c → PureEqual E (with C A) (opened C b) (opened C c) → PureEqual E C (lam x A b) (lam y B c)
    pis' : {C : Context} {x y : Binder} {A B b c : Term} (u : Universe) → PureType E C A (sort u) → PureEqual E C A B → Scoped 1 (length C) b
        → Scoped 1 (length C) c → PureEqual E (with C A) (opened C b) (opened C c) → PureEqual E C (pi x A b) (pi y B c)
    lets' : {C : Context} {x y : Binder} {A B v w b c T : Term} (u : Universe) → PureType E C A (sort u) → PureType E C v A
        → PureType E (with C A) (opened C b) T → PureEqual E C A B → PureEqual E C v w → Scoped 1 (length C) b → Scoped 1 (length C) c
        → PureEqual E (with C A) (opened C b) (opened C c) → PureEqual E C (letin x A v b) (letin y B w c)
    sorts' : {C : Context} {l m : Universe} → Same l m → PureEqual E C (sort l) (sort m)
    constants' : {C : Context} {T : Term} (c : Path) {ls ms : List Universe} → PureType E C (const c ls) T → AllSame ls ms
        → PureEqual E C (const c ls) (const c ms)
    beta' : {C : Context} {x : Binder} {A b a : Term} (B : Term) (u : Universe) → PureType E C A (sort u) → Scoped 1 (length C) b → Scoped 1 (length C) B
        → PureType E (with C A) (opened C b) (opened C B) → PureType E C a A → PureEqual E C (app (lam x A b) a) (instantiate b a)
    step' : {C : Context} {a b T : Term} → Step E a b → (IsRedex a → ⊥) → PureType E C a T → PureType E C b T → PureEqual E C a b
    projected' : {C : Context} {a b T : Term} (S : Path) (i : ℕ) → PureType E C (proj S i a) T → PureEqual E C a b → PureEqual E C (proj S i a) (proj S i b)
    eta' : {C : Context} {x : Binder} {t A B : Term} → PureType E C t (pi x A B) → PureEqual E C t (lam x A (app t (bound 0)))
    eta_structure' : {C : Context} {t : Term} {S : Path} (s : IsStructure E S) (ls : List Universe) (ps : List Term) → PureType E C t (apply (const S ls) ps)
        → length ls ≡ length s.type.levels → length ps ≡ s.params
        → PureEqual E C t (apply (const s.constructor.name ls) (ps ++ projections S s.fields t))
    proof_irrelevance' : {C : Context} {a b P : Term} → PureType E C a P → PureType E C b P → PureType E C P (sort level_zero) → PureEqual E C a b
    declared_irrelevance' : {C : Context} {a b P : Term} → PureType E C a P → PureType E C b P → IsDeclaredProposition E P → PureEqual E C a b

  pub data PureType (E : Environment) : Context → Term → Term → Type 0 where
    variable' : {C : Context} {A : Term} (k : ℕ) → slice_get C k ≡ Some A → PureType E C (free k) A
    sort_type' : {C : Context} (l : Universe) → PureType E C (sort l) (sort (level_succ l))
    constant' : {C : Context} (c : ConstInfo) (ls : List Universe) → Contains E c → length ls ≡ length c.levels
        → PureType E C (const c.name ls) (level_instantiate ls c.ty)
    application' : {C : Context} {x : Binder} {f a A B : Term} → PureType E C f (pi x A B) → PureType E C a A → PureType E C (app f a) (instantiate B a)
    lambda' : {C : Context} {x : Binder} {A b B : Term} (u : Universe) → PureType E C A (sort u) → Scoped 1 (length C) b → Scoped 1 (length C) B
        → PureType E (with C A) (opened C b) (opened C B) → PureType E C (lam x A b) (pi x A B)
    pi_type' : {C : Context} {x : Binder} {A B : Term} (u v : Universe) → PureType E C A (sort u) → Scoped 1 (length C) B
        → PureType E (with C A) (opened C B) (sort v) → PureType E C (pi x A B) (sort (level_imax u v))
    let_type' : {C : Context} {x : Binder} {A v b B : Term} (u : Universe) → PureType E C A (sort u) → PureType E C v A → Scoped 1 (length C) b
        → PureType E C (instantiate b v) B → PureType E C (letin x A v b) B
    literal' : {C : Context} (n : ℕ) → PureType E C (lit n) nat_type
    projection' : {C : Context} {t A : Term} {S : Path} (s : IsStructure E S) (i : ℕ) (ls : List Universe) (ps : List Term)
        → PureType E C t (apply (const S ls) ps) → length ls ≡ length s.type.levels → length ps ≡ s.params
        → i < s.fields → DomainAt (level_instantiate ls s.constructor.ty) (ps ++ projections S i t) A → PureType E C (proj S i t) A
    conversion' : {C : Context} {t A B : Term} → PureType E C t A → PureEqual E C A B → PureType E C t B

-- Each type of a context is one over those before it.
pub data WellFormed (E : Environment) : Context → Type 0 where
  nothing : WellFormed E []
  more : {C : Context} {A : Term} (u : Universe) → WellFormed E C → PureType E C A (sort u) → WellFormed E (with C A)

-- What is proved on paper of the pure relations, where the environment is right (Carneiro 2019, chapters 3 and 4).
pub record Metatheory (E : Environment) : Type 0 where
  pub type_is_type : {C : Context} {t A : Term} → WellFormed E C → PureType E C t A → (u : Universe) × PureType E C A (sort u)
  pub unique : {C : Context} {t A B : Term} → WellFormed E C → PureType E C t A → PureType E C t B → PureEqual E C A B
  pub injective : {C : Context} {x y : Binder} {A B A' B' : Term} → WellFormed E C → PureEqual E C (pi x A B) (pi y A' B') → PureEqual E C A A'
  pub equal_keeps : {C : Context} {a b T : Term} → WellFormed E C → PureEqual E C a b → PureType E C a T → PureType E C b T
  pub step_keeps : {C : Context} {a b T : Term} → WellFormed E C → Step E a b → (IsRedex a → ⊥) → PureType E C a T → PureType E C b T
  pub other_domain : {C : Context} {A B t T : Term} → WellFormed E C → PureEqual E C A B → PureType E (with C A) t T → PureType E (with C B) t T

-- Typing is at least the pure one, and no more than it where that has its known properties.
pub record Faithful (E : Environment) : Type 0 where
  pub at_least : (C : Context) (t A : Term) → PureType E C t A → HasType E C t A
  pub no_more : (t A : Term) → Metatheory E → HasType E [] t A → PureType E [] t A

abbrev pub TypingIsPure : Type 0
TypingIsPure = (E : Environment) → Faithful E
