-- Definitional equality, typing and formed terms, with no algorithm: no weak head form, no budget, no order of trial.
-- After Carneiro 2019, "The Type Theory of Lean", chapter 2, and the Lean 4 reference manual, "The Type System". Conditions on scope
-- and formed terms are this project's: crate lf_judgment_laws shows what comes of leaving each out.
use Rattle.std.specs.Prelude.{◌≡◌, ℕ, ◌+◌, Some, List, ◌++◌, ◌<◌, length, slice_get, Contains, Bool}
use Rattle.lf_core.specs.Term.{Path, Universe, level_zero, level_succ, level_imax, Term, bound, free, sort, const, app, lam, pi, letin, lit, proj}
use Rattle.lf_core.specs.Level.{Same, AllSame}
use Rattle.lf_core.specs.Substitution.{instantiate, level_instantiate}
use Rattle.lf_core.specs.Spine.{apply}
use Rattle.lf_core.specs.Scope.{Scoped}
use Rattle.lf_rules.specs.Environment.{Environment, Context, with, opened, nat_type}
use Rattle.lf_rules.specs.Structure.{result_level, IsStructure, projections, DomainAt}
use Rattle.lf_rules.specs.Step.{Step}
use Rattle.lf_name.specs.declared.binder.Binder.{Binder}
use Rattle.lf_core.specs.declared.constant.ConstInfo.{ConstInfo}
use Rattle.lf_core.specs.declared.constant.Detail.TheVariants.{Ind}

-- P is an inductive type, declared in `Prop`, applied to all its parameters and indices.
pub record IsDeclaredProposition (E : Environment) (P : Term) : Type 0 where
  pub type : ConstInfo
  pub result : Universe
  pub params : ℕ
  pub indices : ℕ
  pub constructors : List Path
  pub large : Bool
  pub levels : List Universe
  pub arguments : List Term
  pub within : Contains E type
  pub detail : type.detail ≡ Ind params indices constructors large
  pub declared : result_level type.ty ≡ Some result
  pub in_prop : Same result level_zero
  pub whole : length arguments ≡ params + indices
  pub form : P ≡ apply (const type.name levels) arguments

mutual
  -- E, C ⊢ a = b. Names and kinds of binders don't matter. Bodies are compared opened, in the context with the first side's domain.
  pub data Equal (E : Environment) : Context → Term → Term → Type 0 where
    reflexive : {C : Context} (a : Term) → Equal E C a a
    symmetric : {C : Context} {a b : Term} → Equal E C a b → Equal E C b a
    transitive : {C : Context} {a b c : Term} → Equal E C a b → Equal E C b c → Equal E C a c
    applications : {C : Context} {f g a b : Term} → Equal E C f g → Equal E C a b → Equal E C (app f a) (app g b)
    lambdas : {C : Context} {x y : Binder} {A B b c : Term} → Formed E C A → Equal E C A B → Scoped 1 (length C) b → Scoped 1 (length C) c
        → Equal E (with C A) (opened C b) (opened C c) → Equal E C (lam x A b) (lam y B c)
    pis : {C : Context} {x y : Binder} {A B b c : Term} → Formed E C A → Equal E C A B → Scoped 1 (length C) b → Scoped 1 (length C) c
        → Equal E (with C A) (opened C b) (opened C c) → Equal E C (pi x A b) (pi y B c)
    lets : {C : Context} {x y : Binder} {A B v w b c : Term} → Formed E C A → Formed E (with C A) (opened C b) → Equal E C A B → Equal E C v w
        → Scoped 1 (length C) b → Scoped 1 (length C) c → Equal E (with C A) (opened C b) (opened C c) → Equal E C (letin x A v b) (letin y B w c)
    sorts : {C : Context} {l m : Universe} → Same l m → Equal E C (sort l) (sort m)
    constants : {C : Context} (c : Path) {ls ms : List Universe} → AllSame ls ms → Equal E C (const c ls) (const c ms)
    projected : {C : Context} {a b : Term} (S : Path) (i : ℕ) → Equal E C a b → Equal E C (proj S i a) (proj S i b)
    step : {C : Context} {a b : Term} → Step E a b → Scoped 0 (length C) a → Formed E C a → Equal E C a b
    eta : {C : Context} {x : Binder} {t A B : Term} → HasType E C t (pi x A B) → Equal E C t (lam x A (app t (bound 0)))
    eta_structure : {C : Context} {t : Term} {S : Path} (s : IsStructure E S) (ls : List Universe) (ps : List Term) → HasType E C t (apply (const S ls) ps)
        → length ls ≡ length s.type.levels → length ps ≡ s.params
        → Equal E C t (apply (const s.constructor.name ls) (ps ++ projections S s.fields t))
    proof_irrelevance : {C : Context} {a b P : Term} → HasType E C a P → HasType E C b P → HasType E C P (sort level_zero) → Equal E C a b
    declared_irrelevance : {C : Context} {a b P : Term} → HasType E C a P → HasType E C b P → IsDeclaredProposition E P → Equal E C a b

  -- E, C ⊢ t : A.
  pub data HasType (E : Environment) : Context → Term → Term → Type 0 where
    variable : {C : Context} {A : Term} (k : ℕ) → slice_get C k ≡ Some A → HasType E C (free k) A
    sort_type : {C : Context} (l : Universe) → HasType E C (sort l) (sort (level_succ l))
    constant : {C : Context} (c : ConstInfo) (ls : List Universe) → Contains E c → length ls ≡ length c.levels
        → HasType E C (const c.name ls) (level_instantiate ls c.ty)
    application : {C : Context} {x : Binder} {f a A B : Term} → HasType E C f (pi x A B) → HasType E C a A → HasType E C (app f a) (instantiate B a)
    lambda : {C : Context} {x : Binder} {A b B : Term} (u : Universe) → HasType E C A (sort u) → Scoped 1 (length C) b → Scoped 1 (length C) B
        → HasType E (with C A) (opened C b) (opened C B) → HasType E C (lam x A b) (pi x A B)
    pi_type : {C : Context} {x : Binder} {A B : Term} (u v : Universe) → HasType E C A (sort u) → Scoped 1 (length C) B
        → HasType E (with C A) (opened C B) (sort v) → HasType E C (pi x A B) (sort (level_imax u v))
    let_type : {C : Context} {x : Binder} {A v b B : Term} (u : Universe) → HasType E C A (sort u) → HasType E C v A → Scoped 1 (length C) b
        → HasType E C (instantiate b v) B → HasType E C (letin x A v b) B
    literal : {C : Context} (n : ℕ) → HasType E C (lit n) nat_type
    projection : {C : Context} {t A : Term} {S : Path} (s : IsStructure E S) (i : ℕ) (ls : List Universe) (ps : List Term)
        → HasType E C t (apply (const S ls) ps) → length ls ≡ length s.type.levels → length ps ≡ s.params
        → i < s.fields → DomainAt (level_instantiate ls s.constructor.ty) (ps ++ projections S i t) A → HasType E C (proj S i t) A
    conversion : {C : Context} {t A B : Term} → HasType E C t A → Equal E C A B → HasType E C t B

  -- What reduction may start from: the terms that have a type, the types of terms, the parts of formed applications, lambdas and
  -- pis, and what equals a formed term.
  pub data Formed (E : Environment) : Context → Term → Type 0 where
    has_type : {C : Context} {t A : Term} → HasType E C t A → Formed E C t
    is_type : {C : Context} {t A : Term} → HasType E C t A → Formed E C A
    equal_to : {C : Context} {a b : Term} → Formed E C a → Equal E C a b → Formed E C b
    function : {C : Context} {f a : Term} → Formed E C (app f a) → Formed E C f
    argument : {C : Context} {f a : Term} → Formed E C (app f a) → Formed E C a
    lambda_domain : {C : Context} {x : Binder} {A b : Term} → Formed E C (lam x A b) → Formed E C A
    lambda_body : {C : Context} {x : Binder} {A b : Term} → Formed E C (lam x A b) → Formed E (with C A) (opened C b)
    pi_domain : {C : Context} {x : Binder} {A B : Term} → Formed E C (pi x A B) → Formed E C A
    pi_codomain : {C : Context} {x : Binder} {A B : Term} → Formed E C (pi x A B) → Formed E (with C A) (opened C B)
    projected_part : {C : Context} {t : Term} {S : Path} {i : ℕ} → Formed E C (proj S i t) → Formed E C t
