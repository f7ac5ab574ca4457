-- Typing and equality keep to the variables of the context.
use Rattle.std.proofs.Common.{ℕ, zero, suc, [], ◌∷◌, ◌+◌, ◌++◌, ◌↔◌, List, true, false, length, subst, take, drop, zero-le, arith}
use Rattle.std.proofs.lemmas.Option.{slice_get_within}
use Rattle.lf_core.specs.Term.{Path, Universe, Term, const, proj}
use Rattle.lf_core.specs.Substitution.{level_instantiate}
use Rattle.lf_rules.specs.Structure.{projections, DomainAt, here, there}
use Rattle.lf_core.specs.Scope.{Scoped}
use Rattle.lf_rules.specs.Environment.{Environment, Context}
use Rattle.lf_core.specs.declared.literal.LitOut.{LitOut}
use Rattle.lf_core.specs.declared.literal.LitOut.TheVariants.{Nat, Bool}
use Rattle.lf_rules.specs.Step.{Step, beta, zeta, delta, iota, literal_zero, literal_succ, operation, projection as projection_step, literal_term}
use Rattle.lf_rules.specs.Judgment.{
  Equal,
  reflexive,
  symmetric,
  transitive,
  applications,
  lambdas,
  pis,
  lets,
  sorts,
  constants,
  step,
  eta,
  proof_irrelevance,
  declared_irrelevance,
  projected,
  eta_structure,
  HasType,
  variable,
  sort_type,
  constant,
  application,
  lambda,
  pi_type,
  let_type,
  literal,
  projection,
  conversion,
}
use Rattle.lf_core.specs.declared.constant.Detail.TheVariants.{Rec}
use Rattle.lf_judgment_laws.specs.InScope.{RulesClosed, EnvironmentClosed, AllScoped, ContextScoped, KeepsScope}
use Rattle.lf_judgment_laws.proofs.Variables.{
  scoped_up,
  scoped_instantiate,
  all_get,
  scoped_apply,
  scoped_levels,
  all_append,
  all_take,
  all_drop,
  scoped_of_apply,
}

abbrev In : Context → Term → Type 0
In C t = Scoped 0 (length C) t

pub closed_at : (k : ℕ) (ls : List Universe) (t : Term) → Scoped 0 0 t → Scoped 0 k (level_instantiate ls t)
closed_at k ls t h = scoped_levels 0 k ls t (scoped_up t zero-le zero-le h)

value_scoped : (k : ℕ) (r : LitOut) → Scoped 0 k (literal_term r)
value_scoped k (Nat n) = tt
value_scoped k (Bool true) = tt
value_scoped k (Bool false) = tt

pub step_scoped : (E : Environment) → EnvironmentClosed E → (k : ℕ) {a b : Term} → Step E a b → Scoped 0 k a → Scoped 0 k b
step_scoped E cl k (beta x A b a) h = scoped_instantiate k b a h.0.1 h.1
step_scoped E cl k (zeta x A v b) h = scoped_instantiate k b v h.2 h.1
step_scoped E cl k (delta c v ls w q e l) h = closed_at k ls v ((cl c w).value v e)
step_scoped E cl k (iota c d ind params minors indices index own fields rules rule ls ms before ys wc qc l n wd qd e m) h =
    let f : Scoped 0 k (const c.name ls) × AllScoped k before = scoped_of_apply k (const c.name ls) before h.0 in
    let g : Scoped 0 k (const d.name ms) × AllScoped k ys = scoped_of_apply k (const d.name ms) ys h.1 in
    let closed : RulesClosed (Rec ind params minors indices rules) = subst RulesClosed qc (cl c wc).rules in
    scoped_apply k (level_instantiate ls rule) (take (params + 1 + minors) before ++ drop own ys) (closed_at k ls rule (closed index rule e))
    (all_append k (take (params + 1 + minors) before) (drop own ys) (all_take k (params + 1 + minors) before f.1) (all_drop k own ys g.1))
step_scoped E cl k literal_zero h = tt
step_scoped E cl k (literal_succ n b) h = (tt, tt)
step_scoped E cl k (operation op m n r q) h = value_scoped k r
step_scoped E cl k (projection_step s i x ms ys l e) h =
    let g : Scoped 0 k (const s.constructor.name ms) × AllScoped k ys = scoped_of_apply k (const s.constructor.name ms) ys h in
    all_get k (drop s.params ys) i x (all_drop k s.params ys g.1) e

projections_scoped : (k : ℕ) (S : Path) (n : ℕ) (t : Term) → Scoped 0 k t → AllScoped k (projections S n t)
projections_scoped k S zero t h = tt
projections_scoped k S (suc n) t h = all_append k (projections S n t) (proj S n t ∷ []) (projections_scoped k S n t h) (h, tt)

domain_scoped : (k : ℕ) {T A : Term} {ys : List Term} → DomainAt T ys A → Scoped 0 k T → AllScoped k ys → Scoped 0 k A
domain_scoped k here h s = h.0
domain_scoped k (there {B = B} {y = y} d) h s = domain_scoped k d (scoped_instantiate k B y h.1 s.0) s.1

mutual
  pub typed_in : (E : Environment) → EnvironmentClosed E → {C : Context} {t A : Term} → HasType E C t A → ContextScoped C → In C t × In C A
  typed_in E cl {C = C} (variable {A = A} k e) fine = (slice_get_within C k A e, all_get (length C) C k A fine e)
  typed_in E cl (sort_type l) fine = (tt, tt)
  typed_in E cl {C = C} (constant c ls w n) fine = (tt, closed_at (length C) ls c.ty (cl c w).ty)
  typed_in E cl {C = C} (application {a = a} {B = B} f x) fine =
      let hf = typed_in E cl f fine in
      let hx = typed_in E cl x fine in
      ((hf.0, hx.0), scoped_instantiate (length C) B a hf.1.1 hx.0)
  typed_in E cl (lambda u a s r b) fine = let h = (typed_in E cl a fine).0 in ((h, s), (h, r))
  typed_in E cl (pi_type u v a s b) fine = (((typed_in E cl a fine).0, s), tt)
  typed_in E cl (let_type u a v s b) fine = (((typed_in E cl a fine).0, (typed_in E cl v fine).0, s), (typed_in E cl b fine).1)
  typed_in E cl (literal n) fine = (tt, tt)
  typed_in E cl {C = C} (projection {t = t} {S = S} s i ls ps h n m q d) fine =
      let r = typed_in E cl h fine in
      let a = scoped_of_apply (length C) (const S ls) ps r.1 in (
        r.0,
        domain_scoped (length C) d (closed_at (length C) ls s.constructor.ty (cl s.constructor s.constructor_within).ty)
            (all_append (length C) ps (projections S i t) a.1 (projections_scoped (length C) S i t r.0)),
      )
  typed_in E cl (conversion t p) fine = let h = typed_in E cl t fine in (h.0, (equal_in E cl p fine).0 h.1)

  pub equal_in : (E : Environment) → EnvironmentClosed E → {C : Context} {a b : Term} → Equal E C a b → ContextScoped C → (In C a ↔ In C b)
  equal_in E cl (reflexive a) fine = ((λ h. h), (λ h. h))
  equal_in E cl (symmetric p) fine = let h = equal_in E cl p fine in (h.1, h.0)
  equal_in E cl (transitive p q) fine =
      let h = equal_in E cl p fine in
      let k = equal_in E cl q fine in
      ((λ s. k.0 (h.0 s)), (λ s. h.1 (k.1 s)))
  equal_in E cl (applications p q) fine =
      let h = equal_in E cl p fine in
      let k = equal_in E cl q fine in
      ((λ s. (h.0 s.0, k.0 s.1)), (λ s. (h.1 s.0, k.1 s.1)))
  equal_in E cl (lambdas f p s r q) fine = let h = equal_in E cl p fine in ((λ x. (h.0 x.0, r)), (λ x. (h.1 x.0, s)))
  equal_in E cl (pis f p s r q) fine = let h = equal_in E cl p fine in ((λ x. (h.0 x.0, r)), (λ x. (h.1 x.0, s)))
  equal_in E cl (lets f g p v s r q) fine =
      let h = equal_in E cl p fine in
      let k = equal_in E cl v fine in
      ((λ x. (h.0 x.0, k.0 x.1, r)), (λ x. (h.1 x.0, k.1 x.1, s)))
  equal_in E cl (sorts p) fine = ((λ h. tt), (λ h. tt))
  equal_in E cl (constants c p) fine = ((λ h. tt), (λ h. tt))
  equal_in E cl {C = C} (step p s f) fine = ((λ h. step_scoped E cl (length C) p h), (λ h. s))
  equal_in E cl (eta {t = t} p) fine =
      let h = typed_in E cl p fine in
      ((λ s. (h.1.0, (scoped_up t zero-le (omega arith) h.0, omega arith))), (λ s. h.0))
  equal_in E cl (projected S i p) fine = equal_in E cl p fine
  equal_in E cl {C = C} (eta_structure {t = t} {S = S} s ls ps h n m) fine =
      let r = typed_in E cl h fine in
      let a = scoped_of_apply (length C) (const S ls) ps r.1 in (
        (λ z. scoped_apply (length C) (const s.constructor.name ls) (ps ++ projections S s.fields t) tt
            (all_append (length C) ps (projections S s.fields t) a.1 (projections_scoped (length C) S s.fields t r.0))),
        (λ z. r.0),
      )
  equal_in E cl (proof_irrelevance p q r) fine =
      let h = (typed_in E cl p fine).0 in
      let k = (typed_in E cl q fine).0 in
      ((λ s. k), (λ s. h))
  equal_in E cl (declared_irrelevance p q r) fine =
      let h = (typed_in E cl p fine).0 in
      let k = (typed_in E cl q fine).0 in
      ((λ s. k), (λ s. h))

pub relations_keep_scope : (E : Environment) (C : Context) → EnvironmentClosed E → ContextScoped C → KeepsScope E C
relations_keep_scope E C cl fine = record { typed = λ t A h. typed_in E cl h fine; equal = λ a b h. equal_in E cl h fine }

-- A term that has a type is in scope, whatever the environment.
pub typed_scoped : (E : Environment) {C : Context} {t A : Term} → HasType E C t A → Scoped 0 (length C) t
typed_scoped E {C = C} (variable {A = A} k e) = slice_get_within C k A e
typed_scoped E (sort_type l) = tt
typed_scoped E (constant c ls w n) = tt
typed_scoped E (application f a) = (typed_scoped E f, typed_scoped E a)
typed_scoped E (lambda u a s r b) = (typed_scoped E a, s)
typed_scoped E (pi_type u v a s b) = (typed_scoped E a, s)
typed_scoped E (let_type u a v s b) = (typed_scoped E a, typed_scoped E v, s)
typed_scoped E (literal n) = tt
typed_scoped E (projection s i ls ps h n m q d) = typed_scoped E h
typed_scoped E (conversion t p) = typed_scoped E t
