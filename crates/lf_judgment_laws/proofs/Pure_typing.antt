-- The pure relations, and these.
use Rattle.std.proofs.Common.{length, ◌≡◌, List, [], ◌∷◌, refl, sym, ap, subst}
use Rattle.lf_core.specs.Term.{Universe, Term, sort, const, app, lam, pi, letin, proj}
use Rattle.lf_core.specs.Level.{AllSame}
use Rattle.lf_core.specs.Spine.{apply}
use Rattle.lf_core.specs.Scope.{Scoped}
use Rattle.lf_rules.specs.Environment.{Environment, Context, with, opened}
use Rattle.lf_rules.specs.Step.{Step, beta, zeta, delta, iota, literal_zero, literal_succ, operation, projection as projection_step}
use Rattle.lf_rules.specs.Judgment.{
  Equal,
  reflexive,
  symmetric,
  transitive,
  applications,
  lambdas,
  pis,
  lets,
  sorts,
  constants,
  step,
  eta,
  proof_irrelevance,
  declared_irrelevance,
  projected,
  eta_structure,
  HasType,
  variable,
  sort_type,
  constant,
  application,
  lambda,
  pi_type,
  let_type,
  literal,
  projection,
  conversion,
  Formed,
  has_type,
  is_type,
  equal_to,
  function,
  argument,
  lambda_domain,
  lambda_body,
  pi_domain,
  pi_codomain,
  projected_part,
}
use Rattle.lf_name.specs.declared.binder.Binder.{Binder}
use Rattle.lf_judgment_laws.specs.Pure.{
  PureEqual,
  reflexive',
  symmetric',
  transitive',
  applications',
  lambdas',
  pis',
  lets',
  sorts',
  constants',
  beta',
  step',
  eta',
  proof_irrelevance',
  declared_irrelevance',
  projected',
  eta_structure',
  IsLambda,
  PureType,
  variable',
  sort_type',
  constant',
  application',
  lambda',
  pi_type',
  let_type',
  literal',
  projection',
  conversion',
  WellFormed,
  nothing,
  more,
  Metatheory,
  TypingIsPure,
}
use Rattle.lf_judgment_laws.proofs.Scopes.{typed_scoped}

-- The pure relations are no more than these.

mutual
  of_type : (E : Environment) {C : Context} {t A : Term} → PureType E C t A → HasType E C t A
  of_type E (variable' k e) = variable k e
  of_type E (sort_type' l) = sort_type l
  of_type E (constant' c ls w n) = constant c ls w n
  of_type E (application' f a) = application (of_type E f) (of_type E a)
  of_type E (lambda' u a s r b) = lambda u (of_type E a) s r (of_type E b)
  of_type E (pi_type' u v a s b) = pi_type u v (of_type E a) s (of_type E b)
  of_type E (let_type' u a v s b) = let_type u (of_type E a) (of_type E v) s (of_type E b)
  of_type E (literal' n) = literal n
  of_type E (projection' s i ls ps h n m l d) = projection s i ls ps (of_type E h) n m l d
  of_type E (conversion' t p) = conversion (of_type E t) (of_equal E p)

  of_equal : (E : Environment) {C : Context} {a b : Term} → PureEqual E C a b → Equal E C a b
  of_equal E (reflexive' {a = a} t) = reflexive a
  of_equal E (symmetric' p) = symmetric (of_equal E p)
  of_equal E (transitive' p q) = transitive (of_equal E p) (of_equal E q)
  of_equal E (applications' f g a b p q) = applications (of_equal E p) (of_equal E q)
  of_equal E (lambdas' u a p s r q) = lambdas (has_type (of_type E a)) (of_equal E p) s r (of_equal E q)
  of_equal E (pis' u a p s r q) = pis (has_type (of_type E a)) (of_equal E p) s r (of_equal E q)
  of_equal E (lets' u a v b p w s r q) = lets (has_type (of_type E a)) (has_type (of_type E b)) (of_equal E p) (of_equal E w) s r (of_equal E q)
  of_equal E (sorts' p) = sorts p
  of_equal E (constants' c t p) = constants c p
  of_equal E (beta' {x = x} {A = A} {b = b} {a = a} B u t s r h k) =
      let w = application {B = B} (lambda u (of_type E t) s r (of_type E h)) (of_type E k) in
      step (beta x A b a) (typed_scoped E w) (has_type w)
  of_equal E (step' p n t s) = let h = of_type E t in step p (typed_scoped E h) (has_type h)
  of_equal E (projected' S i t p) = projected S i (of_equal E p)
  of_equal E (eta_structure' s ls ps h n m) = eta_structure s ls ps (of_type E h) n m
  of_equal E (eta' t) = eta (of_type E t)
  of_equal E (proof_irrelevance' t s p) = proof_irrelevance (of_type E t) (of_type E s) (of_type E p)
  of_equal E (declared_irrelevance' t s p) = declared_irrelevance (of_type E t) (of_type E s) p

-- The parts of a term that has a pure type.

abbrev Parts : Environment → Context → Term → Type 0
Parts E C (app f a) = (x : Binder) × (A : Term) × (B : Term) × PureType E C f (pi x A B) × PureType E C a A
Parts E C (lam x A b) = (u : Universe) × (B : Term) × PureType E C A (sort u) × PureType E (with C A) (opened C b) (opened C B) × Scoped 1 (length C) b × Scoped
    1 (length C) B
Parts E C (pi x A b) = (u : Universe) × (v : Universe) × PureType E C A (sort u) × PureType E (with C A) (opened C b) (sort v)
Parts E C (letin x A v b) = (u : Universe) × PureType E C A (sort u) × PureType E C v A
Parts E C (proj S i t) = (T : Term) × PureType E C t T
Parts E C _ = Unit {0}

parts : (E : Environment) {C : Context} {t A : Term} → PureType E C t A → Parts E C t
parts E (variable' k e) = tt
parts E (sort_type' l) = tt
parts E (constant' c ls w n) = tt
parts E (application' {x = x} {A = A} {B = B} f a) = (x, A, B, f, a)
parts E (lambda' {B = B} u a s r b) = (u, B, a, b, s, r)
parts E (pi_type' u v a s b) = (u, v, a, b)
parts E (let_type' u a v s b) = (u, a, v)
parts E (literal' n) = tt
parts E (projection' {S = S} s i ls ps h n m l d) = (apply (const S ls) ps, h)
parts E (conversion' t p) = parts E t

-- Contexts.

abbrev front : Context → Context
front [] = []
front (x ∷ []) = []
front (x ∷ y ∷ xs) = x ∷ front (y ∷ xs)

front-with : (C : Context) (A : Term) → front (with C A) ≡ C
front-with [] A = refl
front-with (x ∷ []) A = refl
front-with (x ∷ y ∷ xs) A = ap (λ zs. x ∷ zs) (front-with (y ∷ xs) A)

front_of : (E : Environment) {D : Context} → WellFormed E D → WellFormed E (front D)
front_of E nothing = nothing
front_of E (more {C = C} {A = A} u f h) = subst (WellFormed E) (sym (front-with C A)) f

shorter : (E : Environment) (C : Context) (A : Term) → WellFormed E (with C A) → WellFormed E C
shorter E C A f = subst (WellFormed E) (front-with C A) (front_of E f)

all_symmetric : (ls ms : List Universe) → AllSame ls ms → AllSame ms ls
all_symmetric [] [] h = tt
all_symmetric (l ∷ ls) (m ∷ ms) h = ((λ s. sym (h.0 s)), all_symmetric ls ms h.1)
all_symmetric [] (m ∷ ms) h = h
all_symmetric (l ∷ ls) [] h = h

abbrev Has : Environment → Context → Term → Type 0
Has E C t = (T : Term) × PureType E C t T

-- And these are no more than the pure ones.

no_lambda : (f : Term) (xs : List Term) → (IsLambda f → ⊥) → IsLambda (apply f xs) → ⊥
no_lambda f [] n = n
no_lambda f (x ∷ xs) n = no_lambda (app f x) xs (λ r. r)

step_pure : (E : Environment) → Metatheory E → {C : Context} {a b : Term} → Step E a b → Has E C a → WellFormed E C → PureEqual E C a b
step_pure E m (beta x A b a) h c =
    let p = parts E h.1 in
    let q = parts E p.3 in
    let f = lambda' {B = q.1} q.0 q.2 q.4 q.5 q.3 in
    beta' q.1 q.0 q.2 q.4 q.5 q.3 (conversion' p.4 (m.injective c (m.unique c p.3 f)))
step_pure E m (zeta x A v b) h c = let s = zeta x A v b in step' s (λ r. r) h.1 (m.step_keeps c s (λ r. r) h.1)
step_pure E m (delta k v ls w q e l) h c = let s = delta k v ls w q e l in step' s (λ r. r) h.1 (m.step_keeps c s (λ r. r) h.1)
step_pure E m (iota k d ind params minors indices index own fields rules rule ls ms before ys wc qc l n wd qd e j) h c =
    let s = iota k d ind params minors indices index own fields rules rule ls ms before ys wc qc l n wd qd e j in
    let no = no_lambda (const k.name ls) before (λ z. z) in
    step' s no h.1 (m.step_keeps c s no h.1)
step_pure E m literal_zero h c = step' literal_zero (λ r. r) h.1 (m.step_keeps c literal_zero (λ r. r) h.1)
step_pure E m (literal_succ n b) h c = step' (literal_succ n b) (λ r. r) h.1 (m.step_keeps c (literal_succ n b) (λ r. r) h.1)
step_pure E m (projection_step k i x ms ys l e) h c = let s = projection_step k i x ms ys l e in step' s (λ r. r) h.1 (m.step_keeps c s (λ r. r) h.1)
step_pure E m (operation op i j r q) h c = let s = operation op i j r q in step' s (λ r. r) h.1 (m.step_keeps c s (λ r. r) h.1)

abbrev Either : Environment → Context → Term → Term → Type 0
Either E C a b = (Has E C a → PureEqual E C a b) × (Has E C b → PureEqual E C a b)

mutual
  type_pure : (E : Environment) → Metatheory E → {C : Context} {t A : Term} → HasType E C t A → WellFormed E C → PureType E C t A
  type_pure E m (variable k e) c = variable' k e
  type_pure E m (sort_type l) c = sort_type' l
  type_pure E m (constant k ls w n) c = constant' k ls w n
  type_pure E m (application f a) c = application' (type_pure E m f c) (type_pure E m a c)
  type_pure E m (lambda u a s r b) c = let h = type_pure E m a c in lambda' u h s r (type_pure E m b (more u c h))
  type_pure E m (pi_type u v a s b) c = let h = type_pure E m a c in pi_type' u v h s (type_pure E m b (more u c h))
  type_pure E m (let_type u a v s b) c = let_type' u (type_pure E m a c) (type_pure E m v c) s (type_pure E m b c)
  type_pure E m (literal n) c = literal' n
  type_pure E m (projection s i ls ps h n k l d) c = projection' s i ls ps (type_pure E m h c) n k l d
  type_pure E m (conversion {A = A} t p) c =
      let h = type_pure E m t c in
      let k = m.type_is_type c h in
      conversion' h ((equal_pure E m p c).0 (sort k.0, k.1))

  equal_pure : (E : Environment) → Metatheory E → {C : Context} {a b : Term} → Equal E C a b → WellFormed E C → Either E C a b
  equal_pure E m (reflexive a) c = ((λ h. reflexive' h.1), (λ h. reflexive' h.1))
  equal_pure E m (symmetric p) c = let h = equal_pure E m p c in ((λ k. symmetric' (h.1 k)), (λ k. symmetric' (h.0 k)))
  equal_pure E m (transitive p q) c =
      let h = equal_pure E m p c in
      let k = equal_pure E m q c in (
        (λ t. let x = h.0 t in transitive' x (k.0 (t.0, m.equal_keeps c x t.1))),
        (λ t. let x = k.1 t in transitive' (h.1 (t.0, m.equal_keeps c (symmetric' x) t.1)) x),
      )
  equal_pure E m (applications p q) c =
      let h = equal_pure E m p c in
      let k = equal_pure E m q c in (
        (λ t.
            let w = parts E t.1 in
            let x = h.0 (pi w.0 w.1 w.2, w.3) in
            let y = k.0 (w.1, w.4) in
            applications' w.3 (m.equal_keeps c x w.3) w.4 (m.equal_keeps c y w.4) x y),
        (λ t.
            let w = parts E t.1 in
            let x = h.1 (pi w.0 w.1 w.2, w.3) in
            let y = k.1 (w.1, w.4) in
            applications' (m.equal_keeps c (symmetric' x) w.3) w.3 (m.equal_keeps c (symmetric' y) w.4) w.4 x y),
      )
  equal_pure E m (lambdas {C = C} f p s r q) c =
      let h = equal_pure E m p c in (
        (λ t.
            let w = parts E t.1 in
            let x = h.0 (sort w.0, w.2) in
            lambdas' w.0 w.2 x s r ((equal_pure E m q (more w.0 c w.2)).0 (opened C w.1, w.3))),
        (λ t.
            let w = parts E t.1 in
            let x = h.1 (sort w.0, w.2) in
            let a = m.equal_keeps c (symmetric' x) w.2 in
            lambdas' w.0 a x s r ((equal_pure E m q (more w.0 c a)).1 (opened C w.1, m.other_domain c (symmetric' x) w.3))),
      )
  equal_pure E m (pis {C = C} f p s r q) c =
      let h = equal_pure E m p c in (
        (λ t.
            let w = parts E t.1 in
            let x = h.0 (sort w.0, w.2) in
            pis' w.0 w.2 x s r ((equal_pure E m q (more w.0 c w.2)).0 (sort w.1, w.3))),
        (λ t.
            let w = parts E t.1 in
            let x = h.1 (sort w.0, w.2) in
            let a = m.equal_keeps c (symmetric' x) w.2 in
            pis' w.0 a x s r ((equal_pure E m q (more w.0 c a)).1 (sort w.1, m.other_domain c (symmetric' x) w.3))),
      )
  equal_pure E m (lets {A = A} f g p v s r q) c =
      let h = equal_pure E m p c in
      let k = equal_pure E m v c in (
        (λ t.
            let w = parts E t.1 in
            let x = h.0 (sort w.0, w.1) in
            let d = more w.0 c w.1 in
            let b = formed_pure E m g d in
            lets' w.0 w.1 w.2 b.1 x (k.0 (A, w.2)) s r ((equal_pure E m q d).0 b)),
        (λ t.
            let w = parts E t.1 in
            let x = h.1 (sort w.0, w.1) in
            let a = m.equal_keeps c (symmetric' x) w.1 in
            let y = k.1 (_, w.2) in
            let d = more w.0 c a in
            let b = formed_pure E m g d in
            lets' w.0 a (conversion' (m.equal_keeps c (symmetric' y) w.2) (symmetric' x)) b.1 x y s r ((equal_pure E m q d).0 b)),
      )
  equal_pure E m (sorts p) c = ((λ t. sorts' p), (λ t. sorts' p))
  equal_pure E m (constants k {ls = ls} {ms = ms} p) c = ((λ t. constants' k t.1 p), (λ t. symmetric' (constants' k t.1 (all_symmetric ls ms p))))
  equal_pure E m (step p s f) c =
      let h = formed_pure E m f c in
      let x = step_pure E m p h c in
      ((λ t. x), (λ t. x))
  equal_pure E m (projected S i p) c =
      let h = equal_pure E m p c in
      ((λ t. projected' S i t.1 (h.0 (parts E t.1))), (λ t. symmetric' (projected' S i t.1 (symmetric' (h.1 (parts E t.1))))))
  equal_pure E m (eta_structure s ls ps h n k) c = let x = eta_structure' s ls ps (type_pure E m h c) n k in ((λ t. x), (λ t. x))
  equal_pure E m (eta t) c = let x = eta' (type_pure E m t c) in ((λ k. x), (λ k. x))
  equal_pure E m (proof_irrelevance t s p) c = let x = proof_irrelevance' (type_pure E m t c) (type_pure E m s c) (type_pure E m p c) in ((λ k. x), (λ k. x))
  equal_pure E m (declared_irrelevance t s p) c = let x = declared_irrelevance' (type_pure E m t c) (type_pure E m s c) p in ((λ k. x), (λ k. x))

  formed_pure : (E : Environment) → Metatheory E → {C : Context} {t : Term} → Formed E C t → WellFormed E C → Has E C t
  formed_pure E m (has_type {A = A} h) c = (A, type_pure E m h c)
  formed_pure E m (is_type h) c = let k = m.type_is_type c (type_pure E m h c) in (sort k.0, k.1)
  formed_pure E m (equal_to f p) c =
      let h = formed_pure E m f c in
      (h.0, m.equal_keeps c ((equal_pure E m p c).0 h) h.1)
  formed_pure E m (function f) c = let q = parts E (formed_pure E m f c).1 in (pi q.0 q.1 q.2, q.3)
  formed_pure E m (argument f) c = let q = parts E (formed_pure E m f c).1 in (q.1, q.4)
  formed_pure E m (lambda_domain f) c = let q = parts E (formed_pure E m f c).1 in (sort q.0, q.2)
  formed_pure E m (lambda_body {C = C} {A = A} f) c = let q = parts E (formed_pure E m f (shorter E C A c)).1 in (opened C q.1, q.3)
  formed_pure E m (pi_domain f) c = let q = parts E (formed_pure E m f c).1 in (sort q.0, q.2)
  formed_pure E m (pi_codomain {C = C} {A = A} f) c = let q = parts E (formed_pure E m f (shorter E C A c)).1 in (sort q.1, q.3)
  formed_pure E m (projected_part f) c = parts E (formed_pure E m f c).1

pub typing_is_pure : TypingIsPure
typing_is_pure E = record { at_least = λ C t A h. of_type E h; no_more = λ t A m h. type_pure E m h nothing }
