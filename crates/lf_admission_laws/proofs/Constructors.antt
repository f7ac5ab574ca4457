-- A constructor's type is a type, from the rules along its pis; and a type of pis has domains in sorts.
use Rattle.std.proofs.Common.{ℕ, zero, suc, List, [], ◌∷◌, length, subst}
use Rattle.lf_core.specs.Term.{Universe, level_imax, Term, sort, pi}
use Rattle.lf_core.specs.Scope.{Scoped}
use Rattle.lf_rules.specs.Environment.{Environment, Context, with, opened}
use Rattle.lf_rules.specs.Judgment.{HasType, pi_type, conversion}
use Rattle.lf_rules.specs.Telescope.{Telescope, types, open_pis}
use Rattle.lf_rules.specs.Recursor.{Family}
use Rattle.lf_rules.specs.Inductive.{Fields, end, field, Constructs, fields, parameter}
use Rattle.lf_name.specs.declared.binder.Binder.{Binder}
use Rattle.lf_judgment_laws.specs.Growth.{Grows}
use Rattle.lf_judgment_laws.proofs.Grows.{relations_grow}
use Rattle.lf_judgment_laws.proofs.Variables.{length-with, scoped_opened}
use Rattle.lf_inductive_laws.specs.Telescopes.{InSorts}

abbrev pub IsType : Environment → Context → Term → Type 0
IsType E C t = (l : Universe) × HasType E C t (sort l)

pub fields_typed : {E : Environment} {f : Family} {r : Universe} {C : Context} {t : Term} {ls : List Universe} {is : List Term} → Fields E f r C t ls is
    → Scoped 0 (length C) t → IsType E C t
fields_typed (end l a h) s = (l, h)
fields_typed {C = C} (field {A = A} {B = B} l h p q g) s =
    let r = fields_typed g (scoped_opened C A B s.1) in
    (level_imax l r.0, pi_type l r.0 h s.1 r.1)

pub constructs_typed : {E : Environment} {f : Family} {r : Universe} {xs : Telescope} {C : Context} {t : Term} {ls : List Universe} {is : List Term}
    → Constructs E f r xs C t ls is → InSorts E C (types xs) → Scoped 0 (length C) t → IsType E C t
constructs_typed (fields g) h s = fields_typed g s
constructs_typed {E = E} {C = C} (parameter {xs = xs} {A = A} {B = B} e g) h s =
    let d : IsType E C A = subst (IsType E C) e h.0 in
    let r = constructs_typed g (subst (λ D. InSorts E (with C D) (types xs)) e h.1) (scoped_opened C A B s.1) in
    (level_imax d.0 r.0, pi_type d.0 r.0 d.1 s.1 r.1)

-- ---- The parts of a type of pis.

record PiParts (E : Environment) (C : Context) (A B : Term) : Type 0 where
  domain : IsType E C A
  codomain : IsType E (with C A) (opened C B)

pi_parts : {E : Environment} {C : Context} {x : Binder} {A B T : Term} → HasType E C (pi x A B) T → PiParts E C A B
pi_parts (pi_type u v a s h) = record { domain = (u, a); codomain = (v, h) }
pi_parts (conversion t p) = pi_parts t

pub domains_typed : (E : Environment) (C : Context) (n : ℕ) (t : Term) → IsType E C t → InSorts E C (types (open_pis (length C) n t).locals)
domains_typed E C (suc n) (pi x A B) h =
    let p : PiParts E C A B = pi_parts h.1 in
    let D : Context = with C A in
    (p.domain, subst (λ m. InSorts E D (types (open_pis m n (opened C B)).locals)) (length-with C A) (domains_typed E D n (opened C B) p.codomain))
domains_typed E C zero t h = tt
domains_typed E C (suc n) t h = tt

pub sorts_grow : (E F : Environment) → Grows E F → (C : Context) (As : List Term) → InSorts E C As → InSorts F C As
sorts_grow E F g C [] h = tt
sorts_grow E F g C (A ∷ As) h = ((h.0.0, (relations_grow E F g).typed C A (sort h.0.0) h.0.1), sorts_grow E F g (with C A) As h.1)
