-- The type that is inferred is one by the typing rules.
use Rattle.std.proofs.Common.{
  ◌≡◌,
  ℕ,
  zero,
  suc,
  ◌==◌,
  Bool,
  true,
  false,
  ◌&&◌,
  ◌-◌,
  ◌≤◌,
  nat_lt,
  All,
  cond,
  Option,
  Some,
  None,
  Ok,
  Err,
  List,
  [],
  ◌∷◌,
  length,
  slice_get,
  refl,
  sym,
  subst,
  ap,
  arith,
}
use Rattle.std.specs.Prelude.{Contains, if◌then◌else◌, unwrap_or}
use Rattle.std.proofs.lemmas.Bool.{eqb-true}
use Rattle.lf_name.proofs.Names.{path_is}
use Rattle.std.specs.Str.{bytes_eq}
use Rattle.lf_core.specs.Term.{Path, Universe, Term, bound, free, meta, sort, const, app, lam, pi, letin, lit, proj}
use Rattle.lf_core.specs.Same.{same_path}
use Rattle.lf_core.specs.Size.{depth}
use Rattle.lf_core.specs.Scope.{Scoped}
use Rattle.lf_core.specs.Substitution.{level_instantiate}
use Rattle.lf_rules.specs.Environment.{Environment, Context, with, opened}
use Rattle.lf_rules.specs.Judgment.{HasType, variable, sort_type, constant, pi_type}
use Rattle.lf_name.specs.declared.binder.Binder.{Binder}
use Rattle.lf_core.specs.declared.constant.ConstInfo.{ConstInfo}
use Rattle.lf_judgment_laws.proofs.Variables.{scoped_opened}
use Rattle.lf_front.specs.Infer as infer
use Rattle.lf_front.specs.Infer.{Inferred, find_constant, form_type, type_at, made, sort_level, inside}
use Rattle.lf_front.specs.Answers.{IsShallow}
use Rattle.lf_front.specs.declared.fault.Halt.TheVariants.{Out}

-- What is said of the type, where there is one.
abbrev pub IfTyped : (Term → Type 0) → Inferred → Type 0
IfTyped P (Ok A) = P A
IfTyped P (Err h) = Unit {0}

and_left : (a b : Bool) → a && b ≡ true → a ≡ true
and_left true b e = refl
and_left false b e = e

and_right : (a b : Bool) → a && b ≡ true → b ≡ true
and_right true b e = e
and_right false b e = cc

further : (c d : ConstInfo) (E : Environment) → Contains E c → Contains (d ∷ E) c
further c d E h = (suc h.0, omega (arith, h.1), h.2)

found_step : (d : ConstInfo) (E : Environment) (n : Path) (c : ConstInfo) (b : Bool) → same_path n d.name ≡ b
    → (find_constant E n ≡ Some c → Contains E c × (c.name ≡ n))
    → (if b then Some d else find_constant E n) ≡ Some c → Contains (d ∷ E) c × (c.name ≡ n)
found_step d E n c true e ih is =
    let same : d ≡ c = ap (λ (o : Option ConstInfo). unwrap_or o d) is in
    subst (λ (x : ConstInfo). Contains (d ∷ E) x × (x.name ≡ n)) same ((0, omega arith, refl), sym (path_is n d.name e))
found_step d E n c false e ih is = let rest = ih is in (further c d E rest.0, rest.1)

-- The constant that is found is there, under this name.
pub found : (E : Environment) (n : Path) (c : ConstInfo) → find_constant E n ≡ Some c → Contains E c × (c.name ≡ n)
found [] n c e = cc
found (d ∷ E) n c e = found_step d E n c (same_path n d.name) refl (found E n c) e

variable_sound : (E : Environment) (C : Context) (k : ℕ) (o : Option Term) → slice_get C k ≡ o → IfTyped (HasType E C (free k)) (infer.variable_type o)
variable_sound E C k (Some A) e = variable k e
variable_sound E C k None e = tt

made_sound : (P : Term → Type 0) (t : Term) (b : Bool) → nat_lt 1024 (depth t) ≡ b → P t → IfTyped P (made t)
made_sound P t true e p = rw e tt
made_sound P t false e p = rw e p

constant_at : (E : Environment) (C : Context) (n : Path) (ls : List Universe) (c : ConstInfo) (b : Bool) → (length ls == length c.levels) ≡ b → Contains E c
    → c.name ≡ n
    → IfTyped (HasType E C (const n ls)) (infer.constant_type n ls (Some c))
constant_at E C n ls c true e within named =
    rw e (made_sound (HasType E C (const n ls)) (level_instantiate ls c.ty) _ refl
    (subst (λ (m : Path). HasType E C (const m ls) (level_instantiate ls c.ty)) named (constant c ls within (eqb-true (length ls) (length c.levels) e))))
constant_at E C n ls c false e within named = rw e tt

constant_sound : (E : Environment) (C : Context) (n : Path) (ls : List Universe) (o : Option ConstInfo) → find_constant E n ≡ o
    → IfTyped (HasType E C (const n ls)) (infer.constant_type n ls o)
constant_sound E C n ls None e = tt
constant_sound E C n ls (Some c) e = let is = found E n c e in constant_at E C n ls c _ refl is.0 is.1

codomain_sound : (E : Environment) (C : Context) (x : Binder) (A B : Term) (u : Universe) → HasType E C A (sort u) → Scoped 1 (length C) B
    → (r : Inferred) → IfTyped (HasType E (with C A) (opened C B)) r → IfTyped (HasType E C (pi x A B)) (infer.imax_sort u (sort_level r))
codomain_sound E C x A B u domain scope (Err h) typed = tt
codomain_sound E C x A B u domain scope (Ok (sort v)) typed = pi_type u v domain scope typed
codomain_sound E C x A B u domain scope (Ok _) typed = tt

inside_sound : (E : Environment) (C : Context) (A B : Term) (inner : Context → Term → Inferred) (b : Bool) → nat_lt 1024 (depth (opened C B)) ≡ b
    → IfTyped (HasType E (with C A) (opened C B)) (inner (with C A) (opened C B))
    → IfTyped (HasType E (with C A) (opened C B)) (inside inner C A (made (opened C B)))
inside_sound E C A B inner true e typed = rw e tt
inside_sound E C A B inner false e typed = rw e typed

pi_sound : (E : Environment) (C : Context) (x : Binder) (A B : Term) (inner : Context → Term → Inferred) → Scoped 1 (length C) B
    → IfTyped (HasType E (with C A) (opened C B)) (inner (with C A) (opened C B)) → (r : Inferred) → IfTyped (HasType E C A) r
    → IfTyped (HasType E C (pi x A B)) (infer.pi_type inner C A B (sort_level r))
pi_sound E C x A B inner scope codomain (Err h) domain = tt
pi_sound E C x A B inner scope codomain (Ok (sort u)) domain =
    codomain_sound E C x A B u domain scope (inside inner C A (made (opened C B))) (inside_sound E C A B inner _ refl codomain)
pi_sound E C x A B inner scope codomain (Ok _) domain = tt

pub type_sound : (n : ℕ) (E : Environment) (C : Context) (t : Term) → Scoped 0 (length C) t → IfTyped (HasType E C t) (type_at n E C t)
unfolding type_at
type_sound zero E C t scope = tt
type_sound (suc n) E C (free k) scope = variable_sound E C k (slice_get C k) refl
type_sound (suc n) E C (sort l) scope = sort_type l
type_sound (suc n) E C (const c ls) scope = constant_sound E C c ls (find_constant E c) refl
type_sound (suc n) E C (pi x A B) scope =
    pi_sound E C x A B (type_at n E) scope.1 (type_sound n E (with C A) (opened C B) (scoped_opened C A B scope.1)) (type_at n E C A)
    (type_sound n E C A scope.0)
type_sound (suc n) E C (bound i) scope = tt
type_sound (suc n) E C (meta k) scope = tt
type_sound (suc n) E C (app f a) scope = tt
type_sound (suc n) E C (lam x A b) scope = tt
type_sound (suc n) E C (letin x A v b) scope = tt
type_sound (suc n) E C (lit m) scope = tt
type_sound (suc n) E C (proj s i t) scope = tt

-- One call.
pub type_step : (n : ℕ) (E : Environment) (C : Context) (t : Term) → (n ≡ 0 → ⊥) → type_at n E C t ≡ form_type (type_at (n - 1) E) E C t
unfolding type_at
type_step zero E C t some = absurd (some refl)
type_step (suc n) E C t some = let less : suc n - 1 ≡ n = omega arith in rw less refl

pub no_call : (E : Environment) (C : Context) (t : Term) → type_at 0 E C t ≡ Err Out
unfolding type_at
no_call E C t = refl

-- The constant that is found is no deeper than a term may be.
pub found_shallow : (E : Environment) (n : Path) (c : ConstInfo) → All IsShallow E → find_constant E n ≡ Some c → depth c.ty ≤ 1024
found_shallow E n c all e = let is = found E n c e in subst IsShallow is.0.2 (all is.0.0 c is.0.1)

-- The same of the type that code has.
pub typed_by : (E : Environment) (C D : Context) (t A : Term) → D ≡ C → type_at 512 E D t ≡ Ok A → Scoped 0 (length C) t → HasType E C t A
typed_by E C D t A same e scope =
    let is = subst (λ (X : Context). type_at 512 E X t ≡ Ok A) same e in subst (IfTyped (HasType E C t)) is (type_sound 512 E C t scope)
