-- Telescopes: what is opened is closed again, what is closed is opened again, and pis over types are a type.
use Rattle.std.proofs.Common.{
  ◌≡◌,
  ℕ,
  zero,
  suc,
  ◌+◌,
  ◌-◌,
  ◌≤◌,
  nat_eq,
  if◌then◌else◌,
  [],
  ◌∷◌,
  ◌++◌,
  append_assoc,
  append-nil,
  length,
  refl,
  sym,
  ap,
  ap₂,
  subst,
  ◌∙◌,
  arith,
  zero-le,
}
use Rattle.lf_core.specs.Term.{Universe, level_imax, Term, bound, free, meta, sort, const, app, lam, pi, letin, lit, proj}
use Rattle.lf_core.specs.Substitution.{raise, instantiate_at, instantiate, abstract_at, abstract}
use Rattle.lf_core.specs.Scope.{Scoped}
use Rattle.lf_rules.specs.Environment.{Environment, Context, with}
use Rattle.lf_rules.specs.Judgment.{HasType, pi_type}
use Rattle.lf_rules.specs.Telescope.{Telescope, types, pis_over, Opened, behind, open_pis, pi_count}
use Rattle.lf_judgment_laws.specs.InScope.{AllScoped, ContextScoped}
use Rattle.lf_judgment_laws.proofs.Variables.{
  by_eq,
  by_lt,
  scoped_up,
  scoped_instantiate,
  scoped_abstract_at,
  instantiate_at-abstract_at,
  length-with,
  scoped_closed,
  opened-abstract,
}
use Rattle.lf_judgment_laws.proofs.Scopes.{typed_scoped}
use Rattle.lf_inductive_laws.specs.Telescopes.{Placed, InSorts, reclosed, TelescopeLaws}

-- A binder opened with a new variable, closed again.
pub abstract_at-instantiate_at : (d k : ℕ) (t : Term) → Scoped (suc d) k t → abstract_at d (instantiate_at d t (free k)) k ≡ t
abstract_at-instantiate_at d k (bound i) h =
    by_lt (λ r. abstract_at d r k ≡ bound i) i d (bound i) (if nat_eq i d then raise 0 d (free k) else bound (i - 1))
    (λ e. by_lt (λ r. r ≡ bound i) i d (bound i) (bound (suc i)) (λ q. refl) (λ q. absurd (omega arith)))
    (λ e.
    by_eq (λ r. abstract_at d r k ≡ bound i) i d (free k) (bound (i - 1))
    (λ q. by_eq (λ r. r ≡ bound i) k k (bound d) (free k) (λ w. ap bound (sym q)) (λ n. absurd (n refl)))
    (λ n. absurd (n (omega arith))))
abstract_at-instantiate_at d k (free i) h = by_eq (λ r. r ≡ free i) i k (bound d) (free i) (λ e. absurd (omega arith)) (λ n. refl)
abstract_at-instantiate_at d k (meta i) h = refl
abstract_at-instantiate_at d k (sort u) h = refl
abstract_at-instantiate_at d k (const c ms) h = refl
abstract_at-instantiate_at d k (app f a) h = ap₂ app (abstract_at-instantiate_at d k f h.0) (abstract_at-instantiate_at d k a h.1)
abstract_at-instantiate_at d k (lam x A b) h = ap₂ (lam x) (abstract_at-instantiate_at d k A h.0) (abstract_at-instantiate_at (suc d) k b h.1)
abstract_at-instantiate_at d k (pi x A b) h = ap₂ (pi x) (abstract_at-instantiate_at d k A h.0) (abstract_at-instantiate_at (suc d) k b h.1)
abstract_at-instantiate_at d k (letin x A v b) h = cc
    (abstract_at-instantiate_at d k A h.0, abstract_at-instantiate_at d k v h.1, abstract_at-instantiate_at (suc d) k b h.2)
abstract_at-instantiate_at d k (lit n) h = refl
abstract_at-instantiate_at d k (proj s i t) h = ap (proj s i) (abstract_at-instantiate_at d k t h)

-- The body of a pi over k variables, opened with the next.
opened_body : (k : ℕ) (B : Term) → Scoped 1 k B → Scoped 0 (suc k) (instantiate B (free k))
opened_body k B h = scoped_instantiate (suc k) B (free k) (scoped_up B (omega arith) (omega arith) h) (omega arith)

pub closed_opened : (k n : ℕ) (t : Term) → Scoped 0 k t → reclosed k (open_pis k n t) ≡ t
closed_opened k (suc n) (pi x A B) s =
    ap (pi x A) (ap (λ r. abstract r k) (closed_opened (suc k) n (instantiate B (free k)) (opened_body k B s.1)) ∙ abstract_at-instantiate_at 0 k B s.1)
closed_opened k zero t s = refl
closed_opened k (suc n) t s = refl

-- ---- Scope.

pub scoped_pis_over : (k : ℕ) (xs : Telescope) (t : Term) → Placed k xs → Scoped 0 (k + length xs) t → Scoped 0 k (pis_over k xs t)
scoped_pis_over k [] t h s = let e : k + 0 ≡ k = omega arith in subst (λ n. Scoped 0 n t) e s
scoped_pis_over k (x ∷ xs) t h s =
    let e : k + length (x ∷ xs) ≡ suc k + length xs = omega arith in
    (h.0, scoped_abstract_at 0 k (pis_over (suc k) xs t) (scoped_pis_over (suc k) xs t h.1 (subst (λ n. Scoped 0 n t) e s)))

pub opened_closed : (k : ℕ) (xs : Telescope) (t : Term) → Placed k xs → Scoped 0 (k + length xs) t
    → open_pis k (length xs) (pis_over k xs t) ≡ record { locals = xs; rest = t }
opened_closed k [] t h s = refl
opened_closed k (x ∷ xs) t h s =
    let e : k + length (x ∷ xs) ≡ suc k + length xs = omega arith in
    let s' : Scoped 0 (suc k + length xs) t = subst (λ n. Scoped 0 n t) e s in
    let p : Term = pis_over (suc k) xs t in
    let back : instantiate (abstract p k) (free k) ≡ p = instantiate_at-abstract_at 0 k (suc k) p (scoped_pis_over (suc k) xs t h.1 s') in
    ap (λ r. behind x.binder x.ty (open_pis (suc k) (length xs) r)) back ∙ ap (behind x.binder x.ty) (opened_closed (suc k) xs t h.1 s')

-- The locals lie in the scope of what stands before them, and the rest in theirs.
pub record Spread (k : ℕ) (o : Opened) : Type 0 where
  pub locals : Placed k o.locals
  pub rest : Scoped 0 (k + length o.locals) o.rest

spread_none : (k : ℕ) (t : Term) → Scoped 0 k t → Spread k (record { locals = []; rest = t })
spread_none k t s = let e : k ≡ k + 0 = omega arith in record { locals = tt; rest = subst (λ n. Scoped 0 n t) e s }

pub open_scoped : (k n : ℕ) (t : Term) → Scoped 0 k t → Spread k (open_pis k n t)
open_scoped k (suc n) (pi x A B) s =
    let o : Opened = open_pis (suc k) n (instantiate B (free k)) in
    let r : Spread (suc k) o = open_scoped (suc k) n (instantiate B (free k)) (opened_body k B s.1) in
    let e : suc k + length o.locals ≡ k + length (behind x A o).locals = omega arith in
    record { locals = (s.0, r.locals); rest = subst (λ m. Scoped 0 m o.rest) e r.rest }
open_scoped k zero t s = spread_none k t s
open_scoped k (suc n) t s = spread_none k t s

-- Opening leaves the number of pis, so as many are opened as there are, up to n.
pub pi_count-instantiate_at : (d k : ℕ) (t : Term) → pi_count (instantiate_at d t (free k)) ≡ pi_count t
pi_count-instantiate_at d k (bound i) =
    by_lt (λ r. pi_count r ≡ 0) i d (bound i) (if nat_eq i d then raise 0 d (free k) else bound (i - 1)) (λ e. refl) λ e.
    by_eq (λ r. pi_count r ≡ 0) i d (free k) (bound (i - 1)) (λ q. refl) (λ q. refl)
pi_count-instantiate_at d k (pi x A B) = ap suc (pi_count-instantiate_at (suc d) k B)
pi_count-instantiate_at d k _ = refl

pub length-opened : (k n : ℕ) (t : Term) → n ≤ pi_count t → length (open_pis k n t).locals ≡ n
length-opened k zero t h = refl
length-opened k (suc n) (pi x A B) h =
    let e : length (open_pis (suc k) n (instantiate B (free k))).locals ≡ n = length-opened (suc k) n (instantiate B (free k))
    (omega (arith, pi_count-instantiate_at 0 k B)) in
    omega arith
length-opened k (suc n) t h = absurd (omega arith)

pub length-types : (xs : Telescope) → length (types xs) ≡ length xs
length-types [] = refl
length-types (x ∷ xs) = let e : length (types xs) ≡ length xs = length-types xs in omega arith

placed_types : (k l : ℕ) (xs : Telescope) → k + length xs ≤ l → Placed k xs → AllScoped l (types xs)
placed_types k l [] p h = tt
placed_types k l (x ∷ xs) p h = (scoped_up x.ty zero-le (omega arith) h.0, placed_types (suc k) l xs (omega arith) h.1)

pub placed_context : (xs : Telescope) → Placed 0 xs → ContextScoped (types xs)
placed_context xs h = placed_types 0 (length (types xs)) xs (omega (arith, length-types xs)) h

-- ---- Typing.

pub pis_typed : (E : Environment) (C : Context) (xs : Telescope) (t : Term) (l : Universe) → InSorts E C (types xs) → HasType E (C ++ types xs) t (sort l)
    → (m : Universe) × HasType E C (pis_over (length C) xs t) (sort m)
pis_typed E C [] t l h s = (l, subst (λ D. HasType E D t (sort l)) (append-nil C) s)
pis_typed E C (x ∷ xs) t l h s =
    let D : Context = with C x.ty in
    let p : Term = pis_over (suc (length C)) xs t in
    let r : (m : Universe) × HasType E D (pis_over (length D) xs t) (sort m) = pis_typed E D xs t l h.1
    (subst (λ G. HasType E G t (sort l)) (sym (append_assoc C (x.ty ∷ []) (types xs))) s) in
    let g : HasType E D p (sort r.0) = subst (λ n. HasType E D (pis_over n xs t) (sort r.0)) (length-with C x.ty) r.1 in
    let sc : Scoped 0 (length D) p = typed_scoped E g in (
      level_imax h.0.0 r.0,
      pi_type h.0.0 r.0 h.0.1 (scoped_closed C x.ty p sc)
          (subst (λ q. HasType E D q (sort r.0)) (sym (opened-abstract C (length D) p sc)) g),
    )

pub telescope_laws : TelescopeLaws
telescope_laws = record {
  closed_opened = closed_opened;
  opened_closed = opened_closed;
  opened_placed = λ k n t s. (open_scoped k n t s).locals;
  context = placed_context;
  typed = pis_typed;
}
