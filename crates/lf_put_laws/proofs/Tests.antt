-- What the tests of an assignment say.
use Rattle.std.proofs.Common.{◌≡◌, ℕ, ◌+◌, ◌≤◌, Bool, true, false, ◌||◌, if◌then◌else◌, Option, Some, None, is_some, refl, arith, zero-le, true≢false}
use Rattle.std.proofs.lemmas.Bool.{or_parts, eqb-false}
use Rattle.lf_core.specs.Term.{Term, bound, free, meta, sort, const, app, lam, pi, letin, lit, proj}
use Rattle.lf_core.specs.Summary.{free_bound}
use Rattle.lf_elaboration.specs.Metavariables.{Changes, value, put_in, occurs, or_first, outside, circular, has_value, unless_outside, scope_of, refused}
use Rattle.lf_put_laws.specs.Scope.{Shows}
use Rattle.lf_put_laws.proofs.Instances.{by_lt}

both_none : (o p : Option ℕ) → or_first o p ≡ None → (o ≡ None) × (p ≡ None)
both_none None p h = (refl, h)
both_none (Some k) p h = absurd (cc)

pub inside : (n : ℕ) (t : Term) → outside n t ≡ None → free_bound t ≤ n
inside n (bound i) h = zero-le
inside n (free k) h = by_lt (λ r. r ≡ None → k + 1 ≤ n) k n None (Some k) (λ e w. omega arith) (λ e w. absurd (cc)) h
inside n (meta k) h = zero-le
inside n (sort l) h = zero-le
inside n (const c ls) h = zero-le
inside n (app f a) h = let p = both_none (outside n f) (outside n a) h in omega (arith, inside n f p.0, inside n a p.1)
inside n (lam x A b) h = let p = both_none (outside n A) (outside n b) h in omega (arith, inside n A p.0, inside n b p.1)
inside n (pi x A b) h = let p = both_none (outside n A) (outside n b) h in omega (arith, inside n A p.0, inside n b p.1)
inside n (letin x A v b) h =
    let p = both_none (outside n A) (or_first (outside n v) (outside n b)) h in
    let q = both_none (outside n v) (outside n b) p.1 in
    omega (arith, inside n A p.0, inside n v q.0, inside n b q.1)
inside n (lit i) h = zero-le
inside n (proj s i t) h = inside n t h

pub shows_other : (m : ℕ) (t : Term) → occurs m t ≡ false → Shows (λ j. j ≡ m → ⊥) t
shows_other m (bound i) h = tt
shows_other m (free k) h = tt
shows_other m (meta k) h = eqb-false k m h
shows_other m (sort l) h = tt
shows_other m (const c ls) h = tt
shows_other m (app f a) h = let p = or_parts (occurs m f) (occurs m a) h in (shows_other m f p.0, shows_other m a p.1)
shows_other m (lam x A b) h = let p = or_parts (occurs m A) (occurs m b) h in (shows_other m A p.0, shows_other m b p.1)
shows_other m (pi x A b) h = let p = or_parts (occurs m A) (occurs m b) h in (shows_other m A p.0, shows_other m b p.1)
shows_other m (letin x A v b) h =
    let p = or_parts (occurs m A) (occurs m v || occurs m b) h in
    let q = or_parts (occurs m v) (occurs m b) p.1 in
    (shows_other m A p.0, shows_other m v q.0, shows_other m b q.1)
shows_other m (lit n) h = tt
shows_other m (proj s i t) h = shows_other m t h

-- A value is taken where there is none, and where it has, put in, neither the metavariable nor a variable that is none of its locals.
pub record Taken (cs : Changes) (m : ℕ) (t : Term) : Type 0 where
  pub fresh : value cs m ≡ None
  pub shows : Shows (λ j. j ≡ m → ⊥) (put_in cs t)
  pub scope : free_bound (put_in cs t) ≤ scope_of cs m

none_there : (o : Option Term) → is_some o ≡ false → o ≡ None
none_there None h = refl
none_there (Some t) h = absurd (true≢false h)

unless_none : (o : Option ℕ) → unless_outside o ≡ None → o ≡ None
unless_none None h = refl
unless_none (Some k) h = absurd (cc)

pub taken : (cs : Changes) (m : ℕ) (t : Term) → refused cs m t ≡ None → Taken cs m t
taken cs m t h = by_value (is_some (value cs m)) (occurs m (put_in cs t)) refl refl h
  where
    by_value : (b c : Bool) → is_some (value cs m) ≡ b → occurs m (put_in cs t) ≡ c
        → (if b then Some has_value else if c then Some circular else unless_outside (outside (scope_of cs m) (put_in cs t))) ≡ None → Taken cs m t
    by_value true c e f w = absurd (cc)
    by_value false true e f w = absurd (cc)
    by_value false false e f w = record {
      fresh = none_there (value cs m) e;
      shows = shows_other m (put_in cs t) f;
      scope = inside (scope_of cs m) (put_in cs t) (unless_none (outside (scope_of cs m) (put_in cs t)) w);
    }
