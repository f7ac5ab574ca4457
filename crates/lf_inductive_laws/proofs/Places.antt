-- Where a term lies: its variables, its constants and the parameters of its levels at once, and what substitution does to that.
use Rattle.std.proofs.Common.{ℕ, zero, suc, ◌-◌, ◌≤◌, ◌<◌, nat_eq, if◌then◌else◌, List, [], ◌∷◌, length, arith, unwrap_or, slice_get, map}
use Rattle.lf_core.specs.Term.{
  Universe,
  level_zero,
  level_succ,
  level_max,
  level_imax,
  level_param,
  level_meta,
  Term,
  bound,
  free,
  meta,
  sort,
  const,
  app,
  lam,
  pi,
  letin,
  lit,
  proj,
}
use Rattle.lf_core.specs.Substitution.{raise, instantiate_at, abstract_at, level_substitute, level_instantiate}
use Rattle.lf_core.specs.Scope.{Scoped}
use Rattle.lf_rules.specs.Environment.{Environment, Declared, nat, NamesDeclared, ParametersBelow, AllParametersBelow, LevelsBelow}
use Rattle.lf_judgment_laws.proofs.Variables.{by_eq, by_lt}
use Rattle.lf_inductive_laws.specs.Recursors.{Right}

pub record Place : Type 0 where
  pub environment : Environment
  pub levels : ℕ

-- Scoped, with names declared and levels below.
abbrev pub Lies : Place → ℕ → ℕ → Term → Type 0
Lies p d k (bound i) = i < d
Lies p d k (free j) = j < k
Lies p d k (meta j) = ⊥
Lies p d k (sort l) = ParametersBelow p.levels l
Lies p d k (const c ls) = Declared p.environment c × AllParametersBelow p.levels ls
Lies p d k (app f a) = Lies p d k f × Lies p d k a
Lies p d k (lam x A b) = Lies p d k A × Lies p (suc d) k b
Lies p d k (pi x A B) = Lies p d k A × Lies p (suc d) k B
Lies p d k (letin x A v b) = Lies p d k A × Lies p d k v × Lies p (suc d) k b
Lies p d k (lit n) = Declared p.environment nat
Lies p d k (proj s i t) = Declared p.environment s × Lies p d k t

-- ---- The three facts and the one.

pub lies_from : (p : Place) (d k : ℕ) (t : Term) → Scoped d k t → NamesDeclared p.environment t → LevelsBelow p.levels t → Lies p d k t
lies_from p d k (bound i) s n l = s
lies_from p d k (free i) s n l = s
lies_from p d k (meta i) s n l = s
lies_from p d k (sort u) s n l = l
lies_from p d k (const c ms) s n l = (n, l)
lies_from p d k (app f a) s n l = (lies_from p d k f s.0 n.0 l.0, lies_from p d k a s.1 n.1 l.1)
lies_from p d k (lam x A b) s n l = (lies_from p d k A s.0 n.0 l.0, lies_from p (suc d) k b s.1 n.1 l.1)
lies_from p d k (pi x A b) s n l = (lies_from p d k A s.0 n.0 l.0, lies_from p (suc d) k b s.1 n.1 l.1)
lies_from p d k (letin x A v b) s n l = (lies_from p d k A s.0 n.0 l.0, lies_from p d k v s.1 n.1 l.1, lies_from p (suc d) k b s.2 n.2 l.2)
lies_from p d k (lit m) s n l = n
lies_from p d k (proj r i t) s n l = (n.0, lies_from p d k t s n.1 l)

pub lies_scoped : (p : Place) (d k : ℕ) (t : Term) → Lies p d k t → Scoped d k t
lies_scoped p d k (bound i) h = h
lies_scoped p d k (free i) h = h
lies_scoped p d k (meta i) h = h
lies_scoped p d k (sort u) h = tt
lies_scoped p d k (const c ms) h = tt
lies_scoped p d k (app f a) h = (lies_scoped p d k f h.0, lies_scoped p d k a h.1)
lies_scoped p d k (lam x A b) h = (lies_scoped p d k A h.0, lies_scoped p (suc d) k b h.1)
lies_scoped p d k (pi x A b) h = (lies_scoped p d k A h.0, lies_scoped p (suc d) k b h.1)
lies_scoped p d k (letin x A v b) h = (lies_scoped p d k A h.0, lies_scoped p d k v h.1, lies_scoped p (suc d) k b h.2)
lies_scoped p d k (lit m) h = tt
lies_scoped p d k (proj r i t) h = lies_scoped p d k t h.1

pub lies_named : (p : Place) (d k : ℕ) (t : Term) → Lies p d k t → NamesDeclared p.environment t
lies_named p d k (bound i) h = tt
lies_named p d k (free i) h = tt
lies_named p d k (meta i) h = tt
lies_named p d k (sort u) h = tt
lies_named p d k (const c ms) h = h.0
lies_named p d k (app f a) h = (lies_named p d k f h.0, lies_named p d k a h.1)
lies_named p d k (lam x A b) h = (lies_named p d k A h.0, lies_named p (suc d) k b h.1)
lies_named p d k (pi x A b) h = (lies_named p d k A h.0, lies_named p (suc d) k b h.1)
lies_named p d k (letin x A v b) h = (lies_named p d k A h.0, lies_named p d k v h.1, lies_named p (suc d) k b h.2)
lies_named p d k (lit m) h = h
lies_named p d k (proj r i t) h = (h.0, lies_named p d k t h.1)

pub lies_below : (p : Place) (d k : ℕ) (t : Term) → Lies p d k t → LevelsBelow p.levels t
lies_below p d k (bound i) h = tt
lies_below p d k (free i) h = tt
lies_below p d k (meta i) h = tt
lies_below p d k (sort u) h = h
lies_below p d k (const c ms) h = h.1
lies_below p d k (app f a) h = (lies_below p d k f h.0, lies_below p d k a h.1)
lies_below p d k (lam x A b) h = (lies_below p d k A h.0, lies_below p (suc d) k b h.1)
lies_below p d k (pi x A b) h = (lies_below p d k A h.0, lies_below p (suc d) k b h.1)
lies_below p d k (letin x A v b) h = (lies_below p d k A h.0, lies_below p d k v h.1, lies_below p (suc d) k b h.2)
lies_below p d k (lit m) h = tt
lies_below p d k (proj r i t) h = lies_below p d k t h.1

pub right_from : (p : Place) (t : Term) → Lies p 0 0 t → Right p.environment p.levels t
right_from p t h = record { closed = lies_scoped p 0 0 t h; named = lies_named p 0 0 t h; levels = lies_below p 0 0 t h }

-- ---- More room, a variable put in, a variable bound.

pub lies_up : (p : Place) {d e k l : ℕ} (t : Term) → d ≤ e → k ≤ l → Lies p d k t → Lies p e l t
lies_up p (bound i) a b h = omega arith
lies_up p (free i) a b h = omega arith
lies_up p (meta i) a b h = h
lies_up p (sort u) a b h = h
lies_up p (const c ms) a b h = h
lies_up p (app f t) a b h = (lies_up p f a b h.0, lies_up p t a b h.1)
lies_up p (lam x A t) a b h = (lies_up p A a b h.0, lies_up p t (omega arith) b h.1)
lies_up p (pi x A t) a b h = (lies_up p A a b h.0, lies_up p t (omega arith) b h.1)
lies_up p (letin x A v t) a b h = (lies_up p A a b h.0, lies_up p v a b h.1, lies_up p t (omega arith) b h.2)
lies_up p (lit m) a b h = h
lies_up p (proj r i t) a b h = (h.0, lies_up p t a b h.1)

pub lies_instantiate_at : (p : Place) (d k : ℕ) (t : Term) → Lies p (suc d) k t → Lies p d (suc k) (instantiate_at d t (free k))
lies_instantiate_at p d k (bound i) h =
    by_lt (Lies p d (suc k)) i d (bound i) (if nat_eq i d then raise 0 d (free k) else bound (i - 1)) (λ e. e) λ e.
    by_eq (Lies p d (suc k)) i d (free k) (bound (i - 1)) (λ q. omega arith) (λ n. absurd (n (omega arith)))
lies_instantiate_at p d k (free i) h = omega arith
lies_instantiate_at p d k (meta i) h = h
lies_instantiate_at p d k (sort u) h = h
lies_instantiate_at p d k (const c ms) h = h
lies_instantiate_at p d k (app f a) h = (lies_instantiate_at p d k f h.0, lies_instantiate_at p d k a h.1)
lies_instantiate_at p d k (lam x A b) h = (lies_instantiate_at p d k A h.0, lies_instantiate_at p (suc d) k b h.1)
lies_instantiate_at p d k (pi x A b) h = (lies_instantiate_at p d k A h.0, lies_instantiate_at p (suc d) k b h.1)
lies_instantiate_at p d k (letin x A v b) h = (lies_instantiate_at p d k A h.0, lies_instantiate_at p d k v h.1, lies_instantiate_at p (suc d) k b h.2)
lies_instantiate_at p d k (lit m) h = h
lies_instantiate_at p d k (proj r i t) h = (h.0, lies_instantiate_at p d k t h.1)

pub lies_abstract_at : (p : Place) (d k : ℕ) (t : Term) → Lies p d (suc k) t → Lies p (suc d) k (abstract_at d t k)
lies_abstract_at p d k (bound i) h = by_lt (Lies p (suc d) k) i d (bound i) (bound (suc i)) (λ e. omega arith) (λ e. absurd (omega arith))
lies_abstract_at p d k (free i) h = by_eq (Lies p (suc d) k) i k (bound d) (free i) (λ e. omega arith) (λ n. omega arith)
lies_abstract_at p d k (meta i) h = h
lies_abstract_at p d k (sort u) h = h
lies_abstract_at p d k (const c ms) h = h
lies_abstract_at p d k (app f a) h = (lies_abstract_at p d k f h.0, lies_abstract_at p d k a h.1)
lies_abstract_at p d k (lam x A b) h = (lies_abstract_at p d k A h.0, lies_abstract_at p (suc d) k b h.1)
lies_abstract_at p d k (pi x A b) h = (lies_abstract_at p d k A h.0, lies_abstract_at p (suc d) k b h.1)
lies_abstract_at p d k (letin x A v b) h = (lies_abstract_at p d k A h.0, lies_abstract_at p d k v h.1, lies_abstract_at p (suc d) k b h.2)
lies_abstract_at p d k (lit m) h = h
lies_abstract_at p d k (proj r i t) h = (h.0, lies_abstract_at p d k t h.1)

-- ---- Levels put in: as many as the place had parameters, or more.

below_get : (n : ℕ) (ls : List Universe) (k : ℕ) (l : Universe) → k < length ls → AllParametersBelow n ls → ParametersBelow n (unwrap_or (slice_get ls k) l)
below_get n [] k l h b = absurd (omega arith)
below_get n (m ∷ ls) zero l h b = b.0
below_get n (m ∷ ls) (suc k) l h b = below_get n ls k l (omega arith) b.1

pub below_substitute : (m n : ℕ) (ls : List Universe) (l : Universe) → m ≤ length ls → AllParametersBelow n ls → ParametersBelow m l
    → ParametersBelow n (level_substitute ls l)
below_substitute m n ls level_zero e b h = tt
below_substitute m n ls (level_succ l) e b h = below_substitute m n ls l e b h
below_substitute m n ls (level_max l r) e b h = (below_substitute m n ls l e b h.0, below_substitute m n ls r e b h.1)
below_substitute m n ls (level_imax l r) e b h = (below_substitute m n ls l e b h.0, below_substitute m n ls r e b h.1)
below_substitute m n ls (level_param k) e b h = below_get n ls k (level_param k) (omega arith) b
below_substitute m n ls (level_meta k) e b h = h

pub all_substitute : (m n : ℕ) (ls ks : List Universe) → m ≤ length ls → AllParametersBelow n ls → AllParametersBelow m ks
    → AllParametersBelow n (map (level_substitute ls) ks)
all_substitute m n ls [] e b h = tt
all_substitute m n ls (k ∷ ks) e b h = (below_substitute m n ls k e b h.0, all_substitute m n ls ks e b h.1)

pub lies_at_levels : (E : Environment) (m n : ℕ) (ls : List Universe) → m ≤ length ls → AllParametersBelow n ls → (d k : ℕ) (t : Term)
    → Lies (record { environment = E; levels = m }) d k t → Lies (record { environment = E; levels = n }) d k (level_instantiate ls t)
lies_at_levels E m n ls e b d k (bound i) h = h
lies_at_levels E m n ls e b d k (free i) h = h
lies_at_levels E m n ls e b d k (meta i) h = h
lies_at_levels E m n ls e b d k (sort u) h = below_substitute m n ls u e b h
lies_at_levels E m n ls e b d k (const c ms) h = (h.0, all_substitute m n ls ms e b h.1)
lies_at_levels E m n ls e b d k (app f a) h = (lies_at_levels E m n ls e b d k f h.0, lies_at_levels E m n ls e b d k a h.1)
lies_at_levels E m n ls e b d k (lam x A t) h = (lies_at_levels E m n ls e b d k A h.0, lies_at_levels E m n ls e b (suc d) k t h.1)
lies_at_levels E m n ls e b d k (pi x A t) h = (lies_at_levels E m n ls e b d k A h.0, lies_at_levels E m n ls e b (suc d) k t h.1)
lies_at_levels E m n ls e b d k (letin x A v t) h =
    (lies_at_levels E m n ls e b d k A h.0, lies_at_levels E m n ls e b d k v h.1, lies_at_levels E m n ls e b (suc d) k t h.2)
lies_at_levels E m n ls e b d k (lit i) h = h
lies_at_levels E m n ls e b d k (proj r i t) h = (h.0, lies_at_levels E m n ls e b d k t h.1)
