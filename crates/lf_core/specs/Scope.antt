-- Where the variables of a term lie (locally nameless terms: Charguéraud 2012, "The Locally Nameless Representation").
use Rattle.std.specs.Prelude.{ℕ, suc, ◌<◌}
use Rattle.lf_core.specs.Term.{Term, bound, free, meta, sort, const, app, lam, pi, letin, lit, proj}

-- Each loose bound variable of the term is below d and each free one below k, and it has no metavariable.
abbrev pub Scoped : ℕ → ℕ → Term → Type 0
Scoped d k (bound i) = i < d
Scoped d k (free j) = j < k
Scoped d k (meta j) = ⊥
Scoped d k (sort l) = Unit {0}
Scoped d k (const c ls) = Unit {0}
Scoped d k (app f a) = Scoped d k f × Scoped d k a
Scoped d k (lam x A b) = Scoped d k A × Scoped (suc d) k b
Scoped d k (pi x A B) = Scoped d k A × Scoped (suc d) k B
Scoped d k (letin x A v b) = Scoped d k A × Scoped d k v × Scoped (suc d) k b
Scoped d k (lit n) = Unit {0}
Scoped d k (proj s i t) = Scoped d k t
