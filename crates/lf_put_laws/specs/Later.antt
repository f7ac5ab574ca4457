-- What a term is later, once more metavariables stand for terms: those are put in, and applications are reduced where the function has become a
-- lambda by that, each or not. Putting in at once and step by step differ in what they reduce; both are later forms of the term.
use Rattle.std.specs.Prelude.{ℕ, List}
use Rattle.lf_core.specs.Term.{Universe, Term, bound, free, meta, sort, const, app, lam, pi, letin, lit, proj}
use Rattle.lf_core.specs.Substitution.{instantiate}
use Rattle.lf_name.specs.declared.binder.Binder.{Binder}
use Rattle.lf_core.specs.Term.{Path}

-- `Stands k T`: the metavariable k may stand for T later.
pub data Later (Stands : ℕ → Term → Type 0) : Term → Term → Type 0 where
  stands : {k : ℕ} {T : Term} → Stands k T → Later Stands (meta k) T
  bounds : (i : ℕ) → Later Stands (bound i) (bound i)
  frees : (k : ℕ) → Later Stands (free k) (free k)
  metas : (k : ℕ) → Later Stands (meta k) (meta k)
  sorts : (l m : Universe) → Later Stands (sort l) (sort m)
  consts : (c : Path) (ls ms : List Universe) → Later Stands (const c ls) (const c ms)
  lits : (n : ℕ) → Later Stands (lit n) (lit n)
  apps : {f g a b : Term} → Later Stands f g → Later Stands a b → Later Stands (app f a) (app g b)
  lams : {A B b d : Term} (x : Binder) → Later Stands A B → Later Stands b d → Later Stands (lam x A b) (lam x B d)
  pis : {A B b d : Term} (x : Binder) → Later Stands A B → Later Stands b d → Later Stands (pi x A b) (pi x B d)
  lets : {A B v w b d : Term} (x : Binder) → Later Stands A B → Later Stands v w → Later Stands b d → Later Stands (letin x A v b) (letin x B w d)
  projs : {t u : Term} (S : Path) (i : ℕ) → Later Stands t u → Later Stands (proj S i t) (proj S i u)
  reduces : {f a b A d : Term} (x : Binder) → Later Stands f (lam x A d) → Later Stands a b → Later Stands (app f a) (instantiate d b)
