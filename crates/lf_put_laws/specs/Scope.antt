-- Scope of what is put in: each free variable is one of the first n, and each metavariable that shows is one of those that may.
use Rattle.std.specs.Prelude.{◌≡◌, ℕ, ◌+◌, ◌≤◌, Some, None, [], ◌∷◌, ◌++◌, slice_get}
use Rattle.lf_core.specs.Term.{Term, bound, free, meta, sort, const, app, lam, pi, letin, lit, proj}
use Rattle.lf_core.specs.Summary.{loose_bound, free_bound}
use Rattle.lf_elaboration.specs.declared.change.Change.TheVariants.{Made, LevelMade, Assigned}
use Rattle.lf_elaboration.specs.Metavariables.{
  Changes,
  Metavariable,
  metavariables,
  types_of,
  value,
  level_at,
  term_at,
  chain_limit,
  put_in,
  refused,
  scope_of,
  escaping,
}

-- Each metavariable that stands in the term is one of these.
abbrev pub Shows : (ℕ → Type 0) → Term → Type 0
Shows P (bound i) = Unit {0}
Shows P (free k) = Unit {0}
Shows P (meta k) = P k
Shows P (sort l) = Unit {0}
Shows P (const c ls) = Unit {0}
Shows P (app f a) = Shows P f × Shows P a
Shows P (lam x A b) = Shows P A × Shows P b
Shows P (pi x A B) = Shows P A × Shows P B
Shows P (letin x A v b) = Shows P A × Shows P v × Shows P b
Shows P (lit n) = Unit {0}
Shows P (proj s i t) = Shows P t

-- Along d assignments everything is put in: more change nothing, and only metavariables without a value are left. Values are closed.
pub record Settled (cs : Changes) (d : ℕ) : Type 0 where
  pub terms : (n : ℕ) → d ≤ n → term_at cs n ≡ term_at cs d
  pub levels : (n : ℕ) → d ≤ n → level_at cs n ≡ level_at cs d
  pub left : (k : ℕ) → Shows (λ j. value cs j ≡ None) (term_at cs d k).term
  pub closed : (k : ℕ) (t : Term) → value cs k ≡ Some t → loose_bound t ≤ 0

-- After an assignment that isn't refused, a term that had, put in, only variables of a context has only those still, where that context has
-- all locals of the metavariable.
abbrev pub AssignmentKeepsScope : Type 0
AssignmentKeepsScope = (cs : Changes) (d m n : ℕ) (t u : Term) → Settled cs d → d + d + 1 ≤ chain_limit → loose_bound t ≤ 0 → refused cs m t ≡ None
    → scope_of cs m ≤ n → free_bound (put_in cs u) ≤ n → free_bound (put_in (cs ++ Assigned m t ∷ []) u) ≤ n

-- All that metavariables stand for, and all their types, have, put in, only the first n variables.
pub record AllInScope (cs : Changes) (n : ℕ) : Type 0 where
  pub values : (k : ℕ) (v : Term) → value cs k ≡ Some v → free_bound (put_in cs v) ≤ n
  pub types : (k : ℕ) (A : Term) → slice_get (types_of cs) k ≡ Some A → free_bound (put_in cs A) ≤ n

-- So do they after an assignment that isn't refused.
abbrev pub AssignmentKeepsAll : Type 0
AssignmentKeepsAll = (cs : Changes) (d m n : ℕ) (t : Term) → Settled cs d → d + d + 1 ≤ chain_limit → loose_bound t ≤ 0 → refused cs m t ≡ None
    → scope_of cs m ≤ n → AllInScope cs n → AllInScope (cs ++ Assigned m t ∷ []) n

-- Where the test at the close of the local of number n finds nothing, what an outer metavariable stands for has, put in, only the variables of the
-- metavariable's own context.
abbrev pub TestIsScope : Type 0
TestIsScope = (cs : Changes) (n k : ℕ) (m : Metavariable) (v : Term) → escaping cs n ≡ None → slice_get (metavariables cs) k ≡ Some m → m.locals ≤ n
    → value cs k ≡ Some v → free_bound (put_in cs v) ≤ m.locals

-- At the start all is settled; a metavariable that is made, of terms or of levels, leaves it so.
pub record StaysSettled : Type 0 where
  pub start : Settled [] 0
  pub made : (cs : Changes) (d : ℕ) (A : Term) (n p : ℕ) → Settled cs d → Settled (cs ++ Made A n p ∷ []) d
  pub level_made : (cs : Changes) (d : ℕ) → Settled cs d → Settled (cs ++ LevelMade ∷ []) d
