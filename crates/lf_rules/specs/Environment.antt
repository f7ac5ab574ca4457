-- Environments and contexts, and what of them a term speaks of (Carneiro 2019, "The Type Theory of Lean", chapter 2).
use Rattle.std.specs.Prelude.{◌≡◌, ◌<◌, ℕ, List, [], ◌∷◌, ◌++◌, length, Contains, codes}
use Rattle.lf_core.specs.Term.{
  Path,
  Universe,
  level_succ,
  level_max,
  level_imax,
  level_param,
  level_meta,
  level_zero,
  Term,
  bound,
  free,
  meta,
  sort,
  const,
  app,
  lam,
  pi,
  letin,
  lit,
  proj,
}
use Rattle.lf_core.specs.Substitution.{instantiate}
use Rattle.lf_core.specs.declared.constant.ConstInfo.{ConstInfo}

-- The constants, in the order in which they were declared.
abbrev pub Environment : Type 0
Environment = List ConstInfo

-- The types of the free variables: free k has the k-th.
abbrev pub Context : Type 0
Context = List Term

-- A context with one more variable, and the body of a binder with that variable put in.
abbrev pub with : Context → Term → Context
with C A = C ++ A ∷ []

abbrev pub opened : Context → Term → Term
opened C b = instantiate b (free (length C))

-- A constant of this name is in the environment.
abbrev pub Declared : Environment → Path → Type 0
Declared E n = (c : ConstInfo) × Contains E c × (c.name ≡ n)

-- No constant of this name is.
abbrev pub Fresh : Environment → Path → Type 0
Fresh E n = Declared E n → ⊥

-- The names that literals stand for (Lean 4 reference manual, "Natural numbers").
abbrev pub nat : Path
nat = codes "Nat" ∷ []

abbrev pub nat_type : Term
nat_type = const nat []

abbrev pub nat_zero : Term
nat_zero = const (codes "Nat" ∷ codes "zero" ∷ []) []

abbrev pub nat_succ : Term
nat_succ = const (codes "Nat" ∷ codes "succ" ∷ []) []

-- Each constant that the term names is declared; a literal names `Nat`, a projection its structure.
abbrev pub NamesDeclared : Environment → Term → Type 0
NamesDeclared E (const n ls) = Declared E n
NamesDeclared E (lit n) = Declared E nat
NamesDeclared E (proj s i t) = Declared E s × NamesDeclared E t
NamesDeclared E (app f a) = NamesDeclared E f × NamesDeclared E a
NamesDeclared E (lam x A b) = NamesDeclared E A × NamesDeclared E b
NamesDeclared E (pi x A B) = NamesDeclared E A × NamesDeclared E B
NamesDeclared E (letin x A v b) = NamesDeclared E A × NamesDeclared E v × NamesDeclared E b
NamesDeclared E (bound i) = Unit {0}
NamesDeclared E (free k) = Unit {0}
NamesDeclared E (meta k) = Unit {0}
NamesDeclared E (sort l) = Unit {0}

-- Each level parameter is below n, and there is no level metavariable: in a level, in levels, in a term.
abbrev pub ParametersBelow : ℕ → Universe → Type 0
ParametersBelow n (level_param k) = k < n
ParametersBelow n (level_succ l) = ParametersBelow n l
ParametersBelow n (level_max l m) = ParametersBelow n l × ParametersBelow n m
ParametersBelow n (level_imax l m) = ParametersBelow n l × ParametersBelow n m
ParametersBelow n (level_meta k) = ⊥
ParametersBelow n level_zero = Unit {0}

abbrev pub AllParametersBelow : ℕ → List Universe → Type 0
AllParametersBelow n [] = Unit {0}
AllParametersBelow n (l ∷ ls) = ParametersBelow n l × AllParametersBelow n ls

abbrev pub LevelsBelow : ℕ → Term → Type 0
LevelsBelow n (sort l) = ParametersBelow n l
LevelsBelow n (const c ls) = AllParametersBelow n ls
LevelsBelow n (app f a) = LevelsBelow n f × LevelsBelow n a
LevelsBelow n (lam x A b) = LevelsBelow n A × LevelsBelow n b
LevelsBelow n (pi x A B) = LevelsBelow n A × LevelsBelow n B
LevelsBelow n (letin x A v b) = LevelsBelow n A × LevelsBelow n v × LevelsBelow n b
LevelsBelow n (proj s i t) = LevelsBelow n t
LevelsBelow n (bound i) = Unit {0}
LevelsBelow n (free k) = Unit {0}
LevelsBelow n (meta k) = Unit {0}
LevelsBelow n (lit k) = Unit {0}
