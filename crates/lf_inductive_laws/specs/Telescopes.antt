-- Laws of telescopes: what is opened is closed again, what is closed is opened again, and one that begins at 0 is a context.
use Rattle.std.specs.Prelude.{◌≡◌, ℕ, suc, ◌+◌, List, [], ◌∷◌, ◌++◌, length}
use Rattle.lf_core.specs.Term.{Universe, Term, sort}
use Rattle.lf_core.specs.Scope.{Scoped}
use Rattle.lf_rules.specs.Environment.{Environment, Context, with}
use Rattle.lf_rules.specs.Judgment.{HasType}
use Rattle.lf_rules.specs.Telescope.{Telescope, types, pis_over, Opened, open_pis}
use Rattle.lf_judgment_laws.specs.InScope.{ContextScoped}

-- The first local is the variable k, and each type has only the variables before it.
abbrev pub Placed : ℕ → Telescope → Type 0
Placed k [] = Unit {0}
Placed k (x ∷ xs) = Scoped 0 k x.ty × Placed (suc k) xs

-- Each type is in a sort, over the context and those before it.
abbrev pub InSorts : Environment → Context → List Term → Type 0
InSorts E C [] = Unit {0}
InSorts E C (A ∷ As) = ((l : Universe) × HasType E C A (sort l)) × InSorts E (with C A) As

-- What is opened, closed again.
abbrev pub reclosed : ℕ → Opened → Term
reclosed k o = pis_over k o.locals o.rest

pub record TelescopeLaws : Type 0 where
  pub closed_opened : (k n : ℕ) (t : Term) → Scoped 0 k t → reclosed k (open_pis k n t) ≡ t
  pub opened_closed : (k : ℕ) (xs : Telescope) (t : Term) → Placed k xs → Scoped 0 (k + length xs) t
      → open_pis k (length xs) (pis_over k xs t) ≡ record { locals = xs; rest = t }
  -- what is opened lies in the scope of what stands before it
  pub opened_placed : (k n : ℕ) (t : Term) → Scoped 0 k t → Placed k (open_pis k n t).locals
  pub context : (xs : Telescope) → Placed 0 xs → ContextScoped (types xs)
  -- pis over types in sorts are in a sort
  pub typed : (E : Environment) (C : Context) (xs : Telescope) (t : Term) (l : Universe) → InSorts E C (types xs) → HasType E (C ++ types xs) t (sort l)
      → (m : Universe) × HasType E C (pis_over (length C) xs t) (sort m)
