-- Telescopes: typed binders in a row (de Bruijn 1991, "Telescopic mappings in typed lambda calculus"). The first stands for the free
-- variable k, the next for k + 1, and each type speaks of the variables before its own; the types of one that begins at 0 are a context.
use Rattle.std.specs.Prelude.{ℕ, suc, List, [], ◌∷◌}
use Rattle.lf_core.specs.Term.{Term, free, lam, pi}
use Rattle.lf_core.specs.Substitution.{instantiate, abstract}
use Rattle.lf_name.specs.declared.binder.Binder.{Binder}
use Rattle.lf_name.specs.declared.binder.BinderKind.{BinderKind}
use Rattle.lf_name.specs.declared.binder.BinderKind.TheVariants.{Explicit, Implicit}

pub record Local : Type 0 where
  pub binder : Binder
  pub ty : Term

abbrev pub Telescope : Type 0
Telescope = List Local

abbrev pub types : Telescope → List Term
types [] = []
types (x ∷ xs) = x.ty ∷ types xs

abbrev pub variables : ℕ → Telescope → List Term
variables k [] = []
variables k (x ∷ xs) = free k ∷ variables (suc k) xs

-- The term closed again: pis, or lambdas, over the telescope that begins at k.
abbrev pub pis_over : ℕ → Telescope → Term → Term
pis_over k [] t = t
pis_over k (x ∷ xs) t = pi x.binder x.ty (abstract (pis_over (suc k) xs t) k)

abbrev pub lambdas_over : ℕ → Telescope → Term → Term
lambdas_over k [] t = t
lambdas_over k (x ∷ xs) t = lam x.binder x.ty (abstract (lambdas_over (suc k) xs t) k)

-- What stands under pis, with their variables free.
pub record Opened : Type 0 where
  pub locals : Telescope
  pub rest : Term

abbrev pub behind : Binder → Term → Opened → Opened
behind x A o = record { locals = record { binder = x; ty = A } ∷ o.locals; rest = o.rest }

-- At most n pis are opened, by the variables from k on.
abbrev pub open_pis : ℕ → ℕ → Term → Opened
open_pis k (suc n) (pi x A B) = behind x A (open_pis (suc k) n (instantiate B (free k)))
open_pis k n t = record { locals = []; rest = t }

abbrev pub pi_count : Term → ℕ
pi_count (pi x A B) = suc (pi_count B)
pi_count t = 0

-- All of them.
abbrev pub open_all : ℕ → Term → Opened
open_all k t = open_pis k (pi_count t) t

abbrev pub of_kind : BinderKind → Telescope → Telescope
of_kind k [] = []
of_kind k (x ∷ xs) = record { binder = record { name = x.binder.name; kind = k }; ty = x.ty } ∷ of_kind k xs

abbrev pub implicit : Telescope → Telescope
implicit xs = of_kind Implicit xs

abbrev pub explicit : Telescope → Telescope
explicit xs = of_kind Explicit xs
