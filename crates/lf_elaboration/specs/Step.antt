-- What a step of a proof leaves to be proved, and how the proof is made of the proofs of that; and the two steps that only look at the goal.
-- Steps are functions of terms, a context and the checker alone. None says that the item fails.
use Rattle.std.specs.Prelude.{ℕ, ◌-◌, true, Option, Some, None, List, [], ◌∷◌, ◌++◌, length, reverse}
use Rattle.lf_core.specs.Term.{Path, level_zero, Term, sort}
use Rattle.lf_core.specs.Spine.{apply}
use Rattle.lf_core.specs.Substitution.{instantiate}
use Rattle.lf_name.specs.declared.binder.Binder.{Binder}
use Rattle.lf_name.specs.declared.binder.BinderKind.TheVariants.{Explicit}
use Rattle.lf_rules.specs.Environment.{Context}
use Rattle.lf_rules.specs.Recursor.{named}
use Rattle.lf_checker.specs.Run.{Run, ◌>>=◌, gives, choose, put, made}
use Rattle.lf_checker.specs.Calls.{Calls}
use Rattle.lf_elaboration.specs.Forms.{Binding, as_pi}

-- What a step leaves to be proved, and how the whole proof is made of the goals' proofs: each is put as it is, or for the outermost loose
-- variable of its pad; the head is applied to them in order, and then to the tail. Without a head the first of them takes its place.
pub record Step : Type 0 where
  pub head : Option Term
  pub goals : List Term
  pub pads : List (Option Term)
  pub tail : List Term
  pub asked : Option Path

abbrev pub padded : Term → Option Term → Run Term
padded g None = gives g
padded g (Some p) = made (instantiate p g)

abbrev pub padded_all : List Term → List (Option Term) → Run (List Term)
padded_all [] ps = gives []
padded_all (g ∷ gs) [] = gives (g ∷ gs)
padded_all (g ∷ gs) (p ∷ ps) = do
  t ← padded g p
  ts ← padded_all gs ps
  gives (t ∷ ts)

abbrev pub headed : Option Term → List Term → List Term → Term
headed (Some h) gs tail = apply h (gs ++ tail)
headed None [] tail = apply (sort level_zero) tail
headed None (g ∷ gs) tail = apply g (gs ++ tail)

-- The proof, from those of the goals in order.
abbrev pub proof_by : Step → List Term → Run Term
proof_by s gs = do
  ts ← padded_all gs s.pads
  put (headed s.head ts s.tail)

abbrev pub explicit : List ℕ → Binder
explicit word = record { name = named word; kind = Explicit }

-- ---- intro: the goal's weak head form as a pi.

abbrev pub intro : Calls → Context → Term → Run (Option Binding)
intro c C goal = do
  W ← c.whnf true C goal
  gives (as_pi W)

-- ---- assumption: the latest local whose type is equal to the goal.

-- Of the first n locals, whose types stand in reverse.
abbrev pub latest_of : Calls → Context → Term → ℕ → List Term → Run (Option ℕ)
latest_of c C goal n [] = gives None
latest_of c C goal n (A ∷ As) = do
  fits ← c.equal C A goal
  choose fits (gives (Some (n - 1))) (latest_of c C goal (n - 1) As)

abbrev pub assumption : Calls → Context → Term → Run (Option ℕ)
assumption c C goal = latest_of c C goal (length C) (reverse C)
