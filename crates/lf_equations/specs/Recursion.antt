-- Recursion in an alternative. The definition may only stand in it at exactly its binders and a recursive field whose type is `I ps`; there it is
-- the field's hypothesis, and the alternative becomes the minor premise of its constructor.
use Rattle.std.specs.Prelude.{ℕ, suc, ◌+◌, if◌then◌else◌, Option, Some, None, List, [], ◌∷◌, ◌++◌, length}
use Rattle.lf_core.specs.Term.{Path, Term, bound, free, meta, sort, const, app, lam, pi, letin, lit, proj}
use Rattle.lf_core.specs.Same.{same}
use Rattle.lf_core.specs.Spine.{apply}
use Rattle.lf_rules.specs.Telescope.{Telescope, types, variables, pi_count}
use Rattle.lf_checker.specs.Run.{choose, made}
use Rattle.lf_elaboration.specs.Forms.{as_variable}
use Rattle.lf_elaboration.specs.Induction.{speaks_of}
use Rattle.lf_elaboration.specs.Statement.{open_pis, lambdas_closed}
use Rattle.lf_equations.specs.declared.alternative.Case.{Case}
use Rattle.lf_equations.specs.declared.fault.EquationFault.TheVariants.{NotStructural}
use Rattle.lf_equations.specs.Outcome.{Compiling, ◌>>=◌, faults, runs}

-- The hypothesis of a field, among these, which begin at h: its type is the motive at the field. A field whose type is pis that end in `I ps`
-- has a hypothesis of another form.
abbrev pub hypothesis_of : Term → ℕ → Telescope → ℕ → Option ℕ
hypothesis_of M h [] field = None
hypothesis_of M h (x ∷ xs) field = if same x.ty (app M (free field)) then Some h else hypothesis_of M (suc h) xs field

abbrev pub hypothesis_at : (ℕ → Option ℕ) → Option ℕ → Option ℕ
hypothesis_at hyp None = None
hypothesis_at hyp (Some field) = hyp field

-- What stands for an application of `self`, the definition at its binders: the hypothesis of the field that it is applied to.
abbrev pub call : Term → (ℕ → Option ℕ) → Term → Term → Option ℕ
call self hyp f a = if same f self then hypothesis_at hyp (as_variable a) else None

abbrev pub or_term : Option ℕ → Term → Term
or_term (Some h) t = free h
or_term None t = t

-- A term with hypotheses for such applications.
abbrev pub by_hypotheses : Term → (ℕ → Option ℕ) → Term → Term
by_hypotheses self hyp (app f a) = or_term (call self hyp f a) (app (by_hypotheses self hyp f) (by_hypotheses self hyp a))
by_hypotheses self hyp (bound i) = bound i
by_hypotheses self hyp (free k) = free k
by_hypotheses self hyp (meta k) = meta k
by_hypotheses self hyp (sort l) = sort l
by_hypotheses self hyp (const n ls) = const n ls
by_hypotheses self hyp (lam x A b) = lam x (by_hypotheses self hyp A) (by_hypotheses self hyp b)
by_hypotheses self hyp (pi x A B) = pi x (by_hypotheses self hyp A) (by_hypotheses self hyp B)
by_hypotheses self hyp (letin x A v b) = letin x (by_hypotheses self hyp A) (by_hypotheses self hyp v) (by_hypotheses self hyp b)
by_hypotheses self hyp (lit n) = lit n
by_hypotheses self hyp (proj s i t) = proj s i (by_hypotheses self hyp t)

-- The fields have the names that are written.
abbrev pub renamed : List Path → Telescope → Telescope
renamed [] xs = xs
renamed (n ∷ ns) [] = []
renamed (n ∷ ns) (x ∷ xs) = record { binder = record { name = n; kind = x.binder.kind }; ty = x.ty } ∷ renamed ns xs

-- The minor premise of an alternative, with the type that the recursor gives it at the motive M: its fields, and a hypothesis for each recursive
-- one. The definition is the local behind these binders, and has this type.
abbrev pub minor : Telescope → Term → Term → Term → Case → Compiling Term
minor bs ty M A a = do
  let own = length bs
  let C = types bs ++ ty ∷ []
  xs ← runs (open_pis (length a.fields) C A)
  hs ← runs (open_pis (pi_count xs.rest) (C ++ types xs.locals) xs.rest)
  let hyp = hypothesis_of M (suc own + length xs.locals) hs.locals
  t ← runs (made (by_hypotheses (apply (free own) (variables 0 bs)) hyp a.body))
  choose (speaks_of own t) (faults (NotStructural a.constructor)) (runs (lambdas_closed (suc own) (renamed a.fields xs.locals ++ hs.locals) t))
