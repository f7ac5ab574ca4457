-- The definition's steps, each with what follows it at once. A device of the proof.
use Rattle.std.specs.Prelude.{ℕ, suc, ◌+◌, ◌-◌, nat_lt, true, if◌then◌else◌, Option, Some, None, List, [], ◌∷◌, ◌++◌, length}
use Rattle.lf_core.specs.Term.{Path, Term, Universe, free}
use Rattle.lf_core.specs.Same.{same}
use Rattle.lf_core.specs.Spine.{apply, head_of, arguments_of}
use Rattle.lf_rules.specs.Environment.{Context, with}
use Rattle.lf_rules.specs.Telescope.{Telescope, types, variables, pi_count}
use Rattle.lf_checker.specs.View.{View}
use Rattle.lf_checker.specs.Run.{Run, done, out, ◌>>=◌, choose, attempt, opening, made}
use Rattle.lf_checker.specs.Calls.{checked, Calls}
use Rattle.lf_elaboration.specs.Forms.{Binding, as_pi, as_sort, as_constant}
use Rattle.lf_elaboration.specs.Induction.{speaks_of}
use Rattle.lf_elaboration.specs.Statement.{open_pis, lambdas_closed}
use Rattle.lf_equations.specs.declared.alternative.Case.{Case}
use Rattle.lf_equations.specs.declared.fault.EquationFault.TheVariants.{NotInductive, NotStructural}
use Rattle.lf_equations.specs.Outcome as outcome
use Rattle.lf_equations.specs.Outcome.{Compiling, gives, faults, or_fault}
use Rattle.lf_equations.specs.Argument as argument
use Rattle.lf_equations.specs.Coverage.{is_case, not_a_case}
use Rattle.lf_equations.specs.Recursion.{by_hypotheses, hypothesis_of, renamed, minor}
use Rattle.lf_equations.specs.Compile as compile
use Rattle.lf_equations.specs.Argument.{Inductive, Argument, inductive_of}

abbrev pub on_some : {A B : Type 0} → Option A → (A → Compiling B) → Compiling B
on_some None f = faults NotInductive
on_some (Some x) f = f x

-- ---- The argument

abbrev pub level_of : Calls → Context → Term → Compiling Universe
level_of c C A = do
  o ← attempt (c.infer checked C A)
  on_some o λ S. do
    W ← c.whnf true C S
    or_fault NotInductive (as_sort W)

abbrev pub at_inductive : Calls → Telescope → Binding → Inductive → Compiling Argument
at_inductive c xs p I = do
  R ← opening (types xs) p.body
  outcome.◌>>=◌ (argument.level_of c (with (types xs) p.domain) R) (λ l. gives (record { binders = xs; binding = p; ind = I; level = l }))

abbrev pub at_binding : View → Calls → Telescope → Binding → Compiling Argument
at_binding V c xs p = do
  W ← c.whnf true (types xs) p.domain
  I ← inductive_of V (as_constant (head_of W)) (arguments_of W)
  on_some I (at_inductive c xs p)

-- Behind the binders, at this form of what is left of the stated type.
abbrev pub at_form : View → Calls → Telescope → Term → Compiling Argument
at_form V c xs T = on_some (as_pi T) (at_binding V c xs)

abbrev pub argument_at : View → Calls → ℕ → Term → Compiling Argument
argument_at V c n ty = do
  o ← open_pis n [] ty
  T ← c.whnf true (types o.locals) o.rest
  at_form V c o.locals T

-- ---- The alternatives' constructors

abbrev pub test_case : View → List Path → Case → Compiling (Unit {0})
test_case V ctors a = do
  b ← is_case V ctors a
  outcome.unless_fault (not_a_case a.constructor b)

-- ---- An alternative as a minor premise

-- The first of these locals, which begin at h, that has this type.
abbrev pub of_type : Term → ℕ → Telescope → Option ℕ
of_type A h [] = None
of_type A h (x ∷ xs) = if same x.ty A then Some h else of_type A (suc h) xs

-- The last test, and the term closed over these binders.
abbrev pub structural : ℕ → Path → Telescope → Term → Compiling Term
structural own n xs t = choose (speaks_of own t) (faults (NotStructural n)) (outcome.runs (lambdas_closed (suc own) xs t))

-- The term of an alternative behind these fields and hypotheses.
abbrev pub behind_hypotheses : Telescope → Term → Telescope → Telescope → Case → Compiling Term
behind_hypotheses bs M xs hs a = do
  t ← made (by_hypotheses (apply (free (length bs)) (variables 0 bs)) (hypothesis_of M (suc (length bs) + length xs) hs) a.body)
  structural (length bs) a.constructor (renamed a.fields xs ++ hs) t

abbrev pub minor_at : Telescope → Term → Term → Term → Case → Compiling Term
minor_at bs ty M A a = do
  xs ← open_pis (length a.fields) (types bs ++ ty ∷ []) A
  hs ← open_pis (pi_count xs.rest) ((types bs ++ ty ∷ []) ++ types xs.locals) xs.rest
  behind_hypotheses bs M xs.locals hs.locals a

-- ---- The minor premises

abbrev pub term_of : Term → Argument → Term → Case → Compiling Term
term_of ty g T a = on_some (compile.type_of_minor g.ind.constructors a.constructor (as_pi T)) (λ A. minor g.binders ty (compile.motive g) A a)

abbrev pub minor_of : Term → Argument → Term → Case → Compiling compile.Minor
minor_of ty g T a = outcome.◌>>=◌ (term_of ty g T a) (λ t. gives (record { constructor = a.constructor; term = t }))

-- These, and then what a step gives.
abbrev pub onto : List compile.Minor → Compiling (List compile.Minor) → Compiling (List compile.Minor)
onto before m = outcome.◌>>=◌ m (λ ms. gives (before ++ ms))

-- ---- The whole

abbrev pub recursion_of : View → Argument → Term → List Case → Compiling Term
recursion_of V g ty alts = outcome.◌>>=◌ (compile.type_at_motive V g) (λ T. outcome.◌>>=◌ (compile.minors ty g T alts) (λ ms.
    outcome.runs (lambdas_closed 0 (compile.whole_telescope g) (compile.recursion g (compile.in_order g.ind.constructors ms)))))

abbrev pub spend_one : Run (Unit {0})
spend_one = λ u. if nat_lt u 1 then out else done tt (u - 1)
