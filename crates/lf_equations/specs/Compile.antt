-- A definition by equations as a term: `fun bs x => I.rec ps (fun x => R) minors x`, in which each alternative is the minor premise of its
-- constructor. The tests come in this order: the argument; each alternative is a case; none comes twice; none is missing; each is structural.
use Rattle.std.specs.Prelude.{ℕ, if◌then◌else◌, Option, Some, None, List, [], ◌∷◌, ◌++◌, length}
use Rattle.lf_core.specs.Term.{Path, Universe, Term, free, const, lam}
use Rattle.lf_core.specs.Same.{same_path}
use Rattle.lf_core.specs.Spine.{apply}
use Rattle.lf_core.specs.Substitution.{level_instantiate}
use Rattle.lf_rules.specs.Telescope.{Telescope}
use Rattle.lf_checker.specs.View.{View}
use Rattle.lf_checker.specs.Run as checker
use Rattle.lf_checker.specs.Run.{Run, needs, spend, put, made}
use Rattle.lf_checker.specs.Calls.{Calls, Seen, known, unknown, missing, see}
use Rattle.lf_checker.specs.Checker.{calls}
use Rattle.lf_elaboration.specs.Forms.{Binding, as_pi}
use Rattle.lf_elaboration.specs.Induction.{recursor_path, codomain_at}
use Rattle.lf_elaboration.specs.Statement.{lambdas_closed}
use Rattle.lf_equations.specs.declared.alternative.Case.{Case}
use Rattle.lf_equations.specs.declared.fault.EquationFault.TheVariants.{NotInductive}
use Rattle.lf_equations.specs.Outcome.{Compiling, ◌>>=◌, ◌>>◌, gives, runs, or_fault, unless_fault}
use Rattle.lf_equations.specs.Argument.{Argument, wanted, argument}
use Rattle.lf_equations.specs.Coverage as coverage
use Rattle.lf_equations.specs.Coverage.{all_cases, twice}
use Rattle.lf_equations.specs.Recursion.{minor}

-- ---- The recursor at levels, parameters and motive

abbrev pub motive : Argument → Term
motive g = lam g.binding.binder g.binding.domain g.binding.body

abbrev pub recursor_levels : Argument → List Universe
recursor_levels g = if g.ind.large then g.level ∷ g.ind.levels else g.ind.levels

abbrev pub recursor : Argument → Term
recursor g = const (recursor_path g.ind.name) (recursor_levels g)

abbrev pub type_seen : Argument → Seen → Run (Option Term)
type_seen g (known k) = checker.◌>>=◌ (made (level_instantiate (recursor_levels g) k.ty)) (codomain_at (g.ind.params ++ motive g ∷ []))
type_seen g unknown = checker.gives None
type_seen g (missing k) = needs k

-- What is left of the recursor's type: pis over the minor premises come first, in the order of the constructors.
abbrev pub type_at_motive : View → Argument → Compiling Term
type_at_motive V g = wanted (type_seen g (see V (recursor_path g.ind.name)))

abbrev pub type_of_minor : List Path → Path → Option Binding → Option Term
type_of_minor [] n p = None
type_of_minor (c ∷ cs) n None = None
type_of_minor (c ∷ cs) n (Some p) = if same_path c n then Some p.domain else type_of_minor cs n (as_pi p.body)

-- ---- The minor premises: made in the order of the alternatives, and put in that of the constructors

pub record Minor : Type 0 where
  pub constructor : Path
  pub term : Term

abbrev pub minors : Term → Argument → Term → List Case → Compiling (List Minor)
minors ty g T [] = gives []
minors ty g T (a ∷ alts) = do
  A ← or_fault NotInductive (type_of_minor g.ind.constructors a.constructor (as_pi T))
  t ← minor g.binders ty (motive g) A a
  ms ← minors ty g T alts
  gives (record { constructor = a.constructor; term = t } ∷ ms)

abbrev pub minors_for : Path → List Minor → List Term
minors_for n [] = []
minors_for n (m ∷ ms) = if same_path m.constructor n then m.term ∷ [] else minors_for n ms

abbrev pub in_order : List Path → List Minor → List Term
in_order [] ms = []
in_order (n ∷ ns) ms = minors_for n ms ++ in_order ns ms

-- ---- The term

abbrev pub whole_telescope : Argument → Telescope
whole_telescope g = g.binders ++ record { binder = g.binding.binder; ty = g.binding.domain } ∷ []

abbrev pub recursion : Argument → List Term → Term
recursion g ms = apply (recursor g) (g.ind.params ++ motive g ∷ ms ++ free (length g.binders) ∷ [])

abbrev pub compile_body : View → Calls → Term → ℕ → List Case → Compiling Term
compile_body V c ty n alts = do
  g ← argument V c n ty
  all_cases V g.ind.constructors alts
  unless_fault (twice alts)
  unless_fault (coverage.missing g.ind.constructors alts)
  T ← type_at_motive V g
  ms ← minors ty g T alts
  runs (lambdas_closed 0 (whole_telescope g) (recursion g (in_order g.ind.constructors ms)))

-- Of a stated type that begins with n pis for the definition's binders, where so many nested calls are still allowed. It costs a unit.
abbrev pub compile : View → ℕ → Term → ℕ → List Case → Compiling Term
compile V depth ty n alts = spend 1 (compile_body V (calls V depth) ty n alts)
