-- The body of a definition by equations. First the constructors of its alternatives are resolved, and tested with `Prop` for each term; then each
-- term is elaborated; and then the alternatives make the value.
use Rattle.std.specs.Prelude.{ℕ, zero, suc, ◌-◌, Option, Some, None, List, [], ◌∷◌, ◌++◌, codes, length, map, take}
use Rattle.lf_core.specs.Term.{Path, level_zero, Term, sort, const}
use Rattle.lf_core.specs.Spine.{apply}
use Rattle.lf_core.specs.Substitution.{instantiate, level_instantiate}
use Rattle.lf_core.specs.declared.constant.ConstInfo.{ConstInfo}
use Rattle.lf_rules.specs.Telescope.{Telescope, types, variables}
use Rattle.lf_syntax.specs.Tree.{TermTree}
use Rattle.lf_syntax.specs.declared.pattern.Alternative.{Alternative}
use Rattle.lf_syntax.specs.declared.pattern.Pattern.{Pattern}
use Rattle.lf_syntax.specs.declared.pattern.Pattern.TheVariants.{Constructor, Zero, Successor}
use Rattle.lf_checker.specs.View.{View}
use Rattle.lf_checker.specs.Run as checker
use Rattle.lf_checker.specs.Calls.{Seen, known, unknown, missing, see}
use Rattle.lf_elaboration.specs.Scope.{names_of}
use Rattle.lf_elaboration.specs.Run.{◌>>=◌, ◌>>◌, gives, checks}
use Rattle.lf_elaboration.specs.Part.{Part, Locals, Run, Calls, given, instantiated_all}
use Rattle.lf_elaboration.specs.Closing.{mark, close, close_binder}
use Rattle.lf_elaboration.specs.Induction.{codomain_at}
use Rattle.lf_elaboration.specs.Statement.{open_pis}
use Rattle.lf_equations.specs.declared.alternative.Case.{Case}
use Rattle.lf_equations.specs.Outcome as outcome
use Rattle.lf_equations.specs.Outcome.{Outcome, Compiling}
use Rattle.lf_equations.specs.Argument.{Argument, argument}
use Rattle.lf_equations.specs.Compile.{compile}
use Rattle.lf_msg.specs.declared.diagnostic.Diagnostic.TheVariants.{Equation}
use Rattle.lf_document.specs.Diagnoses.{equation_error}
use Rattle.lf_document.specs.Task.{Judged, right, wrong}
use Rattle.lf_document.specs.Setting.{nesting, calls_of}
use Rattle.lf_document.specs.Constants.{Valued}
use Rattle.lf_document.specs.Values.{accepted}
use Rattle.lf_document.specs.Queries.{constant_of}

-- ---- Alternatives, resolved: `0` is `Nat.zero`, `n + 1` is `Nat.succ n`, and another pattern's identifier stands for a constant.

pub record Resolved : Type 0 where
  pub constructor : Path
  pub fields : List Path
  pub term : TermTree

abbrev pub of_nat : List ℕ → Path
of_nat part = codes "Nat" ∷ part ∷ []

abbrev pub constructor_of : Part → Pattern → Run Path
constructor_of P (Constructor x fs) = constant_of P x
constructor_of P (Zero at) = gives (of_nat (codes "zero"))
constructor_of P (Successor x) = gives (of_nat (codes "succ"))

abbrev pub fields_of : Pattern → List Path
fields_of (Constructor x fs) = names_of fs
fields_of (Zero at) = []
fields_of (Successor x) = x.name ∷ []

abbrev pub resolved : Part → List Alternative → Run (List Resolved)
resolved P [] = gives []
resolved P (a ∷ alts) = do
  n ← constructor_of P a.pattern
  rest ← resolved P alts
  gives (record { constructor = n; fields = fields_of a.pattern; term = a.term } ∷ rest)

abbrev pub case_of : Resolved → Term → Case
case_of a t = record { constructor = a.constructor; fields = a.fields; body = t }

abbrev pub cases_with : List Resolved → List Term → List Case
cases_with [] ts = []
cases_with (a ∷ alts) [] = []
cases_with (a ∷ alts) (t ∷ ts) = case_of a t ∷ cases_with alts ts

-- ---- Faults stand at the declared name.

abbrev pub on_outcome : {A B : Type 0} → Part → (A → Run (Judged B)) → Outcome A → Run (Judged B)
on_outcome P f (outcome.gets x) = f x
on_outcome P f (outcome.fault e) = gives (wrong P.place (Equation (equation_error e)))

abbrev pub compiles : {A B : Type 0} → Part → Compiling A → (A → Run (Judged B)) → Run (Judged B)
compiles P m f = checks m >>= on_outcome P f

-- ---- The term of an alternative, under the definition's binders, the definition itself and the fields

-- The definition has its written name, where that has one part, and else none.
abbrev pub own_name : Path → Path
own_name (x ∷ []) = x ∷ []
own_name [] = codes "_" ∷ []
own_name (x ∷ y ∷ xs) = codes "_" ∷ []

abbrev pub names_in : Telescope → List Path
names_in xs = map (λ x. x.binder.name) xs

-- Of this stated type.
abbrev pub with_own : Argument → Path → Term → Locals
with_own g own T = record { types = types g.binders ++ T ∷ []; names = names_in g.binders ++ own_name own ∷ [] }

-- The constructor's type at the levels and parameters of the argument's type.
abbrev pub type_seen : Argument → Seen → checker.Run (Option Term)
type_seen g (known k) = checker.◌>>=◌ (checker.made (level_instantiate g.ind.levels k.ty)) (codomain_at g.ind.params)
type_seen g unknown = checker.gives None
type_seen g (missing k) = checker.needs k

abbrev pub fields_opened : Argument → Locals → Resolved → Option Term → checker.Run Telescope
fields_opened g L a None = checker.gives_up
fields_opened g L a (Some A) = checker.◌>>=◌ (open_pis (length a.fields) L.types A) (λ o. checker.gives o.locals)

abbrev pub fields_for : View → Argument → Locals → Resolved → checker.Run Telescope
fields_for V g L a = checker.◌>>=◌ (type_seen g (see V a.constructor)) (fields_opened g L a)

abbrev pub with_fields : Locals → List Path → Telescope → Locals
with_fields L fields xs = record { types = L.types ++ types xs; names = L.names ++ fields }

-- The constructor at the fields, in the place of the argument.
abbrev pub built : Argument → Locals → Resolved → Telescope → Term
built g L a xs = apply (const a.constructor g.ind.levels) (g.ind.params ++ variables (length L.types) xs)

-- The innermost n of these locals close.
abbrev pub first_of : Locals → ℕ → Locals
first_of L k = record { types = take k L.types; names = take k L.names }

abbrev pub close_locals : Part → Calls → ℕ → ℕ → Locals → Run (Unit {0})
close_locals P c k zero L = gives tt
close_locals P c k (suc n) L = do
  close_binder P c L k (length L.types - 1)
  close_locals P c k n (first_of L (length L.types - 1))

abbrev pub term_against : Part → Locals → ℕ → TermTree → Term → Run Term
term_against P L n s E = do
  k ← mark
  r ← (calls_of P).elaborate given L s (Some E)
  close_locals P (calls_of P) k.terms n L
  gives r.term

abbrev pub alternative_term : Part → Argument → Locals → Resolved → Run Term
alternative_term P g L a = do
  xs ← checks (fields_for P.view g L a)
  E ← checks (checker.made (instantiate g.binding.body (built g L a xs)))
  term_against P (with_fields L a.fields xs) (suc (length a.fields)) a.term E

abbrev pub alternative_terms : Part → Argument → Locals → List Resolved → Run (List Term)
alternative_terms P g L [] = gives []
alternative_terms P g L (a ∷ alts) = do
  t ← alternative_term P g L a
  ts ← alternative_terms P g L alts
  gives (t ∷ ts)

-- At the end of the part the definition's binders are left.
abbrev pub bodies : Part → Argument → Path → Term → List Resolved → Run (List Term)
bodies P g own T alts = do
  ts ← alternative_terms P g (with_own g own T) alts
  close P (calls_of P) (record { types = types g.binders; names = names_in g.binders }) 0 (Some 0)
  instantiated_all ts

-- ---- The whole, of a definition with n binders

abbrev pub with_props : List Resolved → List Case
with_props alts = map (λ a. case_of a (sort level_zero)) alts

abbrev pub valued : Part → ConstInfo → Term → Run (Judged Valued)
valued P c t = do
  v ← accepted P c t
  gives (right v)

abbrev pub compiled : Part → ConstInfo → ℕ → List Resolved → List Term → Run (Judged Valued)
compiled P c n alts ts = compiles P (compile P.view nesting c.ty n (cases_with alts ts)) (valued P c)

abbrev pub by_argument : Part → ConstInfo → Path → ℕ → List Resolved → Argument → Run (Judged Valued)
by_argument P c own n alts g = do
  ts ← bodies P g own c.ty alts
  compiled P c n alts ts

abbrev pub tested : Part → ConstInfo → Path → ℕ → List Resolved → Term → Run (Judged Valued)
tested P c own n alts t = compiles P (argument P.view (calls_of P).check n c.ty) (by_argument P c own n alts)

abbrev pub equations_value : Part → ConstInfo → Path → ℕ → List Alternative → Run (Judged Valued)
equations_value P c own n alts = do
  rs ← resolved P alts
  compiles P (compile P.view nesting c.ty n (with_props rs)) (tested P c own n rs)
