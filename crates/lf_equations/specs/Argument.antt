-- The argument of a definition by equations. Behind the definition's binders the stated type is, in weak head form, a pi whose domain is, in weak
-- head form, an inductive type without indices at its levels and parameters; and its codomain is a type.
use Rattle.std.specs.Prelude.{ℕ, zero, suc, Bool, true, ◌&&◌, nat_eq, if◌then◌else◌, Option, Some, None, List, [], length}
use Rattle.lf_core.specs.Term.{Path, Universe, Term}
use Rattle.lf_core.specs.Spine.{head_of, arguments_of}
use Rattle.lf_core.specs.declared.constant.Detail.{Detail}
use Rattle.lf_core.specs.declared.constant.Detail.TheVariants.{Plain, Ind, Ctor, Rec}
use Rattle.lf_rules.specs.Environment.{Context, with}
use Rattle.lf_rules.specs.Telescope.{Telescope, types}
use Rattle.lf_checker.specs.View.{View}
use Rattle.lf_checker.specs.Run as checker
use Rattle.lf_checker.specs.Run.{Run, needs, attempt, opening}
use Rattle.lf_checker.specs.Calls.{checked, Calls, Seen, known, unknown, missing, see}
use Rattle.lf_elaboration.specs.Forms.{Binding, Instance, as_pi, as_sort, as_constant}
use Rattle.lf_elaboration.specs.Statement.{open_pis}
use Rattle.lf_equations.specs.declared.fault.EquationFault.TheVariants.{NotInductive}
use Rattle.lf_equations.specs.Outcome.{Compiling, ◌>>=◌, gives, runs, or_fault}

-- `I ps`, whose constructors these are; `large` says that it eliminates into every sort.
pub record Inductive : Type 0 where
  pub name : Path
  pub levels : List Universe
  pub params : List Term
  pub constructors : List Path
  pub large : Bool

pub record Argument : Type 0 where
  pub binders : Telescope
  -- the pi of the argument
  pub binding : Binding
  pub ind : Inductive
  -- of the codomain's sort
  pub level : Universe

abbrev pub inductive_by : Instance → List Term → ℕ → Detail → Option Inductive
inductive_by I xs levels (Ind params zero ctors large) =
    if nat_eq (length I.levels) levels && nat_eq (length xs) params
    then Some (record { name = I.name; levels = I.levels; params = xs; constructors = ctors; large = large })
    else None
inductive_by I xs levels (Ind params (suc i) ctors large) = None
inductive_by I xs levels Plain = None
inductive_by I xs levels (Ctor ind index params fields) = None
inductive_by I xs levels (Rec ind params minors indices rules) = None

abbrev pub inductive_seen : Instance → List Term → Seen → Run (Option Inductive)
inductive_seen I xs (known k) = checker.gives (inductive_by I xs (length k.levels) k.detail)
inductive_seen I xs unknown = checker.gives None
inductive_seen I xs (missing k) = needs k

abbrev pub inductive_of : View → Option Instance → List Term → Run (Option Inductive)
inductive_of V None xs = checker.gives None
inductive_of V (Some I) xs = inductive_seen I xs (see V I.name)

-- What a run gives, that may have nothing to give: then the argument isn't right.
abbrev pub wanted : {A : Type 0} → Run (Option A) → Compiling A
wanted m = do
  o ← runs m
  or_fault NotInductive o

-- The level of the sort of a type in this context.
abbrev pub level_of : Calls → Context → Term → Compiling Universe
level_of c C A = do
  S ← wanted (attempt (c.infer checked C A))
  W ← runs (c.whnf true C S)
  or_fault NotInductive (as_sort W)

-- The definition has so many binders.
abbrev pub argument : View → Calls → ℕ → Term → Compiling Argument
argument V c n ty = do
  o ← runs (open_pis n [] ty)
  T ← runs (c.whnf true (types o.locals) o.rest)
  p ← or_fault NotInductive (as_pi T)
  W ← runs (c.whnf true (types o.locals) p.domain)
  I ← wanted (inductive_of V (as_constant (head_of W)) (arguments_of W))
  R ← runs (opening (types o.locals) p.body)
  l ← level_of c (with (types o.locals) p.domain) R
  gives (record { binders = o.locals; binding = p; ind = I; level = l })
