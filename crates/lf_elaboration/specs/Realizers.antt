-- Realized constants: the theorems that are made when they are asked for, each a statement and a proof that the kernel accepts; else none is
-- made. This project's own.
use Rattle.std.specs.Prelude.{ℕ, ◌-◌, Option, Some, None, List}
use Rattle.lf_core.specs.Term.{Path, Term}
use Rattle.lf_core.specs.Suffix.{suffix_of}
use Rattle.lf_core.specs.declared.suffix.Suffix.{Suffix}
use Rattle.lf_core.specs.declared.suffix.Suffix.TheVariants.{Eq1, EqDef, Inj, InjEq, EqAt}
use Rattle.lf_core.specs.declared.constant.ConstInfo.{ConstInfo}
use Rattle.lf_core.specs.declared.constant.Detail.{Detail}
use Rattle.lf_core.specs.declared.constant.Detail.TheVariants.{Plain, Ind, Ctor, Rec}
use Rattle.lf_core.specs.declared.constant.TaskKey.{TaskKey}
use Rattle.lf_checker.specs.View.{View, parent_of, last_of, KnownBody, value, opaque, unresolved, body_of}
use Rattle.lf_checker.specs.Extends.{Shape}
use Rattle.lf_checker.specs.Run.{Answer, done, refused, out, need, Run, ◌>>=◌, gives, needs, choose}
use Rattle.lf_checker.specs.Calls.{Calls, Seen, known, unknown, missing, see}
use Rattle.lf_checker.specs.Structures.{mentions}
use Rattle.lf_checker.specs.Checker.{calls}
use Rattle.lf_elaboration.specs.Closing.{sorry_name}
use Rattle.lf_elaboration.specs.Statement.{Statement, accepted, unfolding_of}
use Rattle.lf_elaboration.specs.Injectivity.{Sides, sides_of, injectivity}
use Rattle.lf_elaboration.specs.Equivalence.{equivalence}
use Rattle.lf_elaboration.specs.CaseEquation.{case_equation}

-- ---- All suffixes, by the parent

abbrev pub of_definition : View → Calls → Path → List Path → Term → Suffix → Run (Option Statement)
of_definition V c f levels v Eq1 = unfolding_of c f levels v
of_definition V c f levels v EqDef = unfolding_of c f levels v
of_definition V c f levels v (EqAt k) = case_equation V c f levels (k - 2) v
of_definition V c f levels v Inj = gives None
of_definition V c f levels v InjEq = gives None

abbrev pub of_value : View → Calls → Path → List Path → Suffix → KnownBody → Run (Option Statement)
of_value V c f levels s opaque = gives None
of_value V c f levels s (unresolved k) = needs k
of_value V c f levels s (value v h) = choose (mentions sorry_name v) (gives None) (of_definition V c f levels v s)

abbrev pub of_constructor : View → Calls → Path → Shape → Detail → (Option Sides → Run (Option Statement)) → Run (Option Statement)
of_constructor V c n k (Ctor ind index params fields) m = do
  s ← sides_of c n k.levels k.ty ind index params fields
  m s
of_constructor V c n k Plain m = gives None
of_constructor V c n k (Ind params indices ctors large) m = gives None
of_constructor V c n k (Rec ind params minors indices rules) m = gives None

abbrev pub statement_by : View → Calls → Path → Shape → Suffix → Run (Option Statement)
statement_by V c n k Eq1 = of_value V c n k.levels Eq1 (body_of V n)
statement_by V c n k EqDef = of_value V c n k.levels EqDef (body_of V n)
statement_by V c n k (EqAt i) = of_value V c n k.levels (EqAt i) (body_of V n)
statement_by V c n k Inj = of_constructor V c n k k.detail (injectivity V)
statement_by V c n k InjEq = of_constructor V c n k k.detail (equivalence V c)

abbrev pub realize_from : View → ℕ → Path → Path → Suffix → Seen → Run (Option ConstInfo)
realize_from V depth n parent s (known k) = do
  t ← statement_by V (calls V depth) parent k s
  accepted V depth n k.levels t
realize_from V depth n parent s unknown = gives None
realize_from V depth n parent s (missing k) = needs k

abbrev pub realize_by : View → ℕ → Path → Option Suffix → Run (Option ConstInfo)
realize_by V depth n None = gives None
realize_by V depth n (Some s) = realize_from V depth n (parent_of n) s (see V (parent_of n))

-- The constant, that none is made, or what has to be done first. A spent budget and a refusal make none.
pub data Realized : Type 0 where
  makes : ConstInfo → Realized
  makes_none : Realized
  waits : TaskKey → Realized

abbrev pub realized_by : Answer (Option ConstInfo) → Realized
realized_by (done (Some c) u) = makes c
realized_by (done None u) = makes_none
realized_by (refused e u) = makes_none
realized_by out = makes_none
realized_by (need k) = waits k

-- With so many units and nested calls.
abbrev pub realize : View → ℕ → ℕ → Path → Realized
realize V units depth n = realized_by (realize_by V depth n (suffix_of (last_of n)) units)
