-- The code's values as the definition's.
use Rattle.std.specs.Prelude.{◌≡◌, ℕ, Bool, Option, Some, None, List}
use Rattle.lf_core.specs.Term.{Term}
use Rattle.lf_core.specs.declared.constant.ConstInfo.{ConstInfo}
use Rattle.lf_checker.specs.View as view
use Rattle.lf_checker.specs.Extends.{shape_of}
use Rattle.lf_checker.specs.Calls as calls
use Rattle.lf_checker.specs.Structures as structures
use Rattle.lf_checker.specs.Whnf as whnf
use Rattle.lf_checker.specs.Equal as equal
use Rattle.lf_steps.specs.declared.seen.Seen.{Seen}
use Rattle.lf_steps.specs.declared.seen.Seen.TheVariants.{Known, Unknown, Missing}
use Rattle.lf_steps.specs.declared.seen.Body.{Body}
use Rattle.lf_steps.specs.declared.seen.Body.TheVariants.{Value, Opaque, Unresolved}
use Rattle.lf_steps.specs.declared.structure.Structure.{Structure}
use Rattle.lf_steps.specs.declared.recursor.Progress.{Progress}
use Rattle.lf_steps.specs.declared.recursor.Progress.TheVariants.{Stays, Next, Ends}
use Rattle.lf_steps.specs.declared.recursor.Recursor.{Recursor}
use Rattle.lf_steps.specs.declared.recursor.Split.{Split}
use Rattle.lf_steps.specs.declared.unfold.Definition.{Definition}
use Rattle.lf_steps.specs.declared.unfold.Verdict.{Verdict}
use Rattle.lf_steps.specs.declared.unfold.Verdict.TheVariants.{Decided, Again, Undecided}

abbrev pub seen : Seen → calls.Seen
seen (Known c) = calls.known (shape_of c.now)
seen Unknown = calls.unknown
seen (Missing k) = calls.missing k

-- A known constant is the one that the view finds.
abbrev pub IfFound : view.Lookup → Seen → Type 0
IfFound l (Known c) = l ≡ view.found c.now
IfFound l Unknown = Unit {0}
IfFound l (Missing k) = Unit {0}

abbrev pub body : Body → view.KnownBody
body (Value v h) = view.value v.now h
body Opaque = view.opaque
body (Unresolved k) = view.unresolved k

abbrev pub structure : Structure → structures.Structure
structure s = record { constructor = s.constructor.now; ty = s.ty.now; levels = s.levels; params = s.params; fields = s.fields }

abbrev pub progress : Progress → whnf.Progress
progress Stays = whnf.stays
progress (Next t) = whnf.next t
progress (Ends t) = whnf.ends t

abbrev pub recursor : Recursor → whnf.Recursor
recursor r = record { ind = r.ind.now; params = r.params; minors = r.minors; indices = r.indices; rules = r.rules.now }

abbrev pub split : Split → whnf.Split
split s = record { before = s.before.now; major = s.major.now; after = s.after.now }

abbrev pub verdict : Verdict → equal.Verdict
verdict (Decided b) = equal.decided b
verdict (Again a b) = equal.again a b
verdict Undecided = equal.undecided

abbrev pub definition : Definition → equal.Definition
definition d = record { value = d.value.now; height = d.height }
