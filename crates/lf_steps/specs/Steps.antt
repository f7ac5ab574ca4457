-- Parts of the definition's steps that make no nested call, where the code has a function of its own. A device of the proof.
use Rattle.std.specs.Prelude.{◌≡◌, ℕ, Bool, Option, Some, None, List, [], ◌∷◌}
use Rattle.lf_core.specs.Term.{Path, Universe, Term}
use Rattle.lf_rules.specs.Environment.{Context}
use Rattle.lf_rules.specs.Structure.{result_level}
use Rattle.lf_core.specs.declared.constant.Detail.{Detail}
use Rattle.lf_core.specs.declared.constant.Detail.TheVariants.{Ind}
use Rattle.lf_core.specs.declared.constant.TaskKey.TheVariants.{Body}
use Rattle.lf_env.specs.declared.answer.BodyOf.{BodyOf}
use Rattle.lf_env.specs.declared.answer.BodyOf.TheVariants.{Value, Opaque, NeedBody}
use Rattle.lf_checker.specs.View.{View, KnownBody, value, opaque, unresolved}
use Rattle.lf_checker.specs.Run.{Run, gives, needs, choose}
use Rattle.lf_checker.specs.Calls.{Calls, Seen, known, unknown, missing, see}
use Rattle.lf_checker.specs.Whnf.{Recursor, Split, Progress, stays, is_fieldless, is_prop_level, put_in}

-- A body as the view shows it, with this height.
abbrev pub with_height : BodyOf → ℕ → KnownBody
with_height (Value v) h = value v.now h
with_height Opaque h = opaque
with_height (NeedBody p) h = unresolved (Body p)

abbrev pub fieldless_seen : Recursor → Path → Seen → Run (Option Path)
fieldless_seen r n (known d) = choose (is_fieldless r d.detail) (gives (Some n)) (gives None)
fieldless_seen r n unknown = gives None
fieldless_seen r n (missing k) = needs k

-- The only constructor of a type declared in `Prop`, where it has the recursor's parameters and no fields.
abbrev pub fieldless : View → Recursor → Term → Detail → Run (Option Path)
fieldless V r ty (Ind params indices (n ∷ []) large) = choose (is_prop_level (result_level ty)) (fieldless_seen r n (see V n)) (gives None)
fieldless V r ty _ = gives None

abbrev pub put_or_stay : View → Calls → Context → List Universe → Recursor → Split → Term → Option Path → Run Progress
put_or_stay V c C ls r s w (Some n) = put_in V c C ls r s w n
put_or_stay V c C ls r s w None = gives stays
