-- The four functions of the checker as what one of them may call: themselves, one call deeper.
use Rattle.std.specs.Prelude.{Bool, List}
use Rattle.lf_core.specs.Term.{Path, Term}
use Rattle.lf_rules.specs.Environment.{Context}
use Rattle.lf_core.specs.declared.constant.TaskKey.{TaskKey}
use Rattle.lf_core.specs.declared.constant.TaskKey.TheVariants.{Body, Real}
use Rattle.lf_checker.specs.Extends.{Shape, shape_of}
use Rattle.lf_checker.specs.View.{View, Lookup, found, absent, need_body, need_real, lookup_of}
use Rattle.lf_checker.specs.Run.{Run}

-- Inference with all its tests; or of the type alone, with these types of metavariables.
pub data Mode : Type 0 where
  checked : Mode
  unchecked : List Term → Mode

pub record Calls : Type 0 where
  -- the weak head form, with definitions unfolded at the head or not
  pub whnf : Bool → Context → Term → Run Term
  pub equal : Context → Term → Term → Run Bool
  pub infer : Mode → Context → Term → Run Term
  pub normalize : Context → Term → Run Term

-- A constant as the checker sees it.
pub data Seen : Type 0 where
  known : Shape → Seen
  unknown : Seen
  missing : TaskKey → Seen

abbrev pub seen_as : Path → Lookup → Seen
seen_as n (found c) = known (shape_of c)
seen_as n absent = unknown
seen_as n (need_body p) = missing (Body p)
seen_as n need_real = missing (Real n)

abbrev pub see : View → Path → Seen
see V n = seen_as n (lookup_of V n)
