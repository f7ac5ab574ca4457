-- Branches, and which constants they take.
use Rattle.std.specs.Prelude.{◌≡◌, ℕ, if◌then◌else◌, Option, Some, None, List, [], ◌∷◌, ◌++◌}
use Rattle.lf_core.specs.Term.{Path}
use Rattle.lf_core.specs.Suffix.{suffix_of}
use Rattle.lf_core.specs.declared.constant.ConstInfo.{ConstInfo}
use Rattle.lf_core.specs.declared.constant.TaskKey.{TaskKey}
use Rattle.lf_core.specs.declared.suffix.Suffix.{Suffix}
use Rattle.lf_checker.specs.View.{View, is_child, last_of, There, there, not_there, not_known, there_of, pushed}

-- The view that shows what was added, the name and the position of the command, and what was added, in order.
pub record Branch : Type 0 where
  pub view : View
  pub prefix : Path
  pub position : ℕ
  pub added : List ConstInfo

-- What a constant's name is told: that it isn't a child of the branch's name; that it ends in a suffix; that it is there, or may be; or that it
-- is taken.
pub data Verdict : Type 0 where
  not_owned : Verdict
  reserved : Verdict
  duplicate : ℕ → Verdict
  waits : TaskKey → Verdict
  taken : Verdict

abbrev pub by_there : There → Verdict
by_there (there p) = duplicate p
by_there (not_known k) = waits k
by_there not_there = taken

abbrev pub by_suffix : Option Suffix → Verdict → Verdict
by_suffix (Some s) v = reserved
by_suffix None v = v

abbrev pub verdict : Branch → Path → Verdict
verdict b n = if is_child b.prefix n then by_suffix (suffix_of (last_of n)) (by_there (there_of b.view n)) else not_owned

abbrev pub with_constant : Branch → ConstInfo → Branch
with_constant b c = record b { view = pushed b.view c b.position; added = b.added ++ c ∷ [] }
