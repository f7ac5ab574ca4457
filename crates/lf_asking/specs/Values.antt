-- What a row wants.
use Rattle.std.specs.Prelude.{ℕ, nat_eq, if◌then◌else◌, List, Option, Some, None}
use Rattle.lf_asking.specs.declared.answer.Wanted.{Wanted}
use Rattle.lf_asking.specs.declared.answer.Wanted.TheVariants.{Gives, Done, Refused, RefusedWith, Out, Need, Stopped}

-- The text of the value that is wanted where so many units are left.
abbrev pub wanted_value : Wanted → ℕ → Option (List ℕ)
wanted_value (Gives text) units = Some text.now
wanted_value (Done text left) units = if nat_eq left units then Some text.now else None
wanted_value (Refused text opened) units = None
wanted_value (RefusedWith text opened left) units = None
wanted_value Out units = None
wanted_value (Need text) units = None
wanted_value Stopped units = None
