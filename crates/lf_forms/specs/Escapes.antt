-- Whether the value of the metavariable of number k, made for so many locals, at most n, speaks of another. A device of the proof.
use Rattle.std.specs.Prelude.{ℕ, Bool, false, ◌&&◌, nat_le, Option, Some, None}
use Rattle.lf_elaboration.specs.Metavariables.{Changes, value, speaks_outside}

abbrev pub escapes_by : Changes → ℕ → ℕ → Option ℕ → Bool
escapes_by cs n k None = false
escapes_by cs n k (Some l) = nat_le l n && speaks_outside cs l (value cs k)
