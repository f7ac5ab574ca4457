-- The rank of a task: what it may need has a lower one. First the realized constants of the base; then, command by command, the head, the body,
-- and the realized constants of what the command makes.
use Rattle.std.specs.Prelude.{ℕ, ◌+◌, ◌||◌, ◌&&◌, Bool, nat_eq, nat_lt, if◌then◌else◌}
use Rattle.lf_core.specs.declared.constant.TaskKey.{TaskKey}
use Rattle.lf_core.specs.declared.constant.TaskKey.TheVariants.{Head, Body, Real}
use Rattle.lf_checker.specs.View.{base_position}

-- The origin is the position of a realized constant's parent.
abbrev pub rank_of : TaskKey → ℕ → ℕ × ℕ
rank_of (Head i) origin = (i + 1, 0)
rank_of (Body i) origin = (i + 1, 1)
rank_of (Real n) origin = if nat_eq origin base_position then (0, 2) else (origin + 1, 2)

abbrev pub is_lower : ℕ × ℕ → ℕ × ℕ → Bool
is_lower r s = nat_lt r.0 s.0 || (nat_eq r.0 s.0 && nat_lt r.1 s.1)
