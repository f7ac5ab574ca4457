use Rattle.std.proofs.Common.{◌≡◌, ℕ, ◌+◌, ◌-◌, ◌≤◌, length, drop}
use Rattle.lf_front.specs.Scan.{tail_len}
use Rattle.lf_front.proofs.token.tail_len.Given as goal

abbrev pub invariant-bytes : goal.invariant-bytes
invariant-bytes l = (l.n ≤ length l.cs) × (l.n + tail_len (drop l.n l.cs) ≡ tail_len l.cs)

abbrev pub decreases-bytes : goal.decreases-bytes
decreases-bytes l = length l.cs - l.n
