use Rattle.std.proofs.Common.{◌≡◌, ◌+◌, ◌-◌, ◌≤◌, length, drop}
use Rattle.lf_token.specs.Scan.{tail_len}
use Rattle.lf_token.proofs.scan.tail_len.Given as goal

abbrev pub invariant-characters : goal.invariant-characters
invariant-characters l = (l.n ≤ length l.cs) × (l.n + tail_len (drop l.n l.cs) ≡ tail_len l.cs)

abbrev pub decreases-characters : goal.decreases-characters
decreases-characters l = length l.cs - l.n
