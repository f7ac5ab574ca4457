use Rattle.std.proofs.Common.{◌≡◌, ℕ, ◌+◌, ◌-◌, ◌≤◌, ◌<◌, length, take}
use Rattle.lf_token.specs.Spelling.{width}
use Rattle.lf_token.proofs.scan.chars_in.Given as goal

abbrev pub invariant-characters : goal.invariant-characters
invariant-characters l = record {
  within : l.n ≤ length l.cs;
  passed : l.passed ≡ width (take l.n l.cs);
  bound : l.passed < l.bytes + 4;
  before : (k : ℕ) → k < l.n → width (take k l.cs) < l.bytes;
}

abbrev pub decreases-characters : goal.decreases-characters
decreases-characters l = length l.cs - l.n
