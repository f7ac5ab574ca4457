use Rattle.std.proofs.Common.{◌≡◌, ◌+◌, ◌-◌, ◌≤◌, length, drop}
use Rattle.std.specs.Prelude.{option_map}
use Rattle.lf_text.specs.Lexemes.{through}
use Rattle.lf_token.proofs.scan.comment_len.Given as goal

abbrev pub invariant-characters : goal.invariant-characters
invariant-characters l = record {
  within : l.n ≤ length l.cs;
  depth : l.depth ≤ l.n;
  same : option_map (λ k. k + l.n) (through l.depth (drop l.n l.cs)) ≡ through 0 l.cs;
}

abbrev pub decreases-characters : goal.decreases-characters
decreases-characters l = length l.cs - l.n
