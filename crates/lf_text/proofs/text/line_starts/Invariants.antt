use Rattle.std.proofs.Common.{◌≡◌, ◌++◌, drop}
use Rattle.lf_text.specs.Starts.{line_starts}
use Rattle.lf_text.proofs.text.line_starts.Given as goal

abbrev pub invariant-bytes : goal.invariant-bytes
invariant-bytes l = l.starts.items ++ line_starts l.i (drop l.i l.bytes) ≡ line_starts 0 l.bytes
