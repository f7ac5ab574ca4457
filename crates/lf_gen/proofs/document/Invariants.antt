use Rattle.std.proofs.Common.{◌≡◌, ◌≤◌, ◌-◌, string_bytes}
use Rattle.lf_gen.specs.Document.{document}
use Rattle.lf_gen.proofs.document.Given as goal

abbrev pub invariant-loop-i : goal.invariant-loop-i
invariant-loop-i l = (l.i ≤ l.k) × (string_bytes l.text ≡ document l.i)

abbrev pub decreases-loop-i : goal.decreases-loop-i
decreases-loop-i l = l.k - l.i
