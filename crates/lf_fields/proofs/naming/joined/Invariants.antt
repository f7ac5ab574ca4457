use Rattle.std.proofs.Common.{◌≡◌, ◌++◌, drop}
use Rattle.lf_fields.proofs.naming.joined.Given as goal

abbrev pub invariant-loop-part : goal.invariant-loop-part
invariant-loop-part l = l.parts ++ drop l.part-index l.part-items ≡ l.prefix ++ l.name
