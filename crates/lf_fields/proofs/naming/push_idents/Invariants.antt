use Rattle.std.proofs.Common.{◌≡◌, ◌++◌, drop}
use Rattle.lf_fields.proofs.naming.push_idents.Given as goal

abbrev pub invariant-loop-ident : goal.invariant-loop-ident
invariant-loop-ident l = l.all.items ++ drop l.ident-index l.idents ≡ l.fn.all.items ++ l.idents
