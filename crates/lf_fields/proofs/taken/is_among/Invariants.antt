use Rattle.std.proofs.Common.{◌≡◌, drop}
use Rattle.lf_rules.specs.Recursor.{is_among}
use Rattle.lf_fields.proofs.taken.is_among.Given as goal

-- the others decide
abbrev pub invariant-names : goal.invariant-names
invariant-names l = is_among l.name l.names ≡ is_among l.name (drop l.other-index l.names)
