use Rattle.std.proofs.Common.{flat_map, take}
use Rattle.std.specs.Fmt.{HasWritten, IsPlainFormatter}
use Rattle.lf_msg.specs.Names.{behind_comma}
use Rattle.lf_msg.proofs.name_text.BehindCommasDisplay.fmt.Given as goal

abbrev pub invariant-names : goal.invariant-names
invariant-names g l =
    IsPlainFormatter l.initial.f → HasWritten g.W.Write.write_str_gives l.initial.f (flat_map behind_comma (take l.name-index l.self.0.now)) l.f
