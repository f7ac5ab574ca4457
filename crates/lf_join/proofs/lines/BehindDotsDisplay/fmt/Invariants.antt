use Rattle.std.proofs.Common.{flat_map, take}
use Rattle.std.specs.Fmt.{HasWritten, IsPlainFormatter}
use Rattle.lf_msg.specs.Names.{behind_dot}
use Rattle.lf_join.proofs.lines.BehindDotsDisplay.fmt.Given as goal

abbrev pub invariant-parts : goal.invariant-parts
invariant-parts g l =
    IsPlainFormatter l.initial.f → HasWritten g.W.Write.write_str_gives l.initial.f (flat_map behind_dot (take l.part-index l.self.0.now)) l.f
