use Rattle.std.proofs.Common.{sym}
use Rattle.lf_front.proofs.Sound.{found_shallow}
use Rattle.lf_front.proofs.typing.constant_type.Goals as goal

pub at_levels-requires : goal.at_levels-requires
at_levels-requires c = found_shallow c.args.consts.now c.args.name.now c.in-Some.found.now c.requires (sym c.in-Some.ensures)
