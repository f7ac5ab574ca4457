use Rattle.std.proofs.Common.{◌<◌, arith}
use Rattle.lf_part.proofs.Counts.{rest_smaller}
use Rattle.lf_part.proofs.levels.+written.Goals as goal

pub greatest_of-greatest_of-requires : goal.greatest_of-greatest_of-requires
greatest_of-greatest_of-requires t c = (let h = rest_smaller c.args.levels.now c.in-len1-up.len_at_least in omega (arith, h), tt)
