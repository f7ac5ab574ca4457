use Rattle.std.proofs.Common.{ap}
use Rattle.lf_env.specs.Layer.{entries_of}
use Rattle.lf_env.proofs.Turns.{empty_sound}
use Rattle.lf_env.proofs.listing.Listing.empty.Goals as goal

pub invariant_of-result : goal.invariant_of-result
invariant_of-result c = empty_sound (entries_of c.new.result.items) 0 (ap entries_of c.new.ensures.items)
