use Rattle.std.proofs.Common.{subst}
use Rattle.std.specs.List.{IsDistinct}
use Rattle.lf_env.specs.Names.{same_entry}
use Rattle.lf_env.proofs.listing.Listing.named_once.Goals as goal

pub returns : goal.returns
returns c = subst (IsDistinct same_entry) c.self.view_is c.self.invariant.distinct
