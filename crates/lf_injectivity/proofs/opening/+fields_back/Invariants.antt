use Rattle.std.proofs.Common.{length}
use Rattle.lf_injectivity.proofs.opening.+fields_back.Given as goal

abbrev pub decreases-fields_back : goal.decreases-fields_back
decreases-fields_back g l = length l.locals.now
