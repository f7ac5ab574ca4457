use Rattle.std.proofs.Common.{length}
use Rattle.lf_induct.proofs.form.+any_mentions.Given as goal

abbrev pub decreases-any_mentions : goal.decreases-any_mentions
decreases-any_mentions l = length l.terms.now
