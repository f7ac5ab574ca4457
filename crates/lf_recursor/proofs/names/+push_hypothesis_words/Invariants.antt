use Rattle.std.proofs.Common.{length}
use Rattle.lf_recursor.proofs.names.+push_hypothesis_words.Given as goal

abbrev pub decreases-push_hypothesis_words : goal.decreases-push_hypothesis_words
decreases-push_hypothesis_words l = length l.words.now
