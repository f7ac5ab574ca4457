use Rattle.std.proofs.Common.{length}
use Rattle.lf_recursor.proofs.names.+last_word.Given as goal

abbrev pub decreases-last_word : goal.decreases-last_word
decreases-last_word l = length l.words.now
