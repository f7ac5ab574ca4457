use Rattle.std.proofs.Common.{length}
use Rattle.lf_words.proofs.number.+is_digits.Given as goal

abbrev pub decreases-is_digits : goal.decreases-is_digits
decreases-is_digits l = length l.bytes.now
