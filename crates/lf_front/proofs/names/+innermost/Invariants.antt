use Rattle.std.proofs.Common.{length}
use Rattle.lf_front.proofs.names.+innermost.Given as goal

abbrev pub decreases-innermost : goal.decreases-innermost
decreases-innermost l = length l.locals.now
