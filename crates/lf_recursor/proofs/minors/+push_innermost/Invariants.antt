use Rattle.lf_recursor.proofs.minors.+push_innermost.Given as goal

abbrev pub decreases-push_innermost : goal.decreases-push_innermost
decreases-push_innermost l = l.n
