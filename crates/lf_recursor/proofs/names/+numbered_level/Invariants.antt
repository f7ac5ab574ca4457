use Rattle.lf_recursor.proofs.names.+numbered_level.Given as goal

abbrev pub decreases-numbered_level : goal.decreases-numbered_level
decreases-numbered_level l = l.tries
