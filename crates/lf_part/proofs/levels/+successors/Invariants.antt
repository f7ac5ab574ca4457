use Rattle.lf_part.proofs.levels.+successors.Given as goal

abbrev pub decreases-successors : goal.decreases-successors
decreases-successors l = l.count
