use Rattle.lf_telescope.proofs.opened.+open_onto.Given as goal

abbrev pub decreases-open_onto : goal.decreases-open_onto
decreases-open_onto l = l.n
