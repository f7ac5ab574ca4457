use Rattle.lf_injectivity.proofs.selecting.+push_minors.Given as goal

abbrev pub decreases-push_minors : goal.decreases-push_minors
decreases-push_minors l = l.n
