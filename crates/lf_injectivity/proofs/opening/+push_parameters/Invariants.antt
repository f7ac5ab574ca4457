use Rattle.lf_injectivity.proofs.opening.+push_parameters.Given as goal

abbrev pub decreases-push_parameters : goal.decreases-push_parameters
decreases-push_parameters l = l.n
