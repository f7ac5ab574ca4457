use Rattle.lf_items.proofs.lambdas.+first_lambdas.Given as goal

abbrev pub decreases-first_lambdas : goal.decreases-first_lambdas
decreases-first_lambdas l = l.n
