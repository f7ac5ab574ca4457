use Rattle.lf_cases.proofs.cases.+behind_hypotheses.Given as goal

abbrev pub decreases-behind_hypotheses : goal.decreases-behind_hypotheses
decreases-behind_hypotheses l = l.n
