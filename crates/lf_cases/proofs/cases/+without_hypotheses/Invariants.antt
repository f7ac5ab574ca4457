use Rattle.lf_cases.proofs.cases.+without_hypotheses.Given as goal

abbrev pub decreases-without_hypotheses : goal.decreases-without_hypotheses
decreases-without_hypotheses l = l.fields
