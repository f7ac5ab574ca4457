use Rattle.lf_case_equation.proofs.fields.+push_innermost.Given as goal

abbrev pub decreases-push_innermost : goal.decreases-push_innermost
decreases-push_innermost l = l.n
