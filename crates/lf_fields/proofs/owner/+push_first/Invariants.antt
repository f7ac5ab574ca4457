use Rattle.lf_fields.proofs.owner.+push_first.Given as goal

abbrev pub decreases-push_first : goal.decreases-push_first
decreases-push_first l = l.n
