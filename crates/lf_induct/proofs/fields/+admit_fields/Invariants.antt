use Rattle.lf_induct.proofs.fields.+admit_fields.Given as goal

abbrev pub decreases-admit_fields : goal.decreases-admit_fields
decreases-admit_fields g l = l.left
