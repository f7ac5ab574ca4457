use Rattle.std.proofs.Common.{◌≡◌}
use Rattle.lf_rules.specs.Telescope.{pi_count}
use Rattle.lf_resolution.specs.Attempt.{before_pis}
use Rattle.lf_resolution.specs.Walk.{for_pis}
use Rattle.lf_class.proofs.attempt.for_pis.Given as goal

abbrev pub invariant-pis : goal.invariant-pis
invariant-pis l = for_pis l.locals (pi_count l.fn.candidate.ty) (before_pis l.fn.candidate) l.fn.units ≡ for_pis l.locals l.left l.attempt l.units

abbrev pub decreases-pis : goal.decreases-pis
decreases-pis l = l.left
