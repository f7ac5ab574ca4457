use Rattle.std.proofs.Common.{◌≡◌, length}
use Rattle.lf_resolution.specs.Attempt.{with_terms}
use Rattle.lf_class.proofs.unified.with_terms.Given as goal

abbrev pub invariant-given : goal.invariant-given
invariant-given l = with_terms l.fn.metas l.fn.given l.fn.terms ≡ with_terms l.metas l.rest l.left

abbrev pub decreases-given : goal.decreases-given
decreases-given l = length l.rest
