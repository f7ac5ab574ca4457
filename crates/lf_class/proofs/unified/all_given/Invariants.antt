use Rattle.std.proofs.Common.{◌≡◌, drop}
use Rattle.lf_resolution.specs.Attempt.{all_given}
use Rattle.lf_class.proofs.unified.all_given.Given as goal

abbrev pub invariant-loop-one : goal.invariant-loop-one
invariant-loop-one l = all_given l.metas (drop l.one-index l.given) ≡ all_given l.metas l.given
