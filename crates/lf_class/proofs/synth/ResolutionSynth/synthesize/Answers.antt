use Rattle.std.proofs.Common.{rules, ◌≡◌}
use Rattle.lf_class.proofs.synth.ResolutionSynth.synthesize.Goals as goal

pub returns-clause-value : goal.returns-clause-value
returns-clause-value g c =
    let p : c.args.scope.now.classes ≡ c.as_slice.result.now = search (rules, c.as_slice.ensures.value, c.in_ok-classes.ensures) in
    let q : c.args.scope.now.instances ≡ c.as_slice-2.result.now = search (rules, c.as_slice-2.ensures.value, c.in_ok-instances.ensures) in
    c.resolve_among.ensures.value c.args.scope.now p q
