use Rattle.std.proofs.Common.{◌≡◌, ◌≤◌, refl, arith}
use Rattle.lf_closes.proofs.closing.proved.Goals as goal

pub returns-clause-value : goal.returns-clause-value
returns-clause-value g c =
    let same : c.args.part.depth ≤ c.args.part.depth = omega arith in
    (c.requires.told _ _ _ _ _ _ _ _ _ _ _ _ c.prove.ensures refl same c.requires.floor).value

pub returns-clause-kept : goal.returns-clause-kept
returns-clause-kept g c =
    let same : c.args.part.depth ≤ c.args.part.depth = omega arith in
    (c.requires.told _ _ _ _ _ _ _ _ _ _ _ _ c.prove.ensures refl same c.requires.floor).kept

pub returns-clause-floor : goal.returns-clause-floor
returns-clause-floor g c =
    let same : c.args.part.depth ≤ c.args.part.depth = omega arith in
    (c.requires.told _ _ _ _ _ _ _ _ _ _ _ _ c.prove.ensures refl same c.requires.floor).floor

pub returns-clause-below : goal.returns-clause-below
returns-clause-below g c =
    let same : c.args.part.depth ≤ c.args.part.depth = omega arith in
    (c.requires.told _ _ _ _ _ _ _ _ _ _ _ _ c.prove.ensures refl same c.requires.floor).below

pub returns-clause-count : goal.returns-clause-count
returns-clause-count g c =
    let same : c.args.part.depth ≤ c.args.part.depth = omega arith in
    (c.requires.told _ _ _ _ _ _ _ _ _ _ _ _ c.prove.ensures refl same c.requires.floor).count

pub returns-clause-rose : goal.returns-clause-rose
returns-clause-rose g c =
    let same : c.args.part.depth ≤ c.args.part.depth = omega arith in
    (c.requires.told _ _ _ _ _ _ _ _ _ _ _ _ c.prove.ensures refl same c.requires.floor).rose
