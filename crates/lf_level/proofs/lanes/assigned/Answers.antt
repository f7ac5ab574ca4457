use Rattle.std.proofs.Common.{◌≡◌, ◌<◌, ◌≤◌, [], length, get_or, subst, sym, ◌∙◌}
use Rattle.lf_level.specs.Decision.{assigned as assigned_in}
use Rattle.lf_level.specs.Lanes.{place_of}
use Rattle.lf_level.proofs.Places.{assigned_none, assigned_some}
use Rattle.lf_level.proofs.lanes.assigned.Goals as goal

pub returns-then-at-names : goal.returns-then-at-names
returns-then-at-names c = λ k h.
    let ns = c.args.names.now in
    let vs = get_or c.args.trials.now k [] in
    let within : place_of ns c.args.parameter < length ns = subst (λ p. p < length ns) c.place-at.ensures.place c.if-at-names.true in
    c.column.ensures k h ∙ subst (λ p. get_or vs p 0 ≡ assigned_in ns vs c.args.parameter) (sym c.place-at.ensures.place)
    (assigned_some ns vs c.args.parameter within)

pub returns-else-at-names : goal.returns-else-at-names
returns-else-at-names c = λ k h.
    let ns = c.args.names.now in
    let behind : length ns ≤ place_of ns c.args.parameter = subst (λ p. length ns ≤ p) c.place-at.ensures.place c.if-at-names.false in
    c.zeros.ensures k h ∙ assigned_none ns (get_or c.args.trials.now k []) c.args.parameter behind
