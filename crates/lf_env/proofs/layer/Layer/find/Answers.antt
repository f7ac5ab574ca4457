use Rattle.std.proofs.Common.{ap}
use Rattle.lf_env.specs.Layer.{is_within}
use Rattle.lf_env.proofs.Entries.{none_in, one_in, left_out}
use Rattle.lf_env.proofs.layer.Layer.find.Goals as goal

pub returns-in_err-entry : goal.returns-in_err-entry
returns-in_err-entry c =
    rw c.from_residual.ensures
    (none_in (is_within c.self.inside.limit) c.args.words.now c.self.view_is (ap (λ t. t.keys) c.deref.ensures) c.in_err-entry.ensures.none)

pub returns-then-counts : goal.returns-then-counts
returns-then-counts c =
    one_in (is_within c.self.inside.limit) c.args.words.now c.self.view_is (ap (λ t. t.keys) c.deref.ensures)
    c.in_ok-entry.field-0-0 c.in_ok-entry.entry.now c.self.invariant c.in_ok-entry.ensures.stored c.in_ok-entry.ensures.named c.if-counts.ensures

pub returns-else-counts : goal.returns-else-counts
returns-else-counts c =
    left_out (is_within c.self.inside.limit) c.args.words.now c.self.view_is (ap (λ t. t.keys) c.deref.ensures)
    c.in_ok-entry.field-0-0 c.in_ok-entry.entry.now c.self.invariant c.in_ok-entry.ensures.stored c.in_ok-entry.ensures.named c.if-counts.ensures
