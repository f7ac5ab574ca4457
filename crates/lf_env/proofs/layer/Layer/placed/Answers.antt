use Rattle.std.proofs.Common.{◌∙◌, ap, ◌≡◌, ◌+◌, arith, take, length, filter, Some}
use Rattle.lf_env.specs.Layer.{is_within}
use Rattle.lf_env.proofs.Entries.{none_placed_in, one_placed_in, left_out_placed, place_fits}
use Rattle.lf_env.proofs.layer.Layer.placed.Goals as goal

pub returns-in_err-index : goal.returns-in_err-index
returns-in_err-index c =
    rw c.from_residual.ensures
    (none_placed_in (is_within c.self.inside.limit) c.args.words.now c.self.view_is (ap (λ t. t.keys) c.deref.ensures) c.args.start c.in_err-index.ensures.none)

pub overflow_add-result : goal.overflow_add-result
overflow_add-result c =
    let same : c.as_slice.result.now ≡ c.deref.result.now.keys = cc in
    let count : c.count.result ≡ length (filter (is_within c.self.inside.limit) (take c.in_ok-index.index c.deref.result.now.keys)) =
    c.count.ensures ∙ ap (λ l. length (filter (is_within c.self.inside.limit) (take c.in_ok-index.index l))) same in
    let fits = place_fits (is_within c.self.inside.limit) c.args.words.now c.self.view_is (ap (λ t. t.keys) c.deref.ensures)
    c.in_ok-index.index c.in_ok-index.entry.now c.self.invariant c.in_ok-index.ensures.stored c.in_ok-index.ensures.named
    c.args.start c.count.result c.requires count in
    omega arith

pub returns-then-counts : goal.returns-then-counts
returns-then-counts c =
    let same : c.as_slice.result.now ≡ c.deref.result.now.keys = cc in
    let count : c.count.result ≡ length (filter (is_within c.self.inside.limit) (take c.in_ok-index.index c.deref.result.now.keys)) =
    c.count.ensures ∙ ap (λ l. length (filter (is_within c.self.inside.limit) (take c.in_ok-index.index l))) same in
    ap (λ p. Some (p, c.args.start + c.count.result)) c.position.ensures
    ∙ one_placed_in (is_within c.self.inside.limit) c.args.words.now c.self.view_is (ap (λ t. t.keys) c.deref.ensures)
    c.in_ok-index.index c.in_ok-index.entry.now c.self.invariant c.in_ok-index.ensures.stored c.in_ok-index.ensures.named
    c.args.start c.count.result count c.if-counts.ensures

pub returns-else-counts : goal.returns-else-counts
returns-else-counts c =
    left_out_placed (is_within c.self.inside.limit) c.args.words.now c.self.view_is (ap (λ t. t.keys) c.deref.ensures)
    c.in_ok-index.index c.in_ok-index.entry.now c.self.invariant c.in_ok-index.ensures.stored c.in_ok-index.ensures.named c.args.start c.if-counts.ensures
