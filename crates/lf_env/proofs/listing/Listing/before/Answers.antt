use Rattle.std.proofs.Common.{◌∙◌, ap, filter}
use Rattle.lf_checker.specs.View.{Entry, stands_before}
use Rattle.lf_env.specs.Layer.{entries_of}
use Rattle.lf_env.proofs.Turns.{filter_sound}
use Rattle.lf_env.proofs.listing.Listing.before.Goals as goal

pub invariant_of-result : goal.invariant_of-result
invariant_of-result c =
    filter_sound (λ (e : Entry). stands_before c.args.limit e.position) (entries_of c.self.inside.layers.items) (entries_of c.in_ok-layers.layers.items)
    c.self.inside.most c.self.invariant
    (c.in_ok-layers.ensures ∙ ap (λ l. filter (λ (e : Entry). stands_before c.args.limit e.position) (entries_of l)) c.as_slice.ensures.value)
