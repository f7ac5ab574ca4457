use Rattle.std.proofs.Common.{◌≡◌, ◌∙◌, ap, append-nil, arith}
use Rattle.lf_checker.specs.View.{base_entries}
use Rattle.lf_env.specs.Layer.{entries_of}
use Rattle.lf_env.proofs.Turns.{base_sound}
use Rattle.lf_env.proofs.listing.Listing.base.Goals as goal

pub invariant_of-result : goal.invariant_of-result
invariant_of-result c =
    let all : entries_of c.in_ok-layers.layers.items ≡ base_entries c.args.base.items =
    ap entries_of c.in_ok-layers.ensures ∙ append-nil (base_entries c.args.base.items) in
    base_sound c.args.base.items (entries_of c.in_ok-layers.layers.items) c.len-most.result c.requires all (omega (arith, c.len-most.ensures, c.args.base.ok))
    c.len-most.type_inv
