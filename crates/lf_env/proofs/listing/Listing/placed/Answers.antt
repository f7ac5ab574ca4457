use Rattle.std.proofs.Common.{◌≡◌, ap, length, arith}
use Rattle.lf_env.specs.Layer.{entries_of}
use Rattle.lf_env.proofs.listing.Listing.placed.Goals as goal

pub placed_in-requires : goal.placed_in-requires
placed_in-requires c =
    let same : length (entries_of c.as_slice.result.now) ≡ length (entries_of c.self.inside.layers.items) =
    ap (λ l. length (entries_of l)) c.as_slice.ensures.value in
    omega (arith, same, c.self.invariant.bounded, c.self.invariant.fits)
