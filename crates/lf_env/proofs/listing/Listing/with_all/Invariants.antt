use Rattle.std.proofs.Common.{◌≡◌, ◌++◌}
use Rattle.lf_env.specs.Layer.{entries_at}
use Rattle.lf_env.proofs.listing.Listing.with_all.Given as goal

abbrev pub invariant-loop-info : goal.invariant-loop-info
invariant-loop-info l = record {
  pushed : l.all ≡ l.fn.self ++ entries_at l.position l.yielded;
  left : l.yielded ++ l.info-iterator.rest.items ≡ l.fn.infos.items;
}
