use Rattle.std.proofs.Common.{◌≡◌, ◌++◌, length, filter, not, reverse}
use Rattle.lf_elaboration.specs.Closing.{is_from}
use Rattle.lf_forms.proofs.block.split_from.Given as goal

abbrev pub invariant-holes : goal.invariant-holes
invariant-holes l = record {
  taken : l.taken.items ++ filter (is_from l.from) (reverse l.rest.items) ≡ filter (is_from l.from) l.fn.holes.items;
  left : l.left.items ++ filter (λ h. not (is_from l.from h)) (reverse l.rest.items) ≡ filter (λ h. not (is_from l.from h)) l.fn.holes.items;
}

abbrev pub decreases-holes : goal.decreases-holes
decreases-holes l = length l.rest.items
