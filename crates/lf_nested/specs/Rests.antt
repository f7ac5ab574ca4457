-- What stands behind a proof item, as data, and the run that it is.
use Rattle.std.specs.Prelude.{ℕ, length}
use Rattle.lf_elaboration.specs.Part.{Part, Calls}
use Rattle.lf_elaboration.specs.Direct.{Rest}
use Rattle.lf_elaboration.specs.Proof.{no_rest, left_to, prove_items}
use Rattle.lf_nested.specs.declared.behind.Behind.{Behind}
use Rattle.lf_nested.specs.declared.behind.Behind.TheVariants.{Nothing, Items}

unfoldable pub rest_of : Part → Calls → Behind → Rest
rest_of P c Nothing = no_rest
rest_of P c (Items at start is) = left_to P c at is.now (prove_items P c start is.now)

-- How many items stand behind.
abbrev pub behind_length : Behind → ℕ
behind_length Nothing = 0
behind_length (Items at start is) = length is.now
