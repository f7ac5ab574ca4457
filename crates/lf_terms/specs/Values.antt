-- The code's values as the definition's.
use Rattle.lf_elaboration.specs.Part as spec
use Rattle.lf_elaboration.specs.Terms as terms
use Rattle.lf_terms.specs.declared.trees.Named.{Named}
use Rattle.lf_terms.specs.declared.walking.Trailing.{Trailing}
use Rattle.lf_terms.specs.declared.walking.Trailing.TheVariants.{Given, LeftOpen}

abbrev pub trailing : Trailing → spec.Trailing
trailing Given = spec.given
trailing LeftOpen = spec.left_open

abbrev pub named : Named → terms.Named
named n = record { at_sign = n.at_sign; name = n.name.now; levels = n.levels.now }
