use Rattle.std.proofs.lemmas.List.Elements.{Contains-append_left}
use Rattle.lf_inductive_laws.specs.Ordinary.{NumbersStay}
use Rattle.lf_inductive_laws.proofs.Distinct.{derived_is_distinct}

pub numbers_stay : NumbersStay
numbers_stay = record {
  kept = λ base rest o c w. Contains-append_left base rest c (o c w);
  no_other = λ E h o c d w v e. derived_is_distinct E h d c v (o c w) e;
}
