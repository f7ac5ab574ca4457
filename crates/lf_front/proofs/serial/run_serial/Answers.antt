use Rattle.std.proofs.Common.{sym}
use Rattle.lf_front.proofs.Ending.{accepted_derived, means_one, means_some, bad_meant, part_written}
use Rattle.lf_front.specs.Meaning.{bad_words}
use Rattle.lf_front.specs.declared.status.Status.TheVariants as status
use Rattle.lf_front.proofs.serial.run_serial.Goals as goal

pub returns-in-Done-clause-derived : goal.returns-in-Done-clause-derived
returns-in-Done-clause-derived g c = accepted_derived

pub returns-in-Failed-clause-derived : goal.returns-in-Failed-clause-derived
returns-in-Failed-clause-derived g c = accepted_derived

pub returns-clause-derived : goal.returns-clause-derived
returns-clause-derived g c = accepted_derived

pub returns-in-Done-clause-one : goal.returns-in-Done-clause-one
returns-in-Done-clause-one g c = λ bytes text other s t. means_one _ bytes text other s t

pub returns-in-Failed-clause-one : goal.returns-in-Failed-clause-one
returns-in-Failed-clause-one g c = λ bytes text other s t. means_one _ bytes text other s t

pub returns-clause-one : goal.returns-clause-one
returns-clause-one g c = λ bytes text other s t. means_one _ bytes text other s t

pub returns-in-Done-clause-some : goal.returns-in-Done-clause-some
returns-in-Done-clause-some g c = λ bytes none. means_some _ bytes none

pub returns-in-Failed-clause-some : goal.returns-in-Failed-clause-some
returns-in-Failed-clause-some g c = λ bytes none. means_some _ bytes none

pub returns-clause-some : goal.returns-clause-some
returns-clause-some g c = λ bytes none. means_some _ bytes none

pub returns-in-Failed-clause-gives : goal.returns-in-Failed-clause-gives
returns-in-Failed-clause-gives g c = (
  c.in-Failed.ensures.gives.0,
  part_written _ _ _ _ bad_words status.BadWords
      (bad_meant _ _ (sym c.if-not-asks_for_check.ensures)) c.in-Failed.ensures.gives.1,
)
