-- The extension law of realized constants, as tasks.
use Rattle.std.proofs.Common.{refl, subst}
use Rattle.lf_elaboration.specs.Realizers.{Realized, makes, makes_none, waits, realize}
use Rattle.lf_elaboration_laws.specs.Extension.{KeptRealized}
use Rattle.lf_elaboration_laws.proofs.Realizing.{realizing_extends}
use Rattle.lf_document.specs.Setting.{nesting}
use Rattle.lf_document.specs.TaskValue.{real_outcome}
use Rattle.lf_document_laws.specs.Extension.{KeptOutcome, RealValuesExtend}

kept_real : (r s : Realized) → KeptRealized r s → KeptOutcome (real_outcome r) (real_outcome s)
kept_real (makes c) s h = subst (λ q. KeptOutcome (real_outcome (makes c)) (real_outcome q)) h refl
kept_real makes_none s h = subst (λ q. KeptOutcome (real_outcome makes_none) (real_outcome q)) h refl
kept_real (waits k) s h = tt

pub real_values_extend : RealValuesExtend
real_values_extend U V x units n = kept_real (realize U units nesting n) (realize V units nesting n) (realizing_extends U V x units nesting n)
