use Rattle.lf_front.proofs.Sound.{typed_by}
use Rattle.lf_front.proofs.typing.infer.Goals as goal

pub returns-in-Ok-clause-typed : goal.returns-in-Ok-clause-typed
returns-in-Ok-clause-typed c = λ scope. typed_by _ _ _ _ _ c.as_slice.ensures.value c.in-Ok.ensures scope
