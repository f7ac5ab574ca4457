use Rattle.lf_kernel_laws.proofs.Calls.{header_is_typed, header_is_stated}
use Rattle.lf_kernel_laws.proofs.add_header.Goals as goal

pub returns-clause-typed : goal.returns-clause-typed
returns-clause-typed g c = header_is_typed _ _ _ _ _ _ _ _ c.add_header.ensures.value

pub returns-clause-stated : goal.returns-clause-stated
returns-clause-stated g c = header_is_stated _ _ _ _ _ _ _ _ c.add_header.ensures.value
