use Rattle.lf_kernel.proofs.Declarable.{passes_behind, halts_behind}
use Rattle.lf_kernel.proofs.calls.add_inductive.Goals as goal

pub returns-in-Ok-clause-value : goal.returns-in-Ok-clause-value
returns-in-Ok-clause-value g c = passes_behind _ _ _ _ _ _ _ _ _ c.in-Ok.ensures.value c.admit.ensures.value

pub returns-in-Err-clause-value : goal.returns-in-Err-clause-value
returns-in-Err-clause-value g c = halts_behind (λ v. v.items) _ _ _ _ _ _ _ _ _ c.in-Err.ensures.value c.ended.ensures
