use Rattle.lf_kernel_laws.proofs.Calls.{declaration_is_admitted, declaration_is_derived}
use Rattle.lf_kernel_laws.proofs.add_inductive.Goals as goal

pub returns-clause-admitted : goal.returns-clause-admitted
returns-clause-admitted g c = declaration_is_admitted _ _ _ _ _ _ _ c.add_inductive.ensures.value

pub returns-clause-derived : goal.returns-clause-derived
returns-clause-derived g c = declaration_is_derived _ _ _ _ _ _ _ c.add_inductive.ensures.value
