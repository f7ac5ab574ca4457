-- The errors that speak of terms, as the definition has them.
use Rattle.std.specs.Prelude.{ℕ, List}
use Rattle.lf_checker.specs.Run.{Refusal}
use Rattle.lf_elaboration.specs.Messages as says
use Rattle.lf_msg.specs.declared.kernel.KernelError.{KernelError}
use Rattle.lf_steps.specs.declared.halt.Refused.{Refused}
use Rattle.lf_part.specs.declared.ended.Ended.{Ended}
use Rattle.lf_part.specs.declared.ended.Ended.TheVariants.{Failed}
use Rattle.lf_part.specs.declared.message.Diagnostic.{Diagnostic}
use Rattle.lf_part.specs.declared.message.Diagnostic.TheVariants.{Kernel}
use Rattle.lf_part.specs.declared.telling.OfOne.{OfOne}
use Rattle.lf_part.specs.declared.telling.OfOne.TheVariants.{FunctionExpected, TypeExpected, NoInstance, UnsolvedGoal, FunctionWanted, TypeWanted, StructureWanted}
use Rattle.lf_part.specs.declared.telling.OfTwo.{OfTwo}
use Rattle.lf_part.specs.declared.telling.OfTwo.TheVariants.{TypeMismatch, Argument, Value}

abbrev pub of_one : OfOne → List ℕ → says.Diagnostic
of_one FunctionExpected = says.function_expected
of_one TypeExpected = says.type_expected
of_one NoInstance = says.no_instance
of_one UnsolvedGoal = says.unsolved_goal
of_one FunctionWanted = says.function_wanted
of_one TypeWanted = says.type_wanted
of_one StructureWanted = says.structure_wanted

abbrev pub of_two : OfTwo → List ℕ → List ℕ → says.Diagnostic
of_two TypeMismatch = says.type_mismatch
of_two Argument = says.argument_has
of_two Value = says.value_has

abbrev pub failed_at : ℕ → Diagnostic → Ended
failed_at p d = Failed (record { at = p; says = d })

abbrev pub kernel_at : ℕ → KernelError → Ended
kernel_at p e = failed_at p (Kernel e)

abbrev pub refusal : Refused → Refusal
refusal r = record { fault = r.fault; opened = r.opened.items }
