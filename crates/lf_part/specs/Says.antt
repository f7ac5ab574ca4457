-- What the code says of an error, as the definition has it.
use Rattle.std.specs.Prelude.{map}
use Rattle.lf_msg.specs.declared.elaboration.ElaborationError.{ElaborationError}
use Rattle.lf_msg.specs.declared.elaboration.ElaborationError.TheVariants as elaboration
use Rattle.lf_msg.specs.declared.proof.ProofItem.{ProofItem}
use Rattle.lf_msg.specs.declared.proof.ProofItem.TheVariants as item
use Rattle.lf_msg.specs.declared.proof.ProofError.{ProofError}
use Rattle.lf_msg.specs.declared.proof.ProofError.TheVariants as proof
use Rattle.lf_msg.specs.declared.kernel.KernelError.{KernelError}
use Rattle.lf_msg.specs.declared.kernel.KernelError.TheVariants as kernel
use Rattle.lf_elaboration.specs.Messages as found
use Rattle.lf_part.specs.declared.message.Diagnostic.{Diagnostic}
use Rattle.lf_part.specs.declared.message.Diagnostic.TheVariants.{Elaboration, Proof, Kernel, Duplicate}
use Rattle.lf_part.specs.declared.message.Message.{Message}
use Rattle.lf_part.specs.declared.message.Node.{Node}

abbrev pub elaboration_error : ElaborationError → found.ElaborationError
elaboration_error (elaboration.UnknownIdentifier n) = found.UnknownIdentifier n
elaboration_error (elaboration.WrongLevelCount n) = found.WrongLevelCount n
elaboration_error (elaboration.UnknownLevel n) = found.UnknownLevel n
elaboration_error elaboration.LevelAbove32 = found.LevelAbove32
elaboration_error (elaboration.TypeMismatch A B) = found.TypeMismatch A B
elaboration_error (elaboration.FunctionExpected A) = found.FunctionExpected A
elaboration_error (elaboration.TypeExpected A) = found.TypeExpected A
elaboration_error elaboration.UndeterminedPlaceholder = found.UndeterminedPlaceholder
elaboration_error elaboration.UndeterminedLevel = found.UndeterminedLevel
elaboration_error (elaboration.NoInstance G) = found.NoInstance G

abbrev pub proof_item : ProofItem → found.ProofItem
proof_item item.Intro = found.Intro
proof_item item.Assumption = found.Assumption
proof_item item.Rw = found.Rw
proof_item item.Unfold = found.Unfold
proof_item item.Induction = found.Induction
proof_item item.Cases = found.Cases
proof_item item.Injection = found.Injection

abbrev pub proof_error : ProofError → found.ProofError
proof_error proof.NoGoals = found.NoGoals
proof_error (proof.BlocksExpected k) = found.BlocksExpected k
proof_error (proof.UnsolvedGoal G) = found.UnsolvedGoal G
proof_error (proof.Failed i) = found.Failed (proof_item i)

abbrev pub kernel_error : KernelError → found.KernelError
kernel_error (kernel.UnknownConstant n) = found.UnknownConstant n
kernel_error (kernel.WrongLevelCount n) = found.WrongLevels n
kernel_error (kernel.FunctionExpected A) = found.FunctionWanted A
kernel_error (kernel.Argument A B) = found.Argument A B
kernel_error (kernel.TypeExpected A) = found.TypeWanted A
kernel_error (kernel.Value A B) = found.Value A B
kernel_error kernel.NotClosed = found.NotClosed
kernel_error (kernel.StructureExpected A) = found.StructureWanted A
kernel_error (kernel.NotPositive c k) = found.NotPositive c k
kernel_error (kernel.BadResult c) = found.BadResult c
kernel_error (kernel.LevelTooHigh c k) = found.LevelTooHigh c k
kernel_error kernel.BadType = found.BadType

abbrev pub diagnostic : Diagnostic → found.Diagnostic
diagnostic (Elaboration e) = found.Elaboration (elaboration_error e)
diagnostic (Proof e) = found.Proof (proof_error e)
diagnostic (Kernel e) = found.Kernel (kernel_error e)
diagnostic (Duplicate n) = found.Kernel (found.Duplicate n)

abbrev pub message : Message → found.Message
message m = record { at = m.at; says = diagnostic m.says }

abbrev pub node : Node → found.Node
node n = record { messages = map message n.messages.items; nodes = n.nodes }
