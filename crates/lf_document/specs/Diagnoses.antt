-- What is found wrong, as reports say it: the errors of elaboration and of the kernel, of definitions by equations and of the grammar, each as
-- the message that it is.
use Rattle.std.specs.Prelude.{map}
use Rattle.lf_syntax.specs.declared.leaf.SyntaxFault.{SyntaxFault}
use Rattle.lf_syntax.specs.declared.leaf.SyntaxFault.TheVariants as fault
use Rattle.lf_equations.specs.declared.fault.EquationFault.{EquationFault}
use Rattle.lf_equations.specs.declared.fault.EquationFault.TheVariants as refused
use Rattle.lf_elaboration.specs.Messages as found
use Rattle.lf_elaboration.specs.Messages.{Node}
use Rattle.lf_msg.specs.declared.syntax.SyntaxError.{SyntaxError}
use Rattle.lf_msg.specs.declared.syntax.SyntaxError.TheVariants as syntax
use Rattle.lf_msg.specs.declared.naming.NamingError.TheVariants as naming
use Rattle.lf_msg.specs.declared.elaboration.ElaborationError.{ElaborationError}
use Rattle.lf_msg.specs.declared.elaboration.ElaborationError.TheVariants as elaboration
use Rattle.lf_msg.specs.declared.proof.ProofItem.{ProofItem}
use Rattle.lf_msg.specs.declared.proof.ProofItem.TheVariants as item
use Rattle.lf_msg.specs.declared.proof.ProofError.{ProofError}
use Rattle.lf_msg.specs.declared.proof.ProofError.TheVariants as proof
use Rattle.lf_msg.specs.declared.kernel.KernelError.TheVariants as kernel
use Rattle.lf_msg.specs.declared.equation.EquationError.{EquationError}
use Rattle.lf_msg.specs.declared.equation.EquationError.TheVariants as equation
use Rattle.lf_msg.specs.declared.diagnostic.Diagnostic.{Diagnostic}
use Rattle.lf_msg.specs.declared.diagnostic.Diagnostic.TheVariants as says
use Rattle.lf_msg.specs.declared.message.Message.{Message}
use Rattle.lf_msg.specs.Texts.{message_of}
use Rattle.lf_msg.specs.Trees.{Flat}

abbrev pub elaboration_error : found.ElaborationError → ElaborationError
elaboration_error (found.UnknownIdentifier n) = elaboration.UnknownIdentifier n
elaboration_error (found.WrongLevelCount n) = elaboration.WrongLevelCount n
elaboration_error (found.UnknownLevel n) = elaboration.UnknownLevel n
elaboration_error found.LevelAbove32 = elaboration.LevelAbove32
elaboration_error (found.TypeMismatch A B) = elaboration.TypeMismatch A B
elaboration_error (found.FunctionExpected A) = elaboration.FunctionExpected A
elaboration_error (found.TypeExpected A) = elaboration.TypeExpected A
elaboration_error found.UndeterminedPlaceholder = elaboration.UndeterminedPlaceholder
elaboration_error found.UndeterminedLevel = elaboration.UndeterminedLevel
elaboration_error (found.NoInstance G) = elaboration.NoInstance G

abbrev pub proof_item : found.ProofItem → ProofItem
proof_item found.Intro = item.Intro
proof_item found.Assumption = item.Assumption
proof_item found.Rw = item.Rw
proof_item found.Unfold = item.Unfold
proof_item found.Induction = item.Induction
proof_item found.Cases = item.Cases
proof_item found.Injection = item.Injection

abbrev pub proof_error : found.ProofError → ProofError
proof_error found.NoGoals = proof.NoGoals
proof_error (found.BlocksExpected k) = proof.BlocksExpected k
proof_error (found.UnsolvedGoal G) = proof.UnsolvedGoal G
proof_error (found.Failed i) = proof.Failed (proof_item i)

-- That a name is there already is told in the same words, whoever finds it.
abbrev pub kernel_error : found.KernelError → Diagnostic
kernel_error (found.UnknownConstant n) = says.Kernel (kernel.UnknownConstant n)
kernel_error (found.WrongLevels n) = says.Kernel (kernel.WrongLevelCount n)
kernel_error (found.FunctionWanted A) = says.Kernel (kernel.FunctionExpected A)
kernel_error (found.Argument A B) = says.Kernel (kernel.Argument A B)
kernel_error (found.TypeWanted A) = says.Kernel (kernel.TypeExpected A)
kernel_error (found.Value A B) = says.Kernel (kernel.Value A B)
kernel_error found.NotClosed = says.Kernel kernel.NotClosed
kernel_error (found.StructureWanted A) = says.Kernel (kernel.StructureExpected A)
kernel_error (found.NotPositive c k) = says.Kernel (kernel.NotPositive c k)
kernel_error (found.BadResult c) = says.Kernel (kernel.BadResult c)
kernel_error (found.LevelTooHigh c k) = says.Kernel (kernel.LevelTooHigh c k)
kernel_error found.BadType = says.Kernel kernel.BadType
kernel_error (found.Duplicate n) = says.Naming (naming.Duplicate n)

abbrev pub diagnosis : found.Diagnostic → Diagnostic
diagnosis (found.Elaboration e) = says.Elaboration (elaboration_error e)
diagnosis (found.Proof e) = says.Proof (proof_error e)
diagnosis (found.Kernel e) = kernel_error e

abbrev pub message : found.Message → Message
message m = message_of m.at (diagnosis m.says)

-- The messages of a block, and how many blocks ran in it.
abbrev pub block_node : Node → Flat
block_node n = record { messages = map message n.messages; nodes = n.nodes }

abbrev pub equation_error : EquationFault → EquationError
equation_error refused.NotInductive = equation.NotInductive
equation_error (refused.NotACase n) = equation.NotACase n
equation_error (refused.Twice n) = equation.Twice n
equation_error (refused.Missing n) = equation.Missing n
equation_error (refused.NotStructural n) = equation.NotStructural n

abbrev pub syntax_error : SyntaxFault → SyntaxError
syntax_error fault.Token = syntax.UnexpectedToken
syntax_error fault.End = syntax.UnexpectedEnd
syntax_error fault.Char = syntax.BadCharacter
syntax_error fault.Comment = syntax.UnclosedComment
syntax_error fault.Numeral = syntax.BadNumeral
syntax_error fault.Wide = syntax.WideNumeral
syntax_error fault.Deep = syntax.NestedTooDeeply
