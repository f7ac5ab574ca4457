-- The text and the severity of each message: those of docs/messages.md. A part that is a name is dotted, one that is a number in decimal,
-- and one that is a printed term stands as it was printed.
use Rattle.std.specs.Prelude.{ℕ, List, [], ◌∷◌, ◌++◌, codes, decimal, flat_map}
use Rattle.lf_name.specs.Name.{Path}
use Rattle.lf_msg.specs.Names.{dotted, behind_comma}
use Rattle.lf_msg.specs.declared.syntax.SyntaxError.{SyntaxError}
use Rattle.lf_msg.specs.declared.syntax.SyntaxError.TheVariants as syntax
use Rattle.lf_msg.specs.declared.naming.NamingError.{NamingError}
use Rattle.lf_msg.specs.declared.naming.NamingError.TheVariants as naming
use Rattle.lf_msg.specs.declared.elaboration.ElaborationError.{ElaborationError}
use Rattle.lf_msg.specs.declared.elaboration.ElaborationError.TheVariants as elaboration
use Rattle.lf_msg.specs.declared.proof.ProofItem.{ProofItem}
use Rattle.lf_msg.specs.declared.proof.ProofItem.TheVariants as item
use Rattle.lf_msg.specs.declared.proof.ProofError.{ProofError}
use Rattle.lf_msg.specs.declared.proof.ProofError.TheVariants as proof
use Rattle.lf_msg.specs.declared.kernel.KernelError.{KernelError}
use Rattle.lf_msg.specs.declared.kernel.KernelError.TheVariants as kernel
use Rattle.lf_msg.specs.declared.equation.EquationError.{EquationError}
use Rattle.lf_msg.specs.declared.equation.EquationError.TheVariants as equation
use Rattle.lf_msg.specs.declared.info.Info.{Info}
use Rattle.lf_msg.specs.declared.info.Info.TheVariants as info
use Rattle.lf_msg.specs.declared.diagnostic.Diagnostic.{Diagnostic}
use Rattle.lf_msg.specs.declared.diagnostic.Diagnostic.TheVariants as says
use Rattle.lf_msg.specs.declared.message.Severity.{Severity}
use Rattle.lf_msg.specs.declared.message.Severity.TheVariants as severity
use Rattle.lf_msg.specs.declared.message.Message.{Message}

-- ---- Errors

abbrev pub syntax_text : SyntaxError → List ℕ
syntax_text syntax.UnexpectedToken = codes "unexpected token"
syntax_text syntax.UnexpectedEnd = codes "unexpected end of command"
syntax_text syntax.BadCharacter = codes "bad character"
syntax_text syntax.UnclosedComment = codes "unclosed comment"
syntax_text syntax.BadNumeral = codes "bad numeral"
syntax_text syntax.WideNumeral = codes "numeral of more than 128 bits"
syntax_text syntax.NestedTooDeeply = codes "nested too deeply"

abbrev pub naming_text : NamingError → List ℕ
naming_text (naming.Reserved n) = codes "reserved name " ++ dotted n
naming_text (naming.Duplicate n) = codes "duplicate declaration " ++ dotted n
naming_text (naming.TooManyLevelNames limit) = codes "more than " ++ (decimal limit ++ codes " level names")
naming_text (naming.DuplicateLevel n) = codes "duplicate level " ++ dotted n
naming_text naming.MismatchedEnd = codes "mismatched end"
naming_text (naming.UnknownModule n) = codes "unknown module " ++ dotted n

abbrev pub elaboration_text : ElaborationError → List ℕ
elaboration_text (elaboration.UnknownIdentifier n) = codes "unknown identifier " ++ dotted n
elaboration_text (elaboration.WrongLevelCount n) = codes "wrong number of levels for " ++ dotted n
elaboration_text (elaboration.UnknownLevel n) = codes "unknown level " ++ dotted n
elaboration_text elaboration.LevelAbove32 = codes "level above 32"
elaboration_text (elaboration.TypeMismatch A B) = codes "type mismatch: has type " ++ (A ++ (codes " but is expected to have type " ++ B))
elaboration_text (elaboration.FunctionExpected A) = codes "function expected: term has type " ++ A
elaboration_text (elaboration.TypeExpected A) = codes "type expected: has type " ++ A
elaboration_text elaboration.UndeterminedPlaceholder = codes "cannot determine a placeholder"
elaboration_text elaboration.UndeterminedLevel = codes "cannot determine a level"
elaboration_text (elaboration.NoInstance G) = codes "failed to synthesize " ++ G

abbrev pub item_text : ProofItem → List ℕ
item_text item.Intro = codes "intro"
item_text item.Assumption = codes "assumption"
item_text item.Rw = codes "rw"
item_text item.Unfold = codes "unfold"
item_text item.Induction = codes "induction"
item_text item.Cases = codes "cases"
item_text item.Injection = codes "injection"

abbrev pub proof_text : ProofError → List ℕ
proof_text proof.NoGoals = codes "no goals"
proof_text (proof.BlocksExpected k) = decimal k ++ codes " blocks expected"
proof_text (proof.UnsolvedGoal G) = codes "unsolved goal " ++ G
proof_text (proof.Failed i) = item_text i ++ codes " failed"

abbrev pub kernel_text : KernelError → List ℕ
kernel_text (kernel.UnknownConstant n) = codes "unknown constant " ++ dotted n
kernel_text (kernel.WrongLevelCount n) = codes "wrong number of levels for " ++ dotted n
kernel_text (kernel.FunctionExpected A) = codes "function expected, type is " ++ A
kernel_text (kernel.Argument A B) = codes "argument has type " ++ (A ++ (codes " but " ++ (B ++ codes " is expected")))
kernel_text (kernel.TypeExpected A) = codes "type expected, type is " ++ A
kernel_text (kernel.Value A B) = codes "value has type " ++ (A ++ (codes " but " ++ (B ++ codes " is expected")))
kernel_text kernel.NotClosed = codes "term is not closed"
kernel_text (kernel.StructureExpected A) = codes "structure expected, type is " ++ A
kernel_text (kernel.NotPositive c k) = codes "constructor " ++ (dotted c ++ (codes ", field " ++ (decimal k ++ codes ": not positive")))
kernel_text (kernel.BadResult c) = codes "constructor " ++ (dotted c ++ codes ": bad result")
kernel_text (kernel.LevelTooHigh c k) = codes "constructor " ++ (dotted c ++ (codes ", field " ++ (decimal k ++ codes ": level too high")))
kernel_text kernel.BadType = codes "bad type"

abbrev pub equation_text : EquationError → List ℕ
equation_text equation.NotInductive = codes "not an inductive argument"
equation_text (equation.NotACase c) = dotted c ++ codes " is not a case"
equation_text (equation.Twice c) = codes "case " ++ (dotted c ++ codes " twice")
equation_text (equation.Missing c) = codes "missing case " ++ dotted c
equation_text (equation.NotStructural c) = codes "recursion is not structural in case " ++ dotted c

-- ---- Infos

-- What is said of a constant that reaches these axioms, behind its name.
abbrev pub reached_text : List Path → List ℕ
reached_text [] = codes " does not depend on any axioms"
reached_text (first ∷ rest) = codes " depends on axioms: [" ++ (dotted first ++ (flat_map behind_comma rest ++ codes "]"))

abbrev pub info_text : Info → List ℕ
info_text (info.Checked e A) = e ++ (codes " : " ++ A)
info_text (info.Reduced e) = e
info_text (info.Axioms n axioms) = dotted n ++ reached_text axioms

-- ---- All

abbrev pub text_of : Diagnostic → List ℕ
text_of (says.Syntax e) = syntax_text e
text_of (says.Naming e) = naming_text e
text_of (says.Elaboration e) = elaboration_text e
text_of (says.Proof e) = proof_text e
text_of (says.Kernel e) = codes "kernel: " ++ kernel_text e
text_of (says.Equation e) = equation_text e
text_of says.NotAStructure = codes "not a structure"
text_of says.BudgetSpent = codes "budget spent"
text_of says.UsesSorry = codes "declaration uses sorry"
text_of (says.Info a) = info_text a

abbrev pub severity_of : Diagnostic → Severity
severity_of (says.Syntax e) = severity.Error
severity_of (says.Naming e) = severity.Error
severity_of (says.Elaboration e) = severity.Error
severity_of (says.Proof e) = severity.Error
severity_of (says.Kernel e) = severity.Error
severity_of (says.Equation e) = severity.Error
severity_of says.NotAStructure = severity.Error
severity_of says.BudgetSpent = severity.Error
severity_of says.UsesSorry = severity.Warning
severity_of (says.Info a) = severity.Info

-- How a severity is written in a report.
abbrev pub severity_text : Severity → List ℕ
severity_text severity.Error = codes "error"
severity_text severity.Warning = codes "warning"
severity_text severity.Info = codes "info"

-- The message that says this at a place.
abbrev pub message_of : ℕ → Diagnostic → Message
message_of at d = record { at = at; severity = severity_of d; text = text_of d }
