-- What a part of the work says of an error, and the tree of its messages: the one place where elaboration meets the texts of reports.
-- A `List ℕ` is a printed term.
use Rattle.std.specs.Prelude.{ℕ, suc, ◌+◌, List, [], ◌∷◌, ◌++◌}
use Rattle.lf_name.specs.Name.{Path}

pub data ElaborationError : Type 0 where
  UnknownIdentifier : Path → ElaborationError
  WrongLevelCount : Path → ElaborationError
  UnknownLevel : Path → ElaborationError
  LevelAbove32 : ElaborationError
  TypeMismatch : List ℕ → List ℕ → ElaborationError
  FunctionExpected : List ℕ → ElaborationError
  TypeExpected : List ℕ → ElaborationError
  UndeterminedPlaceholder : ElaborationError
  UndeterminedLevel : ElaborationError
  NoInstance : List ℕ → ElaborationError

-- A proof item that fails under its own name.
pub data ProofItem : Type 0 where
  Intro : ProofItem
  Assumption : ProofItem
  Rw : ProofItem
  Unfold : ProofItem
  Induction : ProofItem
  Cases : ProofItem
  Injection : ProofItem

pub data ProofError : Type 0 where
  NoGoals : ProofError
  BlocksExpected : ℕ → ProofError
  UnsolvedGoal : List ℕ → ProofError
  Failed : ProofItem → ProofError

pub data KernelError : Type 0 where
  UnknownConstant : Path → KernelError
  WrongLevels : Path → KernelError
  FunctionWanted : List ℕ → KernelError
  Argument : List ℕ → List ℕ → KernelError
  TypeWanted : List ℕ → KernelError
  Value : List ℕ → List ℕ → KernelError
  NotClosed : KernelError
  StructureWanted : List ℕ → KernelError
  NotPositive : Path → ℕ → KernelError
  BadResult : Path → KernelError
  LevelTooHigh : Path → ℕ → KernelError
  BadType : KernelError
  Duplicate : Path → KernelError

pub data Diagnostic : Type 0 where
  Elaboration : ElaborationError → Diagnostic
  Proof : ProofError → Diagnostic
  Kernel : KernelError → Diagnostic

-- At a place of the text, in bytes.
pub record Message : Type 0 where
  pub at : ℕ
  pub says : Diagnostic

-- A node of the tree: its own messages and then those of its children, in order; and how many nodes there are.
pub record Node : Type 0 where
  pub messages : List Message
  pub nodes : ℕ

abbrev pub messages_of : List Node → List Message
messages_of [] = []
messages_of (n ∷ ns) = n.messages ++ messages_of ns

abbrev pub nodes_of : List Node → ℕ
nodes_of [] = 0
nodes_of (n ∷ ns) = n.nodes + nodes_of ns

abbrev pub node : List Message → List Node → Node
node own children = record { messages = own ++ messages_of children; nodes = suc (nodes_of children) }

abbrev pub error_at : ℕ → Diagnostic → Message
error_at p d = record { at = p; says = d }

-- ---- What elaboration says

abbrev pub unknown_identifier : Path → Diagnostic
unknown_identifier n = Elaboration (UnknownIdentifier n)

abbrev pub wrong_level_count : Path → Diagnostic
wrong_level_count n = Elaboration (WrongLevelCount n)

abbrev pub unknown_level : Path → Diagnostic
unknown_level n = Elaboration (UnknownLevel n)

abbrev pub level_above_32 : Diagnostic
level_above_32 = Elaboration LevelAbove32

abbrev pub type_mismatch : List ℕ → List ℕ → Diagnostic
type_mismatch A B = Elaboration (TypeMismatch A B)

abbrev pub function_expected : List ℕ → Diagnostic
function_expected A = Elaboration (FunctionExpected A)

abbrev pub type_expected : List ℕ → Diagnostic
type_expected A = Elaboration (TypeExpected A)

abbrev pub undetermined_placeholder : Diagnostic
undetermined_placeholder = Elaboration UndeterminedPlaceholder

abbrev pub undetermined_level : Diagnostic
undetermined_level = Elaboration UndeterminedLevel

abbrev pub no_instance : List ℕ → Diagnostic
no_instance G = Elaboration (NoInstance G)

-- ---- What a block of proof items says

abbrev pub no_goals : Diagnostic
no_goals = Proof NoGoals

abbrev pub blocks_expected : ℕ → Diagnostic
blocks_expected k = Proof (BlocksExpected k)

abbrev pub unsolved_goal : List ℕ → Diagnostic
unsolved_goal G = Proof (UnsolvedGoal G)

abbrev pub item_fails : ProofItem → Diagnostic
item_fails i = Proof (Failed i)

-- ---- What the kernel says

abbrev pub unknown_constant : Path → Diagnostic
unknown_constant n = Kernel (UnknownConstant n)

abbrev pub wrong_levels : Path → Diagnostic
wrong_levels n = Kernel (WrongLevels n)

abbrev pub function_wanted : List ℕ → Diagnostic
function_wanted A = Kernel (FunctionWanted A)

abbrev pub argument_has : List ℕ → List ℕ → Diagnostic
argument_has A B = Kernel (Argument A B)

abbrev pub type_wanted : List ℕ → Diagnostic
type_wanted A = Kernel (TypeWanted A)

abbrev pub value_has : List ℕ → List ℕ → Diagnostic
value_has A B = Kernel (Value A B)

abbrev pub structure_wanted : List ℕ → Diagnostic
structure_wanted A = Kernel (StructureWanted A)

abbrev pub not_closed : Diagnostic
not_closed = Kernel NotClosed

abbrev pub not_positive : Path → ℕ → Diagnostic
not_positive c k = Kernel (NotPositive c k)

abbrev pub bad_result : Path → Diagnostic
bad_result c = Kernel (BadResult c)

abbrev pub level_too_high : Path → ℕ → Diagnostic
level_too_high c k = Kernel (LevelTooHigh c k)

abbrev pub bad_type : Diagnostic
bad_type = Kernel BadType

abbrev pub duplicate_declaration : Path → Diagnostic
duplicate_declaration n = Kernel (Duplicate n)
