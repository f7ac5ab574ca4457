-- What the machine gives for the tokens of a command and for a text, and what is said of it.
use Rattle.std.specs.Prelude.{◌≡◌, ◌↔◌, ℕ, zero, suc, List, [], ◌∷◌, length, take, drop, None, Some}
use Rattle.std.specs.List.{prefix_len}
use Rattle.lf_syntax.specs.declared.leaf.SyntaxFault.TheVariants.{Token, End, Deep}
use Rattle.lf_syntax.specs.Classes.{pieces_of}
use Rattle.lf_syntax.specs.declared.leaf.SyntaxFault.{SyntaxFault}
use Rattle.lf_syntax.specs.declared.command.Command.TheVariants.{Bad}
use Rattle.lf_syntax.specs.Document.{IsCommand, CommandsOf, first_deep, fault_of, end_of, inside}
use Rattle.lf_syntax.specs.Piece.{Piece}
use Rattle.lf_syntax.specs.Symbol.{command}
use Rattle.lf_syntax.specs.declared.command.Command.{Command}
use Rattle.lf_syntax.specs.Grammar.{grammar, Derives, Begins, BadAt, Answer, IsAnswer, is_command, is_bad, is_short}
use Rattle.lf_grammar_lemmas.specs.Machine.{Outcome, Done, Stuck, Short, run}

-- Where the machine ends that begins with the symbol of commands alone.
abbrev pub outcome : List Piece → Outcome Piece Command
outcome ts = run grammar ts (command ∷ []) (λ c. c)

abbrev pub answer_of : Outcome Piece Command → Answer
answer_of (Done c) = is_command c
answer_of (Stuck last) = is_bad last
answer_of Short = is_short

-- A list of tokens has exactly one answer.
abbrev pub OneAnswer : Type 0
OneAnswer = (ts : List Piece) → (a : Answer) × IsAnswer ts a × ((b : Answer) → IsAnswer ts b → b ≡ a)

-- The machine gives it.
abbrev pub MachineAnswers : Type 0
MachineAnswers = (ts : List Piece) (a : Answer) → IsAnswer ts a ↔ (answer_of (outcome ts) ≡ a)

abbrev pub Complete : Type 0
Complete = (ts : List Piece) (c : Command) → Derives ts c → outcome ts ≡ Done c

abbrev pub Sound : Type 0
Sound = (ts : List Piece) (c : Command) → outcome ts ≡ Done c → Derives ts c

-- What doesn't stop the machine begins a command.
abbrev pub Completable : Type 0
Completable = (ts : List Piece) → ((last : List Piece) → outcome ts ≡ Stuck last → ⊥) → Begins ts

-- The machine stops at the first token that doesn't belong.
abbrev pub StuckIsLocal : Type 0
StuckIsLocal = (ts last : List Piece) → outcome ts ≡ Stuck last → BadAt ts last

-- The command that an answer stands for.
abbrev pub command_for : List Piece → Answer → Command
command_for ts (is_command c) = c
command_for ts (is_bad []) = Bad 0 Token
command_for ts (is_bad (t ∷ more)) = Bad t.at (fault_of t.class)
command_for ts is_short = Bad (end_of ts) End

-- The command that the machine finds, nesting first.
abbrev pub machine_command : List Piece → Command
machine_command ts = elim (first_deep ts) [ Some t ↦ Bad t.at Deep | None ↦ command_for ts (answer_of (outcome ts)) ]

-- The commands that it finds in at most so many tokens.
abbrev pub machine_commands : ℕ → List Piece → List Command
machine_commands zero ts = []
machine_commands (suc n) [] = []
machine_commands (suc n) (t ∷ ts) =
    machine_command (t ∷ take (prefix_len inside ts) ts) ∷ machine_commands n (drop (prefix_len inside ts) ts)

-- The tokens of a command are exactly one command, bad ones among them.
abbrev pub OneCommand : Type 0
OneCommand = (ts : List Piece) → (c : Command) × IsCommand ts c × ((d : Command) → IsCommand ts d → d ≡ c)

-- The machine finds the commands of a text.
abbrev pub MachineDocument : Type 0
MachineDocument = (bytes : List ℕ) → CommandsOf bytes (machine_commands (length (pieces_of bytes)) (pieces_of bytes))

-- A text has exactly one list of commands.
abbrev pub OneDocument : Type 0
OneDocument = (bytes : List ℕ) → (cs : List Command) × CommandsOf bytes cs × ((ds : List Command) → CommandsOf bytes ds → ds ≡ cs)

-- No derivation gives a bad command: a command is bad only by its nesting, its first token that doesn't belong, or its end.
abbrev pub NeverBad : Type 0
NeverBad = (ts : List Piece) (at : ℕ) (f : SyntaxFault) → Derives ts (Bad at f) → ⊥
