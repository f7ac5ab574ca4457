-- The commands of a text.
use Rattle.std.specs.Prelude.{◌≡◌, ℕ, Bool, not, List, [], ◌∷◌, take, drop, Option, None, Some, nat_lt, find}
use Rattle.std.specs.List.{prefix_len}
use Rattle.lf_syntax.specs.declared.leaf.SyntaxFault.{SyntaxFault}
use Rattle.lf_syntax.specs.declared.leaf.SyntaxFault.TheVariants.{Token, End, Deep}
use Rattle.lf_syntax.specs.declared.command.Command.{Command}
use Rattle.lf_syntax.specs.declared.command.Command.TheVariants.{Bad}
use Rattle.lf_syntax.specs.Piece.{Class, word, name, number, operator, wrong, Piece, begins_command}
use Rattle.lf_syntax.specs.Grammar.{Derives, BadAt, EndsEarly}
use Rattle.lf_syntax.specs.Classes.{pieces_of}

-- The limit of nesting.
abbrev pub most_nested : ℕ
most_nested = 256

abbrev pub first_deep : List Piece → Option Piece
first_deep ts = find (λ t. nat_lt most_nested t.nesting) ts

-- The fault of a token where it can't stand.
abbrev pub fault_of : Class → SyntaxFault
fault_of (wrong f) = f
fault_of (word w) = Token
fault_of (name s x) = Token
fault_of (number n digits) = Token
fault_of (operator o) = Token

-- Where the last token ends.
abbrev pub end_of : List Piece → ℕ
end_of [] = 0
end_of (t ∷ []) = t.«end»
end_of (t ∷ ts) = end_of ts

-- What the tokens of one command are. Nesting is tested first.
pub data IsCommand (ts : List Piece) : Command → Type 0 where
  too_deep : (t : Piece) → first_deep ts ≡ Some t → IsCommand ts (Bad t.at Deep)
  derived : (c : Command) → first_deep ts ≡ None → Derives ts c → IsCommand ts c
  unexpected : (t : Piece) (more : List Piece) → first_deep ts ≡ None → BadAt ts (t ∷ more) → IsCommand ts (Bad t.at (fault_of t.class))
  unfinished : first_deep ts ≡ None → EndsEarly ts → IsCommand ts (Bad (end_of ts) End)

-- The tokens up to the next command.
abbrev pub inside : Piece → Bool
inside t = not (begins_command t.class)

-- The tokens are cut before each word that begins a command, and each piece is a command.
abbrev pub AreCommands : List Piece → List Command → Type 0
AreCommands ts [] = ts ≡ []
AreCommands [] (c ∷ cs) = ⊥
AreCommands (t ∷ ts) (c ∷ cs) = IsCommand (t ∷ take (prefix_len inside ts) ts) c × AreCommands (drop (prefix_len inside ts) ts) cs

-- The commands of the text with these bytes.
abbrev pub CommandsOf : List ℕ → List Command → Type 0
CommandsOf bytes cs = AreCommands (pieces_of bytes) cs
