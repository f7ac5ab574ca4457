-- Nesting numbers bound the height of trees.
use Rattle.std.specs.Prelude.{◌≡◌, ◌≤◌, ◌+◌, ◌*◌, ℕ, List, [], ◌∷◌}
use Rattle.lf_text.specs.declared.role.Role.{Role}
use Rattle.lf_text.specs.declared.role.Role.TheVariants.{Nesting, Other}
use Rattle.lf_text.specs.Roles.{word_role}
use Rattle.lf_text.specs.Nesting.{Nest, outermost, nesting_after}
use Rattle.lf_syntax.specs.Piece.{Class, word, name, number, operator, wrong, Piece}
use Rattle.lf_syntax.specs.Grammar.{Derives}
use Rattle.lf_syntax.specs.Document.{CommandsOf}
use Rattle.lf_syntax.specs.declared.command.Command.{Command}
use Rattle.lf_depth_laws.specs.Height.{command_height}

-- What a token of this class is to the rules of nesting.
abbrev pub class_role : Class → Role
class_role (word w) = word_role w
class_role (name s x) = Other
class_role (number n digits) = Other
class_role (operator o) = Nesting
class_role (wrong f) = Other

-- The tokens have their nesting numbers, and none is above a bound.
abbrev pub NestedWithin : ℕ → Nest → List Piece → Type 0
NestedWithin bound n [] = Unit {0}
NestedWithin bound n (t ∷ ts) =
    let after : Nest = nesting_after n (class_role t.class) in
    (t.nesting ≡ after.count.number) × (t.nesting ≤ bound) × NestedWithin bound after ts

-- Three nodes a number, and six for what doesn't nest.
abbrev pub ShallowCommands : Type 0
ShallowCommands = (ts : List Piece) (c : Command) (bound : ℕ) → NestedWithin bound outermost ts → Derives ts c → command_height c ≤ 3 * bound + 6

abbrev pub All : {A : Type 0} → (A → Type 0) → List A → Type 0
All P [] = Unit {0}
All P (x ∷ xs) = P x × All P xs

-- So each command of a text has at most this height.
abbrev pub ShallowTexts : Type 0
ShallowTexts = (bytes : List ℕ) (cs : List Command) → CommandsOf bytes cs → All (λ c. command_height c ≤ 774) cs
