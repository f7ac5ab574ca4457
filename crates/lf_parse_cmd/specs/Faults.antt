-- The command that tokens are, by the tokens that are left of them.
use Rattle.std.specs.Prelude.{List, [], ◌∷◌}
use Rattle.lf_syntax.specs.declared.leaf.SyntaxFault.TheVariants.{End}
use Rattle.lf_syntax.specs.declared.command.Command.{Command}
use Rattle.lf_syntax.specs.declared.command.Command.TheVariants.{Bad}
use Rattle.lf_syntax.specs.Piece.{Piece}
use Rattle.lf_syntax.specs.Document.{fault_of, end_of}

-- The tokens are bad from the first of the last ones on; where there are none, they end too early.
abbrev pub bad : List Piece → List Piece → Command
bad ts [] = Bad (end_of ts) End
bad ts (t ∷ more) = Bad t.at (fault_of t.class)

-- A command was read, and these tokens are left.
abbrev pub finished : Command → List Piece → Command
finished c [] = c
finished c (t ∷ more) = Bad t.at (fault_of t.class)
