-- The grammar of commands, and what the tokens of a command are.
use Rattle.std.specs.Prelude.{List}
use Rattle.lf_syntax.specs.Predictive.{Grammar}
use Rattle.lf_syntax.specs.Predictive as predictive
use Rattle.lf_syntax.specs.Piece.{Piece}
use Rattle.lf_syntax.specs.Symbol.{Symbol, Tree, command}
use Rattle.lf_syntax.specs.declared.command.Command.{Command}
use Rattle.lf_syntax.specs.Row.{first_row}
use Rattle.lf_syntax.specs.Rows.{rows, without}

abbrev pub grammar : Grammar
grammar = record { S = Symbol; T = Piece; Tree = Tree; begin = λ x p. first_row (rows x) p.class p.at; without = without }

-- The tokens are those of this command.
abbrev pub Derives : List Piece → Command → Type 0
Derives ts c = predictive.Derives grammar command ts c

-- The tokens begin a command.
abbrev pub Begins : List Piece → Type 0
Begins ts = predictive.Begins grammar command ts

-- The last tokens are those from the first one on that doesn't belong.
abbrev pub BadAt : List Piece → List Piece → Type 0
BadAt ts last = predictive.BadAt grammar command ts last

-- All tokens begin a command and are none.
abbrev pub EndsEarly : List Piece → Type 0
EndsEarly ts = predictive.EndsEarly grammar command ts

-- What the tokens of a command are: a command; or none, with the tokens from the first one on that doesn't belong; or a beginning.
pub data Answer : Type 0 where
  is_command : Command → Answer
  is_bad : List Piece → Answer
  is_short : Answer

abbrev pub IsAnswer : List Piece → Answer → Type 0
IsAnswer ts (is_command c) = Derives ts c
IsAnswer ts (is_bad last) = BadAt ts last
IsAnswer ts is_short = EndsEarly ts
