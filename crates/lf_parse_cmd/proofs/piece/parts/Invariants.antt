use Rattle.std.proofs.Common.{◌≡◌, ◌++◌, length}
use denote.Text.{Utf8}
use denote.Shadow.{shadow}
use Rattle.lf_syntax.specs.Classes.{parts_of}
use Rattle.lf_parse_cmd.proofs.piece.parts.Given as goal

abbrev pub invariant-parts : goal.invariant-parts
invariant-parts l = shadow (Utf8 l.rest) × (l.parts ++ parts_of l.rest ≡ parts_of l.fn.text)

abbrev pub decreases-parts : goal.decreases-parts
decreases-parts l = length l.rest
