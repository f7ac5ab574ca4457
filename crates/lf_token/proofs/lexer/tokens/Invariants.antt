use Rattle.std.proofs.Common.{◌≡◌, ◌≤◌, ◌-◌, ◌++◌, length, take, drop}
use Rattle.lf_text.specs.Layout.{laid_out}
use Rattle.lf_text.specs.Lexemes.{lexemes_from}
use Rattle.lf_text.specs.Tokens.{tokens_of}
use Rattle.lf_token.specs.Layouts.{Knows}
use Rattle.lf_token.specs.Places.{IsAt}
use Rattle.lf_token.proofs.lexer.tokens.Given as goal

abbrev pub invariant-pieces : goal.invariant-pieces
invariant-pieces l = record {
  within : l.done ≤ length l.cs.items;
  place : IsAt (take l.done l.cs.items) l.place;
  knows : Knows l.bytes l.layout;
  whole : l.layout.stack.tokens ++ laid_out l.bytes l.layout.previous l.layout.stack.frames (lexemes_from l.place.at 0 (drop l.done l.cs.items))
      ≡ tokens_of l.bytes;
}

abbrev pub decreases-pieces : goal.decreases-pieces
decreases-pieces l = length l.cs.items - l.done
