use Rattle.std.proofs.Common.{◌≡◌, ◌++◌, drop}
use Rattle.lf_syntax.specs.Classes.{pieces}
use Rattle.lf_parse_term.specs.View.{views}
use Rattle.lf_parse_cmd.proofs.piece.with_numbers.Given as goal

abbrev pub invariant-tokens : goal.invariant-tokens
invariant-tokens l = views l.all.items ++ pieces l.fn.text (drop l.index l.tokens) (drop l.index l.numbers) ≡ pieces l.fn.text l.tokens l.numbers
