use Rattle.std.proofs.Common.{◌≡◌, drop}
use Rattle.lf_syntax.specs.Document.{first_deep}
use Rattle.lf_parse_term.specs.View.{views}
use Rattle.lf_parse_cmd.proofs.command.first_deep.Given as goal

abbrev pub invariant-tokens : goal.invariant-tokens
invariant-tokens l = first_deep (views (drop l.piece-index l.toks)) ≡ first_deep (views l.toks)
