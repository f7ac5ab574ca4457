use Rattle.std.proofs.Common.{◌≡◌, ◌+◌, drop}
use Rattle.std.specs.List.{prefix_len}
use Rattle.lf_syntax.specs.Document.{inside}
use Rattle.lf_parse_term.specs.View.{views}
use Rattle.lf_parse_cmd.proofs.document.inside.Given as goal

abbrev pub invariant-tokens : goal.invariant-tokens
invariant-tokens l = record {
  count : l.count ≡ l.piece-index;
  whole : l.count + prefix_len inside (views (drop l.piece-index l.toks)) ≡ prefix_len inside (views l.toks);
}
