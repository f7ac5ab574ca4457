use Rattle.std.proofs.Common.{◌≡◌, ◌≤◌, length}
use Rattle.lf_syntax.specs.Symbol as symbol
use Rattle.lf_parse_term.specs.Descent.{behind, read}
use Rattle.lf_parse_term.specs.View.{views}
use Rattle.lf_parse_decl.proofs.helper.more_helpers.Given as goal

abbrev pub invariant-list : goal.invariant-list
invariant-list l = record {
  told : behind l.fn.first.items (read symbol.more_helpers (views l.fn.toks)) ≡ behind l.all.items (read symbol.more_helpers (views l.rest));
  shorter : length l.rest ≤ length l.fn.toks;
}

abbrev pub decreases-list : goal.decreases-list
decreases-list l = length l.rest
