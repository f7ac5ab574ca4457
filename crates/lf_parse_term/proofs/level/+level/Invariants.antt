use Rattle.std.proofs.Common.{◌≡◌, ℕ, ◌+◌, ◌*◌, ◌≤◌, length}
use Rattle.lf_syntax.specs.Symbol as symbol
use Rattle.lf_parse_term.specs.Descent.{behind, read}
use Rattle.lf_parse_term.specs.View.{views}
use Rattle.lf_parse_term.proofs.level.+level.Given as goal

abbrev pub decreases-some_atom : goal.decreases-some_atom
decreases-some_atom l = 4 * length l.toks.now

abbrev pub decreases-level_atom : goal.decreases-level_atom
decreases-level_atom l = 4 * length l.toks.now + 1

abbrev pub decreases-level_atoms : goal.decreases-level_atoms
decreases-level_atoms l = 4 * length l.toks.now + 1

abbrev pub decreases-imax_rest : goal.decreases-imax_rest
decreases-imax_rest l = 4 * length l.toks.now + 2

abbrev pub decreases-max_rest : goal.decreases-max_rest
decreases-max_rest l = 4 * length l.toks.now + 2

abbrev pub decreases-level : goal.decreases-level
decreases-level l = 4 * length l.toks.now + 3

abbrev pub invariant-level_atoms-list : goal.invariant-level_atoms-list
invariant-level_atoms-list l = record {
  told : behind l.fn.parts.items (read symbol.level_atoms (views l.fn.toks)) ≡ behind l.all.items (read symbol.level_atoms (views l.rest));
  shorter : length l.rest ≤ length l.fn.toks;
}

abbrev pub decreases-level_atoms-list : goal.decreases-level_atoms-list
decreases-level_atoms-list l = length l.rest
