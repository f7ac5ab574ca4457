use Rattle.std.proofs.Common.{◌≡◌, ◌≤◌, ◌+◌, ◌*◌, ℕ, true, length}
use Rattle.lf_syntax.specs.Tree.{terms_of}
use Rattle.lf_syntax.specs.Size.{term_size, terms_size}
use Rattle.lf_syntax.specs.Build.{level_atoms_of}
use Rattle.lf_parse_term.specs.Sort.{prefixed}
use Rattle.lf_parse_term.proofs.sort.+sort.Given as goal

abbrev pub decreases-level_of : goal.decreases-level_of
decreases-level_of l = 3 * term_size l.term.now

abbrev pub decreases-plus_level : goal.decreases-plus_level
decreases-plus_level l = 3 * term_size l.left.now + 1

abbrev pub decreases-applied_level : goal.decreases-applied_level
decreases-applied_level l = 3 * terms_size (terms_of l.args.now) + 2

abbrev pub decreases-level_atoms : goal.decreases-level_atoms
decreases-level_atoms l = 3 * terms_size (terms_of l.terms.now) + 1

abbrev pub invariant-level_atoms-list : goal.invariant-level_atoms-list
invariant-level_atoms-list l = record {
  told : level_atoms_of (terms_of l.fn.terms) ≡ prefixed l.all.items (level_atoms_of (terms_of l.rest));
  size : terms_size (terms_of l.rest) ≤ terms_size (terms_of l.fn.terms);
}

abbrev pub decreases-level_atoms-list : goal.decreases-level_atoms-list
decreases-level_atoms-list l = length l.rest
