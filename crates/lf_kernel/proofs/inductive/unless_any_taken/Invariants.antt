use Rattle.std.proofs.Common.{◌≡◌, drop}
use Rattle.lf_kernel.specs.Checked.{names_untaken}
use Rattle.lf_kernel.proofs.inductive.unless_any_taken.Given as goal

-- what is asked of the others, beside the names so far
abbrev pub invariant-constructors : goal.invariant-constructors
invariant-constructors l =
    names_untaken l.view l.fn.taken.items l.ctors l.fn.units ≡ names_untaken l.view l.taken.items (drop l.ctor-index l.ctors) l.units
