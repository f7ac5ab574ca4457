use Rattle.std.proofs.Common.{◌≡◌, ◌≤◌, ◌++◌, map, take, length}
use Rattle.lf_elaboration.specs.Scope.{prefixes}
use Rattle.lf_scope.proofs.names.add_prefixed.Given as goal

-- the names so far, and those behind the prefixes that are left, are those of all
abbrev pub invariant-prefixes : goal.invariant-prefixes
invariant-prefixes l =
    record {
      within : l.count ≤ length l.first;
      told : l.all.items ++ map (λ p. p ++ l.name) (prefixes (take l.count l.first)) ≡ l.fn.all.items ++ map (λ p. p ++ l.name) (prefixes l.first);
    }

abbrev pub decreases-prefixes : goal.decreases-prefixes
decreases-prefixes l = l.count
