use Rattle.std.proofs.Common.{◌≡◌, ◌≤◌, ◌++◌, map, reverse, take, length}
use Rattle.lf_elaboration.specs.Scope.{names_of}
use Rattle.lf_scope.proofs.names.add_behind.Given as goal

-- the names so far, and those behind the identifiers that are left, are those of all
abbrev pub invariant-idents : goal.invariant-idents
invariant-idents l =
    record {
      within : l.count ≤ length l.idents;
      told : l.all.items ++ map (λ o. o ++ l.name) (reverse (names_of (take l.count l.idents)))
          ≡ l.fn.all.items ++ map (λ o. o ++ l.name) (reverse (names_of l.idents));
    }

abbrev pub decreases-idents : goal.decreases-idents
decreases-idents l = l.count
