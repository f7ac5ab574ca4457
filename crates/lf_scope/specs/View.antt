-- What the parts of a scope stand for in the definition of scopes.
use Rattle.std.specs.Prelude.{Option, Some, None, List, [], map, flat_map, reverse}
use Rattle.lf_name.specs.Name.{Path}
use Rattle.lf_syntax.specs.TermNode.{binders_tree}
use Rattle.lf_elaboration.specs.Scope as scope
use Rattle.lf_elaboration.specs.Scope.{names_of}
use Rattle.lf_scope.specs.declared.holding.Holding.{Holding}
use Rattle.lf_scope.specs.declared.holding.Enclosing.{Enclosing}

-- A name that may be left out, which is then empty.
abbrev pub path_of : Option Path → Path
path_of None = []
path_of (Some n) = n

abbrev pub holding_of : Holding → scope.Holding
holding_of h =
    record {
      namespace = path_of h.namespace;
      opened = flat_map names_of h.opened;
      universes = flat_map names_of h.universes;
      variables = flat_map (λ bs. map binders_tree bs) h.variables;
    }

abbrev pub enclosing_of : Enclosing → scope.Enclosing
enclosing_of e = record { closed_by = e.closed_by; before = holding_of e.before }

-- The latest of the scopes that enclose this one is the innermost.
abbrev pub scope_of : Holding → List Enclosing → List Path → List Path → scope.Scope
scope_of h es cs is =
    record { holding = holding_of h; enclosing = reverse (map enclosing_of es); classes = cs; instances = is }
