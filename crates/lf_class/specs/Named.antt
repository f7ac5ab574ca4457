-- A scope of which nothing but the classes and the instances is known: a walk reads no more of it.
use Rattle.std.specs.Prelude.{List}
use Rattle.lf_core.specs.Term.{Path}
use Rattle.lf_elaboration.specs.Scope.{Scope, start}

abbrev pub scope : List Path → List Path → Scope
scope classes instances = record start { classes = classes; instances = instances }
