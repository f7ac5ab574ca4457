-- Declarations whose answer waits for a task: in a view in which the body of `f` isn't known yet.
use Rattle.std.specs.Prelude.{◌≡◌, [], ◌∷◌}
use Rattle.lf_core.specs.Term.{const, pi}
use Rattle.lf_core.specs.declared.constant.IndDecl.{IndDecl}
use Rattle.lf_core.specs.declared.constant.TaskKey.{TaskKey}
use Rattle.lf_core.specs.declared.constant.TaskKey.TheVariants.{Body, Real}
use Rattle.lf_checker.specs.Run.{need}
use Rattle.lf_checker.specs.Admission.{add_inductive}
use Rattle.lf_examples.specs.Words.{dotted, explicit, at}
use Rattle.lf_examples.specs.Refused.{with_mk, with_names, empty_of_name}
use Rattle.lf_examples.specs.Views.{document}

abbrev pub Waits : IndDecl → TaskKey → Type 0
Waits d k = add_inductive document 512 d 100000 ≡ need k

pub record Needs : Type 0 where
  -- mk (x : g) : T, where g is of the type f, which has to be reduced to a sort
  pub body_of_type : Waits (with_mk (pi (explicit "x") (at "g") (at "T"))) (Body 3)
  -- mk (x : f.aux) : T: the body of f may still declare it
  pub child_in_field : Waits (with_mk (pi (explicit "x") (const (dotted "f" "aux") []) (at "T"))) (Body 3)
  -- mk (x : h.eq_1) : T: it may still be made
  pub realized_in_field : Waits (with_mk (pi (explicit "x") (const (dotted "h" "eq_1") []) (at "T"))) (Real (dotted "h" "eq_1"))
  -- names under f: of the type, and of a constructor behind one that is new
  pub child_as_type : Waits (empty_of_name (dotted "f" "aux")) (Body 3)
  pub child_as_constructor : Waits (with_names (dotted "T" "a" ∷ dotted "f" "aux" ∷ [])) (Body 3)
