-- Declarations that the rules of admission keep out, in whatever environment: no test, budget or limit is asked.
use Rattle.std.specs.Prelude.{Bool, true}
use Rattle.lf_rules.specs.Environment.{Environment}
use Rattle.lf_rules.specs.Inductive.{Admitted}
use Rattle.lf_core.specs.declared.constant.IndDecl.{IndDecl}
use Rattle.lf_examples.specs.Declarations.{or_declaration}
use Rattle.lf_examples.specs.Refused.{
  bad,
  nested,
  other_levels,
  end_at_other_levels,
  index_missing,
  index_too_many,
  renamed_inside,
  in_projected_type,
  in_own_projection,
}

abbrev pub KeptOut : IndDecl → Type 0
KeptOut d = (E : Environment) (large : Bool) → Admitted E d large → ⊥

-- It may be admitted, and then eliminates into `Prop` alone.
abbrev pub KeptInProp : IndDecl → Type 0
KeptInProp d = (E : Environment) → Admitted E d true → ⊥

pub record RulesKeepOut : Type 0 where
  -- a field with the type in a domain, in an argument of another type, at other levels than the type's own
  pub in_a_domain : KeptOut bad
  pub in_another_type : KeptOut nested
  -- in the type of a term whose projection is the field's type, and as the structure of a projection
  pub under_a_projection : KeptOut in_projected_type
  pub as_a_structure : KeptOut in_own_projection
  pub field_at_other_levels : KeptOut other_levels
  -- an end at other levels, with too few and with too many indices
  pub end_at_levels : KeptOut end_at_other_levels
  pub too_few_indices : KeptOut index_missing
  pub too_many_indices : KeptOut index_too_many
  -- a parameter's type with another binder's name in it
  pub other_parameter : KeptOut renamed_inside
  -- a proposition with two constructors
  pub two_constructors : KeptInProp or_declaration
