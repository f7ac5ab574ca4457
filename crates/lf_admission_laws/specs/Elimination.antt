-- Where a declaration that is accepted eliminates into every sort: the cases that ask for no levels of fields.
use Rattle.std.specs.Prelude.{◌≡◌, ◌≤◌, ℕ, true, Some, [], length}
use Rattle.lf_core.specs.Term.{Universe, level_zero, level_succ}
use Rattle.lf_core.specs.Size.{level_depth}
use Rattle.lf_rules.specs.Structure.{result_level}
use Rattle.lf_rules.specs.Inductive.{NeverZero, declared_constants}
use Rattle.lf_core.specs.declared.constant.IndDecl.{IndDecl}
use Rattle.lf_level.specs.Parameters.{HasNoMetavariable, parameters_of}
use Rattle.lf_checker.specs.View.{View}
use Rattle.lf_checker.specs.Admission.{add_inductive}
use Rattle.lf_checker_laws.specs.Soundness.{Post}

pub record EliminatesAsAsked : Type 0 where
  -- a type that is never a proposition, within the limits of the test of levels
  pub never_proposition : (V : View) (depth : ℕ) (d : IndDecl) (u : ℕ) (r : Universe) → result_level d.ty ≡ Some r → HasNoMetavariable r → level_depth r ≤ 1024
      → length (parameters_of (level_succ level_zero) r) ≤ 8 → NeverZero r
      → Post (λ given. given ≡ declared_constants d true) (add_inductive V depth d u)
  -- a type without constructors
  pub no_constructor : (V : View) (depth : ℕ) (d : IndDecl) (u : ℕ) → d.ctors ≡ []
      → Post (λ given. given ≡ declared_constants d true) (add_inductive V depth d u)
