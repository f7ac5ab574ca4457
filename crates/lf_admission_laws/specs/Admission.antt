-- What the test of an inductive declaration accepts over a derived list is admitted, and keeps the list derived.
use Rattle.std.specs.Prelude.{◌≡◌, ℕ, Bool, List, [], ◌∷◌, ◌++◌, length}
use Rattle.lf_rules.specs.Environment.{Environment}
use Rattle.lf_rules.specs.Recursor.{recursor_name}
use Rattle.lf_rules.specs.Inductive.{declared_constants, with_type}
use Rattle.lf_rules.specs.Derived.{Introduced, Derived}
use Rattle.lf_core.specs.declared.constant.ConstInfo.{ConstInfo}
use Rattle.lf_core.specs.declared.constant.CtorInfo.{CtorInfo}
use Rattle.lf_core.specs.declared.constant.IndDecl.{IndDecl}
use Rattle.lf_checker.specs.View.{View}
use Rattle.lf_checker.specs.Admission.{view_with_type, add_inductive}
use Rattle.lf_checker_laws.specs.Soundness.{HeldBeside, Post}
use Rattle.lf_checker_laws.specs.Declarations.{Asked, Knows, HasBeside, HasEntry}

-- What the list has under the constructors' names are entries of the view.
abbrev pub ConstructorsHaveEntries : View → Environment → List CtorInfo → Type 0
ConstructorsHaveEntries V E [] = Unit {0}
ConstructorsHaveEntries V E (c ∷ cs) = HasEntry V E c.name × ConstructorsHaveEntries V E cs

-- What is asked of a term (crate lf_checker_laws) is asked of each constructor's type.
abbrev pub ConstructorsAsked : View → Environment → ℕ → List CtorInfo → Type 0
ConstructorsAsked V E n [] = Unit {0}
ConstructorsAsked V E n (c ∷ cs) = Asked V E n c.ty × ConstructorsAsked V E n cs

-- The list, and for constructors its own type, has what the view finds of the declaration's names, at its own levels (and the view finds
-- `Nat` for its literals); and it has what counts as named beside that type. What the list has under the names that are declared are entries of the view.
pub record Names (V : View) (E : Environment) (d : IndDecl) : Type 0 where
  pub type : Asked V E (length d.levels) d.ty
  pub constructors : ConstructorsAsked (view_with_type V d) (with_type E d) (length d.levels) d.ctors
  pub beside : HeldBeside (view_with_type V d) (with_type E d) d.name
  pub type_entry : HasEntry V E d.name
  pub constructor_entries : ConstructorsHaveEntries V E d.ctors
  pub recursor_entry : HasEntry V E (recursor_name d)

-- The constants that are given are those of the declaration, which is admitted.
pub record Admits (E : Environment) (d : IndDecl) (given : List ConstInfo) : Type 0 where
  pub large : Bool
  pub is : given ≡ declared_constants d large
  pub introduced : Introduced E d large

pub record Accepts (V : View) (E : Environment) (depth : ℕ) : Type 0 where
  pub admitted : (d : IndDecl) (u : ℕ) → Names V E d → Post (Admits E d) (add_inductive V depth d u)
  pub derived : (d : IndDecl) (u : ℕ) → Names V E d → Post (λ given. Derived (E ++ given)) (add_inductive V depth d u)

abbrev pub AdmissionIsSound : Type 0
AdmissionIsSound = (V : View) (E : Environment) → Derived E → Knows V E → HasBeside V E → (depth : ℕ) → Accepts V E depth
