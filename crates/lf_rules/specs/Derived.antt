-- Derived environments: each constant is right over those before it (Lean 4 reference manual, "Definitions", "Axioms" and "Inductive
-- Types"; Carneiro 2019, chapter 2, on global definitions; the word is this project's).
use Rattle.std.specs.Prelude.{◌≡◌, ◌⊎◌, Bool, Some, None, List, [], ◌∷◌, ◌++◌, length}
use Rattle.lf_core.specs.Term.{Universe, Term, sort}
use Rattle.lf_rules.specs.Environment.{Environment, Fresh, NamesDeclared, LevelsBelow}
use Rattle.lf_rules.specs.Judgment.{HasType}
use Rattle.lf_rules.specs.Inductive.{declared_constants, with_type, Admitted}
use Rattle.lf_core.specs.declared.constant.ConstInfo.{ConstInfo}
use Rattle.lf_core.specs.declared.constant.ConstKind.TheVariants.{Axiom, Def, Theorem}
use Rattle.lf_core.specs.declared.constant.CtorInfo.{CtorInfo}
use Rattle.lf_core.specs.declared.constant.Detail.TheVariants.{Plain}
use Rattle.lf_core.specs.declared.constant.IndDecl.{IndDecl}

-- A closed term of this type that names only constants of E and whose levels are those of c.
pub record Checked (E : Environment) (c : ConstInfo) (t A : Term) : Type 0 where
  pub typed : HasType E [] t A
  pub named : NamesDeclared E t
  pub levels : LevelsBelow (length c.levels) t

-- Its name is new, and its type is in a sort.
pub record Stated (E : Environment) (c : ConstInfo) : Type 0 where
  pub fresh : Fresh E c.name
  pub plain : c.detail ≡ Plain
  pub level : Universe
  pub type : Checked E c c.ty (sort level)

-- Each name is new when its turn comes.
abbrev pub AllFresh : Environment → List ConstInfo → Type 0
AllFresh E [] = Unit {0}
AllFresh E (c ∷ cs) = Fresh E c.name × AllFresh (E ++ c ∷ []) cs

-- Each constructor's type names only constants of E, and its levels are those of the declaration.
abbrev pub ConstructorsNamed : Environment → IndDecl → List CtorInfo → Type 0
ConstructorsNamed E d [] = Unit {0}
ConstructorsNamed E d (c ∷ cs) = (NamesDeclared E c.ty × LevelsBelow (length d.levels) c.ty) × ConstructorsNamed E d cs

-- An admitted declaration under new names; constructors may name the type.
pub record Introduced (E : Environment) (d : IndDecl) (large : Bool) : Type 0 where
  pub fresh : AllFresh E (declared_constants d large)
  pub admitted : Admitted E d large
  pub named : NamesDeclared E d.ty
  pub levels : LevelsBelow (length d.levels) d.ty
  pub constructors : ConstructorsNamed (with_type E d) d d.ctors

pub data Derived : Environment → Type 0 where
  empty : Derived []
  with_axiom : {E : Environment} (c : ConstInfo) → Derived E → Stated E c → c.kind ≡ Axiom → c.value ≡ None → Derived (E ++ c ∷ [])
  -- a definition or theorem has a value, of its type
  with_value : {E : Environment} (c : ConstInfo) (v : Term) → Derived E → Stated E c → (c.kind ≡ Def) ⊎ (c.kind ≡ Theorem) → c.value ≡ Some v
      → Checked E c v c.ty → Derived (E ++ c ∷ [])
  -- the type, the constructors and the recursor of an inductive declaration stand together
  with_inductive : {E : Environment} (d : IndDecl) (large : Bool) → Derived E → Introduced E d large → Derived (E ++ declared_constants d large)
