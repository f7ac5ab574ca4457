-- In a derived environment, what a constant says of an inductive declaration is what the declaration says.
use Rattle.std.specs.Prelude.{◌≡◌, ℕ, zero, suc, ◌+◌, Bool, Some, List, length, slice_get, Contains}
use Rattle.lf_core.specs.Term.{Path, Universe, Term, const, pi}
use Rattle.lf_core.specs.Spine.{apply}
use Rattle.lf_rules.specs.Environment.{Environment}
use Rattle.lf_rules.specs.Recursor.{recursor_of}
use Rattle.lf_rules.specs.Inductive.{type_constant, constructor_constant, declared_constants}
use Rattle.lf_rules.specs.Derived.{Derived, Introduced}
use Rattle.lf_core.specs.declared.constant.ConstInfo.{ConstInfo}
use Rattle.lf_core.specs.declared.constant.CtorInfo.{CtorInfo}
use Rattle.lf_core.specs.declared.constant.Detail.TheVariants.{Ind, Ctor, Rec}
use Rattle.lf_core.specs.declared.constant.IndDecl.{IndDecl}

-- A declaration that was introduced into a derived environment, and whose constants all stand in E.
pub record Introduction (E : Environment) : Type 0 where
  pub before : Environment
  pub declaration : IndDecl
  pub large : Bool
  pub derived : Derived before
  pub introduced : Introduced before declaration large
  pub within : (c : ConstInfo) → Contains (declared_constants declaration large) c → Contains E c

pub record TypeDeclared (E : Environment) (c : ConstInfo) : Type 0 where
  pub at : Introduction E
  pub is : c ≡ type_constant at.declaration at.large

-- The constructor of this index.
pub record ConstructorDeclared (E : Environment) (c : ConstInfo) : Type 0 where
  pub at : Introduction E
  pub index : ℕ
  pub constructor : CtorInfo
  pub listed : slice_get at.declaration.ctors index ≡ Some constructor
  pub is : c ≡ constructor_constant at.declaration index constructor

pub record RecursorDeclared (E : Environment) (c : ConstInfo) : Type 0 where
  pub at : Introduction E
  pub is : c ≡ recursor_of at.declaration at.large

-- The type is n pis and then the constant T at m arguments.
abbrev pub EndsIn : Path → ℕ → ℕ → Term → Type 0
EndsIn T zero m A = (ls : List Universe) × (xs : List Term) × (A ≡ apply (const T ls) xs) × (length xs ≡ m)
EndsIn T (suc n) m (pi x A B) = EndsIn T n m B
EndsIn T (suc n) m _ = ⊥

-- The constructor's type is pis over parameters and fields, and then its type at all parameters and indices; it has as many levels as its type.
abbrev pub IsOf : ConstInfo → ℕ → ℕ → ConstInfo → Type 0
IsOf t n m c = EndsIn t.name n m c.ty × (length c.levels ≡ length t.levels)

pub record AsDeclared (E : Environment) : Type 0 where
  pub types : (c : ConstInfo) (params indices : ℕ) (names : List Path) (large : Bool) → Contains E c → c.detail ≡ Ind params indices names large
      → TypeDeclared E c
  pub constructors : (c : ConstInfo) (ind : Path) (index own fields : ℕ) → Contains E c → c.detail ≡ Ctor ind index own fields → ConstructorDeclared E c
  pub recursors : (c : ConstInfo) (ind : Path) (params minors indices : ℕ) (rules : List Term) → Contains E c → c.detail ≡ Rec ind params minors indices rules
      → RecursorDeclared E c
  -- two constants of one name are one
  pub distinct : (c d : ConstInfo) → Contains E c → Contains E d → c.name ≡ d.name → c ≡ d
  pub ends : (t c : ConstInfo) (params indices index own fields : ℕ) (names : List Path) (large : Bool) → Contains E t → Contains E c
      → t.detail ≡ Ind params indices names large → c.detail ≡ Ctor t.name index own fields
      → IsOf t (own + fields) (params + indices) c

abbrev pub DerivedIsAsDeclared : Type 0
DerivedIsAsDeclared = (E : Environment) → Derived E → AsDeclared E
