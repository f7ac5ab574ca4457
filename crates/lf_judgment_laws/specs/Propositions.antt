-- Projections of propositions, beside proof irrelevance: all numbers are equal. So a structure is never in `Prop`.
-- The relation has only the rules that the collapse needs; the other rules could only add to it.
use Rattle.std.specs.Prelude.{◌≡◌, ◌+◌, ◌<◌, ℕ, false, Bool, Some, None, List, [], ◌∷◌, ◌++◌, length, slice_get, drop, Contains, codes}
use Rattle.lf_core.specs.Term.{Path, Universe, level_zero, Term, sort, const, app, pi, lit, proj}
use Rattle.lf_core.specs.Substitution.{instantiate, level_instantiate}
use Rattle.lf_core.specs.Spine.{apply}
use Rattle.lf_core.specs.Scope.{Scoped}
use Rattle.lf_rules.specs.Environment.{Environment, Context, nat_type}
use Rattle.lf_core.specs.Level.{Assignment, value_of}
use Rattle.lf_rules.specs.Structure.{result_level, FieldsWithout, IsStructure, projections, DomainAt}
use Rattle.lf_name.specs.declared.binder.Binder.{Binder}
use Rattle.lf_name.specs.declared.binder.BinderKind.TheVariants.{Explicit}
use Rattle.lf_core.specs.declared.constant.ConstInfo.{ConstInfo}
use Rattle.lf_core.specs.declared.constant.ConstKind.TheVariants.{Inductive, Constructor}
use Rattle.lf_core.specs.declared.constant.Detail.TheVariants.{Ind, Ctor}

-- A structure but for its result level, which may be any.
pub record AtAnyLevel (E : Environment) (S : Path) : Type 0 where
  pub type : ConstInfo
  pub constructor : ConstInfo
  pub params : ℕ
  pub fields : ℕ
  pub large : Bool
  pub level : Universe
  pub within : Contains E type
  pub named : type.name ≡ S
  pub detail : type.detail ≡ Ind params 0 (constructor.name ∷ []) large
  pub result : result_level type.ty ≡ Some level
  pub constructor_within : Contains E constructor
  pub constructs : constructor.detail ≡ Ctor S 0 params fields
  pub flat : FieldsWithout S params constructor.ty

mutual
  pub data FreelyEqual (E : Environment) : Context → Term → Term → Type 0 where
    symmetric : {C : Context} {a b : Term} → FreelyEqual E C a b → FreelyEqual E C b a
    transitive : {C : Context} {a b c : Term} → FreelyEqual E C a b → FreelyEqual E C b c → FreelyEqual E C a c
    projected : {C : Context} {a b : Term} (S : Path) (i : ℕ) → FreelyEqual E C a b → FreelyEqual E C (proj S i a) (proj S i b)
    field : {C : Context} {S : Path} {A : Term} (s : AtAnyLevel E S) (i : ℕ) (x : Term) (ms : List Universe) (ys : List Term) → length ys ≡ s.params + s.fields
        → slice_get (drop s.params ys) i ≡ Some x
        → Scoped 0 (length C) (apply (const s.constructor.name ms) ys) → FreelyTyped E C (proj S i (apply (const s.constructor.name ms) ys)) A
        → FreelyEqual E C (proj S i (apply (const s.constructor.name ms) ys)) x
    proof_irrelevance : {C : Context} {a b P : Term} → FreelyTyped E C a P → FreelyTyped E C b P → FreelyTyped E C P (sort level_zero) → FreelyEqual E C a b

  pub data FreelyTyped (E : Environment) : Context → Term → Term → Type 0 where
    constant : {C : Context} (c : ConstInfo) (ls : List Universe) → Contains E c → length ls ≡ length c.levels
        → FreelyTyped E C (const c.name ls) (level_instantiate ls c.ty)
    application : {C : Context} {x : Binder} {f a A B : Term} → FreelyTyped E C f (pi x A B) → FreelyTyped E C a A → FreelyTyped E C (app f a) (instantiate B a)
    literal : {C : Context} (n : ℕ) → FreelyTyped E C (lit n) nat_type
    projection : {C : Context} {t A : Term} {S : Path} (s : AtAnyLevel E S) (i : ℕ) (ls : List Universe) (ps : List Term)
        → FreelyTyped E C t (apply (const S ls) ps) → length ls ≡ length s.type.levels → length ps ≡ s.params
        → i < s.fields → DomainAt (level_instantiate ls s.constructor.ty) (ps ++ projections S i t) A → FreelyTyped E C (proj S i t) A

-- inductive Some : Prop where | mk (x : Nat)
abbrev pub some : Path
some = codes "Some" ∷ []

abbrev pub some_type : ConstInfo
some_type = record {
  name = some;
  kind = Inductive;
  levels = [];
  ty = sort level_zero;
  value = None;
  height = 0;
  detail = Ind 0 0
      ((codes "Some" ∷ codes "mk" ∷ []) ∷ []) false;
}

abbrev pub some_number : ConstInfo
some_number = record {
  name = codes "Some" ∷ codes "mk" ∷ [];
  kind = Constructor;
  levels = [];
  ty = pi (record { name = codes "x" ∷ []; kind = Explicit }) nat_type (const some []);
  value = None;
  height = 0;
  detail = Ctor some 0 0 1;
}

abbrev pub PropositionsCollapse : Type 0
PropositionsCollapse = (m n : ℕ) → FreelyEqual (some_type ∷ some_number ∷ []) [] (lit m) (lit n)

-- So the result level of a structure is never 0.
abbrev pub StructuresAreNoPropositions : Type 0
StructuresAreNoPropositions = (E : Environment) (S : Path) (s : IsStructure E S) (l : Universe) → result_level s.type.ty ≡ Some l → (a : Assignment)
    → 0 < value_of a l
