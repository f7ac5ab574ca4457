-- What the rules of reduction ask for, and what is no structure, read back from the rules: laws that a rule which asks for less would break.
use Rattle.std.specs.Prelude.{◌≡◌, ℕ, ◌+◌, None, List, [], ◌∷◌, length, Contains, codes, true}
use Rattle.lf_core.specs.Term.{Path, Universe, level_zero, level_succ, Term, sort, const, app, pi}
use Rattle.lf_core.specs.Spine.{apply}
use Rattle.lf_core.specs.Literal.{literal_operation}
use Rattle.lf_name.specs.declared.binder.BinderKind.TheVariants.{Explicit}
use Rattle.lf_core.specs.declared.constant.ConstInfo.{ConstInfo}
use Rattle.lf_core.specs.declared.constant.ConstKind.TheVariants.{Def, Inductive, Constructor}
use Rattle.lf_core.specs.declared.constant.Detail.TheVariants.{Ind, Ctor, Rec}
use Rattle.lf_rules.specs.Environment.{Environment}
use Rattle.lf_rules.specs.Step.{Step}
use Rattle.lf_rules.specs.Structure.{IsStructure}

-- A definition of this name, with as many levels.
pub record Unfolds (E : Environment) (n : Path) (ls : List Universe) : Type 0 where
  pub constant : ConstInfo
  pub within : Contains E constant
  pub named : constant.name ≡ n
  pub definition : constant.kind ≡ Def
  pub levels : length ls ≡ length constant.levels

-- A recursor of this name at all arguments before its major premise, which is a constructor of its type with all of its own.
pub record Fires (E : Environment) (n : Path) (ls : List Universe) (before : List Term) (major : Term) : Type 0 where
  pub recursor : ConstInfo
  pub within : Contains E recursor
  pub named : recursor.name ≡ n
  pub ind : Path
  pub params : ℕ
  pub minors : ℕ
  pub indices : ℕ
  pub rules : List Term
  pub recurses : recursor.detail ≡ Rec ind params minors indices rules
  pub levels : length ls ≡ length recursor.levels
  pub whole : length before ≡ params + 1 + minors + indices
  pub constructor : ConstInfo
  pub constructor_within : Contains E constructor
  pub index : ℕ
  pub own : ℕ
  pub fields : ℕ
  pub constructs : constructor.detail ≡ Ctor ind index own fields
  pub at : List Universe
  pub arguments : List Term
  pub is_built : major ≡ apply (const constructor.name at) arguments
  pub all : length arguments ≡ own + fields

-- `inductive Loop : Type | again (x : Loop) : Loop`
abbrev pub loop_name : Path
loop_name = codes "Loop" ∷ []

abbrev pub again_name : Path
again_name = codes "Loop" ∷ codes "again" ∷ []

abbrev pub loop : Term
loop = const loop_name []

abbrev pub loop_type : ConstInfo
loop_type = record {
  name = loop_name;
  kind = Inductive;
  levels = [];
  ty = sort (level_succ level_zero);
  value = None;
  height = 0;
  detail = Ind 0 0 (again_name ∷ []) true;
}

abbrev pub again : ConstInfo
again = record {
  name = again_name;
  kind = Constructor;
  levels = [];
  ty = pi (record { name = codes "x" ∷ []; kind = Explicit }) loop loop;
  value = None;
  height = 0;
  detail = Ctor loop_name 0 0 1;
}

pub record StepsAreWhole : Type 0 where
  -- a constant alone steps only by unfolding
  pub constants : (E : Environment) (n : Path) (ls : List Universe) (t : Term) → Step E (const n ls) t → Unfolds E n ls
  -- a constant at arguments that is no operation on literals steps only as a recursor that is whole
  pub recursors : (E : Environment) (n : Path) (ls : List Universe) (before : List Term) (major t : Term)
      → ((a b : ℕ) → literal_operation n a b ≡ None) → Step E (app (apply (const n ls) before) major) t → Fires E n ls before major
  -- a type with a field of itself is no structure
  pub recursive : IsStructure (loop_type ∷ again ∷ []) loop_name → ⊥
