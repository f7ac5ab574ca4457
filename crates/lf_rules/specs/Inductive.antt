-- When an inductive declaration is admitted, and the constants that it adds (Lean 4 reference manual, "Inductive Types"; Carneiro 2019,
-- chapter 2). No algorithm: each rule is read along the pis of a constructor's type.
use Rattle.std.specs.Prelude.{◌≡◌, ◌⊎◌, ◌≤◌, ◌<◌, ℕ, suc, ◌-◌, Bool, true, false, Some, None, List, [], ◌∷◌, ◌++◌, length, Contains}
use Rattle.lf_core.specs.Term.{Path, Universe, level_zero, Term, free, sort, pi}
use Rattle.lf_core.specs.Level.{Assignment, value_of, Leq, Same}
use Rattle.lf_core.specs.Spine.{apply}
use Rattle.lf_rules.specs.Environment.{Environment, Context, with, opened}
use Rattle.lf_rules.specs.Structure.{Without, result_level}
use Rattle.lf_rules.specs.Judgment.{HasType}
use Rattle.lf_rules.specs.Telescope.{Local, Telescope, pi_count}
use Rattle.lf_rules.specs.Recursor.{Family, family, self, parameters_from, recursor_of}
use Rattle.lf_name.specs.declared.binder.Binder.{Binder}
use Rattle.lf_core.specs.declared.constant.ConstInfo.{ConstInfo}
use Rattle.lf_core.specs.declared.constant.ConstKind.TheVariants.{Inductive, Constructor}
use Rattle.lf_core.specs.declared.constant.CtorInfo.{CtorInfo}
use Rattle.lf_core.specs.declared.constant.Detail.TheVariants.{Ind, Ctor}
use Rattle.lf_core.specs.declared.constant.IndDecl.{IndDecl}

abbrev pub AllWithout : Path → List Term → Type 0
AllWithout n [] = Unit {0}
AllWithout n (t ∷ ts) = Without n t × AllWithout n ts

-- The type at its own levels and parameters and at as many indices as it has, in which it doesn't stand itself.
pub record AtIndices (f : Family) (t : Term) (indices : List Term) : Type 0 where
  pub form : t ≡ apply (self f) indices
  pub whole : length indices ≡ pi_count f.rest
  pub nowhere : AllWithout f.name indices

-- Pis that end in the type at indices, with the type in no domain.
pub data Recursive (f : Family) : Term → Type 0 where
  at_indices : {t : Term} (indices : List Term) → AtIndices f t indices → Recursive f t
  over : {x : Binder} {A B : Term} → Without f.name A → Recursive f B → Recursive f (pi x A B)

abbrev pub Positive : Family → Term → Type 0
Positive f A = Without f.name A ⊎ Recursive f A

-- E, C ⊢ t: what stands in a constructor's type behind the parameters, with the levels of its fields and the indices at its end. Each field
-- is a type, positive, and, unless r is 0, of a level that is at most r, the level of the declared type.
pub data Fields (E : Environment) (f : Family) (r : Universe) : Context → Term → List Universe → List Term → Type 0 where
  end : {C : Context} {t : Term} {is : List Term} (l : Universe) → AtIndices f t is → HasType E C t (sort l) → Fields E f r C t [] is
  field : {C : Context} {x : Binder} {A B : Term} {ls : List Universe} {is : List Term} (l : Universe) → HasType E C A (sort l) → Positive f A
      → Same r level_zero ⊎ Leq l r
      → Fields E f r (with C A) (opened C B) ls is → Fields E f r C (pi x A B) (l ∷ ls) is

-- The whole type of a constructor: pis over the type's own parameters, tree for tree, and then the fields.
pub data Constructs (E : Environment) (f : Family) (r : Universe) : Telescope → Context → Term → List Universe → List Term → Type 0 where
  fields : {C : Context} {t : Term} {ls : List Universe} {is : List Term} → Fields E f r C t ls is → Constructs E f r [] C t ls is
  parameter : {C : Context} {x : Local} {xs : Telescope} {y : Binder} {A B : Term} {ls : List Universe} {is : List Term} → x.ty ≡ A
      → Constructs E f r xs (with C A) (opened C B) ls is → Constructs E f r (x ∷ xs) C (pi y A B) ls is

pub record ConstructorRight (E : Environment) (f : Family) (r : Universe) (c : CtorInfo) : Type 0 where
  pub level : Universe
  pub typed : HasType E [] c.ty (sort level)
  pub levels : List Universe
  pub indices : List Term
  pub constructs : Constructs E f r f.params [] c.ty levels indices

abbrev pub ConstructorsRight : Environment → Family → Universe → List CtorInfo → Type 0
ConstructorsRight E f r [] = Unit {0}
ConstructorsRight E f r (c ∷ cs) = ConstructorRight E f r c × ConstructorsRight E f r cs

abbrev pub NeverZero : Universe → Type 0
NeverZero l = (s : Assignment) → 0 < value_of s l

-- Each field, from the variable k on, is a proof or is itself one of the indices.
abbrev pub ProofsOrIndices : ℕ → List Universe → List Term → Type 0
ProofsOrIndices k [] is = Unit {0}
ProofsOrIndices k (l ∷ ls) is = (Same l level_zero ⊎ Contains is (free k)) × ProofsOrIndices (suc k) ls is

-- Large elimination, into every sort: the type is never a proposition, or it has no constructor, or one whose fields are proofs or are
-- themselves indices.
abbrev pub EliminatesEverywhere : (E : Environment) (f : Family) (r : Universe) (cs : List CtorInfo) → ConstructorsRight E f r cs → Type 0
EliminatesEverywhere E f r [] right = Unit {0}
EliminatesEverywhere E f r (c ∷ []) right = NeverZero r ⊎ ProofsOrIndices (length f.params) right.0.levels right.0.indices
EliminatesEverywhere E f r (c ∷ b ∷ cs) right = NeverZero r

-- ---- The constants of a declaration; `large` says that it eliminates into every sort.

abbrev pub own_family : IndDecl → Family
own_family d = family (parameters_from 0 (length d.levels)) d

abbrev pub constructor_names : List CtorInfo → List Path
constructor_names [] = []
constructor_names (c ∷ cs) = c.name ∷ constructor_names cs

abbrev pub type_constant : IndDecl → Bool → ConstInfo
type_constant d large = record {
  name = d.name;
  kind = Inductive;
  levels = d.levels;
  ty = d.ty;
  value = None;
  height = 0;
  detail = Ind d.params (pi_count d.ty - d.params) (constructor_names d.ctors) large;
}

abbrev pub constructor_constant : IndDecl → ℕ → CtorInfo → ConstInfo
constructor_constant d index c = record {
  name = c.name;
  kind = Constructor;
  levels = d.levels;
  ty = c.ty;
  value = None;
  height = 0;
  detail = Ctor d.name index d.params (pi_count c.ty - d.params);
}

abbrev pub constructors_from : IndDecl → ℕ → List CtorInfo → List ConstInfo
constructors_from d index [] = []
constructors_from d index (c ∷ cs) = constructor_constant d index c ∷ constructors_from d (suc index) cs

abbrev pub declared_constants : IndDecl → Bool → List ConstInfo
declared_constants d large = type_constant d large ∷ constructors_from d 0 d.ctors ++ recursor_of d large ∷ []

-- The type while its constructors are judged: it has none yet, so it is no structure. What `large` says matters to no rule.
abbrev pub type_alone : IndDecl → ConstInfo
type_alone d = record {
  name = d.name;
  kind = Inductive;
  levels = d.levels;
  ty = d.ty;
  value = None;
  height = 0;
  detail = Ind d.params (pi_count d.ty - d.params) [] false;
}

-- The environment in which constructors are judged.
abbrev pub with_type : Environment → IndDecl → Environment
with_type E d = E ++ type_alone d ∷ []

pub record Admitted (E : Environment) (d : IndDecl) (large : Bool) : Type 0 where
  -- the type is a type, of pis over parameters and indices that end in a sort
  pub level : Universe
  pub typed : HasType E [] d.ty (sort level)
  pub params : d.params ≤ pi_count d.ty
  pub result : Universe
  pub ends : result_level d.ty ≡ Some result
  pub constructors : ConstructorsRight (with_type E d) (own_family d) result d.ctors
  pub elimination : large ≡ true → EliminatesEverywhere (with_type E d) (own_family d) result d.ctors constructors
