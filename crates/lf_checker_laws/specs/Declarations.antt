-- What is accepted over a derived environment keeps it derived.
use Rattle.std.specs.Prelude.{◌≡◌, ◌⊎◌, ℕ, Some, None, [], ◌∷◌, ◌++◌, length, Contains}
use Rattle.lf_core.specs.Term.{Path, Universe, Term, bound, free, meta, sort, const, app, lam, pi, letin, lit, proj}
use Rattle.lf_rules.specs.Environment.{Environment, Context, Declared, Fresh, nat, NamesDeclared, ParametersBelow}
use Rattle.lf_rules.specs.Judgment.{HasType}
use Rattle.lf_rules.specs.Derived.{Checked, Stated, Derived}
use Rattle.lf_core.specs.declared.constant.ConstInfo.{ConstInfo}
use Rattle.lf_core.specs.declared.constant.ConstKind.TheVariants.{Axiom, Def, Theorem}
use Rattle.lf_core.specs.declared.constant.Detail.TheVariants.{Plain, Ctor}
use Rattle.lf_checker.specs.View.{View, Entry, find_entry, found, lookup_of}
use Rattle.lf_checker.specs.Checker.{calls, infer, add_header, add_decl}
use Rattle.lf_checker_laws.specs.Soundness.{HeldBeside, Names, ClosedList, Post, Sound}

abbrev pub FindsAll : View → Environment → Type 0
FindsAll V E = (c : ConstInfo) → Contains E c → lookup_of V c.name ≡ found c

-- The view finds each constant of the list, and what it finds has the name that was asked for. With a type, the list has the constructors
-- that the view has of it.
pub record Knows (V : View) (E : Environment) : Type 0 where
  pub found_there : FindsAll V E
  pub own_name : (n : Path) (c : ConstInfo) → lookup_of V n ≡ found c → c.name ≡ n
  pub whole : (n : Path) (c : ConstInfo) (ind : Path) (index own fields : ℕ) → lookup_of V n ≡ found c → c.detail ≡ Ctor ind index own fields → Declared E ind
      → Contains E c

-- With a constant the list has what counts as named beside it.
abbrev pub HasBeside : View → Environment → Type 0
HasBeside V E = (c : ConstInfo) → Contains E c → HeldBeside V E c.name

-- A derived list that the view knows is one over which the checker is sound.
abbrev pub DerivedIsClosedList : Type 0
DerivedIsClosedList = (V : View) (E : Environment) → Derived E → Knows V E → HasBeside V E → ClosedList V E

-- Over a derived list that the view knows the checker is sound.
abbrev pub DerivedSoundness : Type 0
DerivedSoundness = (V : View) (E : Environment) → Derived E → Knows V E → HasBeside V E → (top depth : ℕ) → Sound V E top (calls V depth)

-- What the list has under this name is an entry of the view, and no realized constant.
abbrev pub HasEntry : View → Environment → Path → Type 0
HasEntry V E n = (c : ConstInfo) → Contains E c → c.name ≡ n → (e : Entry) × (find_entry V.entries n ≡ Some e)

-- The view finds `Nat`, where the term has a literal: inference gives a literal its type without looking `Nat` up.
abbrev pub LiteralsFound : View → Term → Type 0
LiteralsFound V (lit n) = (c : ConstInfo) × (lookup_of V nat ≡ found c)
LiteralsFound V (proj S i t) = LiteralsFound V t
LiteralsFound V (app f a) = LiteralsFound V f × LiteralsFound V a
LiteralsFound V (lam x A b) = LiteralsFound V A × LiteralsFound V b
LiteralsFound V (pi x A B) = LiteralsFound V A × LiteralsFound V B
LiteralsFound V (letin x A v b) = LiteralsFound V A × LiteralsFound V v × LiteralsFound V b
LiteralsFound V (bound i) = Unit {0}
LiteralsFound V (free k) = Unit {0}
LiteralsFound V (meta k) = Unit {0}
LiteralsFound V (sort l) = Unit {0}
LiteralsFound V (const n ls) = Unit {0}

-- What is asked of a term: the list has what the view finds of its names, its levels are below n, and the view finds `Nat` for its literals.
pub record Asked (V : View) (E : Environment) (n : ℕ) (t : Term) : Type 0 where
  pub names : Names V E n t
  pub literals : LiteralsFound V t

pub record Accepts (V : View) (E : Environment) (depth : ℕ) : Type 0 where
  -- the level that is given is that of a sort of the type, and is at the levels of the type
  pub header : (n : Path) (ty : Term) (u top : ℕ) → Names V E top ty → Post (λ l. HasType E [] ty (sort l) × ParametersBelow top l) (add_header V depth n ty u)
  -- a type whose header is accepted is checked: its names are declared
  pub checked_type : (c : ConstInfo) (u : ℕ) → Asked V E (length c.levels) c.ty → Post (λ l. Checked E c c.ty (sort l)) (add_header V depth c.name c.ty u)
  -- and so is a value that is accepted, where the type is a type over the list
  pub checked_value : (c : ConstInfo) (v : Term) (l : Universe) (u : ℕ) → c.value ≡ Some v → Checked E c c.ty (sort l) → Asked V E (length c.levels) v
      → Post (λ h. Checked E c v c.ty) (add_decl V depth c u)
  -- a constant whose header is accepted is stated over the list
  pub stated : (c : ConstInfo) (u : ℕ) → HasEntry V E c.name → c.detail ≡ Plain → Asked V E (length c.levels) c.ty
      → Post (λ l. Stated E c) (add_header V depth c.name c.ty u)
  -- so an axiom whose header is accepted may be added to the list
  pub assumed : (c : ConstInfo) (u : ℕ) → HasEntry V E c.name → c.detail ≡ Plain → Asked V E (length c.levels) c.ty → c.kind ≡ Axiom → c.value ≡ None
      → Post (λ l. Derived (E ++ c ∷ [])) (add_header V depth c.name c.ty u)
  -- and a stated definition or theorem whose value is accepted
  pub value : (c : ConstInfo) (v : Term) (u : ℕ) → Stated E c → (c.kind ≡ Def) ⊎ (c.kind ≡ Theorem) → c.value ≡ Some v → Asked V E (length c.levels) v
      → Post (λ h. Derived (E ++ c ∷ [])) (add_decl V depth c u)
  -- the name of what is accepted is new
  pub new_header : (n : Path) (ty : Term) (u : ℕ) → HasEntry V E n → Post (λ l. Fresh E n) (add_header V depth n ty u)
  pub new_value : (c : ConstInfo) (u : ℕ) → HasEntry V E c.name → Post (λ h. Fresh E c.name) (add_decl V depth c u)

abbrev pub AcceptedIsDerived : Type 0
AcceptedIsDerived = (V : View) (E : Environment) → Derived E → Knows V E → HasBeside V E → (depth : ℕ) → Accepts V E depth

-- Each constant that the term names is found in the view, and has as many levels as stand there.
abbrev pub AllFound : View → Term → Type 0
AllFound V (const n ls) = (c : ConstInfo) × (lookup_of V n ≡ found c) × (length ls ≡ length c.levels)
AllFound V (app f a) = AllFound V f × AllFound V a
AllFound V (lam x A b) = AllFound V A × AllFound V b
AllFound V (pi x A B) = AllFound V A × AllFound V B
AllFound V (letin x A v b) = AllFound V A × AllFound V v × AllFound V b
AllFound V (proj S i t) = ((c : ConstInfo) × (lookup_of V S ≡ found c)) × AllFound V t
AllFound V (bound i) = Unit {0}
AllFound V (free k) = Unit {0}
AllFound V (meta k) = Unit {0}
AllFound V (sort l) = Unit {0}
AllFound V (lit n) = Unit {0}

-- A term whose type is inferred names only what the view finds; over a list that has what the view finds of its names its
-- names are declared, where the view finds `Nat` for its literals.
pub record AcceptedNames (V : View) : Type 0 where
  pub are_found : (depth : ℕ) (C : Context) (t : Term) (u : ℕ) → Post (λ A. AllFound V t) (infer V depth C t u)
  pub are_declared : (E : Environment) (top : ℕ) (t : Term) → ((n : Path) (c : ConstInfo) → lookup_of V n ≡ found c → c.name ≡ n) → Names V E top t
      → LiteralsFound V t → AllFound V t → NamesDeclared E t

abbrev pub AcceptedIsFound : Type 0
AcceptedIsFound = (V : View) → AcceptedNames V
