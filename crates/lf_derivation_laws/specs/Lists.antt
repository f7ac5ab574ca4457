-- Lists of constants each of which was accepted over a view of its own: a header in an earlier view than its value, a constant in a view
-- that doesn't know all that stands before it.
use Rattle.std.specs.Prelude.{◌≡◌, ◌⊎◌, ℕ, Bool as Truth, true, false, if◌then◌else◌, Some, None, List, [], ◌∷◌, ◌++◌, length, Contains}
use Rattle.lf_core.specs.Term.{Path, Universe, level_param, Term, bound, sort, const, app, pi}
use Rattle.lf_rules.specs.Environment.{Environment, Declared, nat, NamesDeclared, LevelsBelow}
use Rattle.lf_rules.specs.Inductive.{declared_constants, with_type}
use Rattle.lf_rules.specs.Derived.{AllFresh, Derived}
use Rattle.lf_core.specs.Literal.{literal_operation}
use Rattle.lf_name.specs.declared.binder.Binder.{Binder}
use Rattle.lf_core.specs.declared.constant.ConstInfo.{ConstInfo}
use Rattle.lf_core.specs.declared.constant.ConstKind.TheVariants.{Axiom, Def, Theorem}
use Rattle.lf_core.specs.declared.constant.Detail.TheVariants.{Plain, Ctor}
use Rattle.lf_core.specs.declared.constant.IndDecl.{IndDecl}
use Rattle.lf_core.specs.declared.literal.LitOut.{LitOut}
use Rattle.lf_core.specs.declared.literal.LitOut.TheVariants.{Nat, Bool}
use Rattle.lf_checker.specs.View.{View, Lookup, found, absent, need_body, need_real, lookup_of, not_there, there_of}
use Rattle.lf_checker.specs.Run.{done}
use Rattle.lf_checker.specs.Checker.{add_header, add_decl}
use Rattle.lf_checker.specs.Admission.{view_with_type, add_inductive}
use Rattle.lf_checker_laws.specs.Soundness.{zero_name, true_name, false_name, Names}
use Rattle.lf_checker_laws.specs.Declarations.{FindsAll, Asked}
use Rattle.lf_admission_laws.specs.Admission.{ConstructorsAsked}

-- What a command, a helper or a realized name adds, with the views in which it was judged.
pub data Item : Type 0 where
  assumed : (c : ConstInfo) (V : View) → Item
  defined : (c : ConstInfo) (v : Term) (header body : View) → Item
  -- a definition or theorem whose value failed: `sorryAx` of its type, which no function of the checker judges
  failed : (c : ConstInfo) (V : View) → Item
  introduced : (d : IndDecl) (large : Truth) (V : View) → Item

abbrev pub constants_of : Item → List ConstInfo
constants_of (assumed c V) = c ∷ []
constants_of (defined c v H B) = c ∷ []
constants_of (failed c V) = c ∷ []
constants_of (introduced d large V) = declared_constants d large

-- The name of the first of its constants.
abbrev pub name_of : Item → Path
name_of (assumed c V) = c.name
name_of (defined c v H B) = c.name
name_of (failed c V) = c.name
name_of (introduced d large V) = d.name

-- The view in which the last of it was judged.
abbrev pub view_of : Item → View
view_of (assumed c V) = V
view_of (defined c v H B) = B
view_of (failed c V) = V
view_of (introduced d large V) = V

-- The report's list.
abbrev pub all_constants : List Item → Environment
all_constants [] = []
all_constants (i ∷ is) = constants_of i ++ all_constants is

abbrev pub is_found : Lookup → Truth
is_found (found c) = true
is_found absent = false
is_found (need_body p) = false
is_found need_real = false

abbrev pub knows : View → Item → Truth
knows V i = is_found (lookup_of V (name_of i))

-- What a view knows of what stands before.
abbrev pub known : View → List Item → List Item
known V [] = []
known V (i ∷ is) = if knows V i then i ∷ known V is else known V is

-- Where the first view knows an item, so does the second.
abbrev pub KnowsAsMuch : View → View → List Item → Type 0
KnowsAsMuch U V J = (k : Item) → Contains J k → knows U k ≡ true → knows V k ≡ true

-- With an item, the view knows what was known where that item was judged, of what stands before it.
abbrev pub Inherits : View → List Item → Type 0
Inherits V J = (before after : List Item) (i : Item) → J ≡ before ++ i ∷ after → knows V i ≡ true → KnowsAsMuch (view_of i) V before

abbrev pub DeclaredValue : Environment → LitOut → Type 0
DeclaredValue E (Nat k) = Unit {0}
DeclaredValue E (Bool true) = Declared E true_name
DeclaredValue E (Bool false) = Declared E false_name

-- What counts as named beside a constant of this name stands in the list: `Nat` with `Nat.zero`, the truth values with `Nat.beq` and
-- `Nat.ble`. No view is asked.
pub record Beside (E : Environment) (n : Path) : Type 0 where
  pub zero : n ≡ zero_name → Declared E nat
  pub operation : (i j : ℕ) (r : LitOut) → literal_operation n i j ≡ Some r → DeclaredValue E r

abbrev pub AllBeside : Environment → List ConstInfo → Type 0
AllBeside E cs = (c : ConstInfo) → Contains cs c → Beside E c.name

-- What is asked of a view over what stands before.
pub record Reads (V : View) (J : List Item) : Type 0 where
  -- it finds constants under their own names
  pub own_name : (n : Path) (c : ConstInfo) → lookup_of V n ≡ found c → c.name ≡ n
  -- under the name of a constant of the list it finds that very constant, if any, and then all others of its item
  pub whole : (i : Item) → Contains J i → (c x : ConstInfo) → Contains (constants_of i) c → lookup_of V c.name ≡ found x → FindsAll V (constants_of i)
  -- what it finds as a constructor of a type of the list is in the list
  pub constructors : (n : Path) (c : ConstInfo) (ind : Path) (index own fields : ℕ) → lookup_of V n ≡ found c → c.detail ≡ Ctor ind index own fields
      → Declared (all_constants J) ind → Contains (all_constants J) c
  pub earlier : Inherits V J

-- A header that the view accepted: what the view finds of its names stands before it.
pub record HeaderAccepted (J : List Item) (c : ConstInfo) (V : View) : Type 0 where
  pub reads : Reads V J
  pub asked : Asked V (all_constants J) (length c.levels) c.ty
  pub depth : ℕ
  pub units : ℕ
  pub level : Universe
  pub left : ℕ
  pub accepted : add_header V depth c.name c.ty units ≡ done level left

-- A value that the view accepted.
pub record ValueAccepted (J : List Item) (c : ConstInfo) (v : Term) (V : View) : Type 0 where
  pub reads : Reads V J
  pub asked : Asked V (all_constants J) (length c.levels) v
  pub depth : ℕ
  pub units : ℕ
  pub height : ℕ
  pub left : ℕ
  pub accepted : add_decl V depth c units ≡ done height left

-- An inductive declaration that the view accepted; constructors are asked over the view and the list with the type.
pub record DeclarationAccepted (J : List Item) (d : IndDecl) (large : Truth) (V : View) : Type 0 where
  pub reads : Reads V J
  pub asked : Asked V (all_constants J) (length d.levels) d.ty
  pub constructors : ConstructorsAsked (view_with_type V d) (with_type (all_constants J) d) (length d.levels) d.ctors
  pub beside : Beside (with_type (all_constants J) d) d.name
  pub depth : ℕ
  pub units : ℕ
  pub left : ℕ
  pub accepted : add_inductive V depth d units ≡ done (declared_constants d large) left

-- The value is `sorryAx` at the level that `add_header` gave, of the type; and the view knows that axiom, sorryAx.{u} (α : Sort u) : α.
pub record FailedAt (J : List Item) (c : ConstInfo) (level : Universe) (V : View) : Type 0 where
  pub sorry : ConstInfo
  pub binder : Binder
  pub within : Contains (all_constants J) sorry
  pub known_there : lookup_of V sorry.name ≡ found sorry
  pub form : sorry.ty ≡ pi binder (sort (level_param 0)) (bound 0)
  pub one_level : length sorry.levels ≡ 1
  pub value : c.value ≡ Some (app (const sorry.name (level ∷ [])) c.ty)

abbrev pub Accepted : List Item → Item → Type 0
Accepted J (assumed c V) = HeaderAccepted J c V × (c.detail ≡ Plain) × (c.kind ≡ Axiom) × (c.value ≡ None)
-- the value's view knows what the header's knows
Accepted J (defined c v H B) = HeaderAccepted J c H × ValueAccepted J c v B × KnowsAsMuch H B J × (c.detail ≡ Plain) × ((c.kind ≡ Def) ⊎ (c.kind ≡ Theorem)) ×
    (c.value ≡ Some v)
Accepted J (failed c V) = (h : HeaderAccepted J c V) × FailedAt J c h.level V × (c.detail ≡ Plain) × ((c.kind ≡ Def) ⊎ (c.kind ≡ Theorem))
Accepted J (introduced d large V) = DeclarationAccepted J d large V

-- Each item has new names, with what counts as named beside them, and was accepted over what stands before it.
pub data Reported : List Item → Type 0 where
  nothing : Reported []
  then_item : {J : List Item} (i : Item) → Reported J → AllFresh (all_constants J) (constants_of i)
      → AllBeside (all_constants J ++ constants_of i) (constants_of i) → Accepted J i → Reported (J ++ i ∷ [])

abbrev pub ReportedIsDerived : Type 0
ReportedIsDerived = (J : List Item) → Reported J → Derived (all_constants J)

-- What is asked of a term's names, where they all stand before it; and of a constructor's type, where they do or are the type's own name.
pub record NamesStand (J : List Item) (V : View) : Type 0 where
  pub term : (n : ℕ) (t : Term) → NamesDeclared (all_constants J) t → LevelsBelow n t → Names V (all_constants J) n t
  pub constructor : (d : IndDecl) → there_of V d.name ≡ not_there → Beside (with_type (all_constants J) d) d.name → (n : ℕ) (t : Term)
      → NamesDeclared (with_type (all_constants J) d) t → LevelsBelow n t
      → Names (view_with_type V d) (with_type (all_constants J) d) n t

abbrev pub StandingNames : Type 0
StandingNames = (J : List Item) → Reported J → (V : View) → Reads V J → NamesStand J V

-- Each view finds constants under their own names.
abbrev pub OwnNames : Type 0
OwnNames = (V : View) (n : Path) (c : ConstInfo) → lookup_of V n ≡ found c → c.name ≡ n

-- ---- What is asked of a view, item by item.

pub record ReadsItem (V : View) (J : List Item) (i : Item) : Type 0 where
  pub whole : (c x : ConstInfo) → Contains (constants_of i) c → lookup_of V c.name ≡ found x → FindsAll V (constants_of i)
  pub constructors : (n : Path) (c : ConstInfo) (ind : Path) (index own fields : ℕ) → lookup_of V n ≡ found c → c.detail ≡ Ctor ind index own fields
      → Declared (constants_of i) ind → Contains (constants_of i) c
  pub earlier : knows V i ≡ true → KnowsAsMuch (view_of i) V J

pub record ReadsStepwise (V : View) : Type 0 where
  pub nothing : Reads V []
  pub one_more : (J : List Item) (i : Item) → Reads V J → ReadsItem V J i → Reads V (J ++ i ∷ [])

abbrev pub ReadingGrows : Type 0
ReadingGrows = (V : View) → ReadsStepwise V

-- ---- What is asked of a view, from all that a document makes, the items that no report lists among it.

abbrev pub IsPlain : Item → Type 0
IsPlain (assumed c V) = c.detail ≡ Plain
IsPlain (defined c v H B) = c.detail ≡ Plain
IsPlain (failed c V) = c.detail ≡ Plain
IsPlain (introduced d large V) = Unit {0}

-- A name is that of one constant of one item; and only inductive declarations make types, constructors and recursors.
pub record Made (K : List Item) : Type 0 where
  pub one : (i k : Item) (c d : ConstInfo) → Contains K i → Contains K k → Contains (constants_of i) c → Contains (constants_of k) d → c.name ≡ d.name
      → (i ≡ k) × (c ≡ d)
  pub plain : (i : Item) → Contains K i → IsPlain i

-- All that the view finds was made; with one constant of an item it finds the others; and with an item it knows all that was known where
-- that item was judged. No list is asked.
pub record Shows (V : View) (K : List Item) : Type 0 where
  pub made : (n : Path) (c : ConstInfo) → lookup_of V n ≡ found c → Contains (all_constants K) c
  pub whole : (i : Item) (c d : ConstInfo) → Contains K i → Contains (constants_of i) c → Contains (constants_of i) d → lookup_of V c.name ≡ found c
      → lookup_of V d.name ≡ found d
  pub earlier : (i : Item) → Contains K i → knows V i ≡ true → KnowsAsMuch (view_of i) V K

abbrev pub ShownIsRead : Type 0
ShownIsRead = (K : List Item) → Made K → (V : View) → Shows V K → (J : List Item) → ((i : Item) → Contains J i → Contains K i) → Reads V J

-- An item that was made, and isn't in the list yet, has new names.
abbrev pub MadeIsNew : Type 0
MadeIsNew = (K : List Item) → Made K → (J : List Item) → ((i : Item) → Contains J i → Contains K i) → (i : Item) → Contains K i → (Contains J i → ⊥)
    → Accepted J i → AllFresh (all_constants J) (constants_of i)
