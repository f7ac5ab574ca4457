-- Soundness of the checker: its answers have derivations, over a list of constants that the view knows and that names nothing outside it.
use Rattle.std.specs.Prelude.{◌≡◌, ◌+◌, ℕ, Bool as Truth, true, false, Some, List, [], ◌∷◌, length, slice_get, Contains, codes}
use Rattle.lf_core.specs.Term.{Path, Term, bound, free, meta, sort, const, app, lam, pi, letin, lit, proj}
use Rattle.lf_core.specs.Scope.{Scoped}
use Rattle.lf_rules.specs.Environment.{Environment, Context, nat, ParametersBelow, AllParametersBelow, LevelsBelow}
use Rattle.lf_core.specs.Literal.{literal_operation}
use Rattle.lf_rules.specs.Judgment.{Equal, HasType, Formed}
use Rattle.lf_core.specs.declared.constant.ConstInfo.{ConstInfo}
use Rattle.lf_core.specs.declared.constant.Detail.{Detail}
use Rattle.lf_core.specs.declared.constant.Detail.TheVariants.{Plain, Ind, Ctor, Rec}
use Rattle.lf_core.specs.declared.literal.LitOut.{LitOut}
use Rattle.lf_core.specs.declared.literal.LitOut.TheVariants.{Nat, Bool}
use Rattle.lf_judgment_laws.specs.InScope.{EnvironmentClosed}
use Rattle.lf_inductive_laws.specs.Declarations.{IsOf}
use Rattle.lf_checker.specs.View.{View, found, lookup_of}
use Rattle.lf_checker.specs.Run.{Answer, done, refused, out, need}
use Rattle.lf_checker.specs.Calls.{checked, Calls}
use Rattle.lf_checker.specs.Infer.{sort_of}
use Rattle.lf_checker.specs.Checker.{calls}

-- The constant that the view finds by this name, if there is one, is in E.
abbrev pub Held : View → Environment → Path → Type 0
Held V E n = (c : ConstInfo) → lookup_of V n ≡ found c → Contains E c

abbrev pub zero_name : Path
zero_name = codes "Nat" ∷ codes "zero" ∷ []

abbrev pub true_name : Path
true_name = codes "Bool" ∷ codes "true" ∷ []

abbrev pub false_name : Path
false_name = codes "Bool" ∷ codes "false" ∷ []

abbrev pub HeldValue : View → Environment → LitOut → Type 0
HeldValue V E (Nat k) = Unit {0}
HeldValue V E (Bool true) = Held V E true_name
HeldValue V E (Bool false) = Held V E false_name

-- What counts as named beside a constant: `Nat` with `Nat.zero`, and the truth values with `Nat.beq` and `Nat.ble`.
pub record HeldBeside (V : View) (E : Environment) (n : Path) : Type 0 where
  pub zero : n ≡ zero_name → Held V E nat
  pub operation : (i j : ℕ) (r : LitOut) → literal_operation n i j ≡ Some r → HeldValue V E r

-- E has each constant of the view that the term names, and its level parameters are below `top`; a literal names `Nat`, a projection its structure.
abbrev pub Names : View → Environment → ℕ → Term → Type 0
Names V E top (const n ls) = Held V E n × HeldBeside V E n × AllParametersBelow top ls
Names V E top (sort l) = ParametersBelow top l
Names V E top (lit k) = Held V E nat
Names V E top (app f a) = Names V E top f × Names V E top a
Names V E top (lam x A b) = Names V E top A × Names V E top b
Names V E top (pi x A B) = Names V E top A × Names V E top B
Names V E top (letin x A v b) = Names V E top A × Names V E top v × Names V E top b
Names V E top (proj s i t) = Held V E s × Names V E top t
Names V E top (bound i) = Unit {0}
Names V E top (free k) = Unit {0}
Names V E top (meta k) = Unit {0}

-- A term of a context of k types, with d binders round it, that names only E, at levels below `top`.
abbrev pub Fits : View → Environment → ℕ → ℕ → ℕ → Term → Type 0
Fits V E top d k t = Scoped d k t × Names V E top t

abbrev pub AllFit : View → Environment → ℕ → ℕ → List Term → Type 0
AllFit V E top k [] = Unit {0}
AllFit V E top k (x ∷ xs) = Fits V E top 0 k x × AllFit V E top k xs

abbrev pub ContextFits : View → Environment → ℕ → Context → Type 0
ContextFits V E top C = AllFit V E top (length C) C

-- With a recursor, the type and the constructors of its declaration; and what its rules name.
abbrev pub PartsHeld : View → Environment → ℕ → Detail → Type 0
PartsHeld V E levels (Rec ind params minors indices rules) =
    Held V E ind
    × ((n : Path) (c : ConstInfo) (index own fields : ℕ) → lookup_of V n ≡ found c → c.detail ≡ Ctor ind index own fields → Contains E c)
    × ((k : ℕ) (r : Term) → slice_get rules k ≡ Some r → Names V E levels r)
PartsHeld V E levels Plain = Unit {0}
PartsHeld V E levels (Ind params indices names large) = Unit {0}
PartsHeld V E levels (Ctor ind index own fields) = Unit {0}

-- A list of constants that names nothing of the view outside it, each at its own levels, and in which constructors' types are as admission has them.
pub record ClosedList (V : View) (E : Environment) : Type 0 where
  pub own_name : (n : Path) (c : ConstInfo) → lookup_of V n ≡ found c → c.name ≡ n
  pub closed : EnvironmentClosed E
  pub types : (c : ConstInfo) → Contains E c → Names V E (length c.levels) c.ty
  pub values : (c : ConstInfo) (v : Term) → Contains E c → c.value ≡ Some v → Names V E (length c.levels) v
  pub parts : (c : ConstInfo) → Contains E c → PartsHeld V E (length c.levels) c.detail
  pub beside : (c : ConstInfo) → Contains E c → HeldBeside V E c.name
  -- with a type, its only constructor
  pub whole : (t c : ConstInfo) (n : Path) (params indices index own fields : ℕ) (large : Truth) → Contains E t → t.detail ≡ Ind params indices (n ∷ []) large
      → lookup_of V n ≡ found c → c.detail ≡ Ctor t.name index own fields → Contains E c
  pub constructors : (t c : ConstInfo) (params indices index own fields : ℕ) (names : List Path) (large : Truth) → Contains E t → Contains E c
      → t.detail ≡ Ind params indices names large → c.detail ≡ Ctor t.name index own fields → IsOf t (own + fields) (params + indices) c

-- What is said of the value, where there is one.
abbrev pub Post : {A : Type 0} → (A → Type 0) → Answer A → Type 0
Post P (done x u) = P x
Post P (refused e u) = Unit {0}
Post P out = Unit {0}
Post P (need k) = Unit {0}

-- A is a type of t, and names only E, at levels below `top`.
abbrev pub Typed : View → Environment → ℕ → Context → Term → Term → Type 0
Typed V E top C t A = HasType E C t A × Fits V E top 0 (length C) A

-- r is equal to t, and names only E, at levels below `top`.
abbrev pub Reduct : View → Environment → ℕ → Context → Term → Term → Type 0
Reduct V E top C t r = Equal E C t r × Fits V E top 0 (length C) r

pub record Sound (V : View) (E : Environment) (top : ℕ) (c : Calls) : Type 0 where
  pub whnf : (d : Truth) (C : Context) (t : Term) (u : ℕ) → ContextFits V E top C → Fits V E top 0 (length C) t → Formed E C t
      → Post (Reduct V E top C t) (c.whnf d C t u)
  pub equal : (C : Context) (a b : Term) (u : ℕ) → ContextFits V E top C → Fits V E top 0 (length C) a → Fits V E top 0 (length C) b → Formed E C a
      → Formed E C b → Post (λ r. r ≡ true → Equal E C a b) (c.equal C a b u)
  pub infer : (C : Context) (t : Term) (u : ℕ) → ContextFits V E top C → Fits V E top 0 (length C) t → Post (Typed V E top C t) (c.infer checked C t u)
  pub normalize : (C : Context) (t : Term) (u : ℕ) → ContextFits V E top C → Fits V E top 0 (length C) t → Formed E C t
      → Post (Reduct V E top C t) (c.normalize C t u)

abbrev pub Soundness : Type 0
Soundness = (V : View) (E : Environment) → ClosedList V E → (top depth : ℕ) → Sound V E top (calls V depth)

-- What is given of a term at levels below n is at levels below n.
pub record KeepsLevels (V : View) (E : Environment) (n : ℕ) (c : Calls) : Type 0 where
  pub whnf : (d : Truth) (C : Context) (t : Term) (u : ℕ) → ContextFits V E n C → Fits V E n 0 (length C) t → Formed E C t
      → Post (LevelsBelow n) (c.whnf d C t u)
  pub infer : (C : Context) (t : Term) (u : ℕ) → ContextFits V E n C → Fits V E n 0 (length C) t → Post (LevelsBelow n) (c.infer checked C t u)
  pub normalize : (C : Context) (t : Term) (u : ℕ) → ContextFits V E n C → Fits V E n 0 (length C) t → Formed E C t → Post (LevelsBelow n) (c.normalize C t u)
  pub sort_of : (C : Context) (A : Term) (u : ℕ) → ContextFits V E n C → Fits V E n 0 (length C) A → Post (ParametersBelow n) (sort_of c checked C A u)

abbrev pub LevelsAreKept : Type 0
LevelsAreKept = (V : View) (E : Environment) → ClosedList V E → (n depth : ℕ) → KeepsLevels V E n (calls V depth)
