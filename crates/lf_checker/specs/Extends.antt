-- When a view tells all that another tells.
use Rattle.std.specs.Prelude.{◌≡◌, ◌↔◌, ◌<◌, ℕ, Option, Some, None, List}
use Rattle.lf_core.specs.Term.{Path, Term}
use Rattle.lf_core.specs.declared.constant.ConstInfo.{ConstInfo}
use Rattle.lf_core.specs.declared.constant.ConstKind.{ConstKind}
use Rattle.lf_core.specs.declared.constant.ConstKind.TheVariants.{Axiom}
use Rattle.lf_core.specs.declared.constant.Detail.{Detail}
use Rattle.lf_checker.specs.View.{
  View,
  Lookup,
  found,
  absent,
  need_body,
  need_real,
  lookup_of,
  KnownBody,
  value,
  opaque,
  unresolved,
  body_of,
  value_of,
  placed_of,
}

-- What a constant shows beside its body.
pub record Shape : Type 0 where
  pub name : Path
  pub kind : ConstKind
  pub levels : List Path
  pub ty : Term
  pub detail : Detail

abbrev pub shape_of : ConstInfo → Shape
shape_of c = record { name = c.name; kind = c.kind; levels = c.levels; ty = c.ty; detail = c.detail }

-- The second answer is the first, unless that is a need. Found constants show the same.
abbrev pub SameFound : ConstInfo → Lookup → Type 0
SameFound c (found d) = shape_of c ≡ shape_of d
SameFound c _ = ⊥

abbrev pub SameLookup : Lookup → Lookup → Type 0
SameLookup (found c) l = SameFound c l
SameLookup absent l = absent ≡ l
SameLookup (need_body p) l = Unit {0}
SameLookup need_real l = Unit {0}

abbrev pub SameBody : KnownBody → KnownBody → Type 0
SameBody (unresolved k) b = Unit {0}
SameBody a b = a ≡ b

-- Values alone: heights are read of bodies only.
abbrev pub SameValue : KnownBody → KnownBody → Type 0
SameValue (value v h) (value w k) = v ≡ w
SameValue (value v h) opaque = ⊥
SameValue (value v h) (unresolved k) = ⊥
SameValue opaque b = opaque ≡ b
SameValue (unresolved k) b = Unit {0}

-- The lookup isn't the need of a body.
abbrev pub IsAnswered : Lookup → Type 0
IsAnswered (need_body p) = ⊥
IsAnswered _ = Unit {0}

-- Two axioms that are entries of both stand in one order in both.
abbrev pub SameOrder : View → View → Type 0
SameOrder V U = (m n : Path) (c d : ConstInfo) (p q : ℕ × ℕ) (p' q' : ℕ × ℕ) → lookup_of U m ≡ found c → c.kind ≡ Axiom → lookup_of U n ≡ found d
    → d.kind ≡ Axiom
    → placed_of U m ≡ Some p → placed_of U n ≡ Some q → placed_of V m ≡ Some p' → placed_of V n ≡ Some q' → (p.1 < q.1) ↔ (p'.1 < q'.1)

-- An entry of both, with one position, or of neither.
abbrev pub position_placed : Option (ℕ × ℕ) → Option ℕ
position_placed (Some p) = Some p.0
position_placed _ = None

-- All that the checker reads of U it reads in V.
pub record Tells (V U : View) : Type 0 where
  pub position : V.position ≡ U.position
  pub lookups : (n : Path) → SameLookup (lookup_of U n) (lookup_of V n)
  pub bodies : (n : Path) (c : ConstInfo) → lookup_of U n ≡ found c → SameBody (body_of U n) (body_of V n)
  -- a realized name that the one needs isn't waited for by a body in the other
  pub reals : (n : Path) → lookup_of U n ≡ need_real → IsAnswered (lookup_of V n)
  pub entries : (n : Path) → IsAnswered (lookup_of U n) → position_placed (placed_of U n) ≡ position_placed (placed_of V n)
  pub axioms : SameOrder V U

-- V tells all that U tells.
pub record Extends (V U : View) : Type 0 where
  pub tells : Tells V U
  pub values : (n : Path) (c : ConstInfo) → lookup_of U n ≡ found c → SameValue (value_of U n) (value_of V n)
