-- The constants that commands make, and which of them rest on `sorryAx`.
use Rattle.std.specs.Prelude.{ℕ, Bool, false, ◌||◌, Option, Some, None, List, [], ◌∷◌}
use Rattle.lf_core.specs.Term.{Path, Universe, Term}
use Rattle.lf_core.specs.declared.constant.ConstInfo.{ConstInfo}
use Rattle.lf_core.specs.declared.constant.ConstKind.{ConstKind}
use Rattle.lf_core.specs.declared.constant.Detail.TheVariants.{Plain}
use Rattle.lf_checker.specs.Structures.{mentions}
use Rattle.lf_elaboration.specs.Closing.{sorry_name}

-- A constant of no inductive declaration, whose value isn't known yet.
abbrev pub without_value : Path → ConstKind → List Path → Term → ConstInfo
without_value n kind levels A = record { name = n; kind = kind; levels = levels; ty = A; value = None; height = 0; detail = Plain }

-- A value that the kernel accepted, with its height.
pub record Valued : Type 0 where
  pub term : Term
  pub height : ℕ

abbrev pub with_value : ConstInfo → Valued → ConstInfo
with_value c v = record c { value = Some v.term; height = v.height }

-- What stands for a definition or theorem from its head on: the constant without its value, the level of its type's sort, and whether the
-- head's messages have an error.
pub record Header : Type 0 where
  pub info : ConstInfo
  pub sort : Universe
  pub erred : Bool

-- What a head or a body makes: a header; constants that are whole; the value of the header's constant.
pub record Made : Type 0 where
  pub header : Option Header
  pub entries : List ConstInfo
  pub value : Option Valued

abbrev pub nothing_made : Made
nothing_made = record { header = None; entries = []; value = None }

abbrev pub entries_made : List ConstInfo → Made
entries_made cs = record { header = None; entries = cs; value = None }

-- ---- Marks: `sorryAx` stands in the type or in the value.

abbrev pub rests_on_sorry : Option Term → Bool
rests_on_sorry None = false
rests_on_sorry (Some t) = mentions sorry_name t

abbrev pub is_marked : ConstInfo → Bool
is_marked c = mentions sorry_name c.ty || rests_on_sorry c.value

abbrev pub is_one_marked : List ConstInfo → Bool
is_one_marked [] = false
is_one_marked (c ∷ cs) = is_marked c || is_one_marked cs
