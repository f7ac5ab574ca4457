-- The names of constants that are made on demand: how they end, and what their parents are. This project's own.
use Rattle.std.specs.Prelude.{ℕ, ◌+◌, ◌-◌, ◌*◌, ◌≤◌, Bool, true, false, ◌&&◌, nat_le, if◌then◌else◌, List, [], ◌∷◌, ◌++◌, Option, Some, None, codes, decimal}
use Rattle.std.specs.Str.{bytes_eq}
use Rattle.lf_core.specs.declared.constant.ConstKind.{ConstKind}
use Rattle.lf_core.specs.declared.constant.ConstKind.TheVariants.{Axiom, Def, Theorem, Inductive, Constructor, Recursor}
use Rattle.lf_core.specs.declared.suffix.Suffix.{Suffix}
use Rattle.lf_core.specs.declared.suffix.Suffix.TheVariants.{Eq1, EqDef, Inj, InjEq, EqAt}

-- The text of a suffix; an equation's number in decimal, without leading zeros.
unfoldable pub spelling : Suffix → List ℕ
spelling Eq1 = codes "eq_1"
spelling EqDef = codes "eq_def"
spelling Inj = codes "inj"
spelling InjEq = codes "injEq"
spelling (EqAt k) = codes "eq_" ++ decimal k

-- Equations have the numbers 2 to 65; the first is `eq_1`.
abbrev pub IsNumbered : Suffix → Type 0
IsNumbered (EqAt k) = (2 ≤ k) × (k ≤ 65)
IsNumbered Eq1 = Unit {0}
IsNumbered EqDef = Unit {0}
IsNumbered Inj = Unit {0}
IsNumbered InjEq = Unit {0}

abbrev pub is_numeral : ℕ → Bool
is_numeral byte = nat_le 48 byte && nat_le byte 57

abbrev pub equation_numbered : ℕ → Option Suffix
equation_numbered k = if nat_le 10 k && nat_le k 65 then Some (EqAt k) else None

-- `eq_` and a number of one digit or two.
unfoldable pub equation_of : List ℕ → Option Suffix
equation_of (e ∷ q ∷ line ∷ unit ∷ []) =
    if bytes_eq (e ∷ q ∷ line ∷ []) (codes "eq_") && (is_numeral unit && nat_le 50 unit) then Some (EqAt (unit - 48)) else None
equation_of (e ∷ q ∷ line ∷ ten ∷ unit ∷ []) =
    if bytes_eq (e ∷ q ∷ line ∷ []) (codes "eq_") && (is_numeral ten && is_numeral unit) then equation_numbered (10 * (ten - 48) + (unit - 48)) else None
equation_of _ = None

-- The suffix with this text.
unfoldable pub suffix_of : List ℕ → Option Suffix
suffix_of last =
    if bytes_eq last (codes "eq_1") then Some Eq1 else
    if bytes_eq last (codes "eq_def") then Some EqDef else
    if bytes_eq last (codes "inj") then Some Inj else
    if bytes_eq last (codes "injEq") then Some InjEq else
    equation_of last

abbrev pub is_definition : ConstKind → Bool
is_definition Def = true
is_definition Axiom = false
is_definition Theorem = false
is_definition Inductive = false
is_definition Constructor = false
is_definition Recursor = false

abbrev pub is_constructor : ConstKind → Bool
is_constructor Constructor = true
is_constructor Axiom = false
is_constructor Def = false
is_constructor Theorem = false
is_constructor Inductive = false
is_constructor Recursor = false

-- What a parent has to be: of an equation a definition, of the others a constructor.
abbrev pub fits_kind : Suffix → ConstKind → Bool
fits_kind Eq1 kind = is_definition kind
fits_kind EqDef kind = is_definition kind
fits_kind (EqAt k) kind = is_definition kind
fits_kind Inj kind = is_constructor kind
fits_kind InjEq kind = is_constructor kind
