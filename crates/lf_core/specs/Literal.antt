-- What functions of `Nat` give on literals.
-- Lean 4 reference manual, "Natural Numbers": the kernel computes these functions on literals.
-- That a literal is below 2^128 is this project's.
use Rattle.std.specs.Prelude.{
  ℕ,
  ◌+◌,
  ◌-◌,
  ◌*◌,
  ◌/◌,
  ◌%◌,
  nat_eq,
  nat_lt,
  nat_le,
  bit_and,
  if◌then◌else◌,
  List,
  [],
  ◌∷◌,
  drop,
  Option,
  Some,
  None,
  option_and_then,
  codes,
}
use Rattle.std.specs.Int.Bits.{bit_or, bit_xor}
use Rattle.std.specs.Str.{bytes_eq}
use Rattle.std.specs.List.{starts_with}
use Rattle.lf_core.specs.Term.{Path}
use Rattle.lf_core.specs.declared.literal.LitOut.{LitOut}
use Rattle.lf_core.specs.declared.literal.LitOut.TheVariants as out
use Rattle.lf_core.specs.declared.literal.Operation.{Operation}
use Rattle.lf_core.specs.declared.literal.Operation.TheVariants.{Add, Sub, Mul, Div, Mod, Beq, Ble, Land, Lor, Xor}

-- The function of `Nat` whose name ends so.
abbrev pub nat_function : List ℕ → Option Operation
nat_function name =
    if bytes_eq (codes "add") name then Some Add else
    if bytes_eq (codes "beq") name then Some Beq else
    if bytes_eq (codes "ble") name then Some Ble else
    if bytes_eq (codes "div") name then Some Div else
    if bytes_eq (codes "land") name then Some Land else
    if bytes_eq (codes "lor") name then Some Lor else
    if bytes_eq (codes "mod") name then Some Mod else
    if bytes_eq (codes "mul") name then Some Mul else
    if bytes_eq (codes "sub") name then Some Sub else
    if bytes_eq (codes "xor") name then Some Xor else
    None

-- By the constant's name: `Nat` and one more part.
abbrev pub operation_of : Path → Option Operation
operation_of (space ∷ name ∷ []) = if bytes_eq space (codes "Nat") then nat_function name else None
operation_of _ = None

-- By its text, as `Nat.add`.
abbrev pub operation_of_text : List ℕ → Option Operation
operation_of_text text = if starts_with nat_eq text (codes "Nat.") then nat_function (drop 4 text) else None

-- A number is a literal only below 2^128.
abbrev pub number : ℕ → Option LitOut
number n = if nat_lt n 340282366920938463463374607431768211456 then Some (out.Nat n) else None

-- Subtraction stops at 0; a / 0 is 0, and a % 0 is a.
abbrev pub compute : Operation → ℕ → ℕ → Option LitOut
compute Add a b = number (a + b)
compute Sub a b = number (a - b)
compute Mul a b = number (a * b)
compute Div a b = number (if nat_eq b 0 then 0 else a / b)
compute Mod a b = number (if nat_eq b 0 then a else a % b)
compute Beq a b = Some (out.Bool (nat_eq a b))
compute Ble a b = Some (out.Bool (nat_le a b))
compute Land a b = number (bit_and a b)
compute Lor a b = number (bit_or a b)
compute Xor a b = number (bit_xor a b)

-- The constant of this name at two literals.
abbrev pub literal_operation : Path → ℕ → ℕ → Option LitOut
literal_operation name a b = option_and_then (λ f. compute f a b) (operation_of name)
