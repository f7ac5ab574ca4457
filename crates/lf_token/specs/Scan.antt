use Rattle.std.specs.Prelude.{ℕ, ◌+◌, ◌^◌, List, [], ◌∷◌, Bool, false, ◌||◌, ◌&&◌, ◌==◌, nat_lt, if◌then◌else◌, Option, None, Some}
use Rattle.std.specs.List.{prefix_len}
use Rattle.std.specs.Str.Parse.{digits_value}
use Rattle.lf_text.specs.declared.token.TokenKind.{TokenKind}
use Rattle.lf_text.specs.declared.token.TokenKind.TheVariants as kind
use Rattle.lf_text.specs.Lexemes.{starts_part, continues_part, name_kind}
use Rattle.lf_token.specs.declared.shape.Shape.{Shape}
use Rattle.lf_token.specs.declared.shape.Shape.TheVariants.{White, OpenComment, Name, Numeral, BadNum, Symbol, BadChar}

-- a part of an identifier may start here
abbrev pub part_next : List ℕ → Bool
part_next [] = false
part_next (c ∷ cs) = starts_part c

-- an identifier goes on with this character: in its part, or by a dot that a part follows
abbrev pub goes_over : ℕ → List ℕ → Bool
goes_over c cs = continues_part c || (c == 46 && part_next cs)

-- how far an identifier goes on behind its first character
abbrev pub tail_len : List ℕ → ℕ
tail_len [] = 0
tail_len (c ∷ cs) = if goes_over c cs then tail_len cs + 1 else 0

-- the length of the part at the front, or 0
abbrev pub part_len : List ℕ → ℕ
part_len [] = 0
part_len (c ∷ cs) = if starts_part c then prefix_len continues_part cs + 1 else 0

-- the kind of the token of a shape with these characters, none where they are white space
abbrev pub kind_by : Shape → List ℕ → Option TokenKind
kind_by White front = None
kind_by OpenComment front = Some kind.OpenComment
kind_by Name front = Some (name_kind front)
kind_by Numeral front = Some (if nat_lt (digits_value 10 front) (2 ^ 128) then kind.Num (digits_value 10 front) else kind.WideNum)
kind_by BadNum front = Some kind.BadNum
kind_by (Symbol kind) front = Some kind
kind_by BadChar front = Some kind.BadChar
