-- Rows of the grammar's table: a first token, the symbols behind it, and the tree that comes of theirs.
use Rattle.std.specs.Prelude.{ℕ, Bool, true, false, not, ◌&&◌, List, [], ◌∷◌, ◌++◌, Option, None, Some, nat_eq}
use Rattle.lf_text.specs.declared.word.Spelling.TheVariants as spelt
use Rattle.lf_syntax.specs.declared.leaf.Ident.{Ident}
use Rattle.lf_syntax.specs.declared.leaf.Num.{Num}
use Rattle.lf_text.specs.declared.operator.Op.{Op}
use Rattle.lf_syntax.specs.Predictive.{Takes, join, Production}
use Rattle.lf_text.specs.declared.word.Word.{Word}
use Rattle.lf_text.specs.declared.word.Spelling.{Spelling}
use Rattle.lf_syntax.specs.Piece.{word_code, spelling_code, Class, word, name, number, operator, wrong}
use Rattle.lf_syntax.specs.Symbol.{Symbol, Tree}

abbrev pub Prod : Type 0 → Type 0
Prod V = Production Symbol Tree V

abbrev pub then : {V : Type 0} (body : List Symbol) → Takes Tree body V → Prod V
then body build = record { body = body; build = build }

pub data Row (V : Type 0) : Type 0 where
  -- a word or symbol, with its place
  on_word : Word → (ℕ → Prod V) → Row V
  -- any identifier; one of one part; one with this spelling
  on_name : (Ident → Prod V) → Row V
  on_one_part : (Ident → Prod V) → Row V
  on_spelling : Spelling → (Ident → Prod V) → Row V
  -- any numeral; one that is this digit alone
  on_number : (Num → Prod V) → Row V
  on_digit : ℕ → (ℕ → Prod V) → Row V
  -- an operator that passes the test
  on_operator : (Op → Bool) → (Op → Prod V) → Row V

abbrev pub if_true : {V : Type 0} → Bool → Prod V → Option (Prod V)
if_true true p = Some p
if_true false p = None

abbrev pub is_one_part : Spelling → Bool
is_one_part s = not (nat_eq (spelling_code s) (spelling_code spelt.Several))

-- What the row says of a token of this class at this place.
abbrev pub try : {V : Type 0} → Row V → Class → ℕ → Option (Prod V)
try (on_word w f) (word v) at = if_true (nat_eq (word_code w) (word_code v)) (f at)
try (on_word w f) (name s x) at = None
try (on_word w f) (number n digits) at = None
try (on_word w f) (operator o) at = None
try (on_word w f) (wrong e) at = None
try (on_name f) (word v) at = None
try (on_name f) (name s x) at = Some (f (record { at = at; name = x }))
try (on_name f) (number n digits) at = None
try (on_name f) (operator o) at = None
try (on_name f) (wrong e) at = None
try (on_one_part f) (word v) at = None
try (on_one_part f) (name s x) at = if_true (is_one_part s) (f (record { at = at; name = x }))
try (on_one_part f) (number n digits) at = None
try (on_one_part f) (operator o) at = None
try (on_one_part f) (wrong e) at = None
try (on_spelling r f) (word v) at = None
try (on_spelling r f) (name s x) at = if_true (nat_eq (spelling_code r) (spelling_code s)) (f (record { at = at; name = x }))
try (on_spelling r f) (number n digits) at = None
try (on_spelling r f) (operator o) at = None
try (on_spelling r f) (wrong e) at = None
try (on_number f) (word v) at = None
try (on_number f) (name s x) at = None
try (on_number f) (number n digits) at = Some (f (record { at = at; value = n }))
try (on_number f) (operator o) at = None
try (on_number f) (wrong e) at = None
try (on_digit d f) (word v) at = None
try (on_digit d f) (name s x) at = None
try (on_digit d f) (number n digits) at = if_true (nat_eq d n && nat_eq 1 digits) (f at)
try (on_digit d f) (operator o) at = None
try (on_digit d f) (wrong e) at = None
try (on_operator test f) (word v) at = None
try (on_operator test f) (name s x) at = None
try (on_operator test f) (number n digits) at = None
try (on_operator test f) (operator o) at = if_true (test o) (f o)
try (on_operator test f) (wrong e) at = None

-- The first row for the token.
abbrev pub first_row : {V : Type 0} → List (Row V) → Class → ℕ → Option (Prod V)
first_row [] c at = None
first_row (r ∷ rs) c at = elim (try r c at) [ Some p ↦ Some p | None ↦ first_row rs c at ]

abbrev pub and_then : {A V : Type 0} → Prod A → (ys : List Symbol) → (A → Takes Tree ys V) → Prod V
and_then {V} p ys k = record { body = p.body ++ ys; build = join Tree V p.body ys p.build k }

abbrev pub row_then : {A V : Type 0} → Row A → (ys : List Symbol) → (A → Takes Tree ys V) → Row V
row_then (on_word w f) ys k = on_word w (λ at. and_then (f at) ys k)
row_then (on_name f) ys k = on_name (λ x. and_then (f x) ys k)
row_then (on_one_part f) ys k = on_one_part (λ x. and_then (f x) ys k)
row_then (on_spelling s f) ys k = on_spelling s (λ x. and_then (f x) ys k)
row_then (on_number f) ys k = on_number (λ n. and_then (f n) ys k)
row_then (on_digit d f) ys k = on_digit d (λ at. and_then (f at) ys k)
row_then (on_operator test f) ys k = on_operator test (λ o. and_then (f o) ys k)

-- What begins as these rows and goes on with the symbols ys.
abbrev pub begins_as : {A V : Type 0} → List (Row A) → (ys : List Symbol) → (A → Takes Tree ys V) → List (Row V)
begins_as [] ys k = []
begins_as (r ∷ rs) ys k = row_then r ys k ∷ begins_as rs ys k
