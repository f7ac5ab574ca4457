-- Rows of which the first is looked at by itself: a digit, an operator, a word without others.
use Rattle.std.proofs.Common.{◌≡◌, ℕ, Bool, true, false, ◌&&◌, nat_eq, List, [], ◌∷◌, ◌+◌, length, Option, None, Some, Result, Ok, Err, refl, sym, arith}
use Rattle.std.specs.Borrow.{Bor}
use Rattle.lf_syntax.specs.Piece.{Piece, Class, word, name, number, operator, wrong}
use Rattle.lf_syntax.specs.Levels.{is_add}
use Rattle.lf_syntax.specs.Row.{Row, Prod, then, first_row, begins_as, if_true, on_digit, on_operator}
use Rattle.lf_parse_term.specs.Descent.{reading, by_row, maybe, or_else, fewer, Shorter, ShorterIfSome, ◌>>=◌}
use Rattle.lf_parse_term.specs.declared.halt.Halt.{Halt}
use Rattle.lf_parse_term.specs.declared.piece.Piece as code
use Rattle.lf_parse_term.proofs.First.{first_or, first_by}
use Rattle.lf_parse_decl.specs.Parts.{digit_rows, add_rows}

pub no_rows : {V : Type 0} (o : Option V) (ts : List Piece) → reading [] o ts ≡ or_else o ts
no_rows o [] = refl
no_rows o (t ∷ ts) = refl

tested : {A V : Type 0} (b : Bool) (a : A) (F : A → Prod V) (qs : List (Row V)) (o : Option V) (more : Option (Prod V)) (t : Piece) (ts : List Piece) →
    reading qs o (t ∷ ts) ≡ by_row more o t ts →
    by_row (first_or (if_true b (F a)) more) o t ts ≡ (by_row (first_or (if_true b (then [] (Some a))) None) (Some None) t ts >>= first_by F qs o)
tested true a F qs o more t ts h = refl
tested false a F qs o more t ts h = sym h

digit_class : {V : Type 0} (d : ℕ) (F : ℕ → Prod V) (qs : List (Row V)) (o : Option V) (t : Piece) (ts : List Piece) (c : Class) (at : ℕ) →
    reading qs o (t ∷ ts) ≡ by_row (first_row qs c at) o t ts →
    by_row (first_row (on_digit d F ∷ qs) c at) o t ts
    ≡ (by_row (first_row (begins_as (digit_rows d) [] (λ a. Some a)) c at) (Some None) t ts >>= first_by F qs o)
digit_class d F qs o t ts (word v) at h = sym h
digit_class d F qs o t ts (name s x) at h = sym h
digit_class d F qs o t ts (number n digits) at h = tested (nat_eq d n && nat_eq 1 digits) at F qs o (first_row qs (number n digits) at) t ts h
digit_class d F qs o t ts (operator p) at h = sym h
digit_class d F qs o t ts (wrong e) at h = sym h

pub digit_first : {V : Type 0} (d : ℕ) (F : ℕ → Prod V) (qs : List (Row V)) (o : Option V) (ts : List Piece) →
    reading (on_digit d F ∷ qs) o ts ≡ (maybe (digit_rows d) ts >>= first_by F qs o)
digit_first d F qs o [] = refl
digit_first d F qs o (t ∷ ts) = digit_class d F qs o t ts t.class t.at refl

add_class : {V : Type 0} (P : Prod V) (qs : List (Row V)) (o : Option V) (t : Piece) (ts : List Piece) (c : Class) (at : ℕ) →
    reading qs o (t ∷ ts) ≡ by_row (first_row qs c at) o t ts →
    by_row (first_row (on_operator is_add (λ _. P) ∷ qs) c at) o t ts
    ≡ (by_row (first_row (begins_as add_rows [] (λ a. Some a)) c at) (Some None) t ts >>= first_by (λ _. P) qs o)
add_class P qs o t ts (word v) at h = sym h
add_class P qs o t ts (name s x) at h = sym h
add_class P qs o t ts (number n digits) at h = sym h
add_class P qs o t ts (operator p) at h = tested {A = Unit {0}} (is_add p) tt (λ _. P) qs o (first_row qs (operator p) at) t ts h
add_class P qs o t ts (wrong e) at h = sym h

pub add_first : {V : Type 0} (P : Prod V) (qs : List (Row V)) (o : Option V) (ts : List Piece) →
    reading (on_operator is_add (λ _. P) ∷ qs) o ts ≡ (maybe add_rows ts >>= first_by (λ _. P) qs o)
add_first P qs o [] = refl
add_first P qs o (t ∷ ts) = add_class P qs o t ts t.class t.at refl

-- Fewer tokens are left than before the token in front.
pub sooner : {V : Type 0} (r : Result (Option V × Bor (List code.Piece)) Halt) (us ts : List code.Piece) → Shorter r us → length ts ≡ length us + 1
    → ShorterIfSome r ts
sooner {V} (Ok x) us ts h e = go x.0
  where
    go : (o : Option V) → fewer o (length x.1.now) (length ts)
    go None = omega arith
    go (Some v) = omega arith
sooner (Err e) us ts h k = tt
