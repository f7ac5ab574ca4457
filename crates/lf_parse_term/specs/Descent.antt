-- What the symbols of the grammar of commands read.
use Rattle.std.specs.Prelude.{◌≡◌, ◌<◌, ◌≤◌, ℕ, List, [], ◌∷◌, ◌++◌, length, Option, None, Some, Result, Ok, Err}
use Rattle.std.specs.Borrow.{Bor}
use Rattle.lf_text.specs.declared.word.Word.{Word}
use Rattle.lf_syntax.specs.Predictive.{Takes}
use Rattle.lf_syntax.specs.Piece as syntax
use Rattle.lf_syntax.specs.Symbol.{Symbol, Tree}
use Rattle.lf_syntax.specs.Row.{Row, Prod, then, on_word, first_row, begins_as}
use Rattle.lf_syntax.specs.Grammar.{grammar}
use Rattle.lf_parse_term.specs.Machine as machine
use Rattle.lf_parse_term.specs.View.{views}
use Rattle.lf_parse_term.specs.declared.piece.Piece.{Piece}
use Rattle.lf_parse_term.specs.declared.halt.Halt.{Halt}
use Rattle.lf_parse_term.specs.declared.halt.Halt.TheVariants.{Stuck, NoMemory}

abbrev pub Reading : Type 0 → Type 0
Reading V = machine.Reading syntax.Piece V

-- What a symbol reads.
unfoldable pub read : (x : Symbol) → List syntax.Piece → Reading (Tree x)
read x ts = machine.all grammar ts (x ∷ []) (λ v. v)

infixl 10 ◌>>=◌
abbrev pub ◌>>=◌ : {A B : Type 0} → Reading A → (A → List syntax.Piece → Reading B) → Reading B
(Ok x) >>= f = f x.0 x.1
(Err e) >>= f = Err e

-- What symbols read one behind the other.
abbrev pub seq : {V : Type 0} (xs : List Symbol) → List syntax.Piece → Takes Tree xs V → Reading V
seq [] ts v = Ok (v, ts)
seq (x ∷ xs) ts f = read x ts >>= (λ v rest. seq xs rest (f v))

abbrev pub stuck : {V : Type 0} → List syntax.Piece → Reading V
stuck ts = Err (Stuck (length ts))

abbrev pub or_else : {V : Type 0} → Option V → List syntax.Piece → Reading V
or_else (Some v) ts = Ok (v, ts)
or_else None ts = stuck ts

abbrev pub by_row : {V : Type 0} → Option (Prod V) → Option V → syntax.Piece → List syntax.Piece → Reading V
by_row (Some p) o t ts = seq p.body ts p.build
by_row None o t ts = or_else o (t ∷ ts)

-- What is read by these rows, which may be left out where there is a tree for it.
abbrev pub reading : {V : Type 0} → List (Row V) → Option V → List syntax.Piece → Reading V
reading rs o [] = or_else o []
reading rs o (t ∷ ts) = by_row (first_row rs t.class t.at) o t ts

-- What is read by these rows, if anything is.
abbrev pub maybe : {V : Type 0} → List (Row V) → List syntax.Piece → Reading (Option V)
maybe rs ts = reading (begins_as rs [] (λ v. Some v)) (Some None) ts

-- Behind a list of which these were read already.
unfoldable pub behind : {A : Type 0} → List A → Reading (List A) → Reading (List A)
behind before m = m >>= (λ more rest. Ok (before ++ more, rest))

abbrev pub IsTold : Halt → Type 0
IsTold (Stuck n) = Unit {0}
IsTold NoMemory = ⊥

-- What the code answers is what is read; want of memory is free.
abbrev pub Told : {V : Type 0} → Result (V × Bor (List Piece)) Halt → Reading V → Type 0
Told (Ok x) m = m ≡ Ok (x.0, views x.1.now)
Told (Err e) m = IsTold e → m ≡ Err e

-- The same of a list in a `Vec` and the like.
abbrev pub ToldAs : {A V : Type 0} → Result (A × Bor (List Piece)) Halt → (A → V) → Reading V → Type 0
ToldAs (Ok x) view m = m ≡ Ok (view x.0, views x.1.now)
ToldAs (Err e) view m = IsTold e → m ≡ Err e

-- Fewer tokens are left; no more are.
abbrev pub Shorter : {V : Type 0} → Result (V × Bor (List Piece)) Halt → List Piece → Type 0
Shorter (Ok x) ts = length x.1.now < length ts
Shorter (Err e) ts = Unit {0}

abbrev pub NoLonger : {V : Type 0} → Result (V × Bor (List Piece)) Halt → List Piece → Type 0
NoLonger (Ok x) ts = length x.1.now ≤ length ts
NoLonger (Err e) ts = Unit {0}

-- Fewer tokens are left where something was read.
abbrev pub fewer : {V : Type 0} → Option V → ℕ → ℕ → Type 0
fewer None m n = m ≤ n
fewer (Some v) m n = m < n

abbrev pub ShorterIfSome : {V : Type 0} → Result (Option V × Bor (List Piece)) Halt → List Piece → Type 0
ShorterIfSome (Ok x) ts = fewer x.0 (length x.1.now) (length ts)
ShorterIfSome (Err e) ts = Unit {0}
