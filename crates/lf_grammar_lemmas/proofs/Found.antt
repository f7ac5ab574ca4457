-- What holds of each row of a table holds of the row that is found.
use Rattle.std.proofs.Common.{◌≡◌, ℕ, List, [], ◌∷◌, Bool, true, false, Option, Some, None, refl, subst, ◌∙◌}
use Rattle.lf_syntax.specs.declared.leaf.Ident.{Ident}
use Rattle.lf_syntax.specs.declared.leaf.Num.{Num}
use Rattle.lf_text.specs.declared.operator.Op.{Op}
use Rattle.lf_syntax.specs.Piece.{Class, word, name, number, operator}
use Rattle.lf_syntax.specs.Row.{Row, Prod, on_word, on_name, on_one_part, on_spelling, on_number, on_digit, on_operator, try, first_row, if_true}

abbrev pub InRow : {V : Type 0} → (Prod V → Type 0) → Row V → Type 0
InRow Q (on_word w f) = (at : ℕ) → Q (f at)
InRow Q (on_name f) = (x : Ident) → Q (f x)
InRow Q (on_one_part f) = (x : Ident) → Q (f x)
InRow Q (on_spelling s f) = (x : Ident) → Q (f x)
InRow Q (on_number f) = (n : Num) → Q (f n)
InRow Q (on_digit d f) = (at : ℕ) → Q (f at)
InRow Q (on_operator test f) = (o : Op) → test o ≡ true → Q (f o)

abbrev pub InRows : {V : Type 0} → (Prod V → Type 0) → List (Row V) → Type 0
InRows Q [] = Unit {0}
InRows Q (r ∷ rs) = InRow Q r × InRows Q rs

if_in : {V : Type 0} (Q : Prod V → Type 0) (b : Bool) (p q : Prod V) → (b ≡ true → Q p) → if_true b p ≡ Some q → Q q
if_in Q true p q h e = let f : p ≡ q = cc in subst Q f (h refl)
if_in Q false p q h e = cc

some_in : {V : Type 0} (Q : Prod V → Type 0) (p q : Prod V) → Q p → ◌≡◌ {A = Option (Prod V)} (Some p) (Some q) → Q q
some_in Q p q h e = let f : p ≡ q = cc in subst Q f h

try_in : {V : Type 0} (Q : Prod V → Type 0) (r : Row V) (c : Class) (at : ℕ) (p : Prod V) → InRow Q r → try r c at ≡ Some p → Q p
try_in Q (on_word w f) (word v) at p h e = if_in Q _ (f at) p (λ _. h at) e
try_in Q (on_name f) (name s x) at p h e = some_in Q (f (record { at = at; name = x })) p (h (record { at = at; name = x })) e
try_in Q (on_one_part f) (name s x) at p h e = if_in Q _ (f (record { at = at; name = x })) p (λ _. h (record { at = at; name = x })) e
try_in Q (on_spelling r f) (name s x) at p h e = if_in Q _ (f (record { at = at; name = x })) p (λ _. h (record { at = at; name = x })) e
try_in Q (on_number f) (number n digits) at p h e = some_in Q (f (record { at = at; value = n })) p (h (record { at = at; value = n })) e
try_in Q (on_digit d f) (number n digits) at p h e = if_in Q _ (f at) p (λ _. h at) e
try_in Q (on_operator test f) (operator o) at p h e = if_in Q (test o) (f o) p (h o) e
try_in Q _ _ at p h e = cc

pub found : {V : Type 0} (Q : Prod V → Type 0) (rs : List (Row V)) (c : Class) (at : ℕ) (p : Prod V) → InRows Q rs → first_row rs c at ≡ Some p → Q p
found Q [] c at p h e = cc
found {V} Q (r ∷ rs) c at p h e = go (try r c at) refl e (found Q rs c at p h.1)
  where
    go : (o : Option (Prod V)) → try r c at ≡ o → elim o as (λ _. Option (Prod V)) [ Some q ↦ Some q | None ↦ first_row rs c at ] ≡ Some p →
        (first_row rs c at ≡ Some p → Q p) → Q p
    go (Some q) f e ih = try_in Q r c at p h.0 (f ∙ e)
    go None f e ih = ih e
