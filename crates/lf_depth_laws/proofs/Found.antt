-- The row that is found has the role of its token.
use Rattle.std.proofs.Common.{◌≡◌, ℕ, zero, suc, List, [], ◌∷◌, ◌++◌, Bool, true, false, Option, Some, None, refl, sym, ap, subst, ◌∙◌, nat_eq}
use Rattle.std.proofs.lemmas.Bool.{eqb-true}
use Rattle.lf_text.specs.declared.word.Word.{Word}
use Rattle.lf_text.specs.declared.word.Word.TheVariants as words
use Rattle.lf_text.specs.declared.role.Role.{Role}
use Rattle.lf_text.specs.declared.role.Role.TheVariants.{Nesting, Other}
use Rattle.lf_text.specs.Roles.{word_role}
use Rattle.lf_text.specs.declared.operator.Op.{Op}
use Rattle.lf_syntax.specs.declared.leaf.Ident.{Ident}
use Rattle.lf_syntax.specs.declared.leaf.Num.{Num}
use Rattle.lf_syntax.specs.Predictive.{Takes}
use Rattle.lf_syntax.specs.Piece.{Class, word, name, number, operator, word_code}
use Rattle.lf_syntax.specs.Symbol.{Symbol, Tree}
use Rattle.lf_syntax.specs.Row.{
  Row,
  Prod,
  on_word,
  on_name,
  on_one_part,
  on_spelling,
  on_number,
  on_digit,
  on_operator,
  try,
  first_row,
  if_true,
  and_then,
  begins_as,
}
use Rattle.lf_depth_laws.specs.Depth.{class_role}

abbrev all_words : List Word
all_words = words.Axiom ∷ words.Def ∷ words.Theorem ∷ words.Inductive ∷ words.Structure ∷ words.Class ∷ words.Instance ∷ words.Namespace ∷
    words.Section ∷ words.End ∷ words.Open ∷ words.Universe ∷ words.Variable ∷ words.Check ∷ words.Reduce ∷ words.Print ∷ words.LeftOut ∷ words.Fun ∷
    words.Forall ∷ words.Let ∷ words.By ∷ words.Where ∷ words.PropWord ∷ words.TypeWord ∷ words.SortWord ∷ words.Sorry ∷ words.LeftParen ∷
    words.RightParen ∷ words.LeftBrace ∷ words.RightBrace ∷ words.LeftBracket ∷ words.RightBracket ∷ words.Colon ∷ words.Assign ∷ words.Comma ∷
    words.Semicolon ∷ words.FatArrow ∷ words.AtSign ∷ words.LevelBrace ∷ words.Dot ∷ words.Bar ∷ words.NotSign ∷ words.BackArrow ∷ words.Underscore ∷
    words.LayoutOpen ∷ words.LayoutSep ∷ words.LayoutClose ∷ []

abbrev pick : List Word → ℕ → Word
pick [] n = words.LayoutClose
pick (w ∷ ws) zero = w
pick (w ∷ ws) (suc n) = pick ws n

picked : (w : Word) → pick all_words (word_code w) ≡ w
picked words.Axiom = refl
picked words.Def = refl
picked words.Theorem = refl
picked words.Inductive = refl
picked words.Structure = refl
picked words.Class = refl
picked words.Instance = refl
picked words.Namespace = refl
picked words.Section = refl
picked words.End = refl
picked words.Open = refl
picked words.Universe = refl
picked words.Variable = refl
picked words.Check = refl
picked words.Reduce = refl
picked words.Print = refl
picked words.LeftOut = refl
picked words.Fun = refl
picked words.Forall = refl
picked words.Let = refl
picked words.By = refl
picked words.Where = refl
picked words.PropWord = refl
picked words.TypeWord = refl
picked words.SortWord = refl
picked words.Sorry = refl
picked words.LeftParen = refl
picked words.RightParen = refl
picked words.LeftBrace = refl
picked words.RightBrace = refl
picked words.LeftBracket = refl
picked words.RightBracket = refl
picked words.Colon = refl
picked words.Assign = refl
picked words.Comma = refl
picked words.Semicolon = refl
picked words.FatArrow = refl
picked words.AtSign = refl
picked words.LevelBrace = refl
picked words.Dot = refl
picked words.Bar = refl
picked words.NotSign = refl
picked words.BackArrow = refl
picked words.Underscore = refl
picked words.LayoutOpen = refl
picked words.LayoutSep = refl
picked words.LayoutClose = refl

pub same_word : (w v : Word) → nat_eq (word_code w) (word_code v) ≡ true → w ≡ v
same_word w v e = sym (picked w) ∙ ap (pick all_words) (eqb-true (word_code w) (word_code v) e) ∙ picked v

abbrev pub InRow : {V : Type 0} → (Role → Prod V → Type 0) → Row V → Type 0
InRow Q (on_word w f) = (at : ℕ) → Q (word_role w) (f at)
InRow Q (on_name f) = (x : Ident) → Q Other (f x)
InRow Q (on_one_part f) = (x : Ident) → Q Other (f x)
InRow Q (on_spelling s f) = (x : Ident) → Q Other (f x)
InRow Q (on_number f) = (n : Num) → Q Other (f n)
InRow Q (on_digit d f) = (at : ℕ) → Q Other (f at)
InRow Q (on_operator test f) = (o : Op) → test o ≡ true → Q Nesting (f o)

abbrev pub InRows : {V : Type 0} → (Role → Prod V → Type 0) → List (Row V) → Type 0
InRows Q [] = Unit {0}
InRows Q (r ∷ rs) = InRow Q r × InRows Q rs

if_in : {V : Type 0} (Q : Prod V → Type 0) (b : Bool) (p q : Prod V) → (b ≡ true → Q p) → if_true b p ≡ Some q → Q q
if_in Q true p q h e = let f : p ≡ q = cc in subst Q f (h refl)
if_in Q false p q h e = cc

some_in : {V : Type 0} (Q : Prod V → Type 0) (p q : Prod V) → Q p → ◌≡◌ {A = Option (Prod V)} (Some p) (Some q) → Q q
some_in Q p q h e = let f : p ≡ q = cc in subst Q f h

try_in : {V : Type 0} (Q : Role → Prod V → Type 0) (r : Row V) (c : Class) (at : ℕ) (p : Prod V) → InRow Q r → try r c at ≡ Some p → Q (class_role c) p
try_in Q (on_word w f) (word v) at p h e = if_in (Q (word_role v)) _ (f at) p (λ g. subst (λ (u : Word). Q (word_role u) (f at)) (same_word w v g) (h at)) e
try_in Q (on_name f) (name s x) at p h e = some_in (Q Other) (f (record { at = at; name = x })) p (h (record { at = at; name = x })) e
try_in Q (on_one_part f) (name s x) at p h e = if_in (Q Other) _ (f (record { at = at; name = x })) p (λ _. h (record { at = at; name = x })) e
try_in Q (on_spelling r f) (name s x) at p h e = if_in (Q Other) _ (f (record { at = at; name = x })) p (λ _. h (record { at = at; name = x })) e
try_in Q (on_number f) (number n digits) at p h e = some_in (Q Other) (f (record { at = at; value = n })) p (h (record { at = at; value = n })) e
try_in Q (on_digit d f) (number n digits) at p h e = if_in (Q Other) _ (f at) p (λ _. h at) e
try_in Q (on_operator test f) (operator o) at p h e = if_in (Q Nesting) (test o) (f o) p (h o) e
try_in Q _ _ at p h e = cc

pub found : {V : Type 0} (Q : Role → Prod V → Type 0) (rs : List (Row V)) (c : Class) (at : ℕ) (p : Prod V) → InRows Q rs →
    first_row rs c at ≡ Some p → Q (class_role c) p
found Q [] c at p h e = cc
found {V} Q (r ∷ rs) c at p h e = go (try r c at) refl e (found Q rs c at p h.1)
  where
    go : (o : Option (Prod V)) → try r c at ≡ o → elim o as (λ _. Option (Prod V)) [ Some q ↦ Some q | None ↦ first_row rs c at ] ≡ Some p →
        (first_row rs c at ≡ Some p → Q (class_role c) p) → Q (class_role c) p
    go (Some q) f e ih = try_in Q r c at p h.0 (f ∙ e)
    go None f e ih = ih e

-- What rows that begin as others have of them.
pub begins_in : {A V : Type 0} (P : Role → Prod A → Type 0) (Q : Role → Prod V → Type 0) (rs : List (Row A)) (ys : List Symbol) (k : A → Takes Tree ys V) →
    ((ρ : Role) (p : Prod A) → P ρ p → Q ρ (and_then p ys k)) → InRows P rs → InRows Q (begins_as rs ys k)
begins_in P Q [] ys k g h = tt
begins_in P Q (on_word w f ∷ rs) ys k g h = (λ at. g (word_role w) (f at) (h.0 at), begins_in P Q rs ys k g h.1)
begins_in P Q (on_name f ∷ rs) ys k g h = (λ x. g Other (f x) (h.0 x), begins_in P Q rs ys k g h.1)
begins_in P Q (on_one_part f ∷ rs) ys k g h = (λ x. g Other (f x) (h.0 x), begins_in P Q rs ys k g h.1)
begins_in P Q (on_spelling s f ∷ rs) ys k g h = (λ x. g Other (f x) (h.0 x), begins_in P Q rs ys k g h.1)
begins_in P Q (on_number f ∷ rs) ys k g h = (λ n. g Other (f n) (h.0 n), begins_in P Q rs ys k g h.1)
begins_in P Q (on_digit d f ∷ rs) ys k g h = (λ at. g Other (f at) (h.0 at), begins_in P Q rs ys k g h.1)
begins_in P Q (on_operator test f ∷ rs) ys k g h = (λ o e. g Nesting (f o) (h.0 o e), begins_in P Q rs ys k g h.1)

pub append_in : {V : Type 0} (Q : Role → Prod V → Type 0) (rs ss : List (Row V)) → InRows Q rs → InRows Q ss → InRows Q (rs ++ ss)
append_in Q [] ss h g = g
append_in Q (r ∷ rs) ss h g = (h.0, append_in Q rs ss h.1 g)

map_row : {V : Type 0} (P Q : Role → Prod V → Type 0) (r : Row V) → ((ρ : Role) (p : Prod V) → P ρ p → Q ρ p) → InRow P r → InRow Q r
map_row P Q (on_word w f) g h = λ at. g (word_role w) (f at) (h at)
map_row P Q (on_name f) g h = λ x. g Other (f x) (h x)
map_row P Q (on_one_part f) g h = λ x. g Other (f x) (h x)
map_row P Q (on_spelling s f) g h = λ x. g Other (f x) (h x)
map_row P Q (on_number f) g h = λ n. g Other (f n) (h n)
map_row P Q (on_digit d f) g h = λ at. g Other (f at) (h at)
map_row P Q (on_operator test f) g h = λ o e. g Nesting (f o) (h o e)

pub map_in : {V : Type 0} (P Q : Role → Prod V → Type 0) (rs : List (Row V)) → ((ρ : Role) (p : Prod V) → P ρ p → Q ρ p) → InRows P rs → InRows Q rs
map_in P Q [] g h = tt
map_in P Q (r ∷ rs) g h = (map_row P Q r g h.0, map_in P Q rs g h.1)

both_row : {V : Type 0} (P Q : Role → Prod V → Type 0) (r : Row V) → InRow P r → InRow Q r → InRow (λ ρ p. P ρ p × Q ρ p) r
both_row P Q (on_word w f) h g = λ at. (h at, g at)
both_row P Q (on_name f) h g = λ x. (h x, g x)
both_row P Q (on_one_part f) h g = λ x. (h x, g x)
both_row P Q (on_spelling s f) h g = λ x. (h x, g x)
both_row P Q (on_number f) h g = λ n. (h n, g n)
both_row P Q (on_digit d f) h g = λ at. (h at, g at)
both_row P Q (on_operator test f) h g = λ o e. (h o e, g o e)

pub both_in : {V : Type 0} (P Q : Role → Prod V → Type 0) (rs : List (Row V)) → InRows P rs → InRows Q rs → InRows (λ ρ p. P ρ p × Q ρ p) rs
both_in P Q [] h g = tt
both_in P Q (r ∷ rs) h g = (both_row P Q r h.0 g.0, both_in P Q rs h.1 g.1)
