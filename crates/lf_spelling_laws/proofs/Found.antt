-- The row that is found fits its token.
use Rattle.std.proofs.Common.{◌≡◌, ℕ, zero, suc, List, [], ◌∷◌, ◌++◌, Bool, true, false, ◌&&◌, Option, Some, None, refl, sym, ap, subst, ◌∙◌, nat_eq}
use Rattle.std.proofs.lemmas.Bool.{eqb-true}
use Rattle.lf_name.specs.Name.{Path}
use Rattle.lf_text.specs.declared.word.Word.{Word}
use Rattle.lf_text.specs.declared.word.Word.TheVariants as words
use Rattle.lf_text.specs.declared.word.Spelling.{Spelling}
use Rattle.lf_text.specs.declared.word.Spelling.TheVariants as spelt
use Rattle.lf_text.specs.declared.operator.Op.{Op}
use Rattle.lf_syntax.specs.declared.leaf.Ident.{Ident}
use Rattle.lf_syntax.specs.Predictive.{Takes}
use Rattle.lf_syntax.specs.Piece.{Class, word, name, number, operator, word_code, spelling_code, Piece}
use Rattle.lf_syntax.specs.Symbol.{Symbol, Tree}
use Rattle.lf_syntax.specs.Row.{
  Row,
  Prod,
  on_word,
  on_name,
  on_one_part,
  on_spelling,
  on_number,
  on_digit,
  on_operator,
  try,
  first_row,
  if_true,
  is_one_part,
  and_then,
  begins_as,
}

abbrev all_words : List Word
all_words = words.Axiom ∷ words.Def ∷ words.Theorem ∷ words.Inductive ∷ words.Structure ∷ words.Class ∷ words.Instance ∷ words.Namespace ∷
    words.Section ∷ words.End ∷ words.Open ∷ words.Universe ∷ words.Variable ∷ words.Check ∷ words.Reduce ∷ words.Print ∷ words.LeftOut ∷ words.Fun ∷
    words.Forall ∷ words.Let ∷ words.By ∷ words.Where ∷ words.PropWord ∷ words.TypeWord ∷ words.SortWord ∷ words.Sorry ∷ words.LeftParen ∷
    words.RightParen ∷ words.LeftBrace ∷ words.RightBrace ∷ words.LeftBracket ∷ words.RightBracket ∷ words.Colon ∷ words.Assign ∷ words.Comma ∷
    words.Semicolon ∷ words.FatArrow ∷ words.AtSign ∷ words.LevelBrace ∷ words.Dot ∷ words.Bar ∷ words.NotSign ∷ words.BackArrow ∷ words.Underscore ∷
    words.LayoutOpen ∷ words.LayoutSep ∷ words.LayoutClose ∷ []

abbrev pick : {A : Type 0} → A → List A → ℕ → A
pick a [] n = a
pick a (w ∷ ws) zero = w
pick a (w ∷ ws) (suc n) = pick a ws n

picked : (w : Word) → pick words.LayoutClose all_words (word_code w) ≡ w
picked words.Axiom = refl
picked words.Def = refl
picked words.Theorem = refl
picked words.Inductive = refl
picked words.Structure = refl
picked words.Class = refl
picked words.Instance = refl
picked words.Namespace = refl
picked words.Section = refl
picked words.End = refl
picked words.Open = refl
picked words.Universe = refl
picked words.Variable = refl
picked words.Check = refl
picked words.Reduce = refl
picked words.Print = refl
picked words.LeftOut = refl
picked words.Fun = refl
picked words.Forall = refl
picked words.Let = refl
picked words.By = refl
picked words.Where = refl
picked words.PropWord = refl
picked words.TypeWord = refl
picked words.SortWord = refl
picked words.Sorry = refl
picked words.LeftParen = refl
picked words.RightParen = refl
picked words.LeftBrace = refl
picked words.RightBrace = refl
picked words.LeftBracket = refl
picked words.RightBracket = refl
picked words.Colon = refl
picked words.Assign = refl
picked words.Comma = refl
picked words.Semicolon = refl
picked words.FatArrow = refl
picked words.AtSign = refl
picked words.LevelBrace = refl
picked words.Dot = refl
picked words.Bar = refl
picked words.NotSign = refl
picked words.BackArrow = refl
picked words.Underscore = refl
picked words.LayoutOpen = refl
picked words.LayoutSep = refl
picked words.LayoutClose = refl

same_word : (w v : Word) → nat_eq (word_code w) (word_code v) ≡ true → w ≡ v
same_word w v e = sym (picked w) ∙ ap (pick words.LayoutClose all_words) (eqb-true (word_code w) (word_code v) e) ∙ picked v

abbrev all_spellings : List Spelling
all_spellings = spelt.Plain ∷ spelt.Several ∷ spelt.Exact ∷ spelt.Intro ∷ spelt.Apply ∷ spelt.Rfl ∷ spelt.Assumption ∷ spelt.Rw ∷ spelt.Unfold ∷
    spelt.Have ∷ spelt.Induction ∷ spelt.Cases ∷ spelt.Injection ∷ spelt.Max ∷ spelt.Imax ∷ spelt.Axioms ∷ []

spelling_picked : (w : Spelling) → pick spelt.Plain all_spellings (spelling_code w) ≡ w
spelling_picked spelt.Plain = refl
spelling_picked spelt.Several = refl
spelling_picked spelt.Exact = refl
spelling_picked spelt.Intro = refl
spelling_picked spelt.Apply = refl
spelling_picked spelt.Rfl = refl
spelling_picked spelt.Assumption = refl
spelling_picked spelt.Rw = refl
spelling_picked spelt.Unfold = refl
spelling_picked spelt.Have = refl
spelling_picked spelt.Induction = refl
spelling_picked spelt.Cases = refl
spelling_picked spelt.Injection = refl
spelling_picked spelt.Max = refl
spelling_picked spelt.Imax = refl
spelling_picked spelt.Axioms = refl

same_spelling : (w v : Spelling) → nat_eq (spelling_code w) (spelling_code v) ≡ true → w ≡ v
same_spelling w v e = sym (spelling_picked w) ∙ ap (pick spelt.Plain all_spellings) (eqb-true (spelling_code w) (spelling_code v) e) ∙ spelling_picked v

abbrev ident_of : Piece → Path → Ident
ident_of t x = record { at = t.at; name = x }

abbrev pub InRow : {V : Type 0} → (Piece → Prod V → Type 0) → Row V → Type 0
InRow Q (on_word w f) = (t : Piece) → t.class ≡ word w → Q t (f t.at)
InRow Q (on_name f) = (t : Piece) (s : Spelling) (x : Path) → t.class ≡ name s x → Q t (f (ident_of t x))
InRow Q (on_one_part f) = (t : Piece) (s : Spelling) (x : Path) → t.class ≡ name s x → is_one_part s ≡ true → Q t (f (ident_of t x))
InRow Q (on_spelling r f) = (t : Piece) (x : Path) → t.class ≡ name r x → Q t (f (ident_of t x))
InRow Q (on_number f) = (t : Piece) (n digits : ℕ) → t.class ≡ number n digits → Q t (f (record { at = t.at; value = n }))
InRow Q (on_digit d f) = (t : Piece) → t.class ≡ number d 1 → Q t (f t.at)
InRow Q (on_operator test f) = (t : Piece) (o : Op) → t.class ≡ operator o → test o ≡ true → Q t (f o)

abbrev pub InRows : {V : Type 0} → (Piece → Prod V → Type 0) → List (Row V) → Type 0
InRows Q [] = Unit {0}
InRows Q (r ∷ rs) = InRow Q r × InRows Q rs

if_in : {V : Type 0} (Q : Prod V → Type 0) (b : Bool) (p q : Prod V) → (b ≡ true → Q p) → if_true b p ≡ Some q → Q q
if_in Q true p q h e = let f : p ≡ q = cc in subst Q f (h refl)
if_in Q false p q h e = cc

some_in : {V : Type 0} (Q : Prod V → Type 0) (p q : Prod V) → Q p → ◌≡◌ {A = Option (Prod V)} (Some p) (Some q) → Q q
some_in Q p q h e = let f : p ≡ q = cc in subst Q f h

and_left : (a b : Bool) → a && b ≡ true → a ≡ true
and_left true b e = refl
and_left false b e = e

and_right : (a b : Bool) → a && b ≡ true → b ≡ true
and_right true b e = e
and_right false b e = cc

one_digit : (c : Class) (d n digits : ℕ) → c ≡ number n digits → nat_eq d n && nat_eq 1 digits ≡ true → c ≡ number d 1
one_digit c d n digits e g =
    let a : d ≡ n = eqb-true d n (and_left (nat_eq d n) (nat_eq 1 digits) g) in
    let b : 1 ≡ digits = eqb-true 1 digits (and_right (nat_eq d n) (nat_eq 1 digits) g) in
    e ∙ ap (λ (k : ℕ). number k digits) (sym a) ∙ ap (λ (k : ℕ). number d k) (sym b)

try_in : {V : Type 0} (Q : Piece → Prod V → Type 0) (r : Row V) (c : Class) (t : Piece) (p : Prod V) → t.class ≡ c → InRow Q r → try r c t.at ≡ Some p → Q t p
try_in Q (on_word w f) (word v) t p c h e = if_in (Q t) _ (f t.at) p (λ g. h t (c ∙ ap word (sym (same_word w v g)))) e
try_in Q (on_name f) (name s x) t p c h e = some_in (Q t) (f (ident_of t x)) p (h t s x c) e
try_in Q (on_one_part f) (name s x) t p c h e = if_in (Q t) _ (f (ident_of t x)) p (λ g. h t s x c g) e
try_in Q (on_spelling r f) (name s x) t p c h e = if_in (Q t) _ (f (ident_of t x)) p (λ g. h t x (c ∙
    ap (λ (q : Spelling). name q x) (sym (same_spelling r s g)))) e
try_in Q (on_number f) (number n digits) t p c h e = some_in (Q t) (f (record { at = t.at; value = n })) p (h t n digits c) e
try_in Q (on_digit d f) (number n digits) t p c h e = if_in (Q t) _ (f t.at) p (λ g. h t (one_digit t.class d n digits c g)) e
try_in Q (on_operator test f) (operator o) t p c h e = if_in (Q t) (test o) (f o) p (λ g. h t o c g) e
try_in Q _ _ t p c h e = cc

pub found : {V : Type 0} (Q : Piece → Prod V → Type 0) (rs : List (Row V)) (t : Piece) (p : Prod V) → InRows Q rs → first_row rs t.class t.at ≡ Some p → Q t p
found Q [] t p h e = cc
found {V} Q (r ∷ rs) t p h e = go (try r t.class t.at) refl e (found Q rs t p h.1)
  where
    go : (o : Option (Prod V)) → try r t.class t.at ≡ o → elim o as (λ _. Option (Prod V)) [ Some q ↦ Some q | None ↦ first_row rs t.class t.at ] ≡ Some p →
        (first_row rs t.class t.at ≡ Some p → Q t p) → Q t p
    go (Some q) f e ih = try_in Q r t.class t p refl h.0 (f ∙ e)
    go None f e ih = ih e

pub begins_in : {A V : Type 0} (P : Piece → Prod A → Type 0) (Q : Piece → Prod V → Type 0) (rs : List (Row A)) (ys : List Symbol) (k : A → Takes Tree ys V) →
    ((t : Piece) (p : Prod A) → P t p → Q t (and_then p ys k)) → InRows P rs → InRows Q (begins_as rs ys k)
begins_in P Q [] ys k g h = tt
begins_in P Q (on_word w f ∷ rs) ys k g h = (λ t e. g t (f t.at) (h.0 t e), begins_in P Q rs ys k g h.1)
begins_in P Q (on_name f ∷ rs) ys k g h = (λ t s x e. g t (f (ident_of t x)) (h.0 t s x e), begins_in P Q rs ys k g h.1)
begins_in P Q (on_one_part f ∷ rs) ys k g h = (λ t s x e o. g t (f (ident_of t x)) (h.0 t s x e o), begins_in P Q rs ys k g h.1)
begins_in P Q (on_spelling r f ∷ rs) ys k g h = (λ t x e. g t (f (ident_of t x)) (h.0 t x e), begins_in P Q rs ys k g h.1)
begins_in P Q (on_number f ∷ rs) ys k g h = (λ t n digits e. g t (f (record { at = t.at; value = n })) (h.0 t n digits e), begins_in P Q rs ys k g h.1)
begins_in P Q (on_digit d f ∷ rs) ys k g h = (λ t e. g t (f t.at) (h.0 t e), begins_in P Q rs ys k g h.1)
begins_in P Q (on_operator test f ∷ rs) ys k g h = (λ t o e c. g t (f o) (h.0 t o e c), begins_in P Q rs ys k g h.1)

pub append_in : {V : Type 0} (Q : Piece → Prod V → Type 0) (rs ss : List (Row V)) → InRows Q rs → InRows Q ss → InRows Q (rs ++ ss)
append_in Q [] ss h g = g
append_in Q (r ∷ rs) ss h g = (h.0, append_in Q rs ss h.1 g)
