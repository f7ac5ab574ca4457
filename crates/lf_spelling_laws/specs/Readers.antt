-- What tokens are, from one place of a list up to another.
use Rattle.std.specs.Prelude.{◌≡◌, ◌⊎◌, ℕ, true, List, [], ◌∷◌, Option, None, Some}
use Rattle.lf_name.specs.Name.{Path}
use Rattle.lf_text.specs.declared.word.Word.{Word}
use Rattle.lf_text.specs.declared.word.Word.TheVariants as words
use Rattle.lf_text.specs.declared.word.Spelling.{Spelling}
use Rattle.lf_text.specs.declared.operator.Op.{Op}
use Rattle.lf_syntax.specs.Piece.{Class, word, name, number, operator, Piece}
use Rattle.lf_syntax.specs.Row.{is_one_part}
use Rattle.lf_syntax.specs.Build.{is_one_part_name, is_named, is_underscore}
use Rattle.lf_syntax.specs.declared.leaf.Ident.{Ident}
use Rattle.lf_syntax.specs.declared.leaf.Num.{Num}

-- The tokens of the first list up to the second are something.
abbrev pub Reader : Type 1
Reader = List Piece → List Piece → Type 0

abbrev pub none : Reader
none ts us = ts ≡ us

-- One thing, and then another.
abbrev pub both : Reader → Reader → Reader
both p q ts us = (ws : List Piece) × p ts ws × q ws us

-- The first token is this one; it has this class; it stands at this place.
pub record First (ts us : List Piece) (c : Class) : Type 0 where
  pub token : Piece
  pub same : ts ≡ token ∷ us
  pub class : token.class ≡ c

pub record FirstAt (ts us : List Piece) (c : Class) (at : ℕ) : Type 0 where
  pub token : Piece
  pub same : ts ≡ token ∷ us
  pub class : token.class ≡ c
  pub place : token.at ≡ at

-- The tokens begin at this place.
pub record Starts (at : ℕ) (ts : List Piece) : Type 0 where
  pub token : Piece
  pub more : List Piece
  pub same : ts ≡ token ∷ more
  pub place : token.at ≡ at

-- A word or symbol; the same at a place; an operator; a numeral; the numeral of one digit.
abbrev pub mark : Word → Reader
mark w ts us = First ts us (word w)

abbrev pub word_at : Word → ℕ → Reader
word_at w at ts us = FirstAt ts us (word w) at

abbrev pub sign : Op → Reader
sign o ts us = First ts us (operator o)

abbrev pub numeral_token : Num → Reader
numeral_token n ts us = (digits : ℕ) × FirstAt ts us (number n.value digits) n.at

abbrev pub digit : ℕ → Reader
digit d ts us = First ts us (number d 1)

-- An identifier; one of one part; one that is spelled so.
abbrev pub any_name : Ident → Reader
any_name x ts us = (s : Spelling) × FirstAt ts us (name s x.name) x.at

abbrev pub one_part : Ident → Reader
one_part x ts us = (s : Spelling) × FirstAt ts us (name s x.name) x.at × ((is_one_part s ≡ true) ⊎ (is_one_part_name x.name ≡ true))

abbrev pub spelled : Spelling → ℕ → Reader
spelled s at ts us = (x : Path) × FirstAt ts us (name s x) at

-- The name of one part with these bytes.
abbrev pub named : Spelling → List ℕ → ℕ → Reader
named r w at ts us = (s : Spelling) × (x : Path) × FirstAt ts us (name s x) at × ((s ≡ r) ⊎ (is_named w x ≡ true))

-- A name of one part, or the lone `_`.
abbrev pub binder_name : Ident → Reader
binder_name x ts us = one_part x ts us ⊎ (word_at words.Underscore x.at ts us × (is_underscore x.name ≡ true))

abbrev pub each : {A : Type 0} → (A → Reader) → List A → Reader
each p [] = none
each p (x ∷ xs) = both (p x) (each p xs)

-- `, x` for each of these.
abbrev pub each_behind : {A : Type 0} → Word → (A → Reader) → List A → Reader
each_behind w p [] = none
each_behind w p (x ∷ xs) = both (mark w) (both (p x) (each_behind w p xs))

-- Two items are parted by the layout or by `;`.
abbrev pub separator : Reader
separator ts us = mark words.LayoutSep ts us ⊎ mark words.Semicolon ts us

abbrev pub each_parted : {A : Type 0} → (A → Reader) → List A → Reader
each_parted p [] = none
each_parted p (x ∷ xs) = both separator (both (p x) (each_parted p xs))

-- A block of these, or nothing where there are none.
abbrev pub where_block : {A : Type 0} → (A → Reader) → List A → Reader
where_block p [] = none
where_block p (x ∷ xs) = both (mark words.Where) (both (mark words.LayoutOpen) (both (p x) (both (each_parted p xs) (mark words.LayoutClose))))

abbrev pub if_any : {A : Type 0} → (A → Reader) → Option A → Reader
if_any p None = none
if_any p (Some x) = p x
