use Rattle.std.proofs.Common.{◌≡◌, ℕ, ◌+◌, ◌-◌, ◌≤◌, ◌<◌, List, [], ◌∷◌, ◌++◌, length, take, drop, true, refl, sym, ap, ◌∙◌, subst, arith, zero, suc}
use Rattle.std.specs.Str.{encode_utf8_all, all_scalars, chars, IsUtf8}
use Rattle.std.proofs.lemmas.List.{length-drop, drop-drop}
use Rattle.std.proofs.lemmas.Str.{encodes-chars, scalars-chars}
use Rattle.lf_text.specs.declared.token.Token.{Token}
use Rattle.lf_text.specs.declared.word.Word.TheVariants.{LayoutClose}
use Rattle.lf_text.specs.declared.frame.Frame.{Frame}
use Rattle.lf_text.specs.Place.{line_of, column_of}
use Rattle.lf_text.specs.Layout.{mark, laid_out}
use Rattle.lf_text.specs.Lexemes.{piece_at, lexeme, lexemes_from, lexemes_of}
use Rattle.lf_text.specs.Tokens.{tokens_of}
use Rattle.lf_token.specs.declared.place.Place.{Place}
use Rattle.lf_token.specs.Places.{IsAt}
use Rattle.lf_token.specs.Spelling.{width}
use Rattle.lf_token.proofs.Logic.{slice_end}
use Rattle.lf_token.proofs.Symbols.{width_within}
use Rattle.lf_token.proofs.Walks.{drop_width, scalars_drop, lexemes_step, line_is, column_is, Bounds, bounds_of}

-- what is known at a place of a text, whose characters from there on are the rest
pub record Turn (bytes items rest : List ℕ) (place : Place) (done : ℕ) : Type 0 where
  pub rest_is : rest ≡ drop done items
  pub within : place.at ≤ length bytes
  pub spelled : drop place.at bytes ≡ encode_utf8_all rest
  pub scalars : all_scalars rest ≡ true
  pub line : place.line ≡ line_of bytes place.at
  pub column : place.column ≡ column_of bytes place.at
  pub bounds : Bounds place

pub turn_of : (bytes items ds : List ℕ) (place : Place) (done : ℕ) → IsUtf8 bytes → items ≡ chars bytes → ds ≡ items → done ≤ length items
    → IsAt (take done items) place →
    Turn bytes items (take (length ds - done) (drop done ds)) place done
turn_of bytes items ds place done u i d l h =
    let e : encode_utf8_all items ≡ bytes = ap encode_utf8_all i ∙ encodes-chars bytes u in
    let s : all_scalars items ≡ true = ap all_scalars i ∙ scalars-chars bytes u in
    let rest : take (length ds - done) (drop done ds) ≡ drop done items =
    ap (λ (xs : List ℕ). take (length xs - done) (drop done xs)) d ∙ slice_end done items in
    record {
      rest_is = rest;
      within = let w : width (take done items) ≤ width items = width_within items done l in omega (arith, h.at, ap length e);
      spelled = ap (drop place.at) (sym e) ∙ ap (λ (k : ℕ). drop k (encode_utf8_all items)) h.at ∙ drop_width done items ∙ ap encode_utf8_all (sym rest);
      scalars = ap all_scalars rest ∙ scalars_drop done items s;
      line = line_is items done place h ∙ ap (λ (bs : List ℕ). line_of bs place.at) e;
      column = column_is items done place l s h ∙ ap (λ (bs : List ℕ). column_of bs place.at) e;
      bounds = bounds_of (take done items) place h;
    }

take_sum : (n k : ℕ) (xs : List ℕ) → take n xs ++ take k (drop n xs) ≡ take (n + k) xs
take_sum zero k xs = ap (λ (m : ℕ). take m xs) (let e : k ≡ 0 + k = omega arith in e)
take_sum (suc n) zero [] = ap (λ (m : ℕ). take m []) (let e : suc n ≡ suc n + 0 = omega arith in e)
take_sum (suc n) (suc k) [] = ap (λ (m : ℕ). take m []) (let e : suc (n + suc k) ≡ suc n + suc k = omega arith in e)
take_sum (suc n) k (x ∷ xs) = ap (λ ys. x ∷ ys) (take_sum n k xs) ∙ ap (λ (m : ℕ). take m (x ∷ xs)) (let e : suc (n + k) ≡ suc n + k = omega arith in e)

-- the place behind a piece
pub next_place : (items rest : List ℕ) (done len : ℕ) (end : Place) → rest ≡ drop done items → IsAt (take done items ++ take len rest) end
    → IsAt (take (done + len) items) end
next_place items rest done len end r h =
    subst (λ (xs : List ℕ). IsAt xs end) (ap (λ (xs : List ℕ). take done items ++ take len xs) r ∙ take_sum done len items) h

pub next_within : (items rest : List ℕ) (done len : ℕ) → rest ≡ drop done items → done ≤ length items → len ≤ length rest → done + len ≤ length items
next_within items rest done len r l w =
    let a : length rest ≡ length (drop done items) = ap length r in
    let b : length (drop done items) ≡ length items - done = length-drop done items in omega arith

-- the tokens of the rest are those of the piece and of what is behind it
pub next_tokens : (items rest : List ℕ) (at end done len : ℕ) → rest ≡ drop done items → 0 < len → len ≤ length rest → len ≡ (piece_at rest).1
    → end ≡ at + width (take len rest) →
    lexemes_from at 0 (drop done items) ≡ lexeme at (take len rest) (piece_at rest).0 ++ lexemes_from end 0 (drop (done + len) items)
next_tokens items rest at end done len r some w p e =
    ap (lexemes_from at 0) (sym r) ∙ lexemes_step at len rest some w p
    ∙ ap (λ (k : ℕ). lexeme at (take len rest) (piece_at rest).0 ++ lexemes_from k 0 (drop len rest)) (sym e)
    ∙ ap (λ (xs : List ℕ). lexeme at (take len rest) (piece_at rest).0 ++ lexemes_from end 0 xs) (ap (drop len) r ∙ drop-drop len done items)

-- before the first piece
pub first_place : IsAt [] (record { at = 0; line = 1; column = 0 })
first_place = record { at = refl; line = refl; column = refl }

pub first_tokens : (bytes items : List ℕ) (tokens : List Token) (previous : Token) (frames : List Frame) → items ≡ chars bytes → tokens ≡ [] → frames ≡ []
    → previous ≡ mark LayoutClose 0 →
    tokens ++ laid_out bytes previous frames (lexemes_from 0 0 items) ≡ tokens_of bytes
unfolding tokens_of lexemes_of
first_tokens bytes items tokens previous frames i t f p =
    ap (λ ts. ts ++ laid_out bytes previous frames (lexemes_from 0 0 items)) t
    ∙ ap (λ q. laid_out bytes q frames (lexemes_from 0 0 items)) p
    ∙ ap (λ fs. laid_out bytes (mark LayoutClose 0) fs (lexemes_from 0 0 items)) f
    ∙ ap (λ (cs : List ℕ). laid_out bytes (mark LayoutClose 0) [] (lexemes_from 0 0 cs)) i
