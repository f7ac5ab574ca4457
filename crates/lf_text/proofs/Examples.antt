use Rattle.std.proofs.Common.{◌≡◌, ℕ, [], ◌∷◌, refl, true, codes}
use Rattle.lf_text.specs.declared.token.Token.{Token}
use Rattle.lf_text.specs.declared.token.TokenKind.{TokenKind}
use Rattle.lf_text.specs.declared.token.TokenKind.TheVariants.{Ident, Word, Num}
use Rattle.lf_text.specs.declared.word.Word.TheVariants.{Def, Assign, Colon, Theorem, By, LayoutOpen, LayoutSep, LayoutClose}
use Rattle.lf_text.specs.declared.word.Spelling.TheVariants.{Plain, Exact, Rfl}
use Rattle.lf_text.specs.Words.{utf8}
use Rattle.lf_text.specs.Lexemes.{lexemes_of, starts_part, continues_part, is_name}
use Rattle.lf_text.specs.Tokens.{tokens_of}
use Rattle.std.specs.Str.{chars}
use Rattle.unicode_ident.proofs.Computing.{unicode_ident}
use Rattle.std.specs.Char.{encode_utf8}

token : ℕ → ℕ → TokenKind → Token
token at len kind = record { at = at; len = len; kind = kind }

name : is_name (codes "ab.c1") ≡ true
unfolding starts_part continues_part unicode_ident encode_utf8
name = refl

word : lexemes_of (utf8 "def a := 12") ≡ token 0 3 (Word Def) ∷ token 4 1 (Ident Plain) ∷ token 6 2 (Word Assign) ∷ token 9 2 (Num 12) ∷ []
unfolding token lexemes_of chars starts_part continues_part unicode_ident encode_utf8
word = refl

layout : tokens_of (utf8 "theorem t : A := by\n  exact f\n  rfl\ndef") ≡
    token 0 7 (Word Theorem) ∷ token 8 1 (Ident Plain) ∷ token 10 1 (Word Colon) ∷ token 12 1 (Ident Plain) ∷ token 14 2 (Word Assign) ∷ token 17 2 (Word By)
    ∷ token 22 0 (Word LayoutOpen) ∷ token 22 5 (Ident Exact) ∷ token 28 1 (Ident Plain) ∷ token 32 0 (Word LayoutSep) ∷ token 32 3 (Ident Rfl)
    ∷ token 35 0 (Word LayoutClose) ∷ token 36 3 (Word Def) ∷ []
unfolding token lexemes_of tokens_of chars starts_part continues_part unicode_ident encode_utf8
layout = refl
