use Rattle.std.specs.Prelude.{ℕ, List, []}
use Rattle.lf_text.specs.declared.token.Token.{Token}
use Rattle.lf_text.specs.declared.word.Word.TheVariants.{LayoutClose}
use Rattle.lf_text.specs.Lexemes.{lexemes_of}
use Rattle.lf_text.specs.Layout.{mark, laid_out}

-- the tokens of a text, the layout tokens among them
unfoldable pub tokens_of : List ℕ → List Token
tokens_of bytes = laid_out bytes (mark LayoutClose 0) [] (lexemes_of bytes)
