-- Words and symbols: each is written here once, with what it is. In the order of their bytes.
use Rattle.std.specs.Prelude.{ℕ, List, [], ◌∷◌, codes}
use Rattle.std.specs.Str.{encode_utf8_all}
use Prim.Native.String.{String}
use Rattle.lf_tables.specs.Rows.{Row}
use Rattle.lf_text.specs.declared.operator.Op.TheVariants as op
use Rattle.lf_text.specs.declared.word.Word.TheVariants as word
use Rattle.lf_text.specs.declared.word.Spelling.TheVariants as spelling
use Rattle.lf_text.specs.declared.token.TokenKind.{TokenKind}
use Rattle.lf_text.specs.declared.token.TokenKind.TheVariants.{Ident, Word, Operator}

-- the bytes of a text that is written out
abbrev pub utf8 : String → List ℕ
utf8 text = encode_utf8_all (codes text)

-- names: the reserved words, the hole `_`, and the identifiers that mean something in some places
abbrev pub named : List (Row TokenKind)
named =
    (utf8 "Prop", Word word.PropWord) ∷ (utf8 "Sort", Word word.SortWord) ∷ (utf8 "Type", Word word.TypeWord) ∷ (utf8 "_", Word word.Underscore) ∷
    (utf8 "abbrev", Word word.LeftOut) ∷ (utf8 "apply", Ident spelling.Apply) ∷ (utf8 "assumption", Ident spelling.Assumption) ∷
    (utf8 "attribute", Word word.LeftOut) ∷ (utf8 "axiom", Word word.Axiom) ∷ (utf8 "axioms", Ident spelling.Axioms) ∷ (utf8 "by", Word word.By) ∷
    (utf8 "cases", Ident spelling.Cases) ∷ (utf8 "class", Word word.Class) ∷ (utf8 "def", Word word.Def) ∷ (utf8 "deriving", Word word.LeftOut) ∷
    (utf8 "end", Word word.End) ∷ (utf8 "exact", Ident spelling.Exact) ∷ (utf8 "example", Word word.LeftOut) ∷ (utf8 "forall", Word word.Forall) ∷
    (utf8 "fun", Word word.Fun) ∷ (utf8 "have", Ident spelling.Have) ∷ (utf8 "imax", Ident spelling.Imax) ∷ (utf8 "import", Word word.LeftOut) ∷
    (utf8 "induction", Ident spelling.Induction) ∷ (utf8 "inductive", Word word.Inductive) ∷ (utf8 "injection", Ident spelling.Injection) ∷
    (utf8 "instance", Word word.Instance) ∷ (utf8 "intro", Ident spelling.Intro) ∷ (utf8 "let", Word word.Let) ∷ (utf8 "macro", Word word.LeftOut) ∷
    (utf8 "max", Ident spelling.Max) ∷ (utf8 "mutual", Word word.LeftOut) ∷ (utf8 "namespace", Word word.Namespace) ∷
    (utf8 "noncomputable", Word word.LeftOut) ∷ (utf8 "notation", Word word.LeftOut) ∷ (utf8 "opaque", Word word.LeftOut) ∷
    (utf8 "open", Word word.Open) ∷ (utf8 "partial", Word word.LeftOut) ∷ (utf8 "private", Word word.LeftOut) ∷
    (utf8 "protected", Word word.LeftOut) ∷ (utf8 "rfl", Ident spelling.Rfl) ∷ (utf8 "rw", Ident spelling.Rw) ∷ (utf8 "section", Word word.Section) ∷
    (utf8 "set_option", Word word.LeftOut) ∷ (utf8 "sorry", Word word.Sorry) ∷ (utf8 "structure", Word word.Structure) ∷
    (utf8 "syntax", Word word.LeftOut) ∷ (utf8 "theorem", Word word.Theorem) ∷ (utf8 "unfold", Ident spelling.Unfold) ∷
    (utf8 "universe", Word word.Universe) ∷ (utf8 "unsafe", Word word.LeftOut) ∷ (utf8 "variable", Word word.Variable) ∷
    (utf8 "where", Word word.Where) ∷ []

-- symbols
abbrev pub symbols : List (Row TokenKind)
symbols =
    (utf8 "#check", Word word.Check) ∷ (utf8 "#eval", Word word.LeftOut) ∷ (utf8 "#print", Word word.Print) ∷ (utf8 "#reduce", Word word.Reduce) ∷
    (utf8 "%", Operator op.Mod) ∷ (utf8 "(", Word word.LeftParen) ∷ (utf8 ")", Word word.RightParen) ∷ (utf8 "*", Operator op.Mul) ∷
    (utf8 "+", Operator op.Add) ∷ (utf8 ",", Word word.Comma) ∷ (utf8 "-", Operator op.Sub) ∷ (utf8 "->", Operator op.Arrow) ∷
    (utf8 ".{", Word word.LevelBrace) ∷ (utf8 "/", Operator op.Div) ∷ (utf8 "/\\", Operator op.And) ∷ (utf8 ":", Word word.Colon) ∷
    (utf8 ":=", Word word.Assign) ∷ (utf8 ";", Word word.Semicolon) ∷ (utf8 "<-", Word word.BackArrow) ∷ (utf8 "<->", Operator op.Iff) ∷
    (utf8 "=", Operator op.Eq) ∷ (utf8 "=>", Word word.FatArrow) ∷ (utf8 "@", Word word.AtSign) ∷ (utf8 "@[", Word word.LeftOut) ∷
    (utf8 "[", Word word.LeftBracket) ∷ (utf8 "\\/", Operator op.Or) ∷ (utf8 "]", Word word.RightBracket) ∷ (utf8 "{", Word word.LeftBrace) ∷
    (utf8 "|", Word word.Bar) ∷ (utf8 "}", Word word.RightBrace) ∷ (utf8 "¬", Word word.NotSign) ∷ (utf8 "·", Word word.Dot) ∷
    (utf8 "λ", Word word.Fun) ∷ (utf8 "←", Word word.BackArrow) ∷ (utf8 "→", Operator op.Arrow) ∷ (utf8 "↔", Operator op.Iff) ∷
    (utf8 "↦", Word word.FatArrow) ∷ (utf8 "∀", Word word.Forall) ∷ (utf8 "∧", Operator op.And) ∷ (utf8 "∨", Operator op.Or) ∷
    (utf8 "≠", Operator op.Ne) ∷ []
