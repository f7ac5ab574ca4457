-- The fixed parts of printed texts.
use Rattle.std.specs.Prelude.{ℕ, List, codes}
use Rattle.std.specs.Str.{encode_utf8_all}
use Prim.Native.String.{String}
use Rattle.lf_print.specs.declared.mark.Mark.{Mark}
use Rattle.lf_print.specs.declared.mark.Mark.TheVariants.{
  OpenParen,
  CloseParen,
  OpenBrace,
  CloseBrace,
  OpenBracket,
  CloseBracket,
  Space,
  Dot,
  Hole,
  Colon,
  Comma,
  Arrow,
  ForAll,
  Fun,
  Maps,
  LetIn,
  Assign,
  Then,
  Prop,
  TypeZero,
  TypeOf,
  SortOf,
  Plus,
  Max,
  Imax,
  Not,
  Iff,
  Or,
  And,
  Eq,
  Ne,
  Sub,
  Mul,
  Div,
  Mod,
  Cut,
}

-- A text as its bytes.
abbrev pub text : String → List ℕ
text t = encode_utf8_all (codes t)

unfoldable pub mark_text : Mark → List ℕ
mark_text OpenParen = text "("
mark_text CloseParen = text ")"
mark_text OpenBrace = text "{"
mark_text CloseBrace = text "}"
mark_text OpenBracket = text "["
mark_text CloseBracket = text "]"
mark_text Space = text " "
mark_text Dot = text "."
mark_text Hole = text "?"
mark_text Colon = text " : "
mark_text Comma = text ", "
mark_text Arrow = text " → "
mark_text ForAll = text "∀ "
mark_text Fun = text "fun "
mark_text Maps = text " => "
mark_text LetIn = text "let "
mark_text Assign = text " := "
mark_text Then = text "; "
mark_text Prop = text "Prop"
mark_text TypeZero = text "Type"
mark_text TypeOf = text "Type "
mark_text SortOf = text "Sort "
mark_text Plus = text " + "
mark_text Max = text "max "
mark_text Imax = text "imax "
mark_text Not = text "¬"
mark_text Iff = text " ↔ "
mark_text Or = text " ∨ "
mark_text And = text " ∧ "
mark_text Eq = text " = "
mark_text Ne = text " ≠ "
mark_text Sub = text " - "
mark_text Mul = text " * "
mark_text Div = text " / "
mark_text Mod = text " % "
mark_text Cut = text " ..."
