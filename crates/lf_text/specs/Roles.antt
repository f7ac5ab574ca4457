-- What tokens are to the rules of layout and of nesting.
use Rattle.std.specs.Prelude.{ℕ, Bool, nat_eq}
use Rattle.lf_text.specs.declared.word.Word.{Word}
use Rattle.lf_text.specs.declared.word.Word.TheVariants as word
use Rattle.lf_text.specs.declared.token.TokenKind.{TokenKind}
use Rattle.lf_text.specs.declared.token.TokenKind.TheVariants as kind
use Rattle.lf_text.specs.declared.role.Role.{Role}
use Rattle.lf_text.specs.declared.role.Role.TheVariants.{
  Command,
  BlockOpener,
  Where,
  Bar,
  Opening,
  Closing,
  Let,
  Semicolon,
  Nesting,
  BlockOpen,
  BlockSep,
  BlockClose,
  Other,
}

abbrev pub word_role : Word → Role
word_role word.Axiom = Command
word_role word.Def = Command
word_role word.Theorem = Command
word_role word.Inductive = Command
word_role word.Structure = Command
word_role word.Class = Command
word_role word.Instance = Command
word_role word.Namespace = Command
word_role word.Section = Command
word_role word.End = Command
word_role word.Open = Command
word_role word.Universe = Command
word_role word.Variable = Command
word_role word.Check = Command
word_role word.Reduce = Command
word_role word.Print = Command
word_role word.LeftOut = Command
word_role word.Fun = Nesting
word_role word.Forall = Nesting
word_role word.Let = Let
word_role word.By = BlockOpener
word_role word.Where = Where
word_role word.PropWord = Other
word_role word.TypeWord = Other
word_role word.SortWord = Other
word_role word.Sorry = Other
word_role word.LeftParen = Opening
word_role word.RightParen = Closing
word_role word.LeftBrace = Opening
word_role word.RightBrace = Closing
word_role word.LeftBracket = Opening
word_role word.RightBracket = Closing
word_role word.Colon = Other
word_role word.Assign = Other
word_role word.Comma = Other
word_role word.Semicolon = Semicolon
word_role word.FatArrow = Other
word_role word.AtSign = Nesting
word_role word.LevelBrace = Opening
word_role word.Dot = BlockOpener
word_role word.Bar = Bar
word_role word.NotSign = Nesting
word_role word.BackArrow = Other
word_role word.Underscore = Other
word_role word.LayoutOpen = BlockOpen
word_role word.LayoutSep = BlockSep
word_role word.LayoutClose = BlockClose

abbrev pub role_of : TokenKind → Role
role_of (kind.Ident s) = Other
role_of (kind.Word w) = word_role w
role_of (kind.Operator o) = Nesting
role_of (kind.Num n) = Other
role_of kind.BadChar = Other
role_of kind.OpenComment = Other
role_of kind.BadNum = Other
role_of kind.WideNum = Other

-- numbers by which roles are told apart
abbrev pub role_code : Role → ℕ
role_code Command = 0
role_code BlockOpener = 1
role_code Where = 2
role_code Bar = 3
role_code Opening = 4
role_code Closing = 5
role_code Let = 6
role_code Semicolon = 7
role_code Nesting = 8
role_code BlockOpen = 9
role_code BlockSep = 10
role_code BlockClose = 11
role_code Other = 12

abbrev pub is : Role → Role → Bool
is r s = nat_eq (role_code r) (role_code s)
