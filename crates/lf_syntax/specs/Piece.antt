-- The tokens of a command as the grammar sees them.
use Rattle.std.specs.Prelude.{ℕ, Bool, false}
use Rattle.lf_name.specs.Name.{Path}
use Rattle.lf_syntax.specs.declared.leaf.SyntaxFault.{SyntaxFault}
use Rattle.lf_text.specs.declared.operator.Op.{Op}
use Rattle.lf_text.specs.declared.word.Word.{Word}
use Rattle.lf_text.specs.declared.word.Word.TheVariants as words
use Rattle.lf_text.specs.declared.word.Spelling.{Spelling}
use Rattle.lf_text.specs.declared.word.Spelling.TheVariants as spellings
use Rattle.lf_text.specs.declared.role.Role.TheVariants.{Command}
use Rattle.lf_text.specs.Roles.{word_role, is}

pub data Class : Type 0 where
  word : Word → Class
  name : Spelling → Path → Class
  -- a numeral: its value, and how many digits it has
  number : ℕ → ℕ → Class
  operator : Op → Class
  -- A token that no command has, with the fault where it stands.
  wrong : SyntaxFault → Class

-- A token: its class, where it begins and where it ends, in bytes, and its nesting number.
pub record Piece : Type 0 where
  pub class : Class
  pub at : ℕ
  pub «end» : ℕ
  pub nesting : ℕ

abbrev pub begins_command : Class → Bool
begins_command (word w) = is Command (word_role w)
begins_command (name s x) = false
begins_command (number n digits) = false
begins_command (operator o) = false
begins_command (wrong f) = false

-- Numbers by which words are told apart.
abbrev pub word_code : Word → ℕ
word_code words.Axiom = 0
word_code words.Def = 1
word_code words.Theorem = 2
word_code words.Inductive = 3
word_code words.Structure = 4
word_code words.Class = 5
word_code words.Instance = 6
word_code words.Namespace = 7
word_code words.Section = 8
word_code words.End = 9
word_code words.Open = 10
word_code words.Universe = 11
word_code words.Variable = 12
word_code words.Check = 13
word_code words.Reduce = 14
word_code words.Print = 15
word_code words.LeftOut = 16
word_code words.Fun = 17
word_code words.Forall = 18
word_code words.Let = 19
word_code words.By = 20
word_code words.Where = 21
word_code words.PropWord = 22
word_code words.TypeWord = 23
word_code words.SortWord = 24
word_code words.Sorry = 25
word_code words.LeftParen = 26
word_code words.RightParen = 27
word_code words.LeftBrace = 28
word_code words.RightBrace = 29
word_code words.LeftBracket = 30
word_code words.RightBracket = 31
word_code words.Colon = 32
word_code words.Assign = 33
word_code words.Comma = 34
word_code words.Semicolon = 35
word_code words.FatArrow = 36
word_code words.AtSign = 37
word_code words.LevelBrace = 38
word_code words.Dot = 39
word_code words.Bar = 40
word_code words.NotSign = 41
word_code words.BackArrow = 42
word_code words.Underscore = 43
word_code words.LayoutOpen = 44
word_code words.LayoutSep = 45
word_code words.LayoutClose = 46

abbrev pub spelling_code : Spelling → ℕ
spelling_code spellings.Plain = 0
spelling_code spellings.Several = 1
spelling_code spellings.Exact = 2
spelling_code spellings.Intro = 3
spelling_code spellings.Apply = 4
spelling_code spellings.Rfl = 5
spelling_code spellings.Assumption = 6
spelling_code spellings.Rw = 7
spelling_code spellings.Unfold = 8
spelling_code spellings.Have = 9
spelling_code spellings.Induction = 10
spelling_code spellings.Cases = 11
spelling_code spellings.Injection = 12
spelling_code spellings.Max = 13
spelling_code spellings.Imax = 14
spelling_code spellings.Axioms = 15
