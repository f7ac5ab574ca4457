use Rattle.std.proofs.Common.{◌≡◌, ◌∙◌, refl, ap, sym, ℕ, List, [], ◌∷◌}
use Rattle.std.specs.Char.{encode_utf8}
use Rattle.lf_print.specs.Mark.{mark_text}
use Rattle.lf_print.specs.declared.mark.Mark.{Mark}
use Rattle.lf_print.specs.declared.mark.Mark.TheVariants.{
  OpenParen,
  CloseParen,
  OpenBrace,
  CloseBrace,
  OpenBracket,
  CloseBracket,
  Space,
  Dot,
  Hole,
  Colon,
  Comma,
  Arrow,
  ForAll,
  Fun,
  Maps,
  LetIn,
  Assign,
  Then,
  Prop,
  TypeZero,
  TypeOf,
  SortOf,
  Plus,
  Max,
  Imax,
  Not,
  Iff,
  Or,
  And,
  Eq,
  Ne,
  Sub,
  Mul,
  Div,
  Mod,
  Cut,
}
use Rattle.lf_print.proofs.mark.Mark.text.Goals as goal

is_OpenParen : (m : Mark) → m ≡ OpenParen → (40 ∷ []) ≡ mark_text m
unfolding mark_text encode_utf8
is_OpenParen m h = ap mark_text (sym h)

pub returns-in-OpenParen : goal.returns-in-OpenParen
returns-in-OpenParen c = is_OpenParen c.args.self c.in-OpenParen.is

is_CloseParen : (m : Mark) → m ≡ CloseParen → (41 ∷ []) ≡ mark_text m
unfolding mark_text encode_utf8
is_CloseParen m h = ap mark_text (sym h)

pub returns-in-CloseParen : goal.returns-in-CloseParen
returns-in-CloseParen c = is_CloseParen c.args.self c.in-CloseParen.is

is_OpenBrace : (m : Mark) → m ≡ OpenBrace → (123 ∷ []) ≡ mark_text m
unfolding mark_text encode_utf8
is_OpenBrace m h = ap mark_text (sym h)

pub returns-in-OpenBrace : goal.returns-in-OpenBrace
returns-in-OpenBrace c = is_OpenBrace c.args.self c.in-OpenBrace.is

is_CloseBrace : (m : Mark) → m ≡ CloseBrace → (125 ∷ []) ≡ mark_text m
unfolding mark_text encode_utf8
is_CloseBrace m h = ap mark_text (sym h)

pub returns-in-CloseBrace : goal.returns-in-CloseBrace
returns-in-CloseBrace c = is_CloseBrace c.args.self c.in-CloseBrace.is

is_OpenBracket : (m : Mark) → m ≡ OpenBracket → (91 ∷ []) ≡ mark_text m
unfolding mark_text encode_utf8
is_OpenBracket m h = ap mark_text (sym h)

pub returns-in-OpenBracket : goal.returns-in-OpenBracket
returns-in-OpenBracket c = is_OpenBracket c.args.self c.in-OpenBracket.is

is_CloseBracket : (m : Mark) → m ≡ CloseBracket → (93 ∷ []) ≡ mark_text m
unfolding mark_text encode_utf8
is_CloseBracket m h = ap mark_text (sym h)

pub returns-in-CloseBracket : goal.returns-in-CloseBracket
returns-in-CloseBracket c = is_CloseBracket c.args.self c.in-CloseBracket.is

is_Space : (m : Mark) → m ≡ Space → (32 ∷ []) ≡ mark_text m
unfolding mark_text encode_utf8
is_Space m h = ap mark_text (sym h)

pub returns-in-Space : goal.returns-in-Space
returns-in-Space c = is_Space c.args.self c.in-Space.is

is_Dot : (m : Mark) → m ≡ Dot → (46 ∷ []) ≡ mark_text m
unfolding mark_text encode_utf8
is_Dot m h = ap mark_text (sym h)

pub returns-in-Dot : goal.returns-in-Dot
returns-in-Dot c = is_Dot c.args.self c.in-Dot.is

is_Hole : (m : Mark) → m ≡ Hole → (63 ∷ []) ≡ mark_text m
unfolding mark_text encode_utf8
is_Hole m h = ap mark_text (sym h)

pub returns-in-Hole : goal.returns-in-Hole
returns-in-Hole c = is_Hole c.args.self c.in-Hole.is

is_Colon : (m : Mark) → m ≡ Colon → (32 ∷ 58 ∷ 32 ∷ []) ≡ mark_text m
unfolding mark_text encode_utf8
is_Colon m h = ap mark_text (sym h)

pub returns-in-Colon : goal.returns-in-Colon
returns-in-Colon c = is_Colon c.args.self c.in-Colon.is

is_Comma : (m : Mark) → m ≡ Comma → (44 ∷ 32 ∷ []) ≡ mark_text m
unfolding mark_text encode_utf8
is_Comma m h = ap mark_text (sym h)

pub returns-in-Comma : goal.returns-in-Comma
returns-in-Comma c = is_Comma c.args.self c.in-Comma.is

is_Arrow : (m : Mark) → m ≡ Arrow → (32 ∷ 226 ∷ 134 ∷ 146 ∷ 32 ∷ []) ≡ mark_text m
unfolding mark_text encode_utf8
is_Arrow m h = ap mark_text (sym h)

pub returns-in-Arrow : goal.returns-in-Arrow
returns-in-Arrow c = is_Arrow c.args.self c.in-Arrow.is

is_ForAll : (m : Mark) → m ≡ ForAll → (226 ∷ 136 ∷ 128 ∷ 32 ∷ []) ≡ mark_text m
unfolding mark_text encode_utf8
is_ForAll m h = ap mark_text (sym h)

pub returns-in-ForAll : goal.returns-in-ForAll
returns-in-ForAll c = is_ForAll c.args.self c.in-ForAll.is

is_Fun : (m : Mark) → m ≡ Fun → (102 ∷ 117 ∷ 110 ∷ 32 ∷ []) ≡ mark_text m
unfolding mark_text encode_utf8
is_Fun m h = ap mark_text (sym h)

pub returns-in-Fun : goal.returns-in-Fun
returns-in-Fun c = is_Fun c.args.self c.in-Fun.is

is_Maps : (m : Mark) → m ≡ Maps → (32 ∷ 61 ∷ 62 ∷ 32 ∷ []) ≡ mark_text m
unfolding mark_text encode_utf8
is_Maps m h = ap mark_text (sym h)

pub returns-in-Maps : goal.returns-in-Maps
returns-in-Maps c = is_Maps c.args.self c.in-Maps.is

is_LetIn : (m : Mark) → m ≡ LetIn → (108 ∷ 101 ∷ 116 ∷ 32 ∷ []) ≡ mark_text m
unfolding mark_text encode_utf8
is_LetIn m h = ap mark_text (sym h)

pub returns-in-LetIn : goal.returns-in-LetIn
returns-in-LetIn c = is_LetIn c.args.self c.in-LetIn.is

is_Assign : (m : Mark) → m ≡ Assign → (32 ∷ 58 ∷ 61 ∷ 32 ∷ []) ≡ mark_text m
unfolding mark_text encode_utf8
is_Assign m h = ap mark_text (sym h)

pub returns-in-Assign : goal.returns-in-Assign
returns-in-Assign c = is_Assign c.args.self c.in-Assign.is

is_Then : (m : Mark) → m ≡ Then → (59 ∷ 32 ∷ []) ≡ mark_text m
unfolding mark_text encode_utf8
is_Then m h = ap mark_text (sym h)

pub returns-in-Then : goal.returns-in-Then
returns-in-Then c = is_Then c.args.self c.in-Then.is

is_Prop : (m : Mark) → m ≡ Prop → (80 ∷ 114 ∷ 111 ∷ 112 ∷ []) ≡ mark_text m
unfolding mark_text encode_utf8
is_Prop m h = ap mark_text (sym h)

pub returns-in-Prop : goal.returns-in-Prop
returns-in-Prop c = is_Prop c.args.self c.in-Prop.is

is_TypeZero : (m : Mark) → m ≡ TypeZero → (84 ∷ 121 ∷ 112 ∷ 101 ∷ []) ≡ mark_text m
unfolding mark_text encode_utf8
is_TypeZero m h = ap mark_text (sym h)

pub returns-in-TypeZero : goal.returns-in-TypeZero
returns-in-TypeZero c = is_TypeZero c.args.self c.in-TypeZero.is

is_TypeOf : (m : Mark) → m ≡ TypeOf → (84 ∷ 121 ∷ 112 ∷ 101 ∷ 32 ∷ []) ≡ mark_text m
unfolding mark_text encode_utf8
is_TypeOf m h = ap mark_text (sym h)

pub returns-in-TypeOf : goal.returns-in-TypeOf
returns-in-TypeOf c = is_TypeOf c.args.self c.in-TypeOf.is

is_SortOf : (m : Mark) → m ≡ SortOf → (83 ∷ 111 ∷ 114 ∷ 116 ∷ 32 ∷ []) ≡ mark_text m
unfolding mark_text encode_utf8
is_SortOf m h = ap mark_text (sym h)

pub returns-in-SortOf : goal.returns-in-SortOf
returns-in-SortOf c = is_SortOf c.args.self c.in-SortOf.is

is_Plus : (m : Mark) → m ≡ Plus → (32 ∷ 43 ∷ 32 ∷ []) ≡ mark_text m
unfolding mark_text encode_utf8
is_Plus m h = ap mark_text (sym h)

pub returns-in-Plus : goal.returns-in-Plus
returns-in-Plus c = is_Plus c.args.self c.in-Plus.is

is_Max : (m : Mark) → m ≡ Max → (109 ∷ 97 ∷ 120 ∷ 32 ∷ []) ≡ mark_text m
unfolding mark_text encode_utf8
is_Max m h = ap mark_text (sym h)

pub returns-in-Max : goal.returns-in-Max
returns-in-Max c = is_Max c.args.self c.in-Max.is

is_Imax : (m : Mark) → m ≡ Imax → (105 ∷ 109 ∷ 97 ∷ 120 ∷ 32 ∷ []) ≡ mark_text m
unfolding mark_text encode_utf8
is_Imax m h = ap mark_text (sym h)

pub returns-in-Imax : goal.returns-in-Imax
returns-in-Imax c = is_Imax c.args.self c.in-Imax.is

is_Not : (m : Mark) → m ≡ Not → (194 ∷ 172 ∷ []) ≡ mark_text m
unfolding mark_text encode_utf8
is_Not m h = ap mark_text (sym h)

pub returns-in-Not : goal.returns-in-Not
returns-in-Not c = is_Not c.args.self c.in-Not.is

is_Iff : (m : Mark) → m ≡ Iff → (32 ∷ 226 ∷ 134 ∷ 148 ∷ 32 ∷ []) ≡ mark_text m
unfolding mark_text encode_utf8
is_Iff m h = ap mark_text (sym h)

pub returns-in-Iff : goal.returns-in-Iff
returns-in-Iff c = is_Iff c.args.self c.in-Iff.is

is_Or : (m : Mark) → m ≡ Or → (32 ∷ 226 ∷ 136 ∷ 168 ∷ 32 ∷ []) ≡ mark_text m
unfolding mark_text encode_utf8
is_Or m h = ap mark_text (sym h)

pub returns-in-Or : goal.returns-in-Or
returns-in-Or c = is_Or c.args.self c.in-Or.is

is_And : (m : Mark) → m ≡ And → (32 ∷ 226 ∷ 136 ∷ 167 ∷ 32 ∷ []) ≡ mark_text m
unfolding mark_text encode_utf8
is_And m h = ap mark_text (sym h)

pub returns-in-And : goal.returns-in-And
returns-in-And c = is_And c.args.self c.in-And.is

is_Eq : (m : Mark) → m ≡ Eq → (32 ∷ 61 ∷ 32 ∷ []) ≡ mark_text m
unfolding mark_text encode_utf8
is_Eq m h = ap mark_text (sym h)

pub returns-in-Eq : goal.returns-in-Eq
returns-in-Eq c = is_Eq c.args.self c.in-Eq.is

is_Ne : (m : Mark) → m ≡ Ne → (32 ∷ 226 ∷ 137 ∷ 160 ∷ 32 ∷ []) ≡ mark_text m
unfolding mark_text encode_utf8
is_Ne m h = ap mark_text (sym h)

pub returns-in-Ne : goal.returns-in-Ne
returns-in-Ne c = is_Ne c.args.self c.in-Ne.is

is_Sub : (m : Mark) → m ≡ Sub → (32 ∷ 45 ∷ 32 ∷ []) ≡ mark_text m
unfolding mark_text encode_utf8
is_Sub m h = ap mark_text (sym h)

pub returns-in-Sub : goal.returns-in-Sub
returns-in-Sub c = is_Sub c.args.self c.in-Sub.is

is_Mul : (m : Mark) → m ≡ Mul → (32 ∷ 42 ∷ 32 ∷ []) ≡ mark_text m
unfolding mark_text encode_utf8
is_Mul m h = ap mark_text (sym h)

pub returns-in-Mul : goal.returns-in-Mul
returns-in-Mul c = is_Mul c.args.self c.in-Mul.is

is_Div : (m : Mark) → m ≡ Div → (32 ∷ 47 ∷ 32 ∷ []) ≡ mark_text m
unfolding mark_text encode_utf8
is_Div m h = ap mark_text (sym h)

pub returns-in-Div : goal.returns-in-Div
returns-in-Div c = is_Div c.args.self c.in-Div.is

is_Mod : (m : Mark) → m ≡ Mod → (32 ∷ 37 ∷ 32 ∷ []) ≡ mark_text m
unfolding mark_text encode_utf8
is_Mod m h = ap mark_text (sym h)

pub returns-in-Mod : goal.returns-in-Mod
returns-in-Mod c = is_Mod c.args.self c.in-Mod.is

is_Cut : (m : Mark) → m ≡ Cut → (32 ∷ 46 ∷ 46 ∷ 46 ∷ []) ≡ mark_text m
unfolding mark_text encode_utf8
is_Cut m h = ap mark_text (sym h)

pub returns-in-Cut : goal.returns-in-Cut
returns-in-Cut c = is_Cut c.args.self c.in-Cut.is
