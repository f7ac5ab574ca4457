-- The axioms that a text declares, and that they are right.
use Rattle.std.specs.Prelude.{◌≡◌, ℕ, ◌+◌, ◌≤◌, Bool, true, false, if◌then◌else◌, None, Ok, List, [], ◌∷◌, ◌++◌, length}
use Rattle.lf_core.specs.Term.{Path, Universe, Term, sort}
use Rattle.lf_core.specs.Size.{depth}
use Rattle.lf_rules.specs.Environment.{Environment}
use Rattle.lf_core.specs.declared.constant.ConstInfo.{ConstInfo}
use Rattle.lf_core.specs.declared.constant.ConstKind.TheVariants.{Axiom}
use Rattle.lf_core.specs.declared.constant.Detail.TheVariants.{Plain}
use Rattle.lf_front.specs.Infer.{type_of}
use Rattle.lf_front.specs.declared.token.Token.{Token}
use Rattle.lf_front.specs.declared.token.Token.TheVariants as token
use Rattle.lf_front.specs.Lexemes.{Tokens}
use Rattle.lf_front.specs.Grammar.{Spelled, is_declared}

-- How many of the tokens `(`, `∀` and `→` stand before the next `axiom`.
abbrev pub nesting : List Token → ℕ
nesting [] = 0
nesting (token.Axiom ∷ ts) = 0
nesting (token.Open ∷ ts) = 1 + nesting ts
nesting (token.Forall ∷ ts) = 1 + nesting ts
nesting (token.Arrow ∷ ts) = 1 + nesting ts
nesting (_ ∷ ts) = nesting ts

abbrev pub axiom_of : Path → Term → ConstInfo
axiom_of n t = record { name = n; kind = Axiom; levels = []; ty = t; value = None; height = 0; detail = Plain }

-- An axiom stands at the front of the tokens: its name is new, and its type is a type.
pub record DeclaresOne (E : Environment) (ts : List Token) (c : ConstInfo) (rest : List Token) : Type 0 where
  pub name : Path
  pub behind : List Token
  pub type : Term
  pub level : Universe
  pub tokens : ts ≡ token.Axiom ∷ token.Ident name ∷ token.Colon ∷ behind
  pub new : is_declared E name ≡ false
  pub flat : nesting behind ≤ 64
  pub spelled : Spelled E [] behind rest type
  pub shallow : depth type ≤ 1024
  pub typed : type_of E [] type ≡ Ok (sort level)
  pub constant : c ≡ axiom_of name type

-- The tokens declare these constants, over those before them.
abbrev pub Declares : Environment → List Token → Environment → Type 0
Declares E ts [] = ts ≡ []
Declares E ts (c ∷ cs) = (rest : List Token) × DeclaresOne E ts c rest × Declares (E ++ c ∷ []) rest cs

-- A text of at most 1,048,576 bytes that declares these axioms.
pub record Accepts (bytes : List ℕ) (axioms : Environment) : Type 0 where
  pub short : length bytes ≤ 1048576
  pub tokens : List Token
  pub read : Tokens bytes tokens
  pub declares : Declares [] tokens axioms
