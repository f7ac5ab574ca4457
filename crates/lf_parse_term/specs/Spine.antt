-- Heads and arguments, one element at a time.
use Rattle.std.specs.Prelude.{◌≡◌, ◌<◌, ◌≤◌, ◌+◌, ℕ, true, false, length, List, [], ◌∷◌, ◌++◌, map, Option, None, Some, Result, Ok, Err}
use Rattle.std.specs.Borrow.{Bor}
use Rattle.lf_text.specs.declared.operator.Op.{Op}
use Rattle.lf_syntax.specs.declared.leaf.Ident.{Ident}
use Rattle.lf_syntax.specs.Piece.{Piece as SyntaxPiece}
use Rattle.lf_syntax.specs.Symbol.{Spine, BinderEnd, arrow_to, arguments_to}
use Rattle.lf_syntax.specs.Symbol as symbol
use Rattle.lf_syntax.specs.Tree.{LevelTree, TermTree, ItemTree, type_u, sort_u, oper, place}
use Rattle.lf_syntax.specs.Row.{Row, begins_as}
use Rattle.lf_name.specs.declared.binder.BinderKind.TheVariants.{Inst}
use Rattle.lf_syntax.specs.declared.term.Binders.{Binders}
use Rattle.lf_syntax.specs.Rows.{unnamed, binders_at, group_end_rows, name_levels_rows, argument_rows, operator_rows}
use Rattle.lf_syntax.specs.Levels.{operand_level}
use Rattle.lf_syntax.specs.Build.{is_underscore, with_arguments, applied, chain, sort_spine, name_term, group_of, names_spine, close_of}
use Rattle.lf_syntax.specs.Tree.{paren, option_of}
use Rattle.lf_parse_term.specs.Descent.{Reading, read, reading, maybe, seq, stuck, IsTold, ◌>>=◌}
use Rattle.lf_parse_term.specs.View.{views}
use Rattle.lf_parse_term.specs.declared.piece.Piece.{Piece}
use Rattle.lf_parse_term.specs.Front.{word_rows, arrow_rows}
use Rattle.lf_text.specs.declared.word.Word.TheVariants as words
use Rattle.lf_syntax.specs.TermNode.{term_tree, item_tree}
use Rattle.lf_syntax.specs.declared.term.TermNode.{TermNode}
use Rattle.lf_syntax.specs.declared.term.ItemNode.{ItemNode}
use Rattle.lf_parse_term.specs.declared.halt.Halt.{Halt}
use Rattle.lf_parse_term.specs.declared.halt.Halt.TheVariants.{NoMemory}
use Rattle.lf_parse_term.specs.declared.element.Element.{Element}
use Rattle.lf_parse_term.specs.declared.element.Element.TheVariants.{Atom, Lead}

-- `Type` and `Sort` without a level take the first argument for it where it can be one.
pub data Bare : Type 0 where
  bare : (Option LevelTree → TermTree) → Bare
  other : Bare

abbrev pub bare_sort : TermTree → Bare
bare_sort (type_u at None) = bare (type_u at)
bare_sort (sort_u at None) = bare (sort_u at)
bare_sort _ = other

abbrev pub settled : TermTree → List TermTree → Spine
settled t ts = elim (bare_sort t) [ bare make ↦ sort_spine make ts | other ↦ with_arguments t ts ]

abbrev pub list_of : Spine → List TermTree
list_of s = s.head ∷ s.arguments

-- Terms with arguments behind the last of them.
abbrev pub extend : List TermTree → List TermTree → List TermTree
extend [] ts = ts
extend (a ∷ []) ts = list_of (settled a ts)
extend (a ∷ b ∷ more) ts = a ∷ extend (b ∷ more) ts

-- What is read where this element stands.
unfoldable pub after : Element → List SyntaxPiece → Reading Spine
after (Atom t) ts = read symbol.arguments ts >>= (λ more rest. Ok (settled t more, rest))
after (Lead t) ts = Ok (with_arguments t [], ts)

unfoldable pub after_maybe : Option Element → List SyntaxPiece → Reading (Option Spine)
after_maybe None ts = Ok (None, ts)
after_maybe (Some (Atom t)) ts = read symbol.arguments ts >>= (λ more rest. Ok (Some (settled t more), rest))
after_maybe (Some (Lead t)) ts = Ok (Some (with_arguments t []), ts)

-- The code's answer is how the reading begins.
abbrev pub ToldThen : {A V : Type 0} → Result (A × Bor (List Piece)) Halt → (A → List SyntaxPiece → Reading V) → Reading V → Type 0
ToldThen (Ok x) f m = m ≡ f x.0 (views x.1.now)
ToldThen (Err e) f m = IsTold e → m ≡ Err e

-- The terms, and behind them the arguments that come next.
unfoldable pub extended : List TermTree → Reading (List TermTree) → Reading (List TermTree)
extended terms m = m >>= (λ more rest. Ok (extend terms more, rest))

-- The term with the operators behind it.
unfoldable pub chained : TermTree → Reading (List (Op × TermTree)) → Reading TermTree
chained t m = m >>= (λ ops rest. Ok (chain t ops, rest))

-- An application with the operators behind it.
abbrev pub chain_of : ℕ → List TermTree → List SyntaxPiece → Reading TermTree
chain_of least [] ts = stuck ts
chain_of least (h ∷ more) ts = chained (applied h more) (read (symbol.operators least operand_level) ts)

unfoldable pub operation : ℕ → List TermTree → List SyntaxPiece → Reading TermTree
operation least terms ts = extended terms (read symbol.arguments ts) >>= chain_of least

-- What stands behind the term of a group.
abbrev pub closed_rows : ℕ → TermTree → List (Row Spine)
closed_rows at t = begins_as group_end_rows [] (λ e. with_arguments (paren at t (option_of e.ty)) e.arguments)

-- The terms of names, of which the last has levels.
abbrev pub name_terms : List Ident → Ident → List LevelTree → List TermTree
name_terms before x ls = map (λ y. name_term y []) before ++ (name_term x ls ∷ [])

abbrev pub applied_all : List TermTree → TermTree
applied_all [] = type_u 0 None
applied_all (h ∷ ts) = applied h ts

abbrev pub some_lead : TermTree → Option Spine
some_lead t = Some (with_arguments t [])

-- Where a name has levels they come next; the lone `_` has none.
abbrev pub last_levels : Ident → List SyntaxPiece → Reading (List LevelTree)
last_levels x ts = elim (is_underscore x.name) [ true ↦ Ok ([], ts) | false ↦ read symbol.written_levels ts ]

-- An arrow or arguments behind a binder.
abbrev pub end_by : (BinderEnd → Spine) → Option (Unit {0}) → List SyntaxPiece → Reading Spine
end_by k (Some u) ts = read (symbol.term 0) ts >>= (λ b end. Ok (k (arrow_to b), end))
end_by k None ts = read symbol.arguments ts >>= (λ us end. Ok (k (arguments_to us), end))

-- Behind names and their type in the parenthesis at this place.
unfoldable pub named_close : ℕ → List Ident → Ident → TermTree → List SyntaxPiece → Reading Spine
named_close at before x ty ts = read (symbol.token words.RightParen) ts >>= (λ _ rest. maybe arrow_rows rest >>= end_by (close_of at before x ty))

-- Behind the names in the parenthesis at this place.
unfoldable pub names_end : ℕ → List Ident → Ident → List SyntaxPiece → Reading Spine
names_end at before x ts =
    maybe (word_rows words.Colon) ts >>= (λ m rest. elim m as (λ _. Reading Spine) [
      | Some _ ↦ read (symbol.term 0) rest >>= (λ ty more. named_close at before x ty more)
      | None ↦ last_levels x rest >>= (λ ls more. operation 0 (name_terms before x ls) more >>= (λ t end. reading (closed_rows at t) None end))
    ])

-- A term without arguments of its own; an item.
abbrev pub IsAtom : Result (Option Element × Bor (List Piece)) Halt → TermNode → List Piece → Type 0
IsAtom (Ok x) n ts = (x.0 ≡ Some (Atom (term_tree n))) × (x.1.now ≡ ts)
IsAtom (Err e) n ts = e ≡ NoMemory

abbrev pub IsItem : Result (ItemTree × Bor (List Piece)) Halt → ItemNode → List Piece → Type 0
IsItem (Ok x) n ts = (x.0 ≡ item_tree n) × (x.1.now ≡ ts)
IsItem (Err e) n ts = e ≡ NoMemory

abbrev pub weight : Option Element → ℕ
weight None = 0
weight (Some e) = 1

-- The tokens that are left, and a number for what was read, are no more than this.
abbrev pub Within : {A : Type 0} → Result (A × Bor (List Piece)) Halt → (A → ℕ) → ℕ → Type 0
Within (Ok x) size n = length x.1.now + size x.0 ≤ n
Within (Err e) size n = Unit {0}

abbrev pub bracket_type : ℕ → Ident → List SyntaxPiece → Reading Binders
bracket_type at x ts =
    read symbol.written_levels ts >>= (λ ls rest. operation 0 (name_term x ls ∷ []) rest
    >>= (λ ty more. seq (symbol.token words.RightBracket ∷ []) more (λ _. unnamed at ty)))

abbrev pub bracket_end : ℕ → Ident → Option ℕ → List SyntaxPiece → Reading Binders
bracket_end at x (Some p) ts = Ok (unnamed at (name_term x []), ts)
bracket_end at x None ts = bracket_type at x ts

abbrev pub bracket_name_by : ℕ → Ident → Option ℕ → List SyntaxPiece → Reading Binders
bracket_name_by at x (Some p) ts = seq (symbol.term 0 ∷ symbol.token words.RightBracket ∷ []) ts (λ ty _. binders_at at Inst (x ∷ []) ty)
bracket_name_by at x None ts = maybe (word_rows words.RightBracket) ts >>= bracket_end at x
