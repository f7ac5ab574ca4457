-- What the parts of commands read, where several commands have them.
use Rattle.std.specs.Prelude.{ℕ, List, [], ◌∷◌, Option, None, Some, Ok}
use Rattle.lf_text.specs.declared.word.Word.{Word}
use Rattle.lf_text.specs.declared.word.Word.TheVariants as words
use Rattle.lf_syntax.specs.declared.pattern.Alternative.{Alternative}
use Rattle.lf_syntax.specs.declared.command.CtorDecl.{CtorDecl}
use Rattle.lf_syntax.specs.declared.command.Decl.{Decl}
use Rattle.lf_syntax.specs.Levels.{is_add}
use Rattle.lf_syntax.specs.Piece as syntax
use Rattle.lf_syntax.specs.Symbol.{DefBody, by_value, by_alternatives, DefRest}
use Rattle.lf_syntax.specs.Symbol as symbol
use Rattle.lf_syntax.specs.Tree.{TermTree}
use Rattle.lf_syntax.specs.Row.{Row, then, first_row, on_digit, on_operator}
use Rattle.lf_syntax.specs.Rows.{decl_of}
use Rattle.lf_parse_term.specs.Descent.{Reading, read, seq, stuck, ◌>>=◌}
use Rattle.lf_parse_decl.specs.declared.head.DeclHead.{DeclHead}
use Rattle.lf_parse_decl.specs.declared.head.TypedValue.{TypedValue}
use Rattle.lf_parse_decl.specs.declared.definition.Body.{Body}
use Rattle.lf_parse_decl.specs.declared.definition.Body.TheVariants.{Value, Alternatives}
use Rattle.lf_parse_decl.specs.declared.definition.Rest.{Rest}

-- What the row of this word reads behind the word, which stands at this place.
unfoldable pub row_behind : {V : Type 0} → List (Row V) → Word → ℕ → List syntax.Piece → Reading V
row_behind {V} rs w at ts = elim (first_row rs (syntax.word w) at) as (λ _. Reading V) [ Some p ↦ seq p.body ts p.build | None ↦ stuck ts ]

-- The numeral that is this digit alone; a `+`.
abbrev pub digit_rows : ℕ → List (Row ℕ)
digit_rows d = on_digit d (λ at. then [] at) ∷ []

abbrev pub add_rows : List (Row (Unit {0}))
add_rows = on_operator is_add (λ _. then [] tt) ∷ []

-- A name, the names of its levels, binders.
unfoldable pub decl_head : List syntax.Piece → Reading DeclHead
decl_head ts = seq (symbol.any_name ∷ symbol.level_names ∷ symbol.parameters ∷ []) ts (λ x ls bs. record { name = x; levels = ls; binders = bs })

-- The declaration that begins so, by a command at this place.
abbrev pub decl : ℕ → DeclHead → Option TermTree → Decl
decl at h ty = decl_of at h.name h.levels h.binders ty

-- `: type := value`
unfoldable pub typed_value : List syntax.Piece → Reading TypedValue
typed_value ts =
    seq (symbol.token words.Colon ∷ symbol.term 0 ∷ symbol.token words.Assign ∷ symbol.term 0 ∷ []) ts (λ _ ty _ v. record { ty = ty; value = v })

-- An alternative and a constructor, each behind its `|`, which stands at this place.
unfoldable pub alternative : ℕ → List syntax.Piece → Reading Alternative
alternative at ts = seq (symbol.pattern ∷ symbol.token words.FatArrow ∷ symbol.term 0 ∷ []) ts (λ p _ t. record { at = at; pattern = p; term = t })

unfoldable pub ctor : ℕ → List syntax.Piece → Reading CtorDecl
ctor at ts = seq (symbol.one_part ∷ symbol.parameters ∷ symbol.type_option ∷ []) ts (λ x bs ty. record { at = at; name = x; binders = bs; ty = ty })

-- One alternative or more, as what a definition says.
abbrev pub some_alternatives : List Alternative → List syntax.Piece → Reading DefBody
some_alternatives [] ts = stuck ts
some_alternatives (a ∷ more) ts = Ok (by_alternatives (a ∷ more), ts)

unfoldable pub alternatives_body : List syntax.Piece → Reading DefBody
alternatives_body ts = read symbol.alternatives ts >>= some_alternatives

abbrev pub body_tree : Body → DefBody
body_tree (Value v hs) = by_value v hs
body_tree (Alternatives more) = by_alternatives more

abbrev pub rest_tree : Rest → DefRest
rest_tree r = record { ty = r.ty; body = body_tree r.body }
