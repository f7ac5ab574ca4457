-- Each row's tree writes its tokens.
use Rattle.std.proofs.Common.{◌≡◌, inl, inr, ℕ, List, [], ◌∷◌, ◌++◌, Bool, true, false, Option, Some, None, refl, sym, subst}
use Rattle.lf_name.specs.Name.{Path}
use Rattle.lf_text.specs.declared.word.Word.TheVariants as words
use Rattle.lf_text.specs.declared.word.Spelling.{Spelling}
use Rattle.lf_text.specs.declared.word.Spelling.TheVariants as spelt
use Rattle.lf_text.specs.declared.operator.Op.{Op}
use Rattle.lf_text.specs.declared.operator.Op.TheVariants.{Iff, Arrow, Or, And, Eq, Ne, Add, Sub, Mul, Div, Mod}
use Rattle.lf_name.specs.declared.binder.BinderKind.TheVariants.{Inst}
use Rattle.lf_syntax.specs.declared.leaf.Ident.{Ident}
use Rattle.lf_syntax.specs.Piece.{word, name, number, operator, Piece}
use Rattle.lf_syntax.specs.Row.{Row, then, on_word, on_one_part, begins_as, is_one_part}
use Rattle.lf_syntax.specs.Tree.{
  LevelTree,
  level_number,
  level_name,
  TermTree,
  ident,
  hole,
  type_u,
  sort_u,
  paren,
  not_term,
  terms_of,
  option_of,
  binders,
  place,
}
use Rattle.lf_syntax.specs.Symbol as symbol
use Rattle.lf_syntax.specs.Symbol.{Symbol, Tree, Spine, GroupEnd, BinderEnd, arrow_to, arguments_to, DefRest, DefBody, by_value, by_alternatives}
use Rattle.lf_syntax.specs.Build.{with_arguments, applied, chain, is_underscore, underscore_at, name_term, names_spine, group_of, close_of}
use Rattle.lf_syntax.specs.Rows.{
  rows,
  without,
  operand_rows,
  term_rows,
  argument_rows,
  operator_rows,
  group_end_rows,
  name_levels_rows,
  group_names_rows_by,
  bracket_name_rows,
  written_levels_rows,
  unnamed,
  binders_at,
  implicit_binder,
  defined,
  decl_of,
}
use Rattle.lf_syntax.specs.declared.term.Binders.{Binders}
use Rattle.lf_syntax.specs.declared.command.Decl.{Decl}
use Rattle.lf_syntax.specs.Levels.{operand_level, is_arrow, is_add}
use Rattle.lf_syntax.specs.Tree.{rule}
use Rattle.lf_syntax.specs.declared.pattern.Pattern.TheVariants.{Constructor}
use Rattle.lf_spelling_laws.specs.Readers.{FirstAt, mark, word_at, sign, one_part, binder_name, each}
use Rattle.lf_spelling_laws.specs.Spells as spells
use Rattle.lf_spelling_laws.specs.Spells.{
  InParentheses,
  bare_level,
  bare_levels,
  level,
  written_levels,
  underscore,
  term,
  binder_place,
  type_of,
  terms,
  binder,
  lambda_binder,
  lambda_binders,
  item,
  block_of,
  items_behind,
  one_rule,
  rules_behind,
  group,
  groups,
  type_option,
  level_names,
  helper,
  ctor,
  field,
  pattern,
  alternative,
  where_option,
  command,
}
use Rattle.lf_spelling_laws.specs.Spells.InParentheses.{bare, parenthesis}
use Rattle.lf_spelling_laws.proofs.Found.{append_in}
use Rattle.lf_spelling_laws.proofs.Says.{
  spine,
  operators,
  implicit_end,
  def_body,
  binder_end,
  Says,
  Sp,
  SpRows,
  begins_sp,
  at_,
  first_,
  first_starts,
  name_of,
  type_same,
  each_append,
  chain_says,
  applied_says,
  name_says,
  levels_say,
  names_spine_says,
  leveled_spine_says,
  group_says,
  close_says,
  binder_at,
}
use Rattle.lf_spelling_laws.proofs.LevelsOf.{sort_says, plus_says}

operands_say : SpRows spine operand_rows
operands_say = (
  λ t s x e ts ls n1 h1 more n2 h2. (n1, (refl, (ts, (s, at_ t ts (name s x) e), h1)), h2),
  (
    λ t e ts x n1 h1 ls n2 h2 more n3 h3. (
      n2,
      (ts, at_ t ts (word words.AtSign) e, (n1, h1, h2)),
      h3,
    ),
    (
      λ t n digits e ts more n1 h1. (ts, (digits, at_ t ts (number n digits) e), h1),
      (
        λ t e ts more n1 h1. (ts, inl (at_ t ts (word words.Underscore) e), h1),
        (
          λ t e ts more n1 h1. (ts, at_ t ts (word words.Sorry) e, h1),
          (
            λ t e ts more n1 h1. (ts, at_ t ts (word words.PropWord) e, h1),
            (
              λ t e ts more n1 h1. sort_says words.TypeWord t.at (type_u t.at) (λ l vs us h. h) more (t ∷ ts) ts n1 (at_ t ts (word words.TypeWord) e) h1,
              (
                λ t e ts more n1 h1. sort_says words.SortWord t.at (sort_u t.at) (λ l vs us h. h) more (t ∷ ts) ts n1 (at_ t ts (word words.SortWord) e) h1,
                (
                  λ t e ts s n1 h1. h1 (t ∷ ts) (at_ t ts (word words.LeftParen) e),
                  (
                    λ t e ts b n1 h1 bs n2 h2 _ n3 h3 body n4 h4. (
                      n4,
                      (
                        ts,
                        at_ t ts (word words.Fun) e,
                        (n2, (n1, h1, h2), (n3, h3, h4)),
                      ),
                      refl,
                    ),
                    (
                      λ t e ts b n1 h1 bs n2 h2 _ n3 h3 body n4 h4. (
                        n4,
                        (
                          ts,
                          at_ t ts (word words.Forall) e,
                          (n2, (n1, h1, h2), (n3, h3, h4)),
                        ),
                        refl,
                      ),
                      (
                        λ t e ts x n1 h1 ty n2 h2 _ n3 h3 v n4 h4 _ n5 h5 body n6 h6. (
                          n6,
                          (ts, at_ t ts (word words.Let) e, (n1, h1, (n2, type_same ty n1 n2 h2, (n3, h3, (n4, h4, (n5, h5, h6)))))),
                          refl,
                        ),
                        (
                          λ t e ts items n1 h1. (
                            n1,
                            (ts, at_ t ts (word words.By) e, h1),
                            refl,
                          ),
                          (
                            λ t e ts x n1 h1 xs n2 h2 _ n3 h3 ty n4 h4 _ n5 h5 _ n6 h6 body n7 h7. (
                              n7,
                              (
                                refl,
                                (
                                  n5,
                                  (
                                    ts,
                                    at_ t ts (word words.LeftBrace) e,
                                    (n2, (n1, h1, h2), (n3, h3, (n4, h4, h5))),
                                  ),
                                  (n6, h6, h7),
                                ),
                              ),
                              refl,
                            ),
                            (
                              λ t e ts b n1 h1 _ n2 h2 body n3 h3. let g : group b (t ∷ ts) n1 = h1 (t ∷ ts) (at_ t ts (word words.LeftBracket) e) in (
                                n3,
                                (binder_at (binders b.at b.kind b.names b.ty) t ts n1 g, (n1, g, (n2, h2, h3))),
                                refl,
                              ),
                              tt,
                            ),
                          ),
                        ),
                      ),
                    ),
                  ),
                ),
              ),
            ),
          ),
        ),
      ),
    ),
  ),
)

terms_say : (least : ℕ) → SpRows term (term_rows least)
terms_say least = (
  λ t e ts body n1 h1 ops n2 h2. chain_says (not_term t.at body) ops (t ∷ ts) n1 n2 (ts, at_ t ts (word words.NotSign) e, h1) h2,
  begins_sp spine term operand_rows (symbol.operators least operand_level ∷ []) (λ s ops. chain (applied s.head s.arguments) ops) operands_say
      (λ s start us h ops n1 h1. chain_says (applied s.head s.arguments) ops start us n1 (applied_says s.head s.arguments start h.0 us h.1 h.2) h1),
)

abbrev more_terms : List TermTree → List Piece → List Piece → Type 0
more_terms more ts us = terms (terms_of more) ts us

arguments_say : SpRows more_terms argument_rows
arguments_say = begins_sp spine more_terms operand_rows [] (λ s. s.head ∷ s.arguments) operands_say (λ s start us h. h)

operators_say : (least left : ℕ) → SpRows operators (operator_rows least left)
operators_say least left = (λ t o e c ts body n1 h1 more n2 h2. (n1, (ts, first_ t ts (operator o) e, h1), h2), tt)

group_end_says : SpRows (Says symbol.group_end) group_end_rows
group_end_says = (
  λ t e ts more n1 h1. (t ∷ ts, refl, (ts, first_ t ts (word words.RightParen) e, h1)),
  (λ t e ts ty n1 h1 _ n2 h2 more n3 h3. (n1, (ts, first_ t ts (word words.Colon) e, h1), (n2, h2, h3)), tt),
)

underscore_name : (t : Piece) (ts : List Piece) → t.class ≡ word words.Underscore → binder_name (underscore_at t.at) (t ∷ ts) ts
underscore_name t ts e = inr (at_ t ts (word words.Underscore) e, refl)

one_name : (t : Piece) (ts : List Piece) (s : Spelling) (x : Path) → t.class ≡ name s x → is_one_part s ≡ true →
    one_part (record { at = t.at; name = x }) (t ∷ ts) ts
one_name t ts s x e o = (s, at_ t ts (name s x) e, inl o)

-- The rows behind names in a parenthesis, in four parts.
module _ (at : ℕ) (before : List Ident) (x : Ident) where
  abbrev Group : Spine → List Piece → List Piece → Type 0
  Group s ts us = (vs ws xs : List Piece) → word_at words.LeftParen at vs ws → each binder_name before ws xs → binder_name x xs ts → spine s vs us

  abbrev named_rows : Bool → List (Row Spine)
  named_rows b =
      on_one_part (λ y. then (symbol.group_names at (before ++ (x ∷ [])) y ∷ []) (λ s. s)) ∷
      on_word words.Underscore (λ p. then (symbol.group_names at (before ++ (x ∷ [])) (underscore_at p) ∷ []) (λ s. s)) ∷
      on_word words.Colon (λ _. then (symbol.term 0 ∷ symbol.group_close ∷ []) (close_of at before x)) ∷
      name_levels_rows b at before x

  abbrev argued : List (Row Spine)
  argued = begins_as argument_rows (symbol.operators 0 operand_level ∷ symbol.group_end ∷ []) (λ ts ops e. group_of at (names_spine before x []) ts ops e)

  abbrev operated : List (Row Spine)
  operated = begins_as (operator_rows 0 operand_level) (symbol.group_end ∷ []) (λ ops e. group_of at (names_spine before x []) [] ops e)

  abbrev closed : List (Row Spine)
  closed = begins_as group_end_rows [] (λ e. group_of at (names_spine before x []) [] [] e)

  more_says : (y : Ident) (s : Spine) (ts us n1 : List Piece) → binder_name y ts us → Says (symbol.group_names at (before ++ (x ∷ [])) y) s us n1 →
      Group s ts n1
  more_says y s ts us n1 h g = λ vs ws xs p b c. g vs ws ts p (each_append binder_name before (x ∷ []) ws xs ts b (ts, c, refl)) h

  named_say : (b : Bool) → is_underscore x.name ≡ b → SpRows Group (named_rows b)
  named_say true q = (
    λ t s y e o ts g n1 h1. more_says (record { at = t.at; name = y }) g (t ∷ ts) ts n1 (inl (one_name t ts s y e o)) h1,
    (
      λ t e ts g n1 h1. more_says (underscore_at t.at) g (t ∷ ts) ts n1 (underscore_name t ts e) h1,
      (λ t e ts ty n1 h1 k n2 h2. λ vs ws xs p b c. close_says at before x ty k vs ws xs (t ∷ ts) ts n1 n2 p b c (first_ t ts (word words.Colon) e) h1 h2, tt),
    ),
  )
  named_say false q = (
    λ t s y e o ts g n1 h1. more_says (record { at = t.at; name = y }) g (t ∷ ts) ts n1 (inl (one_name t ts s y e o)) h1,
    (
      λ t e ts g n1 h1. more_says (underscore_at t.at) g (t ∷ ts) ts n1 (underscore_name t ts e) h1,
      (
        λ t e ts ty n1 h1 k n2 h2. λ vs ws xs p b c. close_says at before x ty k vs ws xs (t ∷ ts) ts n1 n2 p b c (first_ t ts (word words.Colon) e) h1 h2,
        (
          λ t e ts l n1 h1 ls n2 h2 more n3 h3 ops n4 h4 k n5 h5. λ vs ws xs p b c.
              group_says at (names_spine before x (l ∷ ls)) more ops k vs ws n2 n3 n4 n5 p
              (leveled_spine_says before x (l ∷ ls) ws xs (t ∷ ts) n2 q b c (ts, first_ t ts (word words.LevelBrace) e, (n1, h1, h2))) h3 h4 h5,
          tt,
        ),
      ),
    ),
  )

  argued_say : SpRows Group argued
  argued_say = begins_sp more_terms Group argument_rows (symbol.operators 0 operand_level ∷ symbol.group_end ∷
      []) (λ ts ops e. group_of at (names_spine before x []) ts ops e) arguments_say
      (λ more start us h ops n1 h1 k n2 h2. λ vs ws xs p b c.
      group_says at (names_spine before x []) more ops k vs ws start us n1 n2 p (names_spine_says before x ws xs start b c) h h1 h2)

  operated_say : SpRows Group operated
  operated_say = begins_sp operators Group (operator_rows 0 operand_level) (symbol.group_end ∷
      []) (λ ops e. group_of at (names_spine before x []) [] ops e) (operators_say 0 operand_level)
      (λ ops start us h k n1 h1. λ vs ws xs p b c.
      group_says at (names_spine before x []) [] ops k vs ws start start us n1 p (names_spine_says before x ws xs start b c) refl h h1)

  closed_say : SpRows Group closed
  closed_say = begins_sp (Says symbol.group_end) Group group_end_rows [] (λ e. group_of at (names_spine before x []) [] [] e) group_end_says
      (λ k start us h. λ vs ws xs p b c. group_says at (names_spine before x []) [] [] k vs ws start start start us p
      (names_spine_says before x ws xs start b c) refl refl h)

  group_names_say : (b : Bool) → is_underscore x.name ≡ b → SpRows Group (group_names_rows_by b at before x)
  group_names_say b q =
      append_in (λ t p. (ts : List Piece) → Sp Group (t ∷ ts) p.body p.build ts) (named_rows b ++ argued ++ operated) closed
      (append_in (λ t p. (ts : List Piece) → Sp Group (t ∷ ts) p.body p.build ts) (named_rows b ++ argued) operated
      (append_in (λ t p. (ts : List Piece) → Sp Group (t ∷ ts) p.body p.build ts) (named_rows b) argued (named_say b q) argued_say) operated_say) closed_say

unnamed_says : (at : ℕ) (ty : TermTree) (vs ts ms us : List Piece) → word_at words.LeftBracket at vs ts → term ty ts ms →
    mark words.RightBracket ms us → group (unnamed at ty) vs us
unnamed_says at ty vs ts ms us p h q = (ts, p, (ts, inr (refl, refl), (ms, h, q)))

-- The rows behind a name in a bracket, in three parts.
module _ (at : ℕ) (x : Ident) where
  abbrev Bound : Binders → List Piece → List Piece → Type 0
  Bound b ts us = (vs ws : List Piece) → word_at words.LeftBracket at vs ws → one_part x ws ts → group b vs us

  abbrev first_rows : List (Row Binders)
  first_rows =
      on_word words.Colon (λ _. then (symbol.term 0 ∷ symbol.token words.RightBracket ∷ []) (λ ty _. binders_at at Inst (x ∷ []) ty)) ∷
      on_word words.RightBracket (λ _. then [] (unnamed at (name_term x []))) ∷
      begins_as written_levels_rows (symbol.arguments ∷ symbol.operators 0 operand_level ∷ symbol.token words.RightBracket ∷ [])
      (λ ls ts ops _. unnamed at (chain (applied (name_term x ls) ts) ops))

  abbrev argued_bracket : List (Row Binders)
  argued_bracket = begins_as argument_rows (symbol.operators 0 operand_level ∷ symbol.token words.RightBracket ∷
      []) (λ ts ops _. unnamed at (chain (applied (name_term x []) ts) ops))

  abbrev operated_bracket : List (Row Binders)
  operated_bracket = begins_as (operator_rows 0 operand_level) (symbol.token words.RightBracket ∷ []) (λ ops _. unnamed at (chain (name_term x []) ops))

  named_term : (ls : List LevelTree) (ws ts us : List Piece) → one_part x ws ts → written_levels ls ts us → term (name_term x ls) ws us
  named_term [] ws ts us h g = subst (term (name_term x []) ws) g (name_says x ws ts (inl h))
  named_term (l ∷ ls) ws ts us h g = by (is_underscore x.name) refl
    where
      by : (b : Bool) → is_underscore x.name ≡ b → term (name_term x (l ∷ ls)) ws us
      by true e = subst (λ (b : Bool). term (elim b as (λ _. TermTree) [
        | true ↦ hole x.at
        | false ↦ ident x.at false x (l ∷
            ls)
      ]) ws us) (sym e) (inr (x, l ∷ ls, (ts, name_of x ws ts h, g), refl, e))
      by false e = levels_say x (l ∷ ls) ws ts us e (name_of x ws ts h) g

  first_say : SpRows Bound first_rows
  first_say = (
    λ t e ts ty n1 h1 _ n2 h2. λ vs ws p h. (ws, p, (ts, inl (t ∷ ts, h, first_ t ts (word words.Colon) e), (n1, h1, h2))),
    (
      λ t e ts. λ vs ws p h. unnamed_says at (name_term x []) vs ws (t ∷ ts) ts p (name_says x ws (t ∷ ts) (inl h)) (first_ t ts (word words.RightBracket) e),
      (
        λ t e ts l n1 h1 ls n2 h2 more n3 h3 ops n4 h4 _ n5 h5. λ vs ws p h.
            unnamed_says at (chain (applied (name_term x (l ∷ ls)) more) ops) vs ws n4 n5 p
            (chain_says (applied (name_term x (l ∷ ls)) more) ops ws n3 n4
            (applied_says (name_term x (l ∷ ls)) more ws n2 n3 (named_term (l ∷ ls) ws (t ∷ ts) n2 h (
              ts,
              first_ t ts (word words.LevelBrace) e,
              (
                n1,
                h1,
                h2,
              ),
            )) h3) h4) h5,
        tt,
      ),
    ),
  )

  argued_bracket_say : SpRows Bound argued_bracket
  argued_bracket_say = begins_sp more_terms Bound argument_rows (symbol.operators 0 operand_level ∷ symbol.token words.RightBracket ∷
      []) (λ ts ops _. unnamed at (chain (applied (name_term x []) ts) ops)) arguments_say
      (λ more start us g ops n1 h1 _ n2 h2. λ vs ws p h. unnamed_says at (chain (applied (name_term x []) more) ops) vs ws n1 n2 p
      (chain_says (applied (name_term x []) more) ops ws us n1 (applied_says (name_term x []) more ws start us (name_says x ws start (inl h)) g) h1) h2)

  operated_bracket_say : SpRows Bound operated_bracket
  operated_bracket_say = begins_sp operators Bound (operator_rows 0 operand_level) (symbol.token words.RightBracket ∷
      []) (λ ops _. unnamed at (chain (name_term x []) ops)) (operators_say 0 operand_level)
      (λ ops start us g _ n1 h1. λ vs ws p h. unnamed_says at (chain (name_term x []) ops) vs ws us n1 p
      (chain_says (name_term x []) ops ws start us (name_says x ws start (inl h)) g) h1)

  bracket_name_say : SpRows Bound (bracket_name_rows at x)
  bracket_name_say =
      append_in (λ t p. (ts : List Piece) → Sp Bound (t ∷ ts) p.body p.build ts) (first_rows ++ argued_bracket) operated_bracket
      (append_in (λ t p. (ts : List Piece) → Sp Bound (t ∷ ts) p.body p.build ts) first_rows argued_bracket first_say argued_bracket_say) operated_bracket_say

implicit_says : (at : ℕ) (xs : List Ident) (ty : Option TermTree) (vs ts ms us : List Piece) → word_at words.LeftBrace at vs ts →
    each binder_name xs ts ms → implicit_end ty ms us → lambda_binder (implicit_binder at xs ty) vs us
implicit_says at xs None vs ts ms us p h g = (ts, p, (ms, h, g))
implicit_says at xs (Some ty) vs ts ms us p h g = (ts, p, (ms, h, (g.0, g.1, g.2)))

defined_says : (d : Decl) (b : DefBody) (vs ts ms us : List Piece) → word_at words.Def d.at vs ts → spells.decl d ts ms → def_body b ms us →
    command (defined d b) vs us
defined_says d (by_value v hs) vs ts ms us p h g = (ts, p, (ms, h, g))
defined_says d (by_alternatives more) vs ts ms us p h g = (ts, p, (ms, h, g))

arrow_sign : (o : Op) (t : Piece) (ts : List Piece) → t.class ≡ operator o → is_arrow o ≡ true → sign Arrow (t ∷ ts) ts
arrow_sign Arrow t ts e c = first_ t ts (operator Arrow) e
arrow_sign Iff t ts e c = cc
arrow_sign Or t ts e c = cc
arrow_sign And t ts e c = cc
arrow_sign Eq t ts e c = cc
arrow_sign Ne t ts e c = cc
arrow_sign Add t ts e c = cc
arrow_sign Sub t ts e c = cc
arrow_sign Mul t ts e c = cc
arrow_sign Div t ts e c = cc
arrow_sign Mod t ts e c = cc

add_sign : (o : Op) (t : Piece) (ts : List Piece) → t.class ≡ operator o → is_add o ≡ true → sign Add (t ∷ ts) ts
add_sign Add t ts e c = first_ t ts (operator Add) e
add_sign Iff t ts e c = cc
add_sign Arrow t ts e c = cc
add_sign Or t ts e c = cc
add_sign And t ts e c = cc
add_sign Eq t ts e c = cc
add_sign Ne t ts e c = cc
add_sign Sub t ts e c = cc
add_sign Mul t ts e c = cc
add_sign Div t ts e c = cc
add_sign Mod t ts e c = cc

pub all_say : (x : Symbol) → SpRows (Says x) (rows x)
all_say symbol.command = (
  λ t e ts x n1 h1 ls n2 h2 bs n3 h3 _ n4 h4 ty n5 h5. (
    ts,
    at_ t ts (word words.Axiom) e,
    (
      n1,
      h1,
      (
        n2,
        h2,
        (
          n3,
          h3,
          (
            n4,
            h4,
            h5,
          ),
        ),
      ),
    ),
  ),
  (
    λ t e ts x n1 h1 ls n2 h2 bs n3 h3 d n4 h4. defined_says (decl_of t.at x ls bs d.ty) d.body (t ∷
        ts) ts h4.0 n4 (at_ t ts (word words.Def) e) (n1, h1, (n2, h2, (n3, h3, h4.1))) h4.2,
    (
      λ t e ts x n1 h1 ls n2 h2 bs n3 h3 _ n4 h4 ty n5 h5 _ n6 h6 v n7 h7 hs n8 h8. (
        ts,
        at_ t ts (word words.Theorem) e,
        (
          n5,
          (
            n1,
            h1,
            (
              n2,
              h2,
              (
                n3,
                h3,
                (n4, h4, h5),
              ),
            ),
          ),
          (n6, h6, (n7, h7, h8)),
        ),
      ),
      (
        λ t e ts x n1 h1 ls n2 h2 bs n3 h3 ty n4 h4 _ n5 h5 cs n6 h6. (
          ts,
          at_ t ts (word words.Inductive) e,
          (n4, (n1, h1, (n2, h2, (n3, h3, h4))), (n5, h5, h6)),
        ),
        (
          λ t e ts x n1 h1 ls n2 h2 bs n3 h3 ty n4 h4 fs n5 h5. (ts, at_ t ts (word words.Structure) e, (n4, (n1, h1, (n2, h2, (n3, h3, h4))), h5)),
          (
            λ t e ts x n1 h1 ls n2 h2 bs n3 h3 ty n4 h4 fs n5 h5. (ts, at_ t ts (word words.Class) e, (n4, (n1, h1, (n2, h2, (n3, h3, h4))), h5)),
            (
              λ t e ts x n1 h1 ls n2 h2 bs n3 h3 _ n4 h4 ty n5 h5 _ n6 h6 v n7 h7. (
                ts,
                at_ t ts (word words.Instance) e,
                (
                  n5,
                  (
                    n1,
                    h1,
                    (
                      n2,
                      h2,
                      (
                        n3,
                        h3,
                        (
                          n4,
                          h4,
                          h5,
                        ),
                      ),
                    ),
                  ),
                  (n6, h6, h7),
                ),
              ),
              (
                λ t e ts x n1 h1. (ts, at_ t ts (word words.Namespace) e, h1),
                (
                  λ t e ts x n1 h1. (
                    ts,
                    at_ t ts (word words.Section) e,
                    h1,
                  ),
                  (
                    λ t e ts x n1 h1. (ts, at_ t ts (word words.End) e, h1),
                    (
                      λ t e ts x n1 h1 xs n2 h2. (
                        ts,
                        at_ t ts (word words.Open) e,
                        (n1, h1, h2),
                      ),
                      (
                        λ t e ts x n1 h1 xs n2 h2. (ts, at_ t ts (word words.Universe) e, (n1, h1, h2)),
                        (
                          λ t e ts b n1 h1 bs n2 h2. (ts, at_ t ts (word words.Variable) e, (n1, h1, h2)),
                          (
                            λ t e ts ty n1 h1. (ts, at_ t ts (word words.Check) e, h1),
                            (
                              λ t e ts ty n1 h1. (ts, at_ t ts (word words.Reduce) e, h1),
                              (
                                λ t e ts _ n1 h1 x n2 h2. (ts, at_ t ts (word words.Print) e, (n1, h1, h2)),
                                tt,
                              ),
                            ),
                          ),
                        ),
                      ),
                    ),
                  ),
                ),
              ),
            ),
          ),
        ),
      ),
    ),
  ),
)
all_say (symbol.token w) = (λ t e ts. first_ t ts (word w) e, tt)
all_say symbol.arrow_token = (λ t o e c ts. arrow_sign o t ts e c, tt)
all_say symbol.number_token = (λ t n digits e ts. (digits, at_ t ts (number n digits) e), tt)
all_say symbol.any_name = (λ t s x e ts. (s, at_ t ts (name s x) e), tt)
all_say symbol.one_part = (λ t s x e o ts. one_name t ts s x e o, tt)
all_say symbol.binder_name = (λ t s x e o ts. inl (one_name t ts s x e o), (λ t e ts. underscore_name t ts e, tt))
all_say symbol.optional_name = (λ t s x e ts. (s, at_ t ts (name s x) e), tt)
all_say symbol.any_names = (λ t s x e ts xs n1 h1. (ts, (s, at_ t ts (name s x) e), h1), tt)
all_say symbol.one_parts = (λ t s x e o ts xs n1 h1. (ts, one_name t ts s x e o, h1), tt)
all_say symbol.binder_names = (λ t s x e o ts xs n1 h1. (ts, inl (one_name t ts s x e o), h1), (λ t e ts xs n1 h1. (ts, underscore_name t ts e, h1), tt))
all_say symbol.level_names = (λ t e ts x n1 h1 xs n2 h2. (ts, first_ t ts (word words.LevelBrace) e, (n1, h1, h2)), tt)
all_say symbol.more_level_names = (
  λ t e ts x n1 h1 xs n2 h2. (h2.0, (ts, first_ t ts (word words.Comma) e, (n1, h1, h2.1)), h2.2),
  (
    λ t e ts. (
      t ∷
          ts,
      refl,
      first_ t ts (word words.RightBrace) e,
    ),
    tt,
  ),
)
all_say symbol.binder = (
  λ t e ts x n1 h1 xs n2 h2 _ n3 h3 ty n4 h4 _ n5 h5. (
    ts,
    at_ t ts (word words.LeftParen) e,
    (
      n2,
      (n1, h1, h2),
      (
        n3,
        h3,
        (
          n4,
          h4,
          h5,
        ),
      ),
    ),
  ),
  (
    λ t e ts x n1 h1 xs n2 h2 _ n3 h3 ty n4 h4 _ n5 h5. (
      ts,
      at_ t ts (word words.LeftBrace) e,
      (
        n2,
        (n1, h1, h2),
        (
          n3,
          h3,
          (
            n4,
            h4,
            h5,
          ),
        ),
      ),
    ),
    (λ t e ts b n1 h1. h1 (t ∷ ts) (at_ t ts (word words.LeftBracket) e), tt),
  ),
)
all_say symbol.parameters = (
  λ t e ts x n1 h1 xs n2 h2 _ n3 h3 ty n4 h4 _ n5 h5 bs n6 h6. (
    n5,
    (
      ts,
      at_ t ts (word words.LeftParen) e,
      (
        n2,
        (
          n1,
          h1,
          h2,
        ),
        (n3, h3, (n4, h4, h5)),
      ),
    ),
    h6,
  ),
  (
    λ t e ts x n1 h1 xs n2 h2 _ n3 h3 ty n4 h4 _ n5 h5 bs n6 h6. (
      n5,
      (
        ts,
        at_ t ts (word words.LeftBrace) e,
        (n2, (n1, h1, h2), (n3, h3, (n4, h4, h5))),
      ),
      h6,
    ),
    (λ t e ts b n1 h1 bs n2 h2. (n1, h1 (t ∷ ts) (at_ t ts (word words.LeftBracket) e), h2), tt),
  ),
)
all_say symbol.lambda_binder = (
  λ t e ts x n1 h1 xs n2 h2 _ n3 h3 ty n4 h4 _ n5 h5. (
    ts,
    at_ t ts (word words.LeftParen) e,
    (
      n2,
      (n1, h1, h2),
      (
        n3,
        h3,
        (n4, h4, h5),
      ),
    ),
  ),
  (
    λ t e ts x n1 h1 xs n2 h2 ty n3 h3. implicit_says t.at (x ∷ xs) ty (t ∷
        ts) ts n2 n3 (at_ t ts (word words.LeftBrace) e) (n1, h1, h2) h3,
    (
      λ t e ts b n1 h1. h1 (t ∷ ts) (at_ t ts (word words.LeftBracket) e),
      (λ t s x e o ts. inl (one_name t ts s x e o), (λ t e ts. underscore_name t ts e, tt)),
    ),
  ),
)
all_say symbol.lambda_binders = (
  λ t e ts x n1 h1 xs n2 h2 _ n3 h3 ty n4 h4 _ n5 h5 bs n6 h6. (
    n5,
    (
      ts,
      at_ t ts (word words.LeftParen) e,
      (
        n2,
        (
          n1,
          h1,
          h2,
        ),
        (n3, h3, (n4, h4, h5)),
      ),
    ),
    h6,
  ),
  (
    λ t e ts x n1 h1 xs n2 h2 ty n3 h3 bs n4 h4. (
      n3,
      implicit_says t.at (x ∷ xs) ty (t ∷
          ts) ts n2 n3 (at_ t ts (word words.LeftBrace) e) (n1, h1, h2) h3,
      h4,
    ),
    (
      λ t e ts b n1 h1 bs n2 h2. (
        n1,
        h1 (t ∷
            ts) (at_ t ts (word words.LeftBracket) e),
        h2,
      ),
      (
        λ t s x e o ts bs n1 h1. (ts, inl (one_name t ts s x e o), h1),
        (
          λ t e ts bs n1 h1. (
            ts,
            underscore_name t ts e,
            h1,
          ),
          tt,
        ),
      ),
    ),
  ),
)
all_say symbol.implicit_end = (
  λ t e ts ty n1 h1 _ n2 h2. (ts, first_ t ts (word words.Colon) e, (n1, h1, h2)),
  (λ t e ts. first_ t ts (word words.RightBrace) e, tt),
)
all_say symbol.def_rest = (
  λ t e ts ty n1 h1 d n2 h2. (n1, (ts, first_ t ts (word words.Colon) e, h1), h2),
  (
    λ t e ts v n1 h1. (
      t ∷ ts,
      refl,
      (
        ts,
        first_ t ts (word words.Assign) e,
        (n1, h1, refl),
      ),
    ),
    tt,
  ),
)
all_say symbol.def_body = (
  λ t e ts v n1 h1 hs n2 h2. (ts, first_ t ts (word words.Assign) e, (n1, h1, h2)),
  (λ t e ts p n1 h1 _ n2 h2 v n3 h3 more n4 h4. (n3, (ts, at_ t ts (word words.Bar) e, (n1, h1, (n2, h2, h3))), h4), tt),
)
all_say symbol.type_option = (λ t e ts ty n1 h1. (ts, first_ t ts (word words.Colon) e, h1), tt)
all_say symbol.where_option = (λ t e ts. inl (first_ t ts (word words.Where) e), tt)
all_say symbol.ctors = (λ t e ts x n1 h1 bs n2 h2 ty n3 h3 cs n4 h4. (n3, (ts, at_ t ts (word words.Bar) e, (n1, h1, (n2, h2, h3))), h4), tt)
all_say symbol.helpers = (λ t e ts _ n1 h1 x n2 h2 xs n3 h3. (ts, first_ t ts (word words.Where) e, (n1, h1, (n2, h2, h3))), tt)
all_say symbol.helper = (
  λ t s x e o ts bs n1 h1 _ n2 h2 ty n3 h3 _ n4 h4 v n5 h5. (
    refl,
    (
      ts,
      one_name t ts s x e o,
      (
        n1,
        h1,
        (
          n2,
          h2,
          (
            n3,
            h3,
            (
              n4,
              h4,
              h5,
            ),
          ),
        ),
      ),
    ),
  ),
  tt,
)
all_say symbol.more_helpers = (
  λ t e ts x n1 h1 xs n2 h2. (h2.0, (ts, inl (first_ t ts (word words.LayoutSep) e), (n1, h1, h2.1)), h2.2),
  (
    λ t e ts x n1 h1 xs n2 h2. (h2.0, (ts, inr (first_ t ts (word words.Semicolon) e), (n1, h1, h2.1)), h2.2),
    (
      λ t e ts. (
        t ∷ ts,
        refl,
        first_ t ts (word words.LayoutClose) e,
      ),
      tt,
    ),
  ),
)
all_say symbol.fields_option = (λ t e ts _ n1 h1 x n2 h2 xs n3 h3. (ts, first_ t ts (word words.Where) e, (n1, h1, (n2, h2, h3))), tt)
all_say symbol.field = (
  λ t s x e o ts xs n1 h1 _ n2 h2 ty n3 h3. (
    first_starts (at_ t ts (name s x) e),
    (
      n1,
      (ts, one_name t ts s x e o, h1),
      (
        n2,
        h2,
        h3,
      ),
    ),
  ),
  tt,
)
all_say symbol.more_fields = (
  λ t e ts x n1 h1 xs n2 h2. (h2.0, (ts, inl (first_ t ts (word words.LayoutSep) e), (n1, h1, h2.1)), h2.2),
  (
    λ t e ts x n1 h1 xs n2 h2. (h2.0, (ts, inr (first_ t ts (word words.Semicolon) e), (n1, h1, h2.1)), h2.2),
    (
      λ t e ts. (
        t ∷ ts,
        refl,
        first_ t ts (word words.LayoutClose) e,
      ),
      tt,
    ),
  ),
)
all_say symbol.axioms_word = (λ t x e ts. (t.at, (x, at_ t ts (name spelt.Axioms x) e)), tt)
all_say symbol.alternatives = (λ t e ts p n1 h1 _ n2 h2 v n3 h3 more n4 h4. (n3, (ts, at_ t ts (word words.Bar) e, (n1, h1, (n2, h2, h3))), h4), tt)
all_say symbol.pattern = (
  λ t e ts. (first_starts (at_ t ts (number 0 1) e), first_ t ts (number 0 1) e),
  (
    λ t s x e o ts p n1 h1. h1 (t ∷
        ts) (one_name t ts s x e o),
    (λ t s x e ts xs n1 h1. (ts, (s, at_ t ts (name s x) e), h1), tt),
  ),
)
all_say (symbol.pattern_rest x) = (
  λ t o e c ts _ n1 h1. λ vs h. (t ∷ ts, h, (ts, add_sign o t ts e c, h1)),
  (
    λ t s y e o ts ys n1 h1. λ vs h. (
      t ∷
          ts,
      name_of x vs (t ∷ ts) h,
      (ts, inl (one_name t ts s y e o), h1),
    ),
    (
      λ t e ts ys n1 h1. λ vs h. (
        t ∷ ts,
        name_of x vs (t ∷ ts) h,
        (
          ts,
          underscore_name t ts e,
          h1,
        ),
      ),
      tt,
    ),
  ),
)
all_say symbol.numeral_one = (λ t e ts. first_ t ts (number 1 1) e, tt)
all_say symbol.group_close = (λ t e ts k n1 h1. (ts, first_ t ts (word words.RightParen) e, h1), tt)
all_say symbol.written_levels = (λ t e ts l n1 h1 ls n2 h2. (ts, first_ t ts (word words.LevelBrace) e, (n1, h1, h2)), tt)
all_say symbol.more_levels = (
  λ t e ts l n1 h1 ls n2 h2. (h2.0, (ts, first_ t ts (word words.Comma) e, (n1, h1, h2.1)), h2.2),
  (
    λ t e ts. (
      t ∷ ts,
      refl,
      first_ t ts (word words.RightBrace) e,
    ),
    tt,
  ),
)
all_say symbol.level = (
  λ t n digits e ts m n1 h1. let f : FirstAt (t ∷
      ts) ts (number n digits) t.at = at_ t ts (number n digits) e in plus_says t.at (level_number (record { at = t.at; value = n })) m (t ∷
      ts) ts n1 (first_starts f) (bare (digits, f)) h1,
  (
    λ t x e ts l n1 h1. h1 (t ∷ ts) (at_ t ts (name spelt.Max x) e),
    (
      λ t x e ts l n1 h1. h1 (t ∷
          ts) (at_ t ts (name spelt.Imax x) e),
      (
        λ t s x e o ts m n1 h1. plus_says t.at (level_name (record { at = t.at; name = x })) m (t ∷
            ts) ts n1 (first_starts (at_ t ts (name s x) e)) (bare (one_name t ts s x e o)) h1,
        (
          λ t e ts l n1 h1 _ n2 h2 m n3 h3. plus_says t.at l m (t ∷
              ts) n2 n3 (first_starts (at_ t ts (word words.LeftParen) e)) (parenthesis (first_ t ts (word words.LeftParen) e) h1 h2) h3,
          tt,
        ),
      ),
    ),
  ),
)
all_say symbol.plus_option = (λ t o e c ts n n1 h1. (ts, add_sign o t ts e c, h1), tt)
all_say symbol.level_atom = (
  λ t n digits e ts. bare (digits, at_ t ts (number n digits) e),
  (
    λ t s x e o ts. bare (one_name t ts s x e o),
    (λ t e ts l n1 h1 _ n2 h2. parenthesis (first_ t ts (word words.LeftParen) e) h1 h2, tt),
  ),
)
all_say symbol.level_atoms = (
  λ t n digits e ts ls n1 h1. (ts, bare (digits, at_ t ts (number n digits) e), h1),
  (
    λ t s x e o ts ls n1 h1. (
      ts,
      bare (one_name t ts s x e o),
      h1,
    ),
    (λ t e ts l n1 h1 _ n2 h2 ls n3 h3. (n2, parenthesis (first_ t ts (word words.LeftParen) e) h1 h2, h3), tt),
  ),
)
all_say (symbol.max_rest x) = (
  λ t o e c ts n n1 h1. λ vs h. bare (
    first_starts h,
    (
      t ∷ ts,
      bare (spelt.Max, h, inl refl),
      (
        ts,
        add_sign o t ts e c,
        h1,
      ),
    ),
  ),
  (
    λ t n digits e ts l n1 h1 ls n2 h2. λ vs h. bare (
      t ∷ ts,
      (spelt.Max, x.name, h, inl refl),
      (
        ts,
        bare (
          digits,
          at_ t ts (number n digits) e,
        ),
        (n1, h1, h2),
      ),
    ),
    (
      λ t s y e o ts l n1 h1 ls n2 h2. λ vs h. bare (
        t ∷ ts,
        (spelt.Max, x.name, h, inl refl),
        (
          ts,
          bare (one_name t ts s y e o),
          (n1, h1, h2),
        ),
      ),
      (
        λ t e ts k n1 h1 _ n2 h2 l n3 h3 ls n4 h4. λ vs h. bare (
          t ∷ ts,
          (spelt.Max, x.name, h, inl refl),
          (n2, parenthesis (first_ t ts (word words.LeftParen) e) h1 h2, (n3, h3, h4)),
        ),
        tt,
      ),
    ),
  ),
)
all_say (symbol.imax_rest x) = (
  λ t o e c ts n n1 h1. λ vs h. bare (
    first_starts h,
    (
      t ∷ ts,
      bare (spelt.Imax, h, inl refl),
      (
        ts,
        add_sign o t ts e c,
        h1,
      ),
    ),
  ),
  (
    λ t n digits e ts l n1 h1. λ vs h. bare (
      t ∷ ts,
      (spelt.Imax, x.name, h, inl refl),
      (
        ts,
        bare (
          digits,
          at_ t ts (number n digits) e,
        ),
        h1,
      ),
    ),
    (
      λ t s y e o ts l n1 h1. λ vs h. bare (
        t ∷ ts,
        (spelt.Imax, x.name, h, inl refl),
        (
          ts,
          bare (one_name t ts s y e o),
          h1,
        ),
      ),
      (
        λ t e ts k n1 h1 _ n2 h2 l n3 h3. λ vs h. bare (
          t ∷ ts,
          (spelt.Imax, x.name, h, inl refl),
          (
            n2,
            parenthesis (first_ t ts (word words.LeftParen) e) h1 h2,
            h3,
          ),
        ),
        tt,
      ),
    ),
  ),
)
all_say symbol.block = (λ t e ts i n1 h1 items n2 h2. (ts, first_ t ts (word words.LayoutOpen) e, (n1, h1, h2)), tt)
all_say symbol.more_items = (
  λ t e ts i n1 h1 items n2 h2. (h2.0, (ts, inl (first_ t ts (word words.LayoutSep) e), (n1, h1, h2.1)), h2.2),
  (
    λ t e ts i n1 h1 items n2 h2. (h2.0, (ts, inr (first_ t ts (word words.Semicolon) e), (n1, h1, h2.1)), h2.2),
    (
      λ t e ts. (
        t ∷ ts,
        refl,
        first_ t ts (word words.LayoutClose) e,
      ),
      tt,
    ),
  ),
)
all_say symbol.item = (
  λ t e ts items n1 h1. (ts, at_ t ts (word words.Dot) e, h1),
  (
    λ t x e ts u n1 h1. (
      ts,
      (x, at_ t ts (name spelt.Exact x) e),
      h1,
    ),
    (
      λ t x e ts y n1 h1 ys n2 h2. (ts, (x, at_ t ts (name spelt.Intro x) e), (n1, h1, h2)),
      (
        λ t x e ts u n1 h1. (
          ts,
          (
            x,
            at_ t ts (name spelt.Apply x) e,
          ),
          h1,
        ),
        (
          λ t x e ts. (x, at_ t ts (name spelt.Rfl x) e),
          (
            λ t x e ts. (x, at_ t ts (name spelt.Assumption x) e),
            (
              λ t x e ts _ n1 h1 r n2 h2 rs n3 h3. (ts, (x, at_ t ts (name spelt.Rw x) e), (n1, h1, (h3.0, (n2, h2, h3.1), h3.2))),
              (
                λ t x e ts y n1 h1. (
                  ts,
                  (x, at_ t ts (name spelt.Unfold x) e),
                  h1,
                ),
                (
                  λ t x e ts y n1 h1 _ n2 h2 ty n3 h3 _ n4 h4 u n5 h5. (
                    ts,
                    (x, at_ t ts (name spelt.Have x) e),
                    (
                      n1,
                      h1,
                      (n2, h2, (n3, h3, (n4, h4, h5))),
                    ),
                  ),
                  (
                    λ t x e ts y n1 h1. (ts, (x, at_ t ts (name spelt.Induction x) e), h1),
                    (
                      λ t x e ts y n1 h1. (
                        ts,
                        (
                          x,
                          at_ t ts (name spelt.Cases x) e,
                        ),
                        h1,
                      ),
                      (
                        λ t x e ts y n1 h1. (ts, (x, at_ t ts (name spelt.Injection x) e), h1),
                        (λ t e ts. at_ t ts (word words.Sorry) e, tt),
                      ),
                    ),
                  ),
                ),
              ),
            ),
          ),
        ),
      ),
    ),
  ),
)
all_say symbol.more_rules = (
  λ t e ts r n1 h1 rs n2 h2. (h2.0, (ts, first_ t ts (word words.Comma) e, (n1, h1, h2.1)), h2.2),
  (
    λ t e ts. (
      t ∷ ts,
      refl,
      first_ t ts (word words.RightBracket) e,
    ),
    tt,
  ),
)
all_say (symbol.bracket at) = (
  λ t s x e o ts b n1 h1. λ vs p. h1 vs (t ∷ ts) p (one_name t ts s x e o),
  begins_sp term (Says (symbol.bracket at)) (term_rows 0) (symbol.token words.RightBracket ∷ []) (λ ty _. unnamed at ty) (terms_say 0)
      (λ ty start us h _ n1 h1. λ vs p. unnamed_says at ty vs start us n1 p h h1),
)
all_say (symbol.bracket_name at x) = bracket_name_say at x
all_say (symbol.term least) = terms_say least
all_say symbol.arguments = arguments_say
all_say (symbol.operators least left) = operators_say least left
all_say (symbol.group at) = (
  λ t s x e o ts g n1 h1. λ vs p. h1 vs (t ∷ ts) (t ∷ ts) p refl (inl (one_name t ts s x e o)),
  (
    λ t e ts g n1 h1. λ vs p. h1 vs (t ∷ ts) (t ∷ ts) p refl (underscore_name t ts e),
    begins_sp term (Says (symbol.group at)) (term_rows 0) (symbol.group_end ∷
        []) (λ t e. with_arguments (paren at t (option_of e.ty)) e.arguments) (terms_say 0)
        (λ t start us h k n1 h1. λ vs p. (h1.2.0, (start, p, (us, h, (h1.0, type_same k.ty us h1.0 h1.1, h1.2.1))), h1.2.2)),
  ),
)
all_say (symbol.group_names at before x) = group_names_say at before x (is_underscore x.name) refl
all_say symbol.group_end = group_end_says
all_say symbol.binder_end = (
  λ t o e c ts body n1 h1. (ts, arrow_sign o t ts e c, h1),
  begins_sp more_terms binder_end argument_rows [] arguments_to arguments_say (λ more start us h. h),
)
all_say symbol.rw_rule = (
  λ t e ts u n1 h1. (ts, at_ t ts (word words.BackArrow) e, h1),
  begins_sp term one_rule (term_rows 0) [] (λ t. rule (place t) false t) (terms_say 0) (λ t start us h. (refl, h)),
)

some_is : {A : Type 0} (P : A → Type 0) (a b : A) → ◌≡◌ {A = Option A} (Some a) (Some b) → P a → P b
some_is P a b e h = let f : a ≡ b = cc in subst P f h

pub left_says : (x : Symbol) (v : Tree x) → without x ≡ Some v → (ts : List Piece) → Says x v ts ts
left_says symbol.command v e ts = cc
left_says (symbol.token w) v e ts = cc
left_says symbol.arrow_token v e ts = cc
left_says symbol.number_token v e ts = cc
left_says symbol.any_name v e ts = cc
left_says symbol.one_part v e ts = cc
left_says symbol.binder_name v e ts = cc
left_says symbol.optional_name v e ts = some_is (λ z. Says symbol.optional_name z ts ts) None v e refl
left_says symbol.any_names v e ts = some_is (λ z. Says symbol.any_names z ts ts) [] v e refl
left_says symbol.one_parts v e ts = some_is (λ z. Says symbol.one_parts z ts ts) [] v e refl
left_says symbol.binder_names v e ts = some_is (λ z. Says symbol.binder_names z ts ts) [] v e refl
left_says symbol.level_names v e ts = some_is (λ z. Says symbol.level_names z ts ts) [] v e refl
left_says symbol.more_level_names v e ts = cc
left_says symbol.binder v e ts = cc
left_says symbol.parameters v e ts = some_is (λ z. Says symbol.parameters z ts ts) [] v e refl
left_says symbol.lambda_binder v e ts = cc
left_says symbol.lambda_binders v e ts = some_is (λ z. Says symbol.lambda_binders z ts ts) [] v e refl
left_says symbol.implicit_end v e ts = cc
left_says (symbol.bracket at) v e ts = cc
left_says (symbol.bracket_name at x) v e ts = cc
left_says symbol.def_rest v e ts = cc
left_says symbol.def_body v e ts = cc
left_says symbol.type_option v e ts = some_is (λ z. Says symbol.type_option z ts ts) None v e refl
left_says symbol.where_option v e ts = inr refl
left_says symbol.ctors v e ts = some_is (λ z. Says symbol.ctors z ts ts) [] v e refl
left_says symbol.helpers v e ts = some_is (λ z. Says symbol.helpers z ts ts) [] v e refl
left_says symbol.helper v e ts = cc
left_says symbol.more_helpers v e ts = cc
left_says symbol.fields_option v e ts = some_is (λ z. Says symbol.fields_option z ts ts) [] v e refl
left_says symbol.field v e ts = cc
left_says symbol.more_fields v e ts = cc
left_says symbol.axioms_word v e ts = cc
left_says symbol.alternatives v e ts = some_is (λ z. Says symbol.alternatives z ts ts) [] v e refl
left_says symbol.pattern v e ts = cc
left_says (symbol.pattern_rest x) v e ts = some_is (λ z. Says (symbol.pattern_rest x) z ts ts) (Constructor x []) v e (λ vs h. (ts, name_of x vs ts h, refl))
left_says symbol.numeral_one v e ts = cc
left_says (symbol.term least) v e ts = cc
left_says symbol.arguments v e ts = some_is (λ z. Says symbol.arguments z ts ts) [] v e refl
left_says (symbol.operators least left) v e ts = some_is (λ z. Says (symbol.operators least left) z ts ts) [] v e refl
left_says (symbol.group at) v e ts = cc
left_says (symbol.group_names at before x) v e ts = cc
left_says symbol.group_end v e ts = cc
left_says symbol.group_close v e ts = cc
left_says symbol.binder_end v e ts = some_is (λ z. Says symbol.binder_end z ts ts) (arguments_to []) v e refl
left_says symbol.written_levels v e ts = some_is (λ z. Says symbol.written_levels z ts ts) [] v e refl
left_says symbol.more_levels v e ts = cc
left_says symbol.level v e ts = cc
left_says symbol.plus_option v e ts = some_is (λ z. Says symbol.plus_option z ts ts) None v e refl
left_says symbol.level_atom v e ts = cc
left_says symbol.level_atoms v e ts = some_is (λ z. Says symbol.level_atoms z ts ts) [] v e refl
left_says (symbol.max_rest x) v e ts = some_is (λ z. Says (symbol.max_rest x) z ts ts) (level_name x) v e (λ vs h. bare (spelt.Max, h, inl refl))
left_says (symbol.imax_rest x) v e ts = some_is (λ z. Says (symbol.imax_rest x) z ts ts) (level_name x) v e (λ vs h. bare (spelt.Imax, h, inl refl))
left_says symbol.block v e ts = cc
left_says symbol.more_items v e ts = cc
left_says symbol.item v e ts = cc
left_says symbol.rw_rule v e ts = cc
left_says symbol.more_rules v e ts = cc
