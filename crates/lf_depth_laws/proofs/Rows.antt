-- Each row keeps the bounds of the trees, by those of its parts.
use Rattle.std.proofs.Common.{◌≡◌, ℕ, ◌+◌, ◌≤◌, max, List, [], ◌∷◌, ◌++◌, Bool, true, false, Option, Some, None, refl, subst, arith}
use Rattle.lf_text.specs.declared.word.Word.TheVariants as words
use Rattle.lf_text.specs.declared.operator.Op.{Op}
use Rattle.lf_name.specs.declared.binder.BinderKind.TheVariants.{Inst}
use Rattle.lf_syntax.specs.declared.leaf.Ident.{Ident}
use Rattle.lf_syntax.specs.declared.leaf.Num.{Num}
use Rattle.lf_syntax.specs.declared.term.Binders.{Binders}
use Rattle.lf_syntax.specs.declared.command.Decl.{Decl}
use Rattle.lf_syntax.specs.Tree.{LevelTree, level_number, level_name, TermTree, type_u, sort_u, paren, not_term, option_of, rule, place}
use Rattle.lf_syntax.specs.Symbol as symbol
use Rattle.lf_syntax.specs.Symbol.{Symbol, Tree, Spine, GroupEnd, BinderEnd, arrow_to, arguments_to, DefBody, by_value, by_alternatives}
use Rattle.lf_syntax.specs.Build.{with_arguments, applied, chain, name_term, names_spine, group_of, close_of, is_underscore, underscore_at}
use Rattle.lf_syntax.specs.Row.{Row, then, on_word, on_one_part, begins_as}
use Rattle.lf_syntax.specs.Rows.{
  rows,
  without,
  operand_rows,
  term_rows,
  argument_rows,
  operator_rows,
  group_end_rows,
  name_levels_rows,
  group_names_rows_by,
  bracket_name_rows,
  written_levels_rows,
  unnamed,
  binders_at,
  implicit_binder,
  plus,
  defined,
  decl_of,
}
use Rattle.lf_syntax.specs.Levels.{operand_level}
use Rattle.lf_depth_laws.specs.Height.{greatest, if_any, level_height, term_height, lbinder_height, group_height, decl_height, command_height}
use Rattle.lf_depth_laws.proofs.Sketch.{Sketch, sketch, low_of}
use Rattle.lf_depth_laws.proofs.Effects.{kind, entry}
use Rattle.lf_depth_laws.proofs.Found.{InRows, append_in}
use Rattle.lf_depth_laws.proofs.Bounds.{
  Fits,
  EndFits,
  Bound,
  LowRow,
  LowRows,
  map_low,
  Rises,
  RisesRow,
  spine_height,
  op_height,
  body_height,
  begins_low,
  ends_low,
  begins_rise,
  option_same,
  levels_same,
  lbinders_same,
  items_same,
  rules_same,
  chain_height,
  applied_height,
  greatest_append,
  name_height,
  names_height,
  sorts_low,
  some_height,
}

up : (s : Sketch) → Rises s (sketch (s.up + 1) s.waits s.saved)
up s = record { to = s.up + 1; above = omega arith; same = refl }

stay : (s : Sketch) → Rises s s
stay s = record { to = s.up; above = omega arith; same = refl }

operands_rise : (s : Sketch) → InRows (RisesRow s) operand_rows
operands_rise s = (
  λ x. stay s,
  (
    λ at. up s,
    (
      λ n. stay s,
      (
        λ at. stay s,
        (
          λ at. stay s,
          (
            λ at. stay s,
            (
              λ at. stay s,
              (
                λ at. stay s,
                (
                  λ at. stay s,
                  (λ at. up s, (λ at. up s, (λ at. up s, (λ at. up s, (λ at. up s, (λ at. up s, tt)))))),
                ),
              ),
            ),
          ),
        ),
      ),
    ),
  ),
)

operands_low : (N r : ℕ) (s : Sketch) → LowRows N r (λ v. Fits N (r + low_of s) 3 (spine_height v)) s operand_rows
operands_low N r s = (
  λ x p ls hl ts ht. omega (arith, hl, ht),
  (
    λ at p x _ ls hl ts ht. omega (arith, hl, ht),
    (
      λ n p ts ht. omega (arith, ht, p),
      (
        λ at p ts ht. omega (arith, ht, p),
        (
          λ at p ts ht. omega (arith, ht, p),
          (
            λ at p ts ht. omega (arith, ht, p),
            (
              λ at p ts ht. omega (
                arith,
                ht,
                p,
                sorts_low (type_u at) ts (λ l. refl),
              ),
              (
                λ at p ts ht. omega (arith, ht, p, sorts_low (sort_u at) ts (λ l. refl)),
                (
                  λ at p v h. h,
                  (
                    λ at p b hb bs hbs _ _ t ht. omega (arith, hb, hbs, ht, lbinders_same bs),
                    (
                      λ at p b hb bs hbs _ _ t ht. omega (
                        arith,
                        hb,
                        hbs,
                        ht,
                        lbinders_same bs,
                      ),
                      (
                        λ at p x _ ty hty _ _ v hv _ _ t ht. omega (arith, hty, hv, ht, option_same ty),
                        (
                          λ at p items hi. omega (
                            arith,
                            hi,
                            items_same items,
                          ),
                          (λ at p x _ xs _ _ _ ty hty _ _ _ _ t ht. omega (arith, hty, ht), (λ at p b hb _ _ t ht. omega (arith, hb, ht), tt)),
                        ),
                      ),
                    ),
                  ),
                ),
              ),
            ),
          ),
        ),
      ),
    ),
  ),
)

-- An operand with the operators behind it.
operated_low : (N r low : ℕ) (h : TermTree) (ts : List TermTree) (ops : List (Op × TermTree)) →
    Fits N (r + low) 3 (max (term_height h) (greatest term_height ts)) → Fits N (r + low) 2 (greatest op_height ops) →
    Fits N (r + low) 4 (term_height (chain (applied h ts) ops))
operated_low N r low h ts ops f g = omega (arith, f, g, chain_height (applied h ts) ops, applied_height h ts)

terms_low : (N r : ℕ) (s : Sketch) (least : ℕ) → LowRows N r (λ t. Fits N (r + low_of s) 4 (term_height t)) s (term_rows least)
terms_low N r s least = (
  λ at p t ht ops hops. omega (arith, ht, hops, chain_height (not_term at t) ops),
  begins_low N r (λ v. Fits N (r + low_of s) 3 (spine_height v)) (λ t. Fits N (r + low_of s) 4 (term_height t)) s operand_rows
      (symbol.operators least operand_level ∷ [])
      (λ v ops. chain (applied v.head v.arguments) ops) (operands_rise s) (operands_low N r s)
      (λ v f u l ops hops. operated_low N r (low_of s) v.head v.arguments ops f (omega (arith, hops, l))),
)

arguments_low : (N r : ℕ) (s : Sketch) → LowRows N r (λ ts. Fits N (r + low_of s) 3 (greatest term_height ts)) s argument_rows
arguments_low N r s = ends_low N r (λ v. Fits N (r + low_of s) 3 (spine_height v)) (λ ts. Fits N (r + low_of s) 3 (greatest term_height ts)) s operand_rows
    (λ v. v.head ∷ v.arguments)
    (operands_low N r s) (λ v f. f)

operators_low : (N r : ℕ) (s : Sketch) (least left : ℕ) → LowRows N r (λ ops. Fits N (r + low_of s) 2 (greatest op_height ops)) s (operator_rows least left)
operators_low N r s least left = (λ o e p t ht more hmore. omega (arith, ht, hmore), tt)

operators_rise : (s : Sketch) (least left : ℕ) → InRows (RisesRow s) (operator_rows least left)
operators_rise s least left = (λ o e. up s, tt)

arguments_rise : (s : Sketch) → InRows (RisesRow s) argument_rows
arguments_rise s = begins_rise (List TermTree) s operand_rows [] (λ v. v.head ∷ v.arguments) (λ u. refl) (operands_rise s)

terms_rise : (s : Sketch) (least : ℕ) → InRows (RisesRow s) (term_rows least)
terms_rise s least = (
  λ at. up s,
  begins_rise TermTree s operand_rows (symbol.operators least operand_level ∷
      []) (λ v ops. chain (applied v.head v.arguments) ops) (λ u. refl) (operands_rise s),
)

-- Behind a bracket that opened where the number was `r`.
abbrev opened : Sketch
opened = entry (kind symbol.group_end)

group_end_low : (N r : ℕ) → LowRows N r (Bound N r symbol.group_end) opened group_end_rows
group_end_low N r = (λ at p ts ht. (omega (arith, p), omega (arith, ht)), (λ at p ty hty _ _ ts ht. (omega (arith, hty), omega (arith, ht)), tt))

group_low : (N r : ℕ) (at : ℕ) (s : Spine) (more : List TermTree) (ops : List (Op × TermTree)) (e : GroupEnd) → r ≤ N → Fits N r 1 (spine_height s) →
    Fits N (r + 1) 3 (greatest term_height more) →
    Fits N (r + 1) 2 (greatest op_height ops) → Bound N r symbol.group_end e → Fits N r 3 (spine_height (group_of at s more ops e))
group_low N r at s more ops e p f g h k =
    omega (
      arith,
      p,
      f,
      g,
      h,
      k.0,
      k.1,
      option_same e.ty,
      chain_height (applied s.head (s.arguments ++ more)) ops,
      applied_height s.head (s.arguments ++ more),
      greatest_append s.arguments more,
    )

group_alone : (N r : ℕ) (at : ℕ) (s : Spine) (e : GroupEnd) → r ≤ N → spine_height s ≤ 1 → Bound N r symbol.group_end e →
    Fits N r 3 (spine_height (group_of at s [] [] e))
group_alone N r at s e p f k =
    omega (arith, p, f, k.0, k.1, option_same e.ty, applied_height s.head (s.arguments ++ []), greatest_append s.arguments [])

close_low : (N r : ℕ) (at : ℕ) (before : List Ident) (x : Ident) (ty : TermTree) (e : BinderEnd) → Fits N (r + 1) 4 (term_height ty) →
    EndFits N r e → r ≤ N → Fits N r 3 (spine_height (close_of at before x ty e))
close_low N r at before x ty (arrow_to b) f g p = omega (arith, f, g)
close_low N r at before x ty (arguments_to ts) f g p =
    let n : Spine = names_spine before x [] in
    omega (arith, f, g, p, names_height before x [], applied_height n.head n.arguments)

-- The rows behind names in a parenthesis, in four parts.
module _ (N r : ℕ) (at : ℕ) (before : List Ident) (x : Ident) where
  abbrev SpineFits : Spine → Type 0
  SpineFits s = Fits N r 3 (spine_height s)

  abbrev named : Bool → List (Row Spine)
  named b =
      on_one_part (λ y. then (symbol.group_names at (before ++ (x ∷ [])) y ∷ []) (λ s. s)) ∷
      on_word words.Underscore (λ p. then (symbol.group_names at (before ++ (x ∷ [])) (underscore_at p) ∷ []) (λ s. s)) ∷
      on_word words.Colon (λ _. then (symbol.term 0 ∷ symbol.group_close ∷ []) (close_of at before x)) ∷
      name_levels_rows b at before x

  abbrev argued : List (Row Spine)
  argued = begins_as argument_rows (symbol.operators 0 operand_level ∷ symbol.group_end ∷ []) (λ ts ops e. group_of at (names_spine before x []) ts ops e)

  abbrev operated : List (Row Spine)
  operated = begins_as (operator_rows 0 operand_level) (symbol.group_end ∷ []) (λ ops e. group_of at (names_spine before x []) [] ops e)

  abbrev closed : List (Row Spine)
  closed = begins_as group_end_rows [] (λ e. group_of at (names_spine before x []) [] [] e)

  some_up : (u : ℕ) (n : ℕ) (c : ℕ) (h : ℕ) → Fits N (r + (u + (1 + 0))) c h → Fits N (r + 1) c h
  some_up u n c h f = omega (arith, f)

  named_low : (b : Bool) → LowRows N r SpineFits opened (named b)
  named_low true = (
    λ y p s f. omega (arith, f),
    (
      λ q p s f. omega (arith, f),
      (
        λ q p ty fty e fe. close_low N r at before x ty e (omega (
          arith,
          fty,
        )) (end_at e fe) (omega (arith, p)),
        tt,
      ),
    ),
  )
    where
      end_at : (e : BinderEnd) → EndFits N (r + (0 + 0)) e → EndFits N r e
      end_at (arrow_to t) f = omega (arith, f)
      end_at (arguments_to ts) f = omega (arith, f)
  named_low false = (
    λ y p s f. omega (arith, f),
    (
      λ q p s f. omega (arith, f),
      (
        λ q p ty fty e fe. close_low N r at before x ty e (omega (arith, fty)) (end_at e fe) (omega (arith, p)),
        (
          λ q p l hl ls hls ts ht ops ho e he. group_low N r at (names_spine before x (l ∷ ls)) ts ops e (omega (arith, hl, hls)) (omega (
            arith,
            hl,
            hls,
            names_height before x (l ∷ ls),
          ))
              (omega (arith, ht)) (omega (arith, ho)) (omega (arith, he.0), omega (arith, he.1)),
          tt,
        ),
      ),
    ),
  )
    where
      end_at : (e : BinderEnd) → EndFits N (r + (0 + 0)) e → EndFits N r e
      end_at (arrow_to t) f = omega (arith, f)
      end_at (arguments_to ts) f = omega (arith, f)

  argued_low : LowRows N r SpineFits opened argued
  argued_low = begins_low N r (λ ts. Fits N (r + low_of opened) 3 (greatest term_height ts)) SpineFits opened argument_rows
      (symbol.operators 0 operand_level ∷ symbol.group_end ∷ [])
      (λ ts ops e. group_of at (names_spine before x []) ts ops e) (arguments_rise opened) (arguments_low N r opened)
      (λ ts f u l ops ho e he. group_low N r at (names_spine before x []) ts ops e (omega (arith, f)) (omega (
        arith,
        f,
        names_height before x [],
      )) (omega (arith, f)) (omega (arith, ho)) (omega (arith, he.0), omega (arith, he.1)))

  operated_rows_low : LowRows N r SpineFits opened operated
  operated_rows_low = begins_low N r (λ ops. Fits N (r + low_of opened) 2 (greatest op_height ops)) SpineFits opened (operator_rows 0 operand_level)
      (symbol.group_end ∷ [])
      (λ ops e. group_of at (names_spine before x []) [] ops e) (operators_rise opened 0 operand_level) (operators_low N r opened 0 operand_level)
      (λ ops f u l e he. group_low N r at (names_spine before x []) [] ops e (omega (arith, f)) (omega (
        arith,
        f,
        names_height before x [],
      )) (omega (arith, f)) (omega (arith, f)) (omega (arith, he.0), omega (arith, he.1)))

  closed_low : LowRows N r SpineFits opened closed
  closed_low = ends_low N r (Bound N r symbol.group_end) SpineFits opened group_end_rows (λ e. group_of at (names_spine before x []) [] [] e)
      (group_end_low N r)
      (λ e he. group_alone N r at (names_spine before x []) e (omega (arith, he.0)) (names_height before x []) he)

  group_names_low : (b : Bool) → LowRows N r SpineFits opened (group_names_rows_by b at before x)
  group_names_low b =
      append_in (LowRow N r SpineFits opened) (named b ++ argued ++ operated) closed
      (append_in (LowRow N r SpineFits opened) (named b ++ argued) operated
      (append_in (LowRow N r SpineFits opened) (named b) argued (named_low b) argued_low) operated_rows_low) closed_low

bracket_low : (N r at : ℕ) (h : TermTree) (ts : List TermTree) (ops : List (Op × TermTree)) → Fits N r 1 (term_height h) →
    (1 ≤ greatest term_height ts → Fits N r 0 (term_height h)) →
    Fits N (r + 1) 3 (greatest term_height ts) → Fits N (r + 1) 2 (greatest op_height ops) → Fits N r 2 (group_height (unnamed at (chain (applied h ts) ops)))
bracket_low N r at h [] ops f g k o = omega (arith, f, o, chain_height h ops)
bracket_low N r at h (t ∷ ts) ops f g k o =
    let l : Fits N r 0 (term_height h) = g (omega (arith, some_height t)) in
    omega (arith, l, k, o, chain_height (applied h (t ∷ ts)) ops, applied_height h (t ∷ ts))

-- The rows behind a name in a bracket, in three parts.
module _ (N r : ℕ) (at : ℕ) (x : Ident) where
  abbrev GroupFits : Binders → Type 0
  GroupFits g = Fits N r 2 (group_height g)

  abbrev first : List (Row Binders)
  first =
      on_word words.Colon (λ _. then (symbol.term 0 ∷ symbol.token words.RightBracket ∷ []) (λ ty _. binders_at at Inst (x ∷ []) ty)) ∷
      on_word words.RightBracket (λ _. then [] (unnamed at (name_term x []))) ∷
      begins_as written_levels_rows (symbol.arguments ∷ symbol.operators 0 operand_level ∷ symbol.token words.RightBracket ∷ [])
      (λ ls ts ops _. unnamed at (chain (applied (name_term x ls) ts) ops))

  abbrev argued_bracket : List (Row Binders)
  argued_bracket = begins_as argument_rows (symbol.operators 0 operand_level ∷ symbol.token words.RightBracket ∷
      []) (λ ts ops _. unnamed at (chain (applied (name_term x []) ts) ops))

  abbrev operated_bracket : List (Row Binders)
  operated_bracket = begins_as (operator_rows 0 operand_level) (symbol.token words.RightBracket ∷ []) (λ ops _. unnamed at (chain (name_term x []) ops))

  first_low : LowRows N r GroupFits opened first
  first_low = (
    λ q p ty fty _ _. omega (arith, fty),
    (
      λ q p. omega (arith, p, name_height x []),
      (
        λ q p l hl ls hls ts ht ops ho _ _. bracket_low N r at (name_term x (l ∷ ls)) ts ops (omega (
          arith,
          hl,
          hls,
          name_height x (l ∷
              ls),
        )) (λ _. omega (arith, hl, hls, name_height x (l ∷ ls))) (omega (arith, ht)) (omega (arith, ho)),
        tt,
      ),
    ),
  )

  argued_bracket_low : LowRows N r GroupFits opened argued_bracket
  argued_bracket_low = begins_low N r (λ ts. Fits N (r + low_of opened) 3 (greatest term_height ts)) GroupFits opened argument_rows
      (symbol.operators 0 operand_level ∷ symbol.token words.RightBracket ∷ [])
      (λ ts ops _. unnamed at (chain (applied (name_term x []) ts) ops)) (arguments_rise opened) (arguments_low N r opened)
      (λ ts f u l ops ho _ _. bracket_low N r at (name_term x []) ts ops (omega (arith, f, name_height x [])) (λ k. omega (
        arith,
        f,
        k,
        name_height x [],
      )) (omega (arith, f)) (omega (arith, ho)))

  operated_bracket_low : LowRows N r GroupFits opened operated_bracket
  operated_bracket_low = begins_low N r (λ ops. Fits N (r + low_of opened) 2 (greatest op_height ops)) GroupFits opened (operator_rows 0 operand_level)
      (symbol.token words.RightBracket ∷ [])
      (λ ops _. unnamed at (chain (name_term x []) ops)) (operators_rise opened 0 operand_level) (operators_low N r opened 0 operand_level)
      (λ ops f u l _ _. omega (arith, f, name_height x [], chain_height (name_term x []) ops))

  bracket_name_low : LowRows N r GroupFits opened (bracket_name_rows at x)
  bracket_name_low =
      append_in (LowRow N r GroupFits opened) (first ++ argued_bracket) operated_bracket
      (append_in (LowRow N r GroupFits opened) first argued_bracket first_low argued_bracket_low) operated_bracket_low

implicit_low : (N r at : ℕ) (xs : List Ident) (ty : Option TermTree) → Fits N r 1 (if_any term_height ty) →
    Fits N r 2 (lbinder_height (implicit_binder at xs ty))
implicit_low N r at xs None h = omega (arith, h)
implicit_low N r at xs (Some ty) h = omega (arith, h)

defined_low : (N r : ℕ) (d : Decl) (b : DefBody) → Fits N r 5 (decl_height d) → Fits N r 5 (body_height b) → Fits N r 6 (command_height (defined d b))
defined_low N r d (by_value v hs) f g = omega (arith, f, g)
defined_low N r d (by_alternatives more) f g = omega (arith, f, g)

plus_height : (at : ℕ) (l : LevelTree) (m : Option Num) → level_height (plus at l m) ≤ 1 + level_height l
plus_height at l None = omega arith
plus_height at l (Some n) = omega arith

end_at : (N r b : ℕ) (e : BinderEnd) → r ≤ b → EndFits N b e → EndFits N r e
end_at N r b (arrow_to t) l f = omega (arith, l, f)
end_at N r b (arguments_to ts) l f = omega (arith, l, f)

pub all_low : (x : Symbol) (N r : ℕ) → LowRows N r (Bound N r x) (entry (kind x)) (rows x)
all_low symbol.command N r = (
  λ at p x _ ls _ bs hbs _ _ ty hty. omega (arith, hbs, hty),
  (
    λ at p x _ ls _ bs hbs d hd. defined_low N r (decl_of at x ls bs d.ty) d.body (omega (arith, hbs, hd)) (omega (arith, hd)),
    (
      λ at p x _ ls _ bs hbs _ _ ty hty _ _ v hv hs hhs. omega (arith, hbs, hty, hv, hhs),
      (
        λ at p x _ ls _ bs hbs ty hty _ _ cs hcs. omega (
          arith,
          hbs,
          hty,
          hcs,
        ),
        (
          λ at p x _ ls _ bs hbs ty hty fs hfs. omega (arith, hbs, hty, hfs),
          (
            λ at p x _ ls _ bs hbs ty hty fs hfs. omega (
              arith,
              hbs,
              hty,
              hfs,
            ),
            (
              λ at p x _ ls _ bs hbs _ _ ty hty _ _ v hv. omega (arith, hbs, hty, hv),
              (
                λ at p x _. omega (arith, p),
                (
                  λ at p x _. omega (
                    arith,
                    p,
                  ),
                  (
                    λ at p x _. omega (arith, p),
                    (
                      λ at p x _ xs _. omega (arith, p),
                      (
                        λ at p x _ xs _. omega (arith, p),
                        (
                          λ at p b hb bs hbs. omega (
                            arith,
                            hb,
                            hbs,
                          ),
                          (λ at p t ht. omega (arith, ht), (λ at p t ht. omega (arith, ht), (λ at p _ _ x _. omega (arith, p), tt))),
                        ),
                      ),
                    ),
                  ),
                ),
              ),
            ),
          ),
        ),
      ),
    ),
  ),
)
all_low (symbol.token w) N r = (λ at p. tt, tt)
all_low symbol.arrow_token N r = (λ o e p. tt, tt)
all_low symbol.number_token N r = (λ n p. tt, tt)
all_low symbol.any_name N r = (λ x p. tt, tt)
all_low symbol.one_part N r = (λ x p. tt, tt)
all_low symbol.binder_name N r = (λ x p. tt, (λ at p. tt, tt))
all_low symbol.optional_name N r = (λ x p. tt, tt)
all_low symbol.any_names N r = (λ x p xs _. tt, tt)
all_low symbol.one_parts N r = (λ x p xs _. tt, tt)
all_low symbol.binder_names N r = (λ x p xs _. tt, (λ at p xs _. tt, tt))
all_low symbol.level_names N r = (λ at p x _ xs _. tt, tt)
all_low symbol.more_level_names N r = (λ at p x _ xs _. tt, (λ at p. tt, tt))
all_low symbol.binder N r = (
  λ at p x _ xs _ _ _ ty hty _ _. omega (arith, hty),
  (
    λ at p x _ xs _ _ _ ty hty _ _. omega (arith, hty),
    (λ at p b hb. omega (arith, hb), tt),
  ),
)
all_low symbol.parameters N r = (
  λ at p x _ xs _ _ _ ty hty _ _ bs hbs. omega (arith, hty, hbs),
  (λ at p x _ xs _ _ _ ty hty _ _ bs hbs. omega (arith, hty, hbs), (λ at p b hb bs hbs. omega (arith, hb, hbs), tt)),
)
all_low symbol.lambda_binder N r = (
  λ at p x _ xs _ _ _ ty hty _ _. omega (arith, hty),
  (
    λ at p x _ xs _ ty hty. implicit_low N r at (x ∷
        xs) ty (omega (arith, hty)),
    (λ at p b hb. omega (arith, hb), (λ x p. omega (arith, p), (λ at p. omega (arith, p), tt))),
  ),
)
all_low symbol.lambda_binders N r = (
  λ at p x _ xs _ _ _ ty hty _ _ bs hbs. omega (arith, hty, hbs),
  (
    λ at p x _ xs _ ty hty bs hbs. let l : Fits N r 2 (lbinder_height (implicit_binder at (x ∷ xs) ty)) = implicit_low N r at (x ∷
        xs) ty (omega (arith, hty)) in omega (arith, l, hbs),
    (
      λ at p b hb bs hbs. omega (arith, hb, hbs),
      (
        λ x p bs hbs. omega (arith, p, hbs),
        (λ at p bs hbs. omega (arith, p, hbs), tt),
      ),
    ),
  ),
)
all_low symbol.implicit_end N r = (λ at p ty hty _ _. omega (arith, hty), (λ at p. omega (arith, p), tt))
all_low symbol.def_rest N r = (λ at p ty hty d hd. omega (arith, hty, hd), (λ at p v hv. omega (arith, hv), tt))
all_low symbol.def_body N r = (λ at p v hv hs hhs. omega (arith, hv, hhs), (λ at p q _ _ _ t ht more hmore. omega (arith, ht, hmore), tt))
all_low symbol.type_option N r = (λ at p ty hty. omega (arith, hty), tt)
all_low symbol.where_option N r = (λ at p. tt, tt)
all_low symbol.ctors N r = (λ at p x _ bs hbs ty hty cs hcs. omega (arith, hbs, hty, hcs), tt)
all_low symbol.helpers N r = (λ at p _ _ h hh hs hhs. omega (arith, hh, hhs), tt)
all_low symbol.helper N r = (λ x p bs hbs _ _ ty hty _ _ v hv. omega (arith, hbs, hty, hv), tt)
all_low symbol.more_helpers N r = (λ at p h hh hs hhs. omega (arith, hh, hhs), (λ at p h hh hs hhs. omega (arith, hh, hhs), (λ at p. omega (arith, p), tt)))
all_low symbol.fields_option N r = (λ at p _ _ h hh hs hhs. omega (arith, hh, hhs), tt)
all_low symbol.field N r = (λ x p xs _ _ _ ty hty. omega (arith, hty), tt)
all_low symbol.more_fields N r = (λ at p h hh hs hhs. omega (arith, hh, hhs), (λ at p h hh hs hhs. omega (arith, hh, hhs), (λ at p. omega (arith, p), tt)))
all_low symbol.axioms_word N r = (λ x p. tt, tt)
all_low symbol.alternatives N r = (λ at p q _ _ _ t ht more hmore. omega (arith, ht, hmore), tt)
all_low symbol.pattern N r = (λ at p. tt, (λ x p q _. tt, (λ x p xs _. tt, tt)))
all_low (symbol.pattern_rest x) N r = (λ o e p _ _. tt, (λ y p ys _. tt, (λ at p ys _. tt, tt)))
all_low symbol.numeral_one N r = (λ at p. tt, tt)
all_low symbol.group_close N r = (λ at p e he. end_at N r (r + (0 + 0)) e (omega arith) he, tt)
all_low symbol.written_levels N r = (λ at p l hl ls hls. omega (arith, hl, hls), tt)
all_low symbol.more_levels N r = (λ at p l hl ls hls. omega (arith, hl, hls), (λ at p. omega (arith, p), tt))
all_low symbol.level N r = (
  λ n p m _. omega (arith, p, plus_height n.at (level_number n) m),
  (
    λ x p l hl. omega (arith, hl),
    (
      λ x p l hl. omega (arith, hl),
      (
        λ y p m _. omega (arith, p, plus_height y.at (level_name y) m),
        (
          λ at p l hl _ _ m _. omega (
            arith,
            hl,
            plus_height at l m,
          ),
          tt,
        ),
      ),
    ),
  ),
)
all_low symbol.plus_option N r = (λ o e p n _. tt, tt)
all_low symbol.level_atom N r = (λ n p. omega (arith, p), (λ y p. omega (arith, p), (λ at p l hl _ _. omega (arith, hl), tt)))
all_low symbol.level_atoms N r = (
  λ n p ls hls. omega (arith, p, hls),
  (
    λ y p ls hls. omega (arith, p, hls),
    (
      λ at p l hl _ _ ls hls. omega (
        arith,
        hl,
        hls,
      ),
      tt,
    ),
  ),
)
all_low (symbol.max_rest x) N r = (
  λ o e p n _. omega (arith, p),
  (
    λ n p l hl ls hls. omega (arith, p, hl, hls, levels_same ls),
    (λ y p l hl ls hls. omega (arith, p, hl, hls, levels_same ls), (λ at p k hk _ _ l hl ls hls. omega (arith, hk, hl, hls, levels_same ls), tt)),
  ),
)
all_low (symbol.imax_rest x) N r = (
  λ o e p n _. omega (arith, p),
  (
    λ n p l hl. omega (arith, p, hl),
    (
      λ y p l hl. omega (arith, p, hl),
      (λ at p k hk _ _ l hl. omega (arith, hk, hl), tt),
    ),
  ),
)
all_low symbol.block N r = (λ at p i hi items hitems. omega (arith, hi, hitems), tt)
all_low symbol.more_items N r = (
  λ at p i hi items hitems. omega (arith, hi, hitems),
  (
    λ at p i hi items hitems. omega (arith, hi, hitems),
    (λ at p. omega (arith, p), tt),
  ),
)
all_low symbol.item N r = (
  λ at p items hi. omega (arith, hi, items_same items),
  (
    λ x p t ht. omega (arith, ht),
    (
      λ x p y _ ys _. omega (arith, p),
      (
        λ x p t ht. omega (arith, ht),
        (
          λ x p. omega (arith, p),
          (
            λ x p. omega (arith, p),
            (
              λ x p _ _ q hq rs hrs. omega (
                arith,
                hq,
                hrs,
                rules_same rs,
              ),
              (
                λ x p y _. omega (arith, p),
                (
                  λ x p y _ _ _ ty hty _ _ t ht. omega (arith, hty, ht),
                  (
                    λ x p y _. omega (arith, p),
                    (λ x p y _. omega (arith, p), (λ x p y _. omega (arith, p), (λ at p. omega (arith, p), tt))),
                  ),
                ),
              ),
            ),
          ),
        ),
      ),
    ),
  ),
)
all_low symbol.more_rules N r = (λ at p q hq rs hrs. omega (arith, hq, hrs), (λ at p. omega (arith, p), tt))
all_low (symbol.bracket at) N r = (
  λ x p b hb. omega (arith, hb),
  begins_low N r (λ t. Fits N (r + low_of opened) 4 (term_height t)) (λ g. Fits N r 2 (group_height g)) opened (term_rows 0)
      (symbol.token words.RightBracket ∷ []) (λ ty _. unnamed at ty)
      (terms_rise opened 0) (terms_low N r opened 0) (λ ty f u l _ _. omega (arith, f)),
)
all_low (symbol.bracket_name at x) N r = bracket_name_low N r at x
all_low (symbol.term least) N r =
    map_low N r (λ t. Fits N (r + (0 + 0)) 4 (term_height t)) (λ t. Fits N r 4 (term_height t)) (sketch 0 0 []) (term_rows least) (λ t f. omega (arith, f))
    (terms_low N r (sketch 0 0 []) least)
all_low symbol.arguments N r =
    map_low N r (λ ts. Fits N (r + (0 + 0)) 3 (greatest term_height ts)) (λ ts. Fits N r 3 (greatest term_height ts)) (sketch 0 0 []) argument_rows
    (λ ts f. omega (arith, f)) (arguments_low N r (sketch 0 0 []))
all_low (symbol.operators least left) N r =
    map_low N r (λ ops. Fits N (r + (0 + 0)) 2 (greatest op_height ops)) (λ ops. Fits N r 2 (greatest op_height ops)) (sketch 0 0 [])
    (operator_rows least left) (λ ops f. omega (arith, f))
    (operators_low N r (sketch 0 0 []) least left)
all_low (symbol.group at) N r = (
  λ x p s f. omega (arith, f),
  (
    λ q p s f. omega (arith, f),
    begins_low N r (λ t. Fits N (r + low_of opened) 4 (term_height t)) (λ s. Fits N r 3 (spine_height s)) opened (term_rows 0) (symbol.group_end ∷ [])
        (λ t e. with_arguments (paren at t (option_of e.ty)) e.arguments) (terms_rise opened 0) (terms_low N r opened 0)
        (λ t f u l e he. omega (arith, f, he.0, he.1, option_same e.ty)),
  ),
)
all_low (symbol.group_names at before x) N r = group_names_low N r at before x (is_underscore x.name)
all_low symbol.group_end N r = group_end_low N r
all_low symbol.binder_end N r = (
  λ o e p t ht. omega (arith, ht),
  ends_low N r (λ ts. Fits N (r + (0 + 0)) 3 (greatest term_height ts)) (EndFits N r) (sketch 0 0 []) argument_rows arguments_to
      (arguments_low N r (sketch 0 0 [])) (λ ts f. omega (arith, f)),
)
all_low symbol.rw_rule N r = (
  λ at p t ht. omega (arith, ht),
  ends_low N r (λ t. Fits N (r + (0 + 0)) 4 (term_height t)) (Bound N r symbol.rw_rule) (sketch 0 0 []) (term_rows 0) (λ t. rule (place t) false t)
      (terms_low N r (sketch 0 0 []) 0) (λ t f. omega (arith, f)),
)

some_is : {A : Type 0} (P : A → Type 0) (a b : A) → ◌≡◌ {A = Option A} (Some a) (Some b) → P a → P b
some_is P a b e h = let f : a ≡ b = cc in subst P f h

pub left_low : (x : Symbol) (v : Tree x) → without x ≡ Some v → (N b : ℕ) → b ≤ N → Bound N b x v
left_low symbol.command v e N b l = cc
left_low (symbol.token w) v e N b l = tt
left_low symbol.arrow_token v e N b l = tt
left_low symbol.number_token v e N b l = tt
left_low symbol.any_name v e N b l = tt
left_low symbol.one_part v e N b l = tt
left_low symbol.binder_name v e N b l = tt
left_low symbol.optional_name v e N b l = tt
left_low symbol.any_names v e N b l = tt
left_low symbol.one_parts v e N b l = tt
left_low symbol.binder_names v e N b l = tt
left_low symbol.level_names v e N b l = tt
left_low symbol.more_level_names v e N b l = tt
left_low symbol.binder v e N b l = cc
left_low symbol.parameters v e N b l = some_is (Bound N b symbol.parameters) [] v e (omega (arith, l))
left_low symbol.lambda_binder v e N b l = cc
left_low symbol.lambda_binders v e N b l = some_is (Bound N b symbol.lambda_binders) [] v e (omega (arith, l))
left_low symbol.implicit_end v e N b l = cc
left_low (symbol.bracket at) v e N b l = cc
left_low (symbol.bracket_name at x) v e N b l = cc
left_low symbol.def_rest v e N b l = cc
left_low symbol.def_body v e N b l = cc
left_low symbol.type_option v e N b l = some_is (Bound N b symbol.type_option) None v e (omega (arith, l))
left_low symbol.where_option v e N b l = tt
left_low symbol.ctors v e N b l = some_is (Bound N b symbol.ctors) [] v e (omega (arith, l))
left_low symbol.helpers v e N b l = some_is (Bound N b symbol.helpers) [] v e (omega (arith, l))
left_low symbol.helper v e N b l = cc
left_low symbol.more_helpers v e N b l = cc
left_low symbol.fields_option v e N b l = some_is (Bound N b symbol.fields_option) [] v e (omega (arith, l))
left_low symbol.field v e N b l = cc
left_low symbol.more_fields v e N b l = cc
left_low symbol.axioms_word v e N b l = tt
left_low symbol.alternatives v e N b l = some_is (Bound N b symbol.alternatives) [] v e (omega (arith, l))
left_low symbol.pattern v e N b l = tt
left_low (symbol.pattern_rest x) v e N b l = tt
left_low symbol.numeral_one v e N b l = tt
left_low (symbol.term least) v e N b l = cc
left_low symbol.arguments v e N b l = some_is (Bound N b symbol.arguments) [] v e (omega (arith, l))
left_low (symbol.operators least left) v e N b l = some_is (Bound N b (symbol.operators least left)) [] v e (omega (arith, l))
left_low (symbol.group at) v e N b l = cc
left_low (symbol.group_names at before x) v e N b l = cc
left_low symbol.group_end v e N b l = cc
left_low symbol.group_close v e N b l = cc
left_low symbol.binder_end v e N b l = some_is (Bound N b symbol.binder_end) (arguments_to []) v e (omega (arith, l))
left_low symbol.written_levels v e N b l = some_is (Bound N b symbol.written_levels) [] v e (omega (arith, l))
left_low symbol.more_levels v e N b l = cc
left_low symbol.level v e N b l = cc
left_low symbol.plus_option v e N b l = tt
left_low symbol.level_atom v e N b l = cc
left_low symbol.level_atoms v e N b l = some_is (Bound N b symbol.level_atoms) [] v e (omega (arith, l))
left_low (symbol.max_rest x) v e N b l = some_is (Bound N b (symbol.max_rest x)) (level_name x) v e (omega (arith, l))
left_low (symbol.imax_rest x) v e N b l = some_is (Bound N b (symbol.imax_rest x)) (level_name x) v e (omega (arith, l))
left_low symbol.block v e N b l = cc
left_low symbol.more_items v e N b l = cc
left_low symbol.item v e N b l = cc
left_low symbol.rw_rule v e N b l = cc
left_low symbol.more_rules v e N b l = cc
