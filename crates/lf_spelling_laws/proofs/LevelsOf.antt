-- Levels that are read off terms write the terms' tokens.
use Rattle.std.proofs.Common.{◌≡◌, inl, inr, ℕ, List, [], ◌∷◌, codes, Bool, true, false, Option, Some, None, refl, sym, subst, ◌∙◌}
use Rattle.lf_text.specs.declared.word.Word.{Word}
use Rattle.lf_text.specs.declared.word.Word.TheVariants as words
use Rattle.lf_text.specs.declared.word.Spelling.TheVariants as spelt
use Rattle.lf_text.specs.declared.operator.Op.{Op}
use Rattle.lf_text.specs.declared.operator.Op.TheVariants.{Add}
use Rattle.lf_name.specs.declared.binder.BinderKind.TheVariants.{Explicit, Implicit, Inst}
use Rattle.lf_syntax.specs.declared.leaf.Ident.{Ident}
use Rattle.lf_syntax.specs.declared.leaf.Num.{Num}
use Rattle.lf_syntax.specs.Piece.{name, Piece}
use Rattle.lf_syntax.specs.Tree.{
  LevelTree,
  level_name,
  levels_of,
  TermTree,
  ident,
  numeral,
  hole,
  sorry_term,
  prop,
  type_u,
  sort_u,
  paren,
  app,
  oper,
  not_term,
  fun_term,
  forall_term,
  let_term,
  by_term,
  arrow,
  no_term,
  some_term,
  TermTrees,
  end_terms,
  term_and,
  terms_of,
  BindersTree,
  binders,
  place,
}
use Rattle.lf_syntax.specs.Build.{
  is_one_part_name,
  is_named,
  bare_name,
  name_level,
  plus_level,
  max_level,
  imax_level,
  applied_level,
  level_and_more,
  level_of,
  level_atoms_of,
  sort_spine,
  sort_or_none,
}
use Rattle.lf_syntax.specs.Rows.{plus}
use Rattle.lf_spelling_laws.specs.Readers.{both, FirstAt, Starts, mark, word_at, sign, any_name, named, if_any}
use Rattle.lf_spelling_laws.specs.Spells.{bare_levels, level, term, binder_place, terms, binder}
use Rattle.lf_spelling_laws.specs.Spells.InParentheses.{bare, parenthesis}
use Rattle.lf_spelling_laws.proofs.Says.{spine, plus_option, first_starts}

-- Where a term begins.
pub term_starts : (t : TermTree) (ts us : List Piece) → term t ts us → Starts (place t) ts
term_starts (ident at false x ls) ts us h = subst (λ (n : ℕ). Starts n ts) h.0 (first_starts h.1.1.1)
term_starts (ident at true x ls) ts us h = first_starts h.1
term_starts (numeral n) ts us h = first_starts h.1
term_starts (hole at) ts us (inl h) = first_starts h
term_starts (hole at) ts us (inr h) = subst (λ (n : ℕ). Starts n ts) h.3 (first_starts h.2.1.1)
term_starts (sorry_term at) ts us h = first_starts h
term_starts (prop at) ts us h = first_starts h
term_starts (type_u at l) ts us h = first_starts h.1
term_starts (sort_u at l) ts us h = first_starts h.1
term_starts (paren at t u) ts us h = first_starts h.1
term_starts (app at t more) ts us h = subst (λ (n : ℕ). Starts n ts) (sym h.0) (term_starts t ts h.1.0 h.1.1)
term_starts (oper at o l r) ts us h = subst (λ (n : ℕ). Starts n ts) (sym h.0) (term_starts l ts h.1.0 h.1.1)
term_starts (not_term at t) ts us h = first_starts h.1
term_starts (fun_term at bs t) ts us h = first_starts h.1
term_starts (forall_term at bs t) ts us h = first_starts h.1
term_starts (let_term at x u v t) ts us h = first_starts h.1
term_starts (by_term at items) ts us h = first_starts h.1
term_starts (arrow at b t) ts us h = subst (λ (n : ℕ). Starts n ts) (sym h.0) (binder_starts b ts h.1.0 h.1.1)
  where
    binder_starts : (b : BindersTree) (ts us : List Piece) → binder b ts us → Starts (binder_place b) ts
    binder_starts (binders at Explicit xs ty) ts us h = first_starts h.1
    binder_starts (binders at Implicit xs ty) ts us h = first_starts h.1
    binder_starts (binders at Inst [] ty) ts us h = absurd h
    binder_starts (binders at Inst (x ∷ []) ty) ts us h = first_starts h.1
    binder_starts (binders at Inst (x ∷ y ∷ xs) ty) ts us h = absurd h

abbrev Level : Option LevelTree → List Piece → List Piece → Type 0
Level None ts us = Unit {0}
Level (Some l) ts us = level l ts us

abbrev Levels : Option (List LevelTree) → List Piece → List Piece → Type 0
Levels None ts us = Unit {0}
Levels (Some ls) ts us = bare_levels (levels_of ls) ts us

name_level_says : (x : Ident) (ts us : List Piece) → any_name x ts us → Level (name_level x) ts us
name_level_says x ts us h = by (is_one_part_name x.name) refl
  where
    by : (b : Bool) → is_one_part_name x.name ≡ b → Level (elim b as (λ _. Option LevelTree) [ true ↦ Some (level_name x) | false ↦ None ]) ts us
    by true e = bare (h.0, h.1, inr e)
    by false e = tt

in_parentheses : (l : Option LevelTree) (at : ℕ) (ts vs ws us : List Piece) → word_at words.LeftParen at ts vs → Level l vs ws →
    mark words.RightParen ws us → Level l ts us
in_parentheses None at ts vs ws us p h q = tt
in_parentheses (Some l) at ts vs ws us p h q = parenthesis (record { token = p.token; same = p.same; class = p.class }) h q

plus_level_says : (at : ℕ) (o : Op) (l : Option LevelTree) (r : TermTree) (ts vs ws us : List Piece) → Starts at ts → Level l ts vs → sign o vs ws →
    term r ws us → Level (plus_level at o l r) ts us
plus_level_says at Add (Some l) (numeral n) ts vs ws us s h g k = bare (s, (vs, h, (ws, g, k)))
plus_level_says at _ _ _ ts vs ws us s h g k = tt

more_levels_say : (l : Option LevelTree) (ls : Option (List LevelTree)) (ts vs us : List Piece) → Level l ts vs → Levels ls vs us →
    Levels (level_and_more l ls) ts us
more_levels_say None None ts vs us h g = tt
more_levels_say None (Some ls) ts vs us h g = tt
more_levels_say (Some l) None ts vs us h g = tt
more_levels_say (Some l) (Some ls) ts vs us h g = (vs, h, g)

max_says : (at : ℕ) (ls : List LevelTree) (ts vs us : List Piece) → named spelt.Max (codes "max") at ts vs → bare_levels (levels_of ls) vs us →
    Level (max_level at ls) ts us
max_says at [] ts vs us h g = tt
max_says at (k ∷ []) ts vs us h g = tt
max_says at (k ∷ l ∷ ls) ts vs us h g = bare (vs, h, g)

imax_says : (at : ℕ) (ls : List LevelTree) (ts vs us : List Piece) → named spelt.Imax (codes "imax") at ts vs → bare_levels (levels_of ls) vs us →
    Level (imax_level at ls) ts us
imax_says at [] ts vs us h g = tt
imax_says at (k ∷ []) ts vs us h g = tt
imax_says at (k ∷ l ∷ []) ts vs us h g = bare (vs, h, (g.0, g.1, subst (level l g.0) g.2.2 g.2.1))
imax_says at (k ∷ l ∷ m ∷ ls) ts vs us h g = tt

applied_says : (at : ℕ) (x : Option Ident) (ls : Option (List LevelTree)) (ts vs us : List Piece) → ((y : Ident) → x ≡ Some y →
    any_name y ts vs × (y.at ≡ at)) → Levels ls vs us → Level (applied_level at x ls) ts us
applied_says at None ls ts vs us h g = tt
applied_says at (Some x) None ts vs us h g = tt
applied_says at (Some x) (Some ls) ts vs us h g = by (is_named (codes "max") x.name) (is_named (codes "imax") x.name) refl refl
  where
    n : any_name x ts vs × (x.at ≡ at)
    n = h x refl

    f : FirstAt ts vs (name n.0.0 x.name) at
    f = record { token = n.0.1.token; same = n.0.1.same; class = n.0.1.class; place = n.0.1.place ∙ n.1 }

    by : (b c : Bool) → is_named (codes "max") x.name ≡ b → is_named (codes "imax") x.name ≡ c → Level (elim b as (λ _. Option LevelTree) [
      | true ↦ max_level at ls
      | false ↦ elim c as (λ _. Option LevelTree) [ true ↦ imax_level at ls | false ↦ None ]
    ]) ts us
    by true c e d = max_says at ls ts vs us (n.0.0, x.name, f, inr e) g
    by false true e d = imax_says at ls ts vs us (n.0.0, x.name, f, inr d) g
    by false false e d = tt

bare_says : (h : TermTree) (at : ℕ) (ts vs : List Piece) → at ≡ place h → term h ts vs → (y : Ident) → bare_name h ≡ Some y → any_name y ts vs × (y.at ≡ at)
bare_says (ident at false x []) n ts vs p h y e =
    let same : x ≡ y = cc in
    subst (λ (z : Ident). any_name z ts vs × (z.at ≡ n)) same (subst (any_name x ts) h.1.2 (h.1.1.0, h.1.1.1), h.0 ∙ sym p)
bare_says (ident at false x (l ∷ ls)) n ts vs p h y e = cc
bare_says (ident at true x ls) n ts vs p h y e = cc
bare_says (numeral m) n ts vs p h y e = cc
bare_says (hole at) n ts vs p h y e = cc
bare_says (sorry_term at) n ts vs p h y e = cc
bare_says (prop at) n ts vs p h y e = cc
bare_says (type_u at l) n ts vs p h y e = cc
bare_says (sort_u at l) n ts vs p h y e = cc
bare_says (paren at t u) n ts vs p h y e = cc
bare_says (app at t more) n ts vs p h y e = cc
bare_says (oper at o l r) n ts vs p h y e = cc
bare_says (not_term at t) n ts vs p h y e = cc
bare_says (fun_term at bs t) n ts vs p h y e = cc
bare_says (forall_term at bs t) n ts vs p h y e = cc
bare_says (let_term at x u v t) n ts vs p h y e = cc
bare_says (by_term at items) n ts vs p h y e = cc
bare_says (arrow at b t) n ts vs p h y e = cc

mutual
  pub level_says : (t : TermTree) (b : Bool) (ts us : List Piece) → term t ts us → Level (level_of t b) ts us
  level_says (ident at false x []) b ts us h = name_level_says x ts us (subst (any_name x ts) h.1.2 (h.1.1.0, h.1.1.1))
  level_says (ident at false x (l ∷ ls)) b ts us h = tt
  level_says (ident at true x ls) b ts us h = tt
  level_says (numeral n) b ts us h = bare h
  level_says (hole at) b ts us h = tt
  level_says (sorry_term at) b ts us h = tt
  level_says (prop at) b ts us h = tt
  level_says (type_u at l) b ts us h = tt
  level_says (sort_u at l) b ts us h = tt
  level_says (paren at t no_term) b ts us h =
      in_parentheses (level_of t false) at ts h.0 h.2.0 us h.1 (level_says t false h.0 h.2.0 h.2.1)
      (subst (λ (z : List Piece). mark words.RightParen z us) (sym h.2.2.1) h.2.2.2)
  level_says (paren at t (some_term u)) b ts us h = tt
  level_says (app at t more) true ts us h = tt
  level_says (app at t more) false ts us h =
      applied_says at (bare_name t) (level_atoms_of more) ts h.1.0 us (bare_says t at ts h.1.0 h.0 h.1.1) (levels_say more h.1.0 us h.1.2)
  level_says (oper at o l r) true ts us h = tt
  level_says (oper at o l r) false ts us h =
      plus_level_says at o (level_of l true) r ts h.1.0 h.1.2.0 us (subst (λ (n : ℕ). Starts n ts) (sym h.0) (term_starts l ts h.1.0 h.1.1))
      (level_says l true ts h.1.0 h.1.1) h.1.2.1 h.1.2.2
  level_says (not_term at t) b ts us h = tt
  level_says (fun_term at bs t) b ts us h = tt
  level_says (forall_term at bs t) b ts us h = tt
  level_says (let_term at x u v t) b ts us h = tt
  level_says (by_term at items) b ts us h = tt
  level_says (arrow at c t) b ts us h = tt

  levels_say : (more : TermTrees) (ts us : List Piece) → terms more ts us → Levels (level_atoms_of more) ts us
  levels_say end_terms ts us h = h
  levels_say (term_and t more) ts us h = more_levels_say (level_of t true) (level_atoms_of more) ts h.0 us (level_says t true ts h.0 h.1)
      (levels_say more h.0 us h.2)

-- `Type` or `Sort`, and what stands behind it.
pub sort_says : (w : Word) (at : ℕ) (make : Option LevelTree → TermTree) → ((l : Option LevelTree) (ts us : List Piece) →
    both (word_at w at) (if_any level l) ts us → term (make l) ts us) →
    (more : List TermTree) (vs ts us : List Piece) → word_at w at vs ts → terms (terms_of more) ts us → spine (sort_spine make more) vs us
sort_says w at make m [] vs ts us p h = (ts, m None vs ts (ts, p, refl), h)
sort_says w at make m (t ∷ more) vs ts us p h = by (level_of t true) (level_says t true ts h.0 h.1)
  where
    by : (l : Option LevelTree) → Level l ts h.0 → spine (sort_or_none make t more l) vs us
    by None g = (ts, m None vs ts (ts, p, refl), h)
    by (Some l) g = (h.0, m (Some l) vs h.0 (ts, p, g), h.2)

pub plus_says : (at : ℕ) (l : LevelTree) (o : Option Num) (ts ms us : List Piece) → Starts at ts → level l ts ms → plus_option o ms us →
    level (plus at l o) ts us
plus_says at l None ts ms us s h g = subst (level l ts) g h
plus_says at l (Some n) ts ms us s h g = bare (s, (ms, h, g))
