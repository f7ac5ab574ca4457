-- What each symbol's tree says of its tokens.
use Rattle.std.proofs.Common.{◌≡◌, inl, inr, ℕ, List, [], ◌∷◌, ◌++◌, map, Bool, true, false, Option, Some, None, refl, sym, ap, subst, ◌∙◌, true≢false}
use Rattle.lf_text.specs.declared.word.Word.TheVariants as words
use Rattle.lf_text.specs.declared.word.Spelling.TheVariants as spelt
use Rattle.lf_text.specs.declared.operator.Op.{Op}
use Rattle.lf_text.specs.declared.operator.Op.TheVariants.{Arrow, Add}
use Rattle.lf_name.specs.declared.binder.BinderKind.TheVariants.{Explicit, Implicit, Inst}
use Rattle.lf_syntax.specs.declared.leaf.Ident.{Ident}
use Rattle.lf_syntax.specs.declared.leaf.Num.{Num}
use Rattle.lf_syntax.specs.Piece.{Class, word, name, Piece}
use Rattle.lf_syntax.specs.Row.{Row, begins_as}
use Rattle.lf_syntax.specs.Predictive.{Takes, join}
use Rattle.lf_syntax.specs.Tree.{
  LevelTree,
  levels_of,
  TermTree,
  ident,
  hole,
  oper,
  terms_of,
  option_of,
  BindersTree,
  binders,
  binders_of,
  items_of,
  rules_of,
  place,
}
use Rattle.lf_syntax.specs.Symbol as symbol
use Rattle.lf_syntax.specs.Symbol.{Symbol, Tree, Spine, GroupEnd, BinderEnd, arrow_to, arguments_to, DefRest, DefBody, by_value, by_alternatives}
use Rattle.lf_syntax.specs.Build.{applied, chain, is_underscore, name_term, spine_of, names_spine, group_of, close_of}
use Rattle.lf_spelling_laws.specs.Readers.{
  Reader,
  both,
  First,
  FirstAt,
  Starts,
  mark,
  word_at,
  sign,
  numeral_token,
  digit,
  any_name,
  one_part,
  spelled,
  binder_name,
  each,
  each_behind,
  each_parted,
  where_block,
  if_any,
}
use Rattle.lf_spelling_laws.specs.Spells.{
  bare_levels,
  level,
  written_levels,
  underscore,
  term,
  binder_place,
  type_of,
  terms,
  binder,
  lambda_binder,
  lambda_binders,
  item,
  block_of,
  items_behind,
  one_rule,
  rules_behind,
  group,
  groups,
  type_option,
  level_names,
  helper,
  ctor,
  field,
  pattern,
  alternative,
  where_option,
  command,
}
use Rattle.lf_spelling_laws.proofs.Found.{InRows, begins_in}

abbrev pub spine : Spine → Reader
spine s = both (term s.head) (terms (terms_of s.arguments))

abbrev pub operators : List (Op × TermTree) → Reader
operators ops = each (λ o. both (sign o.0) (term o.1)) ops

abbrev pub implicit_end : Option TermTree → List Piece → List Piece → Type 0
implicit_end None ts us = mark words.RightBrace ts us
implicit_end (Some t) ts us = both (mark words.Colon) (both (term t) (mark words.RightBrace)) ts us

abbrev pub def_body : DefBody → List Piece → List Piece → Type 0
def_body (by_value v hs) ts us = both (mark words.Assign) (both (term v) (where_block helper hs)) ts us
def_body (by_alternatives more) ts us = each alternative more ts us

abbrev pub binder_end : BinderEnd → List Piece → List Piece → Type 0
binder_end (arrow_to t) ts us = both (sign Arrow) (term t) ts us
binder_end (arguments_to more) ts us = terms (terms_of more) ts us

abbrev pub plus_option : Option Num → List Piece → List Piece → Type 0
plus_option None ts us = ts ≡ us
plus_option (Some n) ts us = both (sign Add) (numeral_token n) ts us

-- Symbols that begin behind a token of their tree say so of each list with that token before it.
abbrev pub Says : (x : Symbol) → Tree x → List Piece → List Piece → Type 0
Says symbol.command c ts us = command c ts us
Says (symbol.token w) v ts us = mark w ts us
Says symbol.arrow_token v ts us = sign Arrow ts us
Says symbol.number_token n ts us = numeral_token n ts us
Says symbol.any_name x ts us = any_name x ts us
Says symbol.one_part x ts us = one_part x ts us
Says symbol.binder_name x ts us = binder_name x ts us
Says symbol.optional_name o ts us = if_any any_name o ts us
Says symbol.any_names xs ts us = each any_name xs ts us
Says symbol.one_parts xs ts us = each one_part xs ts us
Says symbol.binder_names xs ts us = each binder_name xs ts us
Says symbol.level_names xs ts us = level_names xs ts us
Says symbol.more_level_names xs ts us = both (each_behind words.Comma one_part xs) (mark words.RightBrace) ts us
Says symbol.binder b ts us = group b ts us
Says symbol.parameters bs ts us = groups bs ts us
Says symbol.lambda_binder b ts us = lambda_binder b ts us
Says symbol.lambda_binders bs ts us = lambda_binders (binders_of bs) ts us
Says symbol.implicit_end o ts us = implicit_end o ts us
Says (symbol.bracket at) b ts us = (vs : List Piece) → word_at words.LeftBracket at vs ts → group b vs us
Says (symbol.bracket_name at x) b ts us = (vs ws : List Piece) → word_at words.LeftBracket at vs ws → one_part x ws ts → group b vs us
Says symbol.def_rest d ts us = both (type_option d.ty) (def_body d.body) ts us
Says symbol.def_body d ts us = def_body d ts us
Says symbol.type_option o ts us = type_option o ts us
Says symbol.where_option v ts us = where_option ts us
Says symbol.ctors cs ts us = each ctor cs ts us
Says symbol.helpers hs ts us = where_block helper hs ts us
Says symbol.helper h ts us = helper h ts us
Says symbol.more_helpers hs ts us = both (each_parted helper hs) (mark words.LayoutClose) ts us
Says symbol.fields_option fs ts us = where_block field fs ts us
Says symbol.field f ts us = field f ts us
Says symbol.more_fields fs ts us = both (each_parted field fs) (mark words.LayoutClose) ts us
Says symbol.axioms_word v ts us = (at : ℕ) × spelled spelt.Axioms at ts us
Says symbol.alternatives more ts us = each alternative more ts us
Says symbol.pattern p ts us = pattern p ts us
Says (symbol.pattern_rest x) p ts us = (vs : List Piece) → one_part x vs ts → pattern p vs us
Says symbol.numeral_one v ts us = digit 1 ts us
Says (symbol.term least) t ts us = term t ts us
Says symbol.arguments more ts us = terms (terms_of more) ts us
Says (symbol.operators least left) ops ts us = operators ops ts us
Says (symbol.group at) s ts us = (vs : List Piece) → word_at words.LeftParen at vs ts → spine s vs us
Says (symbol.group_names at before x) s ts us = (vs ws xs : List Piece) → word_at words.LeftParen at vs ws → each binder_name before ws xs →
    binder_name x xs ts → spine s vs us
Says symbol.group_end e ts us = both (type_option e.ty) (both (mark words.RightParen) (terms (terms_of e.arguments))) ts us
Says symbol.group_close e ts us = both (mark words.RightParen) (binder_end e) ts us
Says symbol.binder_end e ts us = binder_end e ts us
Says symbol.written_levels ls ts us = written_levels ls ts us
Says symbol.more_levels ls ts us = both (each_behind words.Comma level ls) (mark words.RightBrace) ts us
Says symbol.level l ts us = level l ts us
Says symbol.plus_option o ts us = plus_option o ts us
Says symbol.level_atom l ts us = level l ts us
Says symbol.level_atoms ls ts us = bare_levels (levels_of ls) ts us
Says (symbol.max_rest x) l ts us = (vs : List Piece) → FirstAt vs ts (name spelt.Max x.name) x.at → level l vs us
Says (symbol.imax_rest x) l ts us = (vs : List Piece) → FirstAt vs ts (name spelt.Imax x.name) x.at → level l vs us
Says symbol.block items ts us = block_of (items_of items) ts us
Says symbol.more_items items ts us = both (items_behind (items_of items)) (mark words.LayoutClose) ts us
Says symbol.item i ts us = item i ts us
Says symbol.rw_rule r ts us = one_rule r ts us
Says symbol.more_rules rs ts us = both (rules_behind (rules_of rs)) (mark words.RightBracket) ts us

-- What comes of trees that say what their tokens are says what the tokens from the start on are.
abbrev pub Sp : {A : Type 0} → (A → List Piece → List Piece → Type 0) → List Piece → (xs : List Symbol) → Takes Tree xs A → List Piece → Type 0
Sp R start [] a ts = R a start ts
Sp R start (x ∷ xs) f ts = (v : Tree x) (us : List Piece) → Says x v ts us → Sp R start xs (f v) us

abbrev pub SpRows : {V : Type 0} → (V → List Piece → List Piece → Type 0) → List (Row V) → Type 0
SpRows R rs = InRows (λ t p. (ts : List Piece) → Sp R (t ∷ ts) p.body p.build ts) rs

sp_join : {A V : Type 0} (P : A → List Piece → List Piece → Type 0) (Q : V → List Piece → List Piece →
    Type 0) (start : List Piece) (xs ys : List Symbol) (f : Takes Tree xs A) (k : A → Takes Tree ys V) (ts : List Piece) →
    Sp P start xs f ts → ((a : A) (us : List Piece) → P a start us → Sp Q start ys (k a) us) → Sp Q start (xs ++ ys) (join Tree V xs ys f k) ts
sp_join P Q start [] ys a k ts h g = g a ts h
sp_join P Q start (x ∷ xs) ys f k ts h g = λ v us s. sp_join P Q start xs ys (f v) k us (h v us s) g

pub begins_sp : {A V : Type 0} (P : A → List Piece → List Piece → Type 0) (Q : V → List Piece → List Piece →
    Type 0) (rs : List (Row A)) (ys : List Symbol) (k : A → Takes Tree ys V) → SpRows P rs →
    ((a : A) (start us : List Piece) → P a start us → Sp Q start ys (k a) us) → SpRows Q (begins_as rs ys k)
begins_sp P Q rs ys k h g =
    begins_in (λ t p. (ts : List Piece) → Sp P (t ∷ ts) p.body p.build ts) (λ t p. (ts : List Piece) → Sp Q (t ∷ ts) p.body p.build ts) rs ys k
    (λ t p f ts. sp_join P Q (t ∷ ts) p.body ys p.build k ts (f ts) (λ a us s. g a (t ∷ ts) us s)) h

pub at_ : (t : Piece) (ts : List Piece) (c : Class) → t.class ≡ c → FirstAt (t ∷ ts) ts c t.at
at_ t ts c e = record { token = t; same = refl; class = e; place = refl }

pub first_ : (t : Piece) (ts : List Piece) (c : Class) → t.class ≡ c → First (t ∷ ts) ts c
first_ t ts c e = record { token = t; same = refl; class = e }

pub first_starts : {ts us : List Piece} {c : Class} {at : ℕ} → FirstAt ts us c at → Starts at ts
first_starts {us = us} f = record { token = f.token; more = us; same = f.same; place = f.place }

pub name_of : (x : Ident) (ts us : List Piece) → one_part x ts us → any_name x ts us
name_of x ts us h = (h.0, h.1)

pub type_same : (o : Option TermTree) (ts us : List Piece) → type_option o ts us → type_of (option_of o) ts us
type_same None ts us h = h
type_same (Some t) ts us h = h

pub each_append : {A : Type 0} (p : A → Reader) (xs ys : List A) (ts ms us : List Piece) → each p xs ts ms → each p ys ms us → each p (xs ++ ys) ts us
each_append p [] ys ts ms us h g = subst (λ (z : List Piece). each p ys z us) (sym h) g
each_append p (x ∷ xs) ys ts ms us h g = (h.0, h.1, each_append p xs ys h.0 ms us h.2 g)

pub terms_append : (xs ys : List TermTree) (ts ms us : List Piece) → terms (terms_of xs) ts ms → terms (terms_of ys) ms us → terms (terms_of (xs ++ ys)) ts us
terms_append [] ys ts ms us h g = subst (λ (z : List Piece). terms (terms_of ys) z us) (sym h) g
terms_append (x ∷ xs) ys ts ms us h g = (h.0, h.1, terms_append xs ys h.0 ms us h.2 g)

pub chain_says : (t : TermTree) (ops : List (Op × TermTree)) (ts ms us : List Piece) → term t ts ms → operators ops ms us → term (chain t ops) ts us
chain_says t [] ts ms us h g = subst (term t ts) g h
chain_says t (o ∷ more) ts ms us h g = chain_says (oper (place t) o.0 t o.1) more ts g.0 us (refl, (ms, h, g.1)) g.2

pub applied_says : (t : TermTree) (more : List TermTree) (ts ms us : List Piece) → term t ts ms → terms (terms_of more) ms us → term (applied t more) ts us
applied_says t [] ts ms us h g = subst (term t ts) g h
applied_says t (x ∷ more) ts ms us h g = (refl, (ms, h, g))

underscores : (x : Ident) (ts us : List Piece) → binder_name x ts us → is_underscore x.name ≡ true → underscore x.at ts us
underscores x ts us (inl h) e = inr (x, [], (us, name_of x ts us h, refl), refl, e)
underscores x ts us (inr h) e = inl h.0

no_underscore : (x : Ident) (ts us : List Piece) → binder_name x ts us → is_underscore x.name ≡ false → any_name x ts us
no_underscore x ts us (inl h) e = name_of x ts us h
no_underscore x ts us (inr h) e = absurd (true≢false (sym h.1 ∙ e))

pub name_says : (x : Ident) (ts us : List Piece) → binder_name x ts us → term (name_term x []) ts us
name_says x ts us h = by (is_underscore x.name) refl
  where
    by : (b : Bool) → is_underscore x.name ≡ b → term (elim b as (λ _. TermTree) [ true ↦ hole x.at | false ↦ ident x.at false x [] ]) ts us
    by true e = underscores x ts us h e
    by false e = (refl, (us, no_underscore x ts us h e, refl))

pub levels_say : (x : Ident) (ls : List LevelTree) (ts ms us : List Piece) → is_underscore x.name ≡ false → any_name x ts ms →
    written_levels ls ms us → term (name_term x ls) ts us
levels_say x ls ts ms us e h g = subst (λ (b : Bool). term (elim b as (λ _. TermTree) [ true ↦ hole x.at | false ↦ ident x.at false x ls ]) ts us) (sym e)
    (refl, (ms, h, g))

pub spine_says : (more : List TermTree) (t : TermTree) (ts ms us : List Piece) → terms (terms_of more) ts ms → term t ms us → spine (spine_of more t) ts us
spine_says [] t ts ms us h g = (us, subst (λ (z : List Piece). term t z us) (sym h) g, refl)
spine_says (x ∷ more) t ts ms us h g = (h.0, h.1, terms_append more (t ∷ []) h.0 ms us h.2 (us, g, refl))

names_say : (xs : List Ident) (ts us : List Piece) → each binder_name xs ts us → terms (terms_of (map (λ y. name_term y []) xs)) ts us
names_say [] ts us h = h
names_say (x ∷ xs) ts us h = (h.0, name_says x ts h.0 h.1, names_say xs h.0 us h.2)

pub names_spine_says : (before : List Ident) (x : Ident) (ts ms us : List Piece) → each binder_name before ts ms → binder_name x ms us →
    spine (names_spine before x []) ts us
names_spine_says before x ts ms us h g = spine_says (map (λ y. name_term y []) before) (name_term x []) ts ms us (names_say before ts ms h)
    (name_says x ms us g)

pub leveled_spine_says : (before : List Ident) (x : Ident) (ls : List LevelTree) (ts ms vs us : List Piece) → is_underscore x.name ≡ false →
    each binder_name before ts ms → binder_name x ms vs → written_levels ls vs us →
    spine (names_spine before x ls) ts us
leveled_spine_says before x ls ts ms vs us e h g k =
    spine_says (map (λ y. name_term y []) before) (name_term x ls) ts ms us (names_say before ts ms h)
    (levels_say x ls ms vs us e (no_underscore x ms vs g e) k)

pub group_says : (at : ℕ) (s : Spine) (more : List TermTree) (ops : List (Op × TermTree)) (e : GroupEnd) (vs ts ms ns os us : List Piece) →
    word_at words.LeftParen at vs ts → spine s ts ms →
    terms (terms_of more) ms ns → operators ops ns os → Says symbol.group_end e os us → spine (group_of at s more ops e) vs us
group_says at s more ops e vs ts ms ns os us p h g o k =
    let a : term (applied s.head (s.arguments ++ more)) ts ns =
    applied_says s.head (s.arguments ++ more) ts h.0 ns h.1 (terms_append s.arguments more h.0 ms ns h.2 g) in
    (k.2.0, (ts, p, (os, chain_says (applied s.head (s.arguments ++ more)) ops ts ns os a o, (k.0, type_same e.ty os k.0 k.1, k.2.1))), k.2.2)

pub close_says : (at : ℕ) (before : List Ident) (x : Ident) (ty : TermTree) (e : BinderEnd) (vs ts ms ns os qs us : List Piece) →
    word_at words.LeftParen at vs ts → each binder_name before ts ms →
    binder_name x ms ns → mark words.Colon ns os → term ty os qs → Says symbol.group_close e qs us → spine (close_of at before x ty e) vs us
close_says at before x ty (arrow_to b) vs ts ms ns os qs us p h g c t k =
    (us, (refl, (k.0, (ts, p, (ns, each_append binder_name before (x ∷ []) ts ms ns h (ns, g, refl), (os, c, (qs, t, k.1)))), k.2)), refl)
close_says at before x ty (arguments_to more) vs ts ms ns os qs us p h g c t k =
    let n : Spine = names_spine before x [] in
    let s : spine (names_spine before x []) ts ns = names_spine_says before x ts ms ns h g in
    (k.0, (ts, p, (ns, applied_says n.head n.arguments ts s.0 ns s.1 s.2, (qs, (os, c, t), k.1))), k.2)

pub binder_at : (b : BindersTree) (t : Piece) (ts us : List Piece) → binder b (t ∷ ts) us → t.at ≡ binder_place b
binder_at (binders at Explicit xs ty) t ts us h = same_place t ts h.0 at (word words.LeftParen) h.1
  where
    same_place : (t : Piece) (ts ws : List Piece) (at : ℕ) (c : Class) → FirstAt (t ∷ ts) ws c at → t.at ≡ at
    same_place t ts ws at c f = let g : t ∷ ts ≡ f.token ∷ ws = f.same in let e : t ≡ f.token = cc in ap (λ (p : Piece). p.at) e ∙ f.place
binder_at (binders at Implicit xs ty) t ts us h = same_place t ts h.0 at (word words.LeftBrace) h.1
  where
    same_place : (t : Piece) (ts ws : List Piece) (at : ℕ) (c : Class) → FirstAt (t ∷ ts) ws c at → t.at ≡ at
    same_place t ts ws at c f = let g : t ∷ ts ≡ f.token ∷ ws = f.same in let e : t ≡ f.token = cc in ap (λ (p : Piece). p.at) e ∙ f.place
binder_at (binders at Inst [] ty) t ts us h = absurd h
binder_at (binders at Inst (x ∷ []) ty) t ts us h = same_place t ts h.0 at (word words.LeftBracket) h.1
  where
    same_place : (t : Piece) (ts ws : List Piece) (at : ℕ) (c : Class) → FirstAt (t ∷ ts) ws c at → t.at ≡ at
    same_place t ts ws at c f = let g : t ∷ ts ≡ f.token ∷ ws = f.same in let e : t ≡ f.token = cc in ap (λ (p : Piece). p.at) e ∙ f.place
binder_at (binders at Inst (x ∷ y ∷ xs) ty) t ts us h = absurd h
