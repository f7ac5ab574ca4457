-- How high the tree of each symbol is at most, by the number where it begins and a bound of the numbers.
use Rattle.std.proofs.Common.{
  ◌≡◌,
  ℕ,
  ◌+◌,
  ◌*◌,
  ◌≤◌,
  max,
  List,
  [],
  ◌∷◌,
  ◌++◌,
  map,
  codes,
  Bool,
  true,
  false,
  Option,
  Some,
  None,
  refl,
  sym,
  ap,
  subst,
  ◌∙◌,
  arith,
}
use Rattle.lf_text.specs.declared.role.Role.{Role}
use Rattle.lf_text.specs.declared.operator.Op.{Op}
use Rattle.lf_text.specs.declared.operator.Op.TheVariants.{Add}
use Rattle.lf_syntax.specs.declared.leaf.Ident.{Ident}
use Rattle.lf_syntax.specs.Tree.{
  LevelTree,
  TermTree,
  TermTrees,
  ident,
  numeral,
  hole,
  sorry_term,
  prop,
  type_u,
  sort_u,
  paren,
  app,
  oper,
  not_term,
  fun_term,
  forall_term,
  let_term,
  by_term,
  arrow,
  no_term,
  some_term,
  end_terms,
  term_and,
  level_name,
  levels_of,
  option_of,
  terms_of,
  LBinderTree,
  binders_of,
  ItemTree,
  items_of,
  RuleTree,
  rules_of,
  place,
}
use Rattle.lf_syntax.specs.Predictive.{Takes, join}
use Rattle.lf_syntax.specs.Symbol as symbol
use Rattle.lf_syntax.specs.Symbol.{Symbol, Tree, Spine, GroupEnd, BinderEnd, arrow_to, arguments_to, DefRest, DefBody, by_value, by_alternatives}
use Rattle.lf_syntax.specs.Build.{
  applied,
  chain,
  name_term,
  spine_of,
  names_spine,
  is_underscore,
  level_of,
  level_atoms_of,
  level_and_more,
  plus_level,
  name_level,
  max_level,
  imax_level,
  applied_level,
  bare_name,
  sort_spine,
  sort_or_none,
  is_one_part_name,
  is_named,
}
use Rattle.lf_syntax.specs.Row.{Row, Prod, begins_as}
use Rattle.lf_depth_laws.specs.Height.{
  greatest,
  if_any,
  level_height,
  levels_height,
  term_height,
  option_height,
  terms_height,
  lbinder_height,
  lbinders_height,
  item_height,
  items_height,
  rule_height,
  rules_height,
  group_height,
  helper_height,
  ctor_height,
  field_height,
  alternative_height,
  command_height,
}
use Rattle.lf_depth_laws.proofs.Sketch.{Sketch, sketch, low_of, step}
use Rattle.lf_depth_laws.proofs.Effects.{kind, base_by, past_by, past_all}
use Rattle.lf_depth_laws.proofs.Found.{InRows, begins_in, both_in, map_in}

abbrev pub spine_height : Spine → ℕ
spine_height s = max (term_height s.head) (greatest term_height s.arguments)

abbrev pub op_height : Op × TermTree → ℕ
op_height o = 1 + term_height o.1

abbrev pub body_height : DefBody → ℕ
body_height (by_value v hs) = max (term_height v) (greatest helper_height hs)
body_height (by_alternatives more) = greatest alternative_height more

-- `h` nodes from the number `b` on, with `c` nodes that need no number.
abbrev pub Fits : ℕ → ℕ → ℕ → ℕ → Type 0
Fits N b c h = h + 3 * b ≤ 3 * N + c

abbrev pub EndFits : ℕ → ℕ → BinderEnd → Type 0
EndFits N b (arrow_to t) = Fits N b 1 (term_height t)
EndFits N b (arguments_to ts) = Fits N b 3 (greatest term_height ts)

abbrev pub Bound : ℕ → ℕ → (x : Symbol) → Tree x → Type 0
Bound N b symbol.command c = Fits N b 6 (command_height c)
Bound N b (symbol.token w) v = Unit {0}
Bound N b symbol.arrow_token v = Unit {0}
Bound N b symbol.number_token v = Unit {0}
Bound N b symbol.any_name v = Unit {0}
Bound N b symbol.one_part v = Unit {0}
Bound N b symbol.binder_name v = Unit {0}
Bound N b symbol.optional_name v = Unit {0}
Bound N b symbol.any_names v = Unit {0}
Bound N b symbol.one_parts v = Unit {0}
Bound N b symbol.binder_names v = Unit {0}
Bound N b symbol.level_names v = Unit {0}
Bound N b symbol.more_level_names v = Unit {0}
Bound N b symbol.binder g = Fits N b 2 (group_height g)
Bound N b symbol.parameters gs = Fits N b 2 (greatest group_height gs)
Bound N b symbol.lambda_binder g = Fits N b 2 (lbinder_height g)
Bound N b symbol.lambda_binders gs = Fits N b 2 (greatest lbinder_height gs)
Bound N b symbol.implicit_end t = Fits N b 1 (if_any term_height t)
Bound N b (symbol.bracket at) g = Fits N b 2 (group_height g)
Bound N b (symbol.bracket_name at x) g = Fits N b 2 (group_height g)
Bound N b symbol.def_rest d = Fits N b 5 (max (if_any term_height d.ty) (body_height d.body))
Bound N b symbol.def_body d = Fits N b 5 (body_height d)
Bound N b symbol.type_option t = Fits N b 4 (if_any term_height t)
Bound N b symbol.where_option v = Unit {0}
Bound N b symbol.ctors cs = Fits N b 5 (greatest ctor_height cs)
Bound N b symbol.helpers hs = Fits N b 5 (greatest helper_height hs)
Bound N b symbol.helper h = Fits N b 5 (helper_height h)
Bound N b symbol.more_helpers hs = Fits N b 5 (greatest helper_height hs)
Bound N b symbol.fields_option fs = Fits N b 5 (greatest field_height fs)
Bound N b symbol.field f = Fits N b 5 (field_height f)
Bound N b symbol.more_fields fs = Fits N b 5 (greatest field_height fs)
Bound N b symbol.axioms_word v = Unit {0}
Bound N b symbol.alternatives more = Fits N b 5 (greatest alternative_height more)
Bound N b symbol.pattern v = Unit {0}
Bound N b (symbol.pattern_rest x) v = Unit {0}
Bound N b symbol.numeral_one v = Unit {0}
Bound N b (symbol.term least) t = Fits N b 4 (term_height t)
Bound N b symbol.arguments ts = Fits N b 3 (greatest term_height ts)
Bound N b (symbol.operators least left) ops = Fits N b 2 (greatest op_height ops)
Bound N b (symbol.group at) s = Fits N b 3 (spine_height s)
Bound N b (symbol.group_names at before x) s = Fits N b 3 (spine_height s)
Bound N b symbol.group_end e = Fits N b 1 (if_any term_height e.ty) × Fits N b 3 (greatest term_height e.arguments)
Bound N b symbol.group_close e = EndFits N b e
Bound N b symbol.binder_end e = EndFits N b e
Bound N b symbol.written_levels ls = Fits N b 0 (greatest level_height ls)
Bound N b symbol.more_levels ls = Fits N b 0 (greatest level_height ls)
Bound N b symbol.level l = Fits N b 2 (level_height l)
Bound N b symbol.plus_option v = Unit {0}
Bound N b symbol.level_atom l = Fits N b 1 (level_height l)
Bound N b symbol.level_atoms ls = Fits N b 1 (greatest level_height ls)
Bound N b (symbol.max_rest x) l = Fits N b 2 (level_height l)
Bound N b (symbol.imax_rest x) l = Fits N b 2 (level_height l)
Bound N b symbol.block items = Fits N b 5 (greatest item_height items)
Bound N b symbol.more_items items = Fits N b 5 (greatest item_height items)
Bound N b symbol.item i = Fits N b 5 (item_height i)
Bound N b symbol.rw_rule r = Fits N b 5 (rule_height r)
Bound N b symbol.more_rules rs = Fits N b 2 (greatest rule_height rs)

-- What comes of trees that keep their bounds has Q.
abbrev pub Low : {A : Type 0} → ℕ → ℕ → (A → Type 0) → Sketch → (xs : List Symbol) → Takes Tree xs A → Type 0
Low N r Q s [] a = Q a
Low N r Q s (x ∷ xs) f = (v : Tree x) → Bound N (r + base_by (kind x) s) x v → Low N r Q (past_by (kind x) s) xs (f v)

abbrev pub LowRow : {V : Type 0} → ℕ → ℕ → (V → Type 0) → Sketch → Role → Prod V → Type 0
LowRow N r Q s ρ p = r + low_of (step ρ s) ≤ N → Low N r Q (step ρ s) p.body p.build

abbrev pub LowRows : {V : Type 0} → ℕ → ℕ → (V → Type 0) → Sketch → List (Row V) → Type 0
LowRows N r Q s rs = InRows (LowRow N r Q s) rs

-- The number is no lower, and the same is open.
abbrev pub raise : ℕ → Sketch → Sketch
raise u s = sketch u s.waits s.saved

pub record Rises (s t : Sketch) : Type 0 where
  pub to : ℕ
  pub above : s.up ≤ to
  pub same : t ≡ raise to s

abbrev pub RisesRow : {V : Type 0} → Sketch → Role → Prod V → Type 0
RisesRow s ρ p = Rises s (past_all p.body (step ρ s))

low_join : {A V : Type 0} (N r : ℕ) (P : A → Type 0) (Q : V → Type 0) (s t : Sketch) (xs ys : List Symbol) (f : Takes Tree xs A) (k : A →
    Takes Tree ys V) → Rises s (past_all xs t) →
    Low N r P t xs f → ((a : A) → P a → (u : ℕ) → s.up ≤ u → Low N r Q (raise u s) ys (k a)) → Low N r Q t (xs ++ ys) (join Tree V xs ys f k)
low_join N r P Q s t [] ys a k e h g = subst (λ (z : Sketch). Low N r Q z ys (k a)) (sym e.same) (g a h e.to e.above)
low_join N r P Q s t (x ∷ xs) ys f k e h g = λ v b. low_join N r P Q s (past_by (kind x) t) xs ys (f v) k e (h v b) g

-- Rows that begin as others and go on.
pub begins_low : {A V : Type 0} (N r : ℕ) (P : A → Type 0) (Q : V → Type 0) (s : Sketch) (rs : List (Row A)) (ys : List Symbol) (k : A → Takes Tree ys V) →
    InRows (RisesRow s) rs → LowRows N r P s rs → ((a : A) → P a → (u : ℕ) → s.up ≤ u → Low N r Q (raise u s) ys (k a)) → LowRows N r Q s (begins_as rs ys k)
begins_low N r P Q s rs ys k e h g =
    begins_in (λ ρ p. RisesRow s ρ p × LowRow N r P s ρ p) (LowRow N r Q s) rs ys k
    (λ ρ p f l. low_join N r P Q s (step ρ s) p.body ys p.build k f.0 (f.1 l) g)
    (both_in (RisesRow s) (LowRow N r P s) rs e h)

end_join : {A V : Type 0} (N r : ℕ) (P : A → Type 0) (Q : V → Type 0) (t : Sketch) (xs : List Symbol) (f : Takes Tree xs A) (k : A → V) →
    Low N r P t xs f → ((a : A) → P a → Q (k a)) → Low N r Q t (xs ++ []) (join Tree V xs [] f k)
end_join N r P Q t [] a k h g = g a h
end_join N r P Q t (x ∷ xs) f k h g = λ v b. end_join N r P Q (past_by (kind x) t) xs (f v) k (h v b) g

-- Rows that begin as others and end there.
pub ends_low : {A V : Type 0} (N r : ℕ) (P : A → Type 0) (Q : V → Type 0) (s : Sketch) (rs : List (Row A)) (k : A → V) →
    LowRows N r P s rs → ((a : A) → P a → Q (k a)) → LowRows N r Q s (begins_as rs [] k)
ends_low N r P Q s rs k h g = begins_in (LowRow N r P s) (LowRow N r Q s) rs [] k (λ ρ p f l. end_join N r P Q (step ρ s) p.body p.build k (f l) g) h

low_map : {A : Type 0} (N r : ℕ) (P Q : A → Type 0) (t : Sketch) (xs : List Symbol) (f : Takes Tree xs A) → ((a : A) → P a → Q a) →
    Low N r P t xs f → Low N r Q t xs f
low_map N r P Q t [] a g h = g a h
low_map N r P Q t (x ∷ xs) f g h = λ v b. low_map N r P Q (past_by (kind x) t) xs (f v) g (h v b)

pub map_low : {A : Type 0} (N r : ℕ) (P Q : A → Type 0) (s : Sketch) (rs : List (Row A)) → ((a : A) → P a → Q a) → LowRows N r P s rs → LowRows N r Q s rs
map_low N r P Q s rs g h = map_in (LowRow N r P s) (LowRow N r Q s) rs (λ ρ p f l. low_map N r P Q (step ρ s) p.body p.build g (f l)) h

past_append : (xs ys : List Symbol) (s : Sketch) → past_all (xs ++ ys) s ≡ past_all ys (past_all xs s)
past_append [] ys s = refl
past_append (x ∷ xs) ys s = past_append xs ys (past_by (kind x) s)

pub begins_rise : {A : Type 0} (V : Type 0) (s : Sketch) (rs : List (Row A)) (ys : List Symbol) (k : A → Takes Tree ys V) → ((u : ℕ) →
    past_all ys (raise u s) ≡ raise u s) →
    InRows (RisesRow s) rs → InRows (RisesRow s) (begins_as rs ys k)
begins_rise V s rs ys k g h =
    begins_in {V = V} (RisesRow s) (RisesRow s) rs ys k
    (λ ρ p f. record { to = f.to; above = f.above; same = past_append p.body ys (step ρ s) ∙ ap (past_all ys) f.same ∙ g f.to }) h

-- Heights of what the functions on trees make.

pub option_same : (t : Option TermTree) → option_height (option_of t) ≡ if_any term_height t
option_same None = refl
option_same (Some t) = refl

pub terms_same : (ts : List TermTree) → terms_height (terms_of ts) ≡ greatest term_height ts
terms_same [] = refl
terms_same (t ∷ ts) = ap (λ (n : ℕ). max (term_height t) n) (terms_same ts)

pub levels_same : (ls : List LevelTree) → levels_height (levels_of ls) ≡ greatest level_height ls
levels_same [] = refl
levels_same (l ∷ ls) = ap (λ (n : ℕ). max (level_height l) n) (levels_same ls)

pub lbinders_same : (bs : List LBinderTree) → lbinders_height (binders_of bs) ≡ greatest lbinder_height bs
lbinders_same [] = refl
lbinders_same (b ∷ bs) = ap (λ (n : ℕ). max (lbinder_height b) n) (lbinders_same bs)

pub items_same : (items : List ItemTree) → items_height (items_of items) ≡ greatest item_height items
items_same [] = refl
items_same (i ∷ items) = ap (λ (n : ℕ). max (item_height i) n) (items_same items)

pub rules_same : (rs : List RuleTree) → rules_height (rules_of rs) ≡ greatest rule_height rs
rules_same [] = refl
rules_same (r ∷ rs) = ap (λ (n : ℕ). max (rule_height r) n) (rules_same rs)

pub chain_height : (t : TermTree) (ops : List (Op × TermTree)) → term_height (chain t ops) ≡ max (term_height t) (greatest op_height ops)
chain_height t [] = omega arith
chain_height t (o ∷ more) = let ih : term_height (chain (oper (place t) o.0 t o.1) more)
    ≡ max (max (term_height t) (1 + term_height o.1)) (greatest op_height more) = chain_height (oper (place t) o.0 t o.1) more in omega arith

-- An application, and a head alone, has at most one node more.
pub applied_height : (h : TermTree) (ts : List TermTree) → term_height (applied h ts) ≤ 1 + max (term_height h) (greatest term_height ts)
applied_height h [] = omega arith
applied_height h (t ∷ ts) = omega (arith, terms_same ts)

pub applied_some : (h : TermTree) (ts : List TermTree) → 1 ≤ term_height h →
    term_height (applied h ts) ≤ max (term_height h) (1 + max (term_height h) (greatest term_height ts))
applied_some h [] l = omega arith
applied_some h (t ∷ ts) l = omega (arith, terms_same ts)

pub greatest_append : (xs ys : List TermTree) → greatest term_height (xs ++ ys) ≡ max (greatest term_height xs) (greatest term_height ys)
greatest_append [] ys = omega arith
greatest_append (x ∷ xs) ys = omega (arith, greatest_append xs ys)

pub name_height : (x : Ident) (ls : List LevelTree) → term_height (name_term x ls) ≤ 1 + greatest level_height ls
name_height x ls = by (is_underscore x.name)
  where
    by : (b : Bool) → term_height (elim b as (λ _. TermTree) [ true ↦ hole x.at | false ↦ ident x.at false x ls ]) ≤ 1 + greatest level_height ls
    by true = omega arith
    by false = omega arith

spine_height_of : (ts : List TermTree) (t : TermTree) → spine_height (spine_of ts t) ≤ max (greatest term_height ts) (term_height t)
spine_height_of [] t = omega arith
spine_height_of (h ∷ ts) t = omega (arith, greatest_append ts (t ∷ []))

abbrev name_terms : List Ident → List TermTree
name_terms xs = map (λ y. name_term y []) xs

names_low : (xs : List Ident) → greatest term_height (name_terms xs) ≤ 1
names_low [] = omega arith
names_low (x ∷ xs) = omega (arith, name_height x [], names_low xs)

pub names_height : (before : List Ident) (x : Ident) (ls : List LevelTree) → spine_height (names_spine before x ls) ≤ 1 + greatest level_height ls
names_height before x ls = omega (arith, spine_height_of (name_terms before) (name_term x ls), names_low before, name_height x ls)

-- A level that is read off a term isn't higher.

-- A level in a term of this height, and one that can stand alone, which is lower where the term is in parentheses.
abbrev IfLevel : ℕ → Option LevelTree → Type 0
IfLevel h None = Unit {0}
IfLevel h (Some l) = level_height l ≤ h

abbrev IfAtom : ℕ → Option LevelTree → Type 0
IfAtom h None = Unit {0}
IfAtom h (Some l) = 1 + level_height l ≤ max 2 h

abbrev IfLevels : ℕ → Option (List LevelTree) → Type 0
IfLevels h None = Unit {0}
IfLevels h (Some ls) = 1 + greatest level_height ls ≤ max 2 h

atoms_low : (l : Option LevelTree) (ls : Option (List LevelTree)) (h n : ℕ) → IfAtom h l → IfLevels n ls → IfLevels (max h n) (level_and_more l ls)
atoms_low None None h n f g = tt
atoms_low None (Some ls) h n f g = tt
atoms_low (Some l) None h n f g = tt
atoms_low (Some l) (Some ls) h n f g = omega (arith, f, g)

name_level_low : (x : Ident) → IfAtom 1 (name_level x)
name_level_low x = by (is_one_part_name x.name)
  where
    by : (b : Bool) → IfAtom 1 (elim b as (λ _. Option LevelTree) [ true ↦ Some (level_name x) | false ↦ None ])
    by true = omega arith
    by false = tt

in_parentheses : (l : Option LevelTree) (h : ℕ) → IfLevel h l → IfAtom (1 + max h 0) l
in_parentheses None h f = tt
in_parentheses (Some l) h f = omega (arith, f)

atom_level : (l : Option LevelTree) (h : ℕ) → IfAtom h l → 1 ≤ h → IfLevel h l
atom_level None h f g = tt
atom_level (Some l) h f g = omega (arith, f, g)

plus_low : (at : ℕ) (o : Op) (l : Option LevelTree) (r : TermTree) (h : ℕ) → IfAtom h l → IfLevel (max h (1 + term_height r)) (plus_level at o l r)
plus_low at Add (Some l) (numeral n) h f = omega (arith, f)
plus_low at _ _ _ h f = tt

max_low : (at : ℕ) (ls : List LevelTree) (h : ℕ) → 1 + greatest level_height ls ≤ max 2 h → IfLevel (1 + max 1 h) (max_level at ls)
max_low at (k ∷ l ∷ ls) h f = omega (arith, f, levels_same ls)
max_low at [] h f = tt
max_low at (k ∷ []) h f = tt

imax_low : (at : ℕ) (ls : List LevelTree) (h : ℕ) → 1 + greatest level_height ls ≤ max 2 h → IfLevel (1 + max 1 h) (imax_level at ls)
imax_low at [] h f = tt
imax_low at (k ∷ []) h f = tt
imax_low at (k ∷ l ∷ []) h f = omega (arith, f)
imax_low at (k ∷ l ∷ m ∷ ls) h f = tt

weaker : (l : Option LevelTree) (h k : ℕ) → h ≤ k → IfLevel h l → IfLevel k l
weaker None h k g f = tt
weaker (Some l) h k g f = omega (arith, f, g)

applied_level_low : (at : ℕ) (x : Option Ident) (ls : Option (List LevelTree)) (h n : ℕ) → 1 ≤ h → IfLevels n ls → IfLevel (1 + max h n) (applied_level at x ls)
applied_level_low at None ls h n g f = tt
applied_level_low at (Some x) None h n g f = tt
applied_level_low at (Some x) (Some ls) h n g f = by (is_named (codes "max") x.name) (is_named (codes "imax") x.name)
  where
    by : (b c : Bool) → IfLevel (1 + max h n) (elim b as (λ _. Option LevelTree) [
      | true ↦ max_level at ls
      | false ↦ elim c as (λ _. Option LevelTree) [ true ↦ imax_level at ls | false ↦ None ]
    ])
    by true c = weaker (max_level at ls) (1 + max 1 n) (1 + max h n) (omega (arith, g)) (max_low at ls n f)
    by false true = weaker (imax_level at ls) (1 + max 1 n) (1 + max h n) (omega (arith, g)) (imax_low at ls n f)
    by false false = tt

pub some_height : (t : TermTree) → 1 ≤ term_height t
some_height (ident at e x ls) = omega arith
some_height (numeral n) = omega arith
some_height (hole at) = omega arith
some_height (sorry_term at) = omega arith
some_height (prop at) = omega arith
some_height (type_u at l) = omega arith
some_height (sort_u at l) = omega arith
some_height (paren at t u) = omega arith
some_height (app at h ts) = omega arith
some_height (oper at o l r) = omega arith
some_height (not_term at t) = omega arith
some_height (fun_term at bs t) = omega arith
some_height (forall_term at bs t) = omega arith
some_height (let_term at x u v t) = omega arith
some_height (by_term at items) = omega arith
some_height (arrow at b t) = omega arith

mutual
  atom_low : (t : TermTree) → IfAtom (term_height t) (level_of t true)
  atom_low (ident at false x []) = name_level_low x
  atom_low (ident at false x (l ∷ ls)) = tt
  atom_low (ident at true x ls) = tt
  atom_low (numeral n) = omega arith
  atom_low (hole at) = tt
  atom_low (sorry_term at) = tt
  atom_low (prop at) = tt
  atom_low (type_u at l) = tt
  atom_low (sort_u at l) = tt
  atom_low (paren at t no_term) = in_parentheses (level_of t false) (term_height t) (full_low t)
  atom_low (paren at t (some_term u)) = tt
  atom_low (app at h ts) = tt
  atom_low (oper at o l r) = tt
  atom_low (not_term at t) = tt
  atom_low (fun_term at bs t) = tt
  atom_low (forall_term at bs t) = tt
  atom_low (let_term at x u v t) = tt
  atom_low (by_term at items) = tt
  atom_low (arrow at b t) = tt

  full_low : (t : TermTree) → IfLevel (term_height t) (level_of t false)
  full_low (ident at false x []) = atom_level (name_level x) 1 (name_level_low x) (omega arith)
  full_low (ident at false x (l ∷ ls)) = tt
  full_low (ident at true x ls) = tt
  full_low (numeral n) = omega arith
  full_low (hole at) = tt
  full_low (sorry_term at) = tt
  full_low (prop at) = tt
  full_low (type_u at l) = tt
  full_low (sort_u at l) = tt
  full_low (paren at t no_term) = weaker (level_of t false) (term_height t) (1 + max (term_height t) 0) (omega arith) (full_low t)
  full_low (paren at t (some_term u)) = tt
  full_low (app at h ts) = applied_level_low at (bare_name h) (level_atoms_of ts) (term_height h) (terms_height ts) (some_height h) (list_low ts)
  full_low (oper at o l r) = plus_low at o (level_of l true) r (term_height l) (atom_low l)
  full_low (not_term at t) = tt
  full_low (fun_term at bs t) = tt
  full_low (forall_term at bs t) = tt
  full_low (let_term at x u v t) = tt
  full_low (by_term at items) = tt
  full_low (arrow at b t) = tt

  list_low : (ts : TermTrees) → IfLevels (terms_height ts) (level_atoms_of ts)
  list_low end_terms = omega arith
  list_low (term_and t ts) = atoms_low (level_of t true) (level_atoms_of ts) (term_height t) (terms_height ts) (atom_low t) (list_low ts)

pub sorts_low : (make : Option LevelTree → TermTree) (ts : List TermTree) → ((l : Option LevelTree) → term_height (make l) ≡ 1 + if_any level_height l) →
    spine_height (sort_spine make ts) ≤ max 2 (greatest term_height ts)
sorts_low make [] m = let e : term_height (make None) ≡ 1 = m None in omega (arith, e)
sorts_low make (t ∷ ts) m = by (level_of t true) (atom_low t)
  where
    by : (l : Option LevelTree) → IfAtom (term_height t) l → spine_height (sort_or_none make t ts l) ≤ max 2 (max (term_height t) (greatest term_height ts))
    by None f = let e : term_height (make None) ≡ 1 = m None in omega (arith, e)
    by (Some l) f = let e : term_height (make (Some l)) ≡ 1 + level_height l = m (Some l) in omega (arith, e, f)
