-- Trees out of their parts.
use Rattle.std.specs.Prelude.{ℕ, Bool, true, false, List, [], ◌∷◌, ◌++◌, map, Option, None, Some, nat_eq, codes, bytes_eq}
use Rattle.lf_name.specs.Name.{Path}
use Rattle.lf_syntax.specs.declared.leaf.Ident.{Ident}
use Rattle.lf_text.specs.declared.operator.Op.{Op}
use Rattle.lf_text.specs.declared.operator.Op.TheVariants.{Add}
use Rattle.lf_syntax.specs.Tree.{
  LevelTree,
  level_number,
  level_name,
  level_plus,
  level_max,
  level_imax,
  levels_of,
  TermTree,
  ident,
  numeral,
  hole,
  paren,
  app,
  oper,
  arrow,
  no_term,
  some_term,
  TermTrees,
  end_terms,
  term_and,
  terms_of,
  option_of,
  place,
  binders,
}
use Rattle.lf_syntax.specs.Symbol.{Spine, GroupEnd, BinderEnd, arrow_to, arguments_to}
use Rattle.lf_name.specs.declared.binder.BinderKind.TheVariants.{Explicit}

abbrev pub with_arguments : TermTree → List TermTree → Spine
with_arguments t ts = record { head = t; arguments = ts }

-- A head without arguments is no application.
abbrev pub applied : TermTree → List TermTree → TermTree
applied h [] = h
applied h (t ∷ ts) = app (place h) h (terms_of (t ∷ ts))

-- Operators from the left, each with the term to its right.
abbrev pub chain : TermTree → List (Op × TermTree) → TermTree
chain t [] = t
chain t (o ∷ more) = chain (oper (place t) o.0 t o.1) more

-- The lone `_`.
abbrev pub is_underscore : Path → Bool
is_underscore ((n ∷ []) ∷ []) = nat_eq n 95
is_underscore _ = false

abbrev pub underscore_at : ℕ → Ident
underscore_at at = record { at = at; name = (95 ∷ []) ∷ [] }

-- A name as a term, with the levels written behind it.
abbrev pub name_term : Ident → List LevelTree → TermTree
name_term x ls = elim (is_underscore x.name) [ true ↦ hole x.at | false ↦ ident x.at false x ls ]

-- The first of these terms applied to the others.
abbrev pub spine_of : List TermTree → TermTree → Spine
spine_of [] t = with_arguments t []
spine_of (h ∷ ts) t = with_arguments h (ts ++ (t ∷ []))

-- Names as the head and the arguments of an application; the last one has the levels.
abbrev pub names_spine : List Ident → Ident → List LevelTree → Spine
names_spine before x ls = spine_of (map (λ y. name_term y []) before) (name_term x ls)

-- Names, more arguments and operators between the parenthesis at this place and its end.
abbrev pub group_of : ℕ → Spine → List TermTree → List (Op × TermTree) → GroupEnd → Spine
group_of at s more ops e = with_arguments (paren at (chain (applied s.head (s.arguments ++ more)) ops) (option_of e.ty)) e.arguments

-- `(names : type)` behind the parenthesis at this place: a binder where an arrow follows, else a typed term.
abbrev pub close_of : ℕ → List Ident → Ident → TermTree → BinderEnd → Spine
close_of at before x ty (arrow_to b) = with_arguments (arrow at (binders at Explicit (before ++ (x ∷ [])) ty) b) []
close_of at before x ty (arguments_to ts) =
    let s : Spine = names_spine before x [] in
    with_arguments (paren at (applied s.head s.arguments) (some_term ty)) ts

abbrev pub is_one_part_name : Path → Bool
is_one_part_name (w ∷ []) = true
is_one_part_name _ = false

-- The name of a term that is a name alone.
abbrev pub bare_name : TermTree → Option Ident
bare_name (ident at false x []) = Some x
bare_name _ = None

-- The name has one part, and these are its bytes.
abbrev pub is_named : List ℕ → Path → Bool
is_named w (x ∷ []) = bytes_eq w x
is_named w _ = false

abbrev pub name_level : Ident → Option LevelTree
name_level x = elim (is_one_part_name x.name) [ true ↦ Some (level_name x) | false ↦ None ]

abbrev pub plus_level : ℕ → Op → Option LevelTree → TermTree → Option LevelTree
plus_level at Add (Some l) (numeral n) = Some (level_plus at l n)
plus_level at o l r = None

abbrev pub max_level : ℕ → List LevelTree → Option LevelTree
max_level at (k ∷ l ∷ ls) = Some (level_max at (levels_of (k ∷ l ∷ ls)))
max_level at _ = None

abbrev pub imax_level : ℕ → List LevelTree → Option LevelTree
imax_level at (k ∷ l ∷ []) = Some (level_imax at k l)
imax_level at _ = None

-- `max` or `imax` of levels, by the name of the head.
abbrev pub applied_level : ℕ → Option Ident → Option (List LevelTree) → Option LevelTree
applied_level at (Some x) (Some ls) = elim (is_named (codes "max") x.name) [
  | true ↦ max_level at ls
  | false ↦ elim (is_named (codes "imax") x.name) [ true ↦ imax_level at ls | false ↦ None ]
]
applied_level at x ls = None

abbrev pub level_and_more : Option LevelTree → Option (List LevelTree) → Option (List LevelTree)
level_and_more (Some l) (Some ls) = Some (l ∷ ls)
level_and_more l ls = None

-- The level whose tokens are those of this term: a level in parentheses where the Bool is false, else a level's atom.
abbrev mutual
  pub level_of : TermTree → Bool → Option LevelTree
  level_of (numeral n) b = Some (level_number n)
  level_of (ident at false x []) b = name_level x
  level_of (paren at t no_term) b = level_of t false
  level_of (oper at o l r) false = plus_level at o (level_of l true) r
  level_of (app at h ts) false = applied_level at (bare_name h) (level_atoms_of ts)
  level_of _ b = None

  pub level_atoms_of : TermTrees → Option (List LevelTree)
  level_atoms_of end_terms = Some []
  level_atoms_of (term_and t ts) = level_and_more (level_of t true) (level_atoms_of ts)

abbrev pub sort_or_none : (Option LevelTree → TermTree) → TermTree → List TermTree → Option LevelTree → Spine
sort_or_none make t ts (Some l) = with_arguments (make (Some l)) ts
sort_or_none make t ts None = with_arguments (make None) (t ∷ ts)

-- `Type` or `Sort` with what stands behind it: the first is its level where it can be one.
abbrev pub sort_spine : (Option LevelTree → TermTree) → List TermTree → Spine
sort_spine make [] = with_arguments (make None) []
sort_spine make (t ∷ ts) = sort_or_none make t ts (level_of t true)
