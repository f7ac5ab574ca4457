-- Levels that are read as terms.
use Rattle.std.proofs.Common.{
  ◌≡◌,
  ◌≤◌,
  ◌<◌,
  ◌+◌,
  ℕ,
  Bool,
  true,
  false,
  List,
  [],
  ◌∷◌,
  ◌++◌,
  length,
  Option,
  None,
  Some,
  codes,
  refl,
  sym,
  ap,
  ◌∙◌,
  arith,
  append_assoc,
  append-nil,
}
use Rattle.lf_syntax.specs.declared.leaf.Ident.{Ident}
use Rattle.lf_syntax.specs.Tree.{LevelTree, TermTree, level_max, levels_of, terms_of}
use Rattle.lf_syntax.specs.Size.{term_size, terms_size}
use Rattle.lf_syntax.specs.Build.{is_named, applied_level, max_level, imax_level, level_and_more, level_atoms_of}
use Rattle.lf_parse_term.specs.Sort.{named_so, prefixed}

pub applied_none : (at : ℕ) (m : Option Ident) → applied_level at m None ≡ None
applied_none at None = refl
applied_none at (Some x) = refl

pub applied_max : (at : ℕ) (m : Option Ident) (ls : List LevelTree) → named_so (codes "max") m ≡ true → applied_level at m (Some ls) ≡ max_level at ls
applied_max at None ls e = cc
applied_max at (Some x) ls e = ap (λ b. elim b as (λ _. Option LevelTree)
    [ true ↦ max_level at ls | false ↦ elim (is_named (codes "imax") x.name) [ true ↦ imax_level at ls | false ↦ None ] ]) e

pub applied_imax : (at : ℕ) (m : Option Ident) (ls : List LevelTree) → named_so (codes "max") m ≡ false → named_so (codes "imax") m ≡ true
    → applied_level at m (Some ls) ≡ imax_level at ls
applied_imax at None ls e f = cc
applied_imax at (Some x) ls e f =
    ap (λ b. elim b as (λ _. Option LevelTree) [
      | true ↦ max_level at ls
      | false ↦
          elim (is_named (codes "imax") x.name) [ true ↦ imax_level at ls | false ↦ None ]
    ]) e ∙
    ap (λ b. elim b as (λ _. Option LevelTree) [ true ↦ imax_level at ls | false ↦ None ]) f

pub applied_other : (at : ℕ) (m : Option Ident) (o : Option (List LevelTree)) → named_so (codes "max") m ≡ false → named_so (codes "imax") m ≡ false
    → applied_level at m o ≡ None
applied_other at None o e f = refl
applied_other at (Some x) None e f = refl
applied_other at (Some x) (Some ls) e f =
    ap (λ b. elim b as (λ _. Option LevelTree) [
      | true ↦ max_level at ls
      | false ↦
          elim (is_named (codes "imax") x.name) [ true ↦ imax_level at ls | false ↦ None ]
    ]) e ∙
    ap (λ b. elim b as (λ _. Option LevelTree) [ true ↦ imax_level at ls | false ↦ None ]) f

pub prefixed_one : (before : List LevelTree) (l : LevelTree) (m : Option (List LevelTree))
    → prefixed (before ++ (l ∷ [])) m ≡ prefixed before (level_and_more (Some l) m)
unfolding prefixed
prefixed_one before l None = refl
prefixed_one before l (Some ls) = ap (λ all. Some all) (append_assoc before (l ∷ []) ls)

pub prefixed_none : (before : List LevelTree) → prefixed before None ≡ None
unfolding prefixed
prefixed_none before = refl

pub prefixed_nil : (m : Option (List LevelTree)) → prefixed [] m ≡ m
unfolding prefixed
prefixed_nil None = refl
prefixed_nil (Some ls) = refl

pub prefixed_last : (before : List LevelTree) (ts : List TermTree) → length ts ≡ 0 → prefixed before (level_atoms_of (terms_of ts)) ≡ Some before
unfolding prefixed
prefixed_last before [] e = ap (λ all. Some all) (append-nil before)
prefixed_last before (t ∷ ts) e = absurd (omega arith)

pub max_short : (at : ℕ) (ls : List LevelTree) → length ls < 2 → max_level at ls ≡ None
max_short at [] e = refl
max_short at (l ∷ []) e = refl
max_short at (k ∷ l ∷ ls) e = absurd (omega arith)

pub max_long : (at : ℕ) (ls : List LevelTree) → 2 ≤ length ls → max_level at ls ≡ Some (level_max at (levels_of ls))
max_long at [] e = absurd (omega arith)
max_long at (l ∷ []) e = absurd (omega arith)
max_long at (k ∷ l ∷ ls) e = refl
