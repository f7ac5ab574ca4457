-- Levels that are read as terms.
use Rattle.std.specs.Prelude.{Bool, true, false, ℕ, List, [], ◌∷◌, ◌++◌, Option, None, Some}
use Rattle.lf_syntax.specs.declared.leaf.Ident.{Ident}
use Rattle.lf_syntax.specs.Tree.{LevelTree}
use Rattle.lf_syntax.specs.Build.{name_level, is_named}

abbrev pub name_level_of : Bool → Ident → List LevelTree → Option LevelTree
name_level_of true x ls = None
name_level_of false x [] = name_level x
name_level_of false x (l ∷ ls) = None

abbrev pub named_so : List ℕ → Option Ident → Bool
named_so w None = false
named_so w (Some x) = is_named w x.name

-- The levels behind some that were found.
unfoldable pub prefixed : List LevelTree → Option (List LevelTree) → Option (List LevelTree)
prefixed before None = None
prefixed before (Some ls) = Some (before ++ ls)
