-- Runs that give a list, which is put behind another. A device of the proof.
use Rattle.std.specs.Prelude.{ℕ, List, [], ◌∷◌, ◌++◌}
use Rattle.lf_core.specs.Term.{Path, Universe, Term}
use Rattle.lf_syntax.specs.Tree.{LevelTree}
use Rattle.lf_elaboration.specs.Run.{◌>>=◌, gives}
use Rattle.lf_elaboration.specs.Part.{Run, instantiated}
use Rattle.lf_elaboration.specs.Identifiers.{level_of, fresh_levels}

abbrev pub behind : {A : Type 0} → List A → Run (List A) → Run (List A)
behind ready m = do
  xs ← m
  gives (ready ++ xs)

abbrev pub levels_into : List Path → List Universe → List LevelTree → Run (List Universe)
levels_into names ready [] = gives ready
levels_into names ready (l ∷ ls) = do
  m ← level_of names l
  levels_into names (ready ++ m ∷ []) ls

unfoldable pub fresh_into : List Universe → ℕ → Run (List Universe)
fresh_into ready n = behind ready (fresh_levels n)

abbrev pub instantiated_into : List Term → List Term → Run (List Term)
instantiated_into ready [] = gives ready
instantiated_into ready (t ∷ ts) = do
  s ← instantiated t
  instantiated_into (ready ++ s ∷ []) ts
