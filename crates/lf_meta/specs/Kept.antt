-- What is kept beside the list of changes, so that nothing is looked for in it.
use Rattle.std.specs.Prelude.{◌≡◌, ℕ, ◌≤◌, Option, Some, None, List, [], ◌∷◌, ◌++◌, map, slice_get}
use Rattle.lf_core.specs.Term.{Universe, Term}
use Rattle.lf_elaboration.specs.declared.change.Change.{Change}
use Rattle.lf_elaboration.specs.declared.change.Change.TheVariants.{Made, LevelMade, Assigned, LevelAssigned}
use Rattle.lf_meta.specs.declared.made.Origin.{Origin}
use Rattle.lf_elaboration.specs.Metavariables.{Changes, metavariables, count, level_count, types_of, value, level_value}

-- What a number stands for in a table.
abbrev pub standing : {A : Type 0} → Option (Option A) → Option A
standing None = None
standing (Some o) = o

abbrev pub stands_at : {A : Type 0} → List (Option A) → ℕ → Option A
stands_at rows k = standing (slice_get rows k)

-- What a change assigns had nothing before.
abbrev pub IsNew : Changes → Change → Type 0
IsNew cs (Made A n p) = Unit {0}
IsNew cs LevelMade = Unit {0}
IsNew cs (Assigned m t) = value cs m ≡ None
IsNew cs (LevelAssigned m l) = level_value cs m ≡ None

abbrev pub AreNew : Changes → Changes → Type 0
AreNew cs [] = Unit {0}
AreNew cs (c ∷ more) = IsNew cs c × AreNew (cs ++ c ∷ []) more

abbrev pub origins_in : Changes → List Origin
origins_in cs = map (λ m. record { locals = m.locals; at = m.at }) (metavariables cs)

-- The tables are those of the changes, in which nothing is assigned twice, and a u32 counts what is made.
pub record IsKept (cs : Changes) (ts : List Term) (os : List Origin) (vs : List (Option Term)) (n : ℕ) (ls : List (Option Universe)) : Type 0 where
  pub types : ts ≡ types_of cs
  pub origins : os ≡ origins_in cs
  pub values : (m : ℕ) → stands_at vs m ≡ value cs m
  pub levels : n ≡ level_count cs
  pub level_values : (m : ℕ) → stands_at ls m ≡ level_value cs m
  pub new : AreNew [] cs
  pub few : count cs ≤ 4294967295
