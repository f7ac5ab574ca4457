-- What the calls answer, and the changes afterwards.
use Rattle.std.specs.Prelude.{◌≡◌, ℕ, ◌+◌, ◌-◌, ◌<◌, ◌≤◌, Option, Some, None, List, [], ◌∷◌, ◌++◌, Result, Ok, Err}
use Rattle.lf_core.specs.Term.{Universe, Term}
use Rattle.lf_core.specs.Size.{depth, node_count}
use Rattle.lf_base.specs.declared.memory.NoMemory.{NoMemory as Unmade}
use Rattle.lf_elaboration.specs.declared.change.Change.TheVariants.{Made, LevelMade, Assigned, LevelAssigned}
use Rattle.lf_elaboration.specs.Metavariables.{Changes, count, level_count, Unassigned, circular, out_of_scope, refused, level_refused}
use Rattle.lf_meta.specs.declared.fault.MetaFault.{MetaFault}
use Rattle.lf_meta.specs.declared.fault.MetaFault.TheVariants.{Occurs, Scope, NoMemory}

-- The next number, and the change that makes it; the changes are as before where there is no memory.
abbrev pub Makes : Changes → Term → ℕ → ℕ → Result ℕ Unmade → Changes → Type 0
Makes cs A n p (Ok m) new = (m ≡ count cs) × (new ≡ cs ++ Made A n p ∷ [])
Makes cs A n p (Err e) new = new ≡ cs

abbrev pub MakesLevel : Changes → Result ℕ Unmade → Changes → Type 0
MakesLevel cs (Ok m) new = (m ≡ level_count cs) × (new ≡ cs ++ LevelMade ∷ [])
MakesLevel cs (Err e) new = new ≡ cs

-- Why a value isn't taken.
abbrev pub Refuses : Option Unassigned → Result (Unit {0}) MetaFault → Type 0
Refuses r (Ok u) = r ≡ None
Refuses r (Err Occurs) = r ≡ Some circular
Refuses r (Err (Scope k)) = r ≡ Some (out_of_scope k)
Refuses r (Err NoMemory) = Unit {0}

-- The change that assigns, or exactly why the value isn't taken; then the changes are as before.
abbrev pub Assigns : Changes → ℕ → Term → Result (Unit {0}) MetaFault → Changes → Type 0
Assigns cs m t (Ok u) new = (refused cs m t ≡ None) × (new ≡ cs ++ Assigned m t ∷ [])
Assigns cs m t (Err Occurs) new = (refused cs m t ≡ Some circular) × (new ≡ cs)
Assigns cs m t (Err (Scope k)) new = (refused cs m t ≡ Some (out_of_scope k)) × (new ≡ cs)
Assigns cs m t (Err NoMemory) new = new ≡ cs

abbrev pub AssignsLevel : Changes → ℕ → Universe → Result (Unit {0}) MetaFault → Changes → Type 0
AssignsLevel cs m l (Ok u) new = (level_refused cs m l ≡ None) × (new ≡ cs ++ LevelAssigned m l ∷ [])
AssignsLevel cs m l (Err Occurs) new = (level_refused cs m l ≡ Some circular) × (new ≡ cs)
AssignsLevel cs m l (Err (Scope k)) new = ⊥
AssignsLevel cs m l (Err NoMemory) new = new ≡ cs

-- The term where it is at most 1,024 deep and has no more nodes than are left.
abbrev pub PutsWithin : ℕ → Term → Result (Option Term) Unmade → Type 0
PutsWithin left t (Ok (Some s)) = (s ≡ t) × (depth t ≤ 1024) × (node_count t ≤ left)
PutsWithin left t (Ok None) = 0 < (node_count t - left) + (depth t - 1024)
PutsWithin left t (Err e) = Unit {0}
