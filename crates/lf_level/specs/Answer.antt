-- What a comparison of levels answers.
use Rattle.std.specs.Prelude.{Bool, IsTrue, ◌↔◌, ◌<◌, ◌≤◌, length, Result, Ok, Err}
use Rattle.lf_core.specs.Term.{Universe}
use Rattle.lf_level.specs.Parameters.{parameters_of}
use Rattle.lf_level.specs.declared.fault.LevelFault.{LevelFault}
use Rattle.lf_level.specs.declared.fault.LevelFault.TheVariants.{TooMany, NoMemory}

-- Whether the fact holds, where the two levels have at most 8 distinct parameters; or no memory.
abbrev pub Answers : (Universe → Universe → Type 0) → Universe → Universe → Result Bool LevelFault → Type 0
Answers Fact l m (Ok b) = (length (parameters_of l m) ≤ 8) × (IsTrue b ↔ Fact l m)
Answers Fact l m (Err TooMany) = 8 < length (parameters_of l m)
Answers Fact l m (Err NoMemory) = Unit {0}
