-- What a substitution answers.
use Rattle.std.specs.Prelude.{◌≡◌, ℕ, ◌<◌, ◌≤◌, Result, Ok, Err}
use Rattle.lf_core.specs.Term.{Term}
use Rattle.lf_core.specs.Size.{depth, node_count}
use Rattle.lf_subst.specs.declared.fault.SubstFault.{SubstFault}
use Rattle.lf_subst.specs.declared.fault.SubstFault.TheVariants.{TooDeep, Units, NoMemory}

-- The term with its number of nodes; a fault exactly by depth 1,024 and then by the count; or no memory.
abbrev pub Substitutes : Term → ℕ → Result (Term × ℕ) SubstFault → Type 0
Substitutes term left (Ok r) = (r.0 ≡ term) × (r.1 ≡ node_count term) × (depth term ≤ 1024) × (node_count term ≤ left)
Substitutes term left (Err TooDeep) = 1024 < depth term
Substitutes term left (Err Units) = (depth term ≤ 1024) × (left < node_count term)
Substitutes term left (Err NoMemory) = Unit {0}
