-- Parts of the steps that are functions of their own in the code. A device of the proof.
use Rattle.std.specs.Prelude.{ℕ, Option, List, ◌++◌, take, reverse}
use Rattle.lf_core.specs.Term.{Term}
use Rattle.lf_rules.specs.Environment.{Context}
use Rattle.lf_checker.specs.Run.{Run, ◌>>=◌, gives}
use Rattle.lf_checker.specs.Calls.{Calls}
use Rattle.lf_elaboration.specs.Step.{padded_all, latest_of}

-- These, and then the proofs in their pads.
abbrev pub padded_into : List Term → List Term → List (Option Term) → Run (List Term)
padded_into before gs ps = do
  ts ← padded_all gs ps
  gives (before ++ ts)

-- The latest of the first n locals whose type is equal to a goal.
abbrev pub latest_within : Calls → Context → Term → ℕ → Run (Option ℕ)
latest_within c C goal n = latest_of c C goal n (reverse (take n C))
