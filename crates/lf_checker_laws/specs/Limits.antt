-- The limits of what a call makes, whatever else it does.
use Rattle.std.specs.Prelude.{◌≡◌, ◌<◌, ◌≤◌, ℕ, length}
use Rattle.lf_core.specs.Term.{Term}
use Rattle.lf_core.specs.Size.{depth}
use Rattle.lf_rules.specs.Environment.{Context, opened}
use Rattle.lf_checker.specs.Run.{out, done, put, made, opening}

pub record LimitsAreKept : Type 0 where
  -- a term is put together just where it is at most 1,024 deep, at no cost
  pub deeper : (t : Term) (u : ℕ) → 1024 < depth t → put t u ≡ out
  pub as_deep : (t : Term) (u : ℕ) → depth t ≤ 1024 → put t u ≡ done t u
  -- a body is opened just where its variable has a number of at most 4,294,967,294
  pub no_variable : (C : Context) (b : Term) (u : ℕ) → 4294967294 < length C → opening C b u ≡ out
  pub variable : (C : Context) (b : Term) (u : ℕ) → length C ≤ 4294967294 → opening C b u ≡ made (opened C b) u
