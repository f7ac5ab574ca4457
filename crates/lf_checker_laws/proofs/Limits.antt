-- The limits, by the two tests.
use Rattle.std.proofs.Common.{◌≡◌, ◌<◌, ◌≤◌, ℕ, Bool, true, false, nat_lt, length, refl, ap, arith}
use Rattle.std.proofs.lemmas.Bool.Decides.{nat_tests}
use Rattle.lf_core.specs.Size.{depth}
use Rattle.lf_checker.specs.Run.{Run, gives, gives_up, choose, made}
use Rattle.lf_rules.specs.Environment.{opened}
use Rattle.lf_checker_laws.specs.Limits.{LimitsAreKept}

above : (m n : ℕ) → m < n → nat_lt m n ≡ true
above m n h = grind (arith, nat_tests)

not_above : (m n : ℕ) → n ≤ m → nat_lt m n ≡ false
not_above m n h = grind (arith, nat_tests)

pub limits_are_kept : LimitsAreKept
limits_are_kept = record {
  deeper = λ t u h. ap (λ b. choose b gives_up (gives t) u) (above 1024 (depth t) h);
  as_deep = λ t u h. ap (λ b. choose b gives_up (gives t) u) (not_above 1024 (depth t) h);
  no_variable = λ C b u h. ap (λ c. choose c gives_up (made (opened C b)) u) (above 4294967294 (length C) h);
  variable = λ C b u h. ap (λ c. choose c gives_up (made (opened C b)) u) (not_above 4294967294 (length C) h);
}
