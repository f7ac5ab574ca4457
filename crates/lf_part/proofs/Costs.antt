-- A term that is too deep, or that has more nodes than there are units, is out.
use Rattle.std.proofs.Common.{◌≡◌, ℕ, ◌<◌, ◌+◌, ◌-◌, Bool, true, false, nat_lt, refl, arith, sym}
use Rattle.std.proofs.lemmas.Bool.{ltb-true}
use Rattle.lf_core.specs.Term.{Term}
use Rattle.lf_core.specs.Size.{node_count, depth}
use Rattle.lf_checker.specs.Run.{out, made}
use Rattle.lf_steps.proofs.Costs.{made_deep, made_short}

by_depth : (b : Bool) (t : Term) (u : ℕ) → b ≡ nat_lt 1024 (depth t) → 0 < (node_count t - u) + (depth t - 1024) → made t u ≡ out
by_depth true t u e h = made_deep t u (ltb-true 1024 (depth t) (sym e))
by_depth false t u e h = made_short t u (grind (arith, e, h))

pub made_out : (t : Term) (u : ℕ) → 0 < (node_count t - u) + (depth t - 1024) → made t u ≡ out
made_out t u h = by_depth (nat_lt 1024 (depth t)) t u refl h
