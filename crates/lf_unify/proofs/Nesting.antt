-- Levels one nesting deeper.
use Rattle.std.proofs.Common.{◌≡◌, ℕ, zero, suc, ◌-◌, ◌<◌, refl, arith}
use Rattle.lf_core.specs.Term.{Universe}
use Rattle.lf_elaboration.specs.Metavariables.{Changes, put_level}
use Rattle.lf_elaboration.specs.Run.{out}
use Rattle.lf_unify.specs.Tower.{unify_level_within, level_rule}

pub level_none : (n : ℕ) (l m : Universe) (u : ℕ) (cs : Changes) → n ≡ 0 → unify_level_within n l m u cs ≡ out cs
unfolding unify_level_within
level_none zero l m u cs e = refl
level_none (suc n) l m u cs e = absurd (omega (arith, e))

pub level_some : (n : ℕ) (l m : Universe) (u : ℕ) (cs : Changes) → 0 < n
    → unify_level_within n l m u cs ≡ level_rule (n - 1) (put_level cs l) (put_level cs m) u cs
unfolding unify_level_within level_rule
level_some zero l m u cs h = absurd (omega (arith, h))
level_some (suc n) l m u cs h = let e : suc n - 1 ≡ n = omega arith in rw e refl
