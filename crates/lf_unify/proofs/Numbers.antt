-- The number before another.
use Rattle.std.proofs.Common.{◌≡◌, ℕ, zero, suc, ◌-◌, ◌<◌, ◌^◌, Bool, true, false, nat_lt, refl, ◌∙◌, arith}
use Rattle.std.specs.Prelude.{◌&&◌, Some, None}
use Rattle.std.proofs.lemmas.Bool.{lt-ltb}
use Rattle.lf_core.specs.Term.{Term}
use Rattle.lf_core.specs.Same.{same}
use Rattle.lf_rules.specs.Environment.{nat_succ}
use Rattle.lf_unify.specs.Pairs.{some_when, number_before}

both_true : (p q : Bool) (n : ℕ) → p ≡ true → q ≡ true → some_when (p && q) n ≡ Some n
both_true true true n e f = refl
both_true true false n e f = cc
both_true false q n e f = cc

first_false : (p q : Bool) (n : ℕ) → p ≡ false → some_when (p && q) n ≡ None
first_false false q n e = refl
first_false true q n e = cc

pub before_none : (f : Term) (n : ℕ) → n ≡ 0 → number_before f n ≡ None
unfolding number_before
before_none f zero e = refl
before_none f (suc n) e = absurd (omega (arith, e))

pub before_other : (f : Term) (n : ℕ) → same f nat_succ ≡ false → number_before f n ≡ None
unfolding number_before
before_other f zero e = refl
before_other f (suc n) e = first_false (same f nat_succ) (nat_lt (suc n) (2 ^ 128)) n e

pub before_some : (f : Term) (n : ℕ) → 0 < n → n < 340282366920938463463374607431768211456 → same f nat_succ ≡ true → number_before f n ≡ Some (n - 1)
unfolding number_before
before_some f zero h k e = absurd (omega (arith, h))
before_some f (suc n) h k e =
    let i : suc n - 1 ≡ n = omega arith in
    both_true (same f nat_succ) (nat_lt (suc n) (2 ^ 128)) n e (lt-ltb (suc n) (2 ^ 128) k) ∙ rw i refl
