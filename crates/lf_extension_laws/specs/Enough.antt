-- More nesting and more units give the same answers, with as many units more left.
use Rattle.std.specs.Prelude.{◌≡◌, ℕ, ◌+◌, Bool}
use Rattle.lf_core.specs.Term.{Term}
use Rattle.lf_rules.specs.Environment.{Context}
use Rattle.lf_checker.specs.View.{View}
use Rattle.lf_checker.specs.Run.{Answer, done, refused, out, need}
use Rattle.lf_checker.specs.Calls.{Mode, Calls}
use Rattle.lf_checker.specs.Checker.{calls}

-- From k units more the second answer is the first, with k units more left, but where the first gives up.
abbrev pub Enough : ℕ → {A : Type 0} → Answer A → Answer A → Type 0
Enough k (done x u) p = done x (u + k) ≡ p
Enough k (refused e u) p = refused e (u + k) ≡ p
Enough k out p = Unit {0}
Enough k (need n) p = need n ≡ p

pub record Suffice (k : ℕ) (c d : Calls) : Type 0 where
  pub whnf : (f : Bool) (C : Context) (t : Term) (u : ℕ) → Enough k (c.whnf f C t u) (d.whnf f C t (u + k))
  pub equal : (C : Context) (a b : Term) (u : ℕ) → Enough k (c.equal C a b u) (d.equal C a b (u + k))
  pub infer : (m : Mode) (C : Context) (t : Term) (u : ℕ) → Enough k (c.infer m C t u) (d.infer m C t (u + k))
  pub normalize : (C : Context) (t : Term) (u : ℕ) → Enough k (c.normalize C t u) (d.normalize C t (u + k))

abbrev pub MoreIsEnough : Type 0
MoreIsEnough = (V : View) (depth deeper k : ℕ) → Suffice k (calls V depth) (calls V (depth + deeper))
