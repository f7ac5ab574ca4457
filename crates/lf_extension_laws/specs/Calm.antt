-- Only inference refuses.
use Rattle.std.specs.Prelude.{ℕ, Bool}
use Rattle.lf_core.specs.Term.{Term}
use Rattle.lf_rules.specs.Environment.{Context}
use Rattle.lf_checker.specs.View.{View}
use Rattle.lf_checker.specs.Run.{Answer, refused}
use Rattle.lf_checker.specs.Calls.{Calls}
use Rattle.lf_checker.specs.Checker.{calls}

abbrev pub IsNoRefusal : {A : Type 0} → Answer A → Type 0
IsNoRefusal (refused e u) = ⊥
IsNoRefusal _ = Unit {0}

pub record NeverRefuses (c : Calls) : Type 0 where
  pub whnf : (d : Bool) (C : Context) (t : Term) (u : ℕ) → IsNoRefusal (c.whnf d C t u)
  pub equal : (C : Context) (a b : Term) (u : ℕ) → IsNoRefusal (c.equal C a b u)
  pub normalize : (C : Context) (t : Term) (u : ℕ) → IsNoRefusal (c.normalize C t u)

abbrev pub OnlyInferenceRefuses : Type 0
OnlyInferenceRefuses = (V : View) (depth : ℕ) → NeverRefuses (calls V depth)
