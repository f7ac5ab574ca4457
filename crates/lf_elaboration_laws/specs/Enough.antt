-- More nesting and more units give the same answers of the unifier, with as many units more left.
use Rattle.std.specs.Prelude.{◌≡◌, ℕ, ◌+◌}
use Rattle.lf_core.specs.Term.{Term}
use Rattle.lf_rules.specs.Environment.{Context}
use Rattle.lf_checker.specs.View.{View}
use Rattle.lf_elaboration.specs.Metavariables.{Changes}
use Rattle.lf_elaboration.specs.Run.{Answer, done, failed, out, need}
use Rattle.lf_elaboration.specs.Unifier.{unify}

-- From k units more the second answer is the first, with k units more left, but where the first gives up.
abbrev pub Again : ℕ → {S A : Type 0} → Answer S A → Answer S A → Type 0
Again k (done x u s) p = done x (u + k) s ≡ p
Again k (failed m u s) p = failed m (u + k) s ≡ p
Again k (out s) p = Unit {0}
Again k (need n) p = need n ≡ p

abbrev pub UnifierAgain : Type 0
UnifierAgain = (V : View) (depth deeper k : ℕ) (C : Context) (a b : Term) (u : ℕ) (cs : Changes)
    → Again k (unify V depth C a b u cs) (unify V (depth + deeper) C a b (u + k) cs)
