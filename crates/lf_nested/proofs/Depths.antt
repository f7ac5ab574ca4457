-- A proof within the nested calls that are still allowed.
use Rattle.std.proofs.Common.{◌≡◌, ℕ, zero, suc, ◌-◌, ◌<◌, List, refl, arith, ap}
use Rattle.lf_core.specs.Term.{Term}
use Rattle.lf_syntax.specs.Tree.{ItemTree}
use Rattle.lf_elaboration.specs.Run.{out}
use Rattle.lf_elaboration.specs.Part.{Part, State, Locals}
use Rattle.lf_elaboration.specs.Proof.{prove_body}
use Rattle.lf_part.specs.Values.{calls}

pub prove_out : (P : Part) (d : ℕ) (L : Locals) (goal : Term) (is : List ItemTree) (u : ℕ) (s : State) → d ≡ 0 → (calls P d).prove L goal is u s ≡ out s
unfolding calls
prove_out P zero L goal is u s e = refl
prove_out P (suc d) L goal is u s e = absurd (omega (arith, e))

pub prove_in : (P : Part) (d e : ℕ) (L : Locals) (goal : Term) (is : List ItemTree) (u : ℕ) (s : State) → 0 < d → e ≡ d - 1
    → (calls P d).prove L goal is u s ≡ prove_body P (calls P e) L goal is u s
unfolding calls
prove_in P zero e L goal is u s h i = absurd (omega (arith, h))
prove_in P (suc d) e L goal is u s h i =
    let j : d ≡ e = omega (arith, i) in
    ap (λ k. prove_body P (calls P k) L goal is u s) j
