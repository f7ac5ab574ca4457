-- The start of a nested call.
use Rattle.std.proofs.Common.{◌≡◌, ℕ, zero, suc, ◌-◌, Bool, true, false, refl, arith}
use Rattle.std.specs.Prelude.{nat_lt, nat_eq, if◌then◌else◌, Option}
use Rattle.std.proofs.lemmas.Bool.{eqb-true, false_from_ne_true}
use Rattle.lf_core.specs.Term.{Term}
use Rattle.lf_syntax.specs.Tree.{TermTree}
use Rattle.lf_checker.specs.Run as checker
use Rattle.lf_steps.specs.Runs.{enter}
use Rattle.lf_elaboration.specs.Run.{out, go_on, gives_up, answered}
use Rattle.lf_elaboration.specs.Part.{Part, State, Locals, Run, Trailing}
use Rattle.lf_elaboration.specs.Terms.{elaborate_body}
use Rattle.lf_part.specs.Values.{calls}

some_none : (n : ℕ) → nat_eq (suc n) 0 ≡ false
some_none n = false_from_ne_true (nat_eq (suc n) 0) (λ e. let p = eqb-true (suc n) 0 e in absurd (omega (arith, p)))

paid : {A : Type 0} (b : Bool) (u : ℕ) (s : State) (m : Run A)
    → (if b then out s else m (u - 1) s)
    ≡ go_on (answered (λ e. gives_up) s (if b then checker.out else checker.done tt (u - 1))) (λ (_ : Unit {0}). m)
paid true u s m = refl
paid false u s m = refl

pub elaborate_start : (P : Part) (d : ℕ) (t : Trailing) (L : Locals) (x : TermTree) (E : Option Term) (u : ℕ) (s : State)
    → (calls P d).elaborate t L x E u s
    ≡ go_on (answered (λ e. gives_up) s (enter d u)) (λ (_ : Unit {0}). elaborate_body P (calls P (d - 1)) t L x E)
unfolding calls enter
elaborate_start P zero t L x E u s = refl
elaborate_start P (suc d) t L x E u s =
    let e : suc d - 1 ≡ d = omega arith in
    rw (e, some_none d) (paid (nat_lt u 1) u s (elaborate_body P (calls P d) t L x E))
