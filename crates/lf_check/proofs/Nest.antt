-- A call is its start and then its body, over calls that are nested one deeper.
use Rattle.std.proofs.Common.{◌≡◌, ℕ, zero, suc, ◌-◌, Bool, true, false, refl, arith}
use Rattle.std.specs.Prelude.{nat_lt, nat_eq, if◌then◌else◌}
use Rattle.std.proofs.lemmas.Bool.{eqb-true, false_from_ne_true}
use Rattle.lf_core.specs.Term.{Term}
use Rattle.lf_rules.specs.Environment.{Context}
use Rattle.lf_checker.specs.View.{View}
use Rattle.lf_checker.specs.Run.{Answer, done, out, Run, go_on, spend}
use Rattle.lf_checker.specs.Calls.{Mode, Calls}
use Rattle.lf_checker.specs.Checker.{calls}
use Rattle.lf_checker.specs.Whnf.{whnf_body}
use Rattle.lf_checker.specs.Equal.{equal_body}
use Rattle.lf_checker.specs.Infer.{infer_body}
use Rattle.lf_checker.specs.Normalize.{normalize_body}
use Rattle.lf_steps.specs.Runs.{enter}

paid : {A : Type 0} (b : Bool) (u : ℕ) (m : Run A) → (if b then out else m (u - 1)) ≡ go_on (if b then out else done tt (u - 1)) (λ (_ : Unit {0}). m)
paid true u m = refl
paid false u m = refl

some_none : (n : ℕ) → nat_eq (suc n) 0 ≡ false
some_none n = false_from_ne_true (nat_eq (suc n) 0) (λ e. let p = eqb-true (suc n) 0 e in absurd (omega (arith, p)))

pub at_whnf : (V : View) (d : ℕ) (delta : Bool) (C : Context) (t : Term) (u : ℕ)
    → (calls V d).whnf delta C t u ≡ go_on (enter d u) (λ _. whnf_body V (calls V (d - 1)) delta C t)
unfolding enter
at_whnf V zero delta C t u = refl
at_whnf V (suc n) delta C t u = let e : suc n - 1 ≡ n = omega arith in rw (e, some_none n) (paid (nat_lt u 1) u (whnf_body V (calls V n) delta C t))

pub at_equal : (V : View) (d : ℕ) (C : Context) (a b : Term) (u : ℕ)
    → (calls V d).equal C a b u ≡ go_on (enter d u) (λ _. equal_body V (calls V (d - 1)) C a b)
unfolding enter
at_equal V zero C a b u = refl
at_equal V (suc n) C a b u = let e : suc n - 1 ≡ n = omega arith in rw (e, some_none n) (paid (nat_lt u 1) u (equal_body V (calls V n) C a b))

pub at_infer : (V : View) (d : ℕ) (m : Mode) (C : Context) (t : Term) (u : ℕ)
    → (calls V d).infer m C t u ≡ go_on (enter d u) (λ _. infer_body V (calls V (d - 1)) m C t)
unfolding enter
at_infer V zero m C t u = refl
at_infer V (suc n) m C t u = let e : suc n - 1 ≡ n = omega arith in rw (e, some_none n) (paid (nat_lt u 1) u (infer_body V (calls V n) m C t))

pub at_normalize : (V : View) (d : ℕ) (C : Context) (t : Term) (u : ℕ)
    → (calls V d).normalize C t u ≡ go_on (enter d u) (λ _. normalize_body (calls V (d - 1)) C t)
unfolding enter
at_normalize V zero C t u = refl
at_normalize V (suc n) C t u = let e : suc n - 1 ≡ n = omega arith in rw (e, some_none n) (paid (nat_lt u 1) u (normalize_body (calls V n) C t))
