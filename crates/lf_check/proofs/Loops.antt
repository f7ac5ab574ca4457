-- Turns of the two loops.
use Rattle.std.proofs.Common.{◌≡◌, ℕ, zero, suc, ◌-◌, ◌<◌, Bool, true, false, refl, ap, ◌∙◌, arith}
use Rattle.lf_core.specs.Term.{Term}
use Rattle.lf_rules.specs.Environment.{Context}
use Rattle.lf_checker.specs.View.{View}
use Rattle.lf_checker.specs.Run.{Answer, done, out, Run, go_on, gives}
use Rattle.lf_checker.specs.Calls.{Calls}
use Rattle.lf_checker.specs.Whnf.{Progress, stays, next, ends}
use Rattle.lf_checker.specs.Equal.{Verdict, decided, again, undecided}
use Rattle.lf_check.specs.Tower.{whnf_turn, whnf_loop, equal_turn, equal_loop}
use Rattle.lf_steps.specs.declared.halt.Halt.{Halt}
use Rattle.lf_steps.specs.Runs.{halted}
use Rattle.lf_steps.proofs.Runs.{ends as halt_ends}

module _ (V : View) (c : Calls) where
  pub whnf_none : (d : Bool) (C : Context) (n : ℕ) (t : Term) (u : ℕ) → n ≡ 0 → whnf_loop V c d C n t u ≡ out
  unfolding whnf_loop
  whnf_none d C zero t u e = refl
  whnf_none d C (suc n) t u e = absurd (omega (arith, e))

  pub whnf_stays : (d : Bool) (C : Context) (n : ℕ) (t : Term) (u u' : ℕ) → 0 < n → whnf_turn V c d C t u ≡ done stays u' → whnf_loop V c d C n t u ≡ done t u'
  unfolding whnf_loop
  whnf_stays d C zero t u u' h e = absurd (omega (arith, h))
  whnf_stays d C (suc n) t u u' h e = ap (λ o. go_on o (λ p. elim p [ stays ↦ gives t | next s ↦ whnf_loop V c d C n s | ends s ↦ gives s ])) e

  pub whnf_ends : (d : Bool) (C : Context) (n : ℕ) (t s : Term) (u u' : ℕ) → 0 < n → whnf_turn V c d C t u ≡ done (ends s) u'
      → whnf_loop V c d C n t u ≡ done s u'
  unfolding whnf_loop
  whnf_ends d C zero t s u u' h e = absurd (omega (arith, h))
  whnf_ends d C (suc n) t s u u' h e = ap (λ o. go_on o (λ p. elim p [ stays ↦ gives t | next r ↦ whnf_loop V c d C n r | ends r ↦ gives r ])) e

  pub whnf_next : (d : Bool) (C : Context) (n m : ℕ) (t s : Term) (u u' : ℕ) → 0 < n → m ≡ n - 1 → whnf_turn V c d C t u ≡ done (next s) u'
      → whnf_loop V c d C n t u ≡ whnf_loop V c d C m s u'
  unfolding whnf_loop
  whnf_next d C zero m t s u u' h k e = absurd (omega (arith, h))
  whnf_next d C (suc n) m t s u u' h k e =
      let i : m ≡ n = omega arith in
      ap (λ o. go_on o (λ p. elim p [ stays ↦ gives t | next r ↦ whnf_loop V c d C n r | ends r ↦ gives r ])) e ∙ (rw i refl)

  pub whnf_halts : (d : Bool) (C : Context) (n : ℕ) (t : Term) (u u' : ℕ) (h : Halt) → 0 < n → whnf_turn V c d C t u ≡ halted h u'
      → whnf_loop V c d C n t u ≡ halted h u'
  unfolding whnf_loop
  whnf_halts d C zero t u u' h k e = absurd (omega (arith, k))
  whnf_halts d C (suc n) t u u' h k e =
      ap (λ o. go_on o (λ p. elim p [ stays ↦ gives t | next r ↦ whnf_loop V c d C n r | ends r ↦ gives r ])) e ∙ halt_ends h u' _

  pub equal_none : (C : Context) (n : ℕ) (a b : Term) (u : ℕ) → n ≡ 0 → equal_loop V c C n a b u ≡ out
  unfolding equal_loop
  equal_none C zero a b u e = refl
  equal_none C (suc n) a b u e = absurd (omega (arith, e))

  pub equal_decided : (C : Context) (n : ℕ) (a b : Term) (r : Bool) (u u' : ℕ) → 0 < n → equal_turn V c C a b u ≡ done (decided r) u'
      → equal_loop V c C n a b u ≡ done r u'
  unfolding equal_loop
  equal_decided C zero a b r u u' h e = absurd (omega (arith, h))
  equal_decided C (suc n) a b r u u' h e = ap (λ o.
      go_on o (λ p. elim p [ decided r ↦ gives r | again x y ↦ equal_loop V c C n x y | undecided ↦ gives false ])) e

  pub equal_undecided : (C : Context) (n : ℕ) (a b : Term) (u u' : ℕ) → 0 < n → equal_turn V c C a b u ≡ done undecided u'
      → equal_loop V c C n a b u ≡ done false u'
  unfolding equal_loop
  equal_undecided C zero a b u u' h e = absurd (omega (arith, h))
  equal_undecided C (suc n) a b u u' h e = ap (λ o.
      go_on o (λ p. elim p [ decided r ↦ gives r | again x y ↦ equal_loop V c C n x y | undecided ↦ gives false ])) e

  pub equal_again : (C : Context) (n m : ℕ) (a b x y : Term) (u u' : ℕ) → 0 < n → m ≡ n - 1 → equal_turn V c C a b u ≡ done (again x y) u'
      → equal_loop V c C n a b u ≡ equal_loop V c C m x y u'
  unfolding equal_loop
  equal_again C zero m a b x y u u' h k e = absurd (omega (arith, h))
  equal_again C (suc n) m a b x y u u' h k e =
      let i : m ≡ n = omega arith in
      ap (λ o. go_on o (λ p. elim p [ decided r ↦ gives r | again x y ↦ equal_loop V c C n x y | undecided ↦ gives false ])) e ∙ (rw i refl)

  pub equal_halts : (C : Context) (n : ℕ) (a b : Term) (u u' : ℕ) (h : Halt) → 0 < n → equal_turn V c C a b u ≡ halted h u'
      → equal_loop V c C n a b u ≡ halted h u'
  unfolding equal_loop
  equal_halts C zero a b u u' h k e = absurd (omega (arith, k))
  equal_halts C (suc n) a b u u' h k e =
      ap (λ o. go_on o (λ p. elim p [ decided r ↦ gives r | again x y ↦ equal_loop V c C n x y | undecided ↦ gives false ])) e ∙ halt_ends h u' _
