-- Turns of the loop.
use Rattle.std.proofs.Common.{◌≡◌, ℕ, zero, suc, ◌-◌, ◌<◌, Bool, false, refl, ap, ◌∙◌, arith}
use Rattle.lf_core.specs.Term.{Term}
use Rattle.lf_rules.specs.Environment.{Context}
use Rattle.lf_checker.specs.View.{View}
use Rattle.lf_checker.specs.Calls.{Calls}
use Rattle.lf_checker.specs.Equal.{decided, again, undecided}
use Rattle.lf_elaboration.specs.Metavariables.{Changes}
use Rattle.lf_elaboration.specs.Run.{done, out, go_on, gives}
use Rattle.lf_elaboration.specs.Unifier.{Unify}
use Rattle.lf_steps.specs.declared.halt.Halt.{Halt}
use Rattle.lf_unify.specs.Runs.{halted}
use Rattle.lf_unify.specs.Tower.{unify_turn, unify_loop}
use Rattle.lf_unify.proofs.Runs.{ends}

module _ (V : View) (c : Calls) (self : Unify) (C : Context) where
  pub unify_none : (n : ℕ) (a b : Term) (u : ℕ) (cs : Changes) → n ≡ 0 → unify_loop V c self C n a b u cs ≡ out cs
  unfolding unify_loop
  unify_none zero a b u cs e = refl
  unify_none (suc n) a b u cs e = absurd (omega (arith, e))

  pub unify_decided : (n : ℕ) (a b : Term) (r : Bool) (u u' : ℕ) (cs cs' : Changes) → 0 < n → unify_turn V c self C a b u cs ≡ done (decided r) u' cs'
      → unify_loop V c self C n a b u cs ≡ done r u' cs'
  unfolding unify_loop
  unify_decided zero a b r u u' cs cs' h e = absurd (omega (arith, h))
  unify_decided (suc n) a b r u u' cs cs' h e = ap (λ o.
      go_on o (λ p. elim p [ decided r ↦ gives r | again x y ↦ unify_loop V c self C n x y | undecided ↦ gives false ])) e

  pub unify_undecided : (n : ℕ) (a b : Term) (u u' : ℕ) (cs cs' : Changes) → 0 < n → unify_turn V c self C a b u cs ≡ done undecided u' cs'
      → unify_loop V c self C n a b u cs ≡ done false u' cs'
  unfolding unify_loop
  unify_undecided zero a b u u' cs cs' h e = absurd (omega (arith, h))
  unify_undecided (suc n) a b u u' cs cs' h e = ap (λ o.
      go_on o (λ p. elim p [ decided r ↦ gives r | again x y ↦ unify_loop V c self C n x y | undecided ↦ gives false ])) e

  pub unify_again : (n m : ℕ) (a b x y : Term) (u u' : ℕ) (cs cs' : Changes) → 0 < n → m ≡ n - 1 → unify_turn V c self C a b u cs ≡ done (again x y) u' cs'
      → unify_loop V c self C n a b u cs ≡ unify_loop V c self C m x y u' cs'
  unfolding unify_loop
  unify_again zero m a b x y u u' cs cs' h k e = absurd (omega (arith, h))
  unify_again (suc n) m a b x y u u' cs cs' h k e =
      let i : m ≡ n = omega arith in
      ap (λ o. go_on o (λ p. elim p [ decided r ↦ gives r | again x y ↦ unify_loop V c self C n x y | undecided ↦ gives false ])) e ∙ (rw i refl)

  pub unify_halts : (n : ℕ) (a b : Term) (u : ℕ) (cs cs' : Changes) (h : Halt) → 0 < n → unify_turn V c self C a b u cs ≡ halted h cs'
      → unify_loop V c self C n a b u cs ≡ halted h cs'
  unfolding unify_loop
  unify_halts zero a b u cs cs' h k e = absurd (omega (arith, k))
  unify_halts (suc n) a b u cs cs' h k e =
      ap (λ o. go_on o (λ p. elim p [ decided r ↦ gives r | again x y ↦ unify_loop V c self C n x y | undecided ↦ gives false ])) e ∙ ends h cs' _
