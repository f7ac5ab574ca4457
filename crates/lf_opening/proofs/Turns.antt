-- The turns of the openings are the definition's.
use Rattle.std.proofs.Common.{◌≡◌, ℕ, zero, suc, ◌-◌, ◌<◌, refl, sym, ap, ◌∙◌, arith}
use Rattle.std.specs.Prelude.{Option, Some, None}
use Rattle.lf_elaboration.specs.Forms.{Binding, as_pi}
use Rattle.lf_elaboration.specs.Run.{go_on, gives, done, out}
use Rattle.lf_elaboration.specs.Part.{State, Locals, Run, Calls, whnf}
use Rattle.lf_elaboration.specs.Apply as spec
use Rattle.lf_elaboration.specs.Apply.{Opened, with_given, for_pi}
use Rattle.lf_elaboration.specs.Rewrite as rewriting
use Rattle.lf_part.specs.declared.ended.Ended.{Ended}
use Rattle.lf_part.specs.Runs.{ended}
use Rattle.lf_part.proofs.Runs.{ends}
use Rattle.lf_terms.proofs.Binds.{joined, joined_as}
use Rattle.lf_opening.specs.declared.opened.Turn.{Turn}
use Rattle.lf_opening.specs.declared.opened.Turn.TheVariants.{Ends, GoesOn}
use Rattle.lf_opening.specs.Openings.{turn_at, first_turn, form_turn, after, open_first, open_within}

module _ (L : Locals) (at : ℕ) (next : Opened → Run Opened) where
  pi_step : (o : Opened) (p : Option Binding) (u : ℕ) (s : State) → go_on (turn_at L at o p u s) (after next) ≡ for_pi L at o p next u s
  pi_step o None u s = refl
  pi_step o (Some p) u s = joined (with_given L at o p u s) (λ v. gives (GoesOn v)) (after next)

module _ (c : Calls) (L : Locals) (at : ℕ) where
  first_is : (n : ℕ) (o : Opened) (u : ℕ) (s : State)
      → spec.open_first c L at (suc n) o u s ≡ go_on (first_turn c L at o u s) (after (spec.open_first c L at n))
  unfolding first_turn
  first_is n o u s =
      sym (joined_as (whnf c L o.ty u s) (λ W. turn_at L at o (as_pi W)) (after (spec.open_first c L at n)) _ (λ W v r.
      pi_step L at (spec.open_first c L at n) o (as_pi W) v r))

  pub first_none : (n : ℕ) (o : Opened) (u : ℕ) (s : State) → n ≡ 0 → open_first c L at n o u s ≡ done o u s
  unfolding open_first
  first_none zero o u s e = refl
  first_none (suc n) o u s e = absurd (omega (arith, e))

  pub first_ends : (n : ℕ) (o v : Opened) (u u' : ℕ) (s s' : State) → 0 < n → first_turn c L at o u s ≡ done (Ends v) u' s'
      → open_first c L at n o u s ≡ done v u' s'
  unfolding open_first
  first_ends zero o v u u' s s' h e = absurd (omega (arith, h))
  first_ends (suc n) o v u u' s s' h e = first_is n o u s ∙ ap (λ a. go_on a (after (spec.open_first c L at n))) e

  -- The same, where the turn was made with locals that are these.
  pub first_ends_as : (M : Locals) (n : ℕ) (o v : Opened) (r : Turn) (u u' : ℕ) (s s' : State) → M ≡ L → 0 < n
      → first_turn c M at o u s ≡ done r u' s' → r ≡ Ends v → open_first c L at n o u s ≡ done v u' s'
  first_ends_as M n o v r u u' s s' k h e i = first_ends n o v u u' s s' h (ap (λ N. first_turn c N at o u s) (sym k) ∙ e ∙ ap (λ q. done q u' s') i)

  pub first_goes_on : (n m : ℕ) (o v : Opened) (u u' : ℕ) (s s' : State) → 0 < n → m ≡ n - 1 → first_turn c L at o u s ≡ done (GoesOn v) u' s'
      → open_first c L at n o u s ≡ open_first c L at m v u' s'
  unfolding open_first
  first_goes_on zero m o v u u' s s' h k e = absurd (omega (arith, h))
  first_goes_on (suc n) m o v u u' s s' h k e =
      let i : m ≡ n = omega arith in
      first_is n o u s ∙ ap (λ a. go_on a (after (spec.open_first c L at n))) e ∙ (rw i refl)

  pub first_halts : (n : ℕ) (o : Opened) (e : Ended) (u v : ℕ) (s s' : State) → 0 < n → first_turn c L at o u s ≡ ended e v s'
      → open_first c L at n o u s ≡ ended e v s'
  unfolding open_first
  first_halts zero o e u v s s' h f = absurd (omega (arith, h))
  first_halts (suc n) o e u v s s' h f = first_is n o u s ∙ ap (λ a. go_on a (after (spec.open_first c L at n))) f ∙ ends e v s' _

  all_is : (n : ℕ) (o : Opened) (u : ℕ) (s : State)
      → rewriting.open_all c L at (suc n) o u s ≡ go_on (form_turn c L at o u s) (after (rewriting.open_all c L at n))
  unfolding form_turn
  all_is n o u s =
      sym (joined_as (whnf c L o.ty u s) (λ W. turn_at L at (record o { ty = W }) (as_pi W)) (after (rewriting.open_all c L at n)) _ (λ W v r.
      pi_step L at (rewriting.open_all c L at n) (record o { ty = W }) (as_pi W) v r))

  pub all_none : (n : ℕ) (o : Opened) (u : ℕ) (s : State) → n ≡ 0 → open_within c L at n o u s ≡ out s
  unfolding open_within
  all_none zero o u s e = refl
  all_none (suc n) o u s e = absurd (omega (arith, e))

  pub all_ends : (n : ℕ) (o v : Opened) (u u' : ℕ) (s s' : State) → 0 < n → form_turn c L at o u s ≡ done (Ends v) u' s'
      → open_within c L at n o u s ≡ done v u' s'
  unfolding open_within
  all_ends zero o v u u' s s' h e = absurd (omega (arith, h))
  all_ends (suc n) o v u u' s s' h e = all_is n o u s ∙ ap (λ a. go_on a (after (rewriting.open_all c L at n))) e

  pub all_ends_as : (M : Locals) (n : ℕ) (o v : Opened) (r : Turn) (u u' : ℕ) (s s' : State) → M ≡ L → 0 < n
      → form_turn c M at o u s ≡ done r u' s' → r ≡ Ends v → open_within c L at n o u s ≡ done v u' s'
  all_ends_as M n o v r u u' s s' k h e i = all_ends n o v u u' s s' h (ap (λ N. form_turn c N at o u s) (sym k) ∙ e ∙ ap (λ q. done q u' s') i)

  pub all_goes_on : (n m : ℕ) (o v : Opened) (u u' : ℕ) (s s' : State) → 0 < n → m ≡ n - 1 → form_turn c L at o u s ≡ done (GoesOn v) u' s'
      → open_within c L at n o u s ≡ open_within c L at m v u' s'
  unfolding open_within
  all_goes_on zero m o v u u' s s' h k e = absurd (omega (arith, h))
  all_goes_on (suc n) m o v u u' s s' h k e =
      let i : m ≡ n = omega arith in
      all_is n o u s ∙ ap (λ a. go_on a (after (rewriting.open_all c L at n))) e ∙ (rw i refl)

  pub all_halts : (n : ℕ) (o : Opened) (e : Ended) (u v : ℕ) (s s' : State) → 0 < n → form_turn c L at o u s ≡ ended e v s'
      → open_within c L at n o u s ≡ ended e v s'
  unfolding open_within
  all_halts zero o e u v s s' h f = absurd (omega (arith, h))
  all_halts (suc n) o e u v s s' h f = all_is n o u s ∙ ap (λ a. go_on a (after (rewriting.open_all c L at n))) f ∙ ends e v s' _
