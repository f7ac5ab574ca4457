-- The pis of a type, counted one at a time.
use Rattle.std.proofs.Common.{◌≡◌, ℕ, zero, suc, ◌+◌, ◌-◌, ◌<◌, refl, sym, ap, ◌∙◌, arith}
use Rattle.std.specs.Prelude.{Option, Some, None}
use Rattle.lf_rules.specs.Environment.{Context, with}
use Rattle.lf_checker.specs.Whnf.{turn_limit}
use Rattle.lf_elaboration.specs.Forms.{Binding, as_pi}
use Rattle.lf_elaboration.specs.Run.{Answer, done, failed, out, need, go_on, gives, opening}
use Rattle.lf_elaboration.specs.Part.{State, Run, Calls}
use Rattle.lf_elaboration.specs.Apply as spec
use Rattle.lf_elaboration.specs.Apply.{one_and}
use Rattle.lf_part.specs.declared.ended.Ended.{Ended}
use Rattle.lf_part.specs.Runs.{ended}
use Rattle.lf_part.proofs.Runs.{ends}
use Rattle.lf_terms.proofs.Binds.{joined, joined_as}
use Rattle.lf_opening.specs.Pis.{Under, under_pi, at_form, form_under, below_pi, counted, pis_behind, pis_of}

-- What is counted behind one turn.
after : Calls → ℕ → ℕ → Option Under → Run ℕ
after c k n None = gives k
after c k n (Some U) = counted (suc k) (spec.pis_of c n U.types U.ty)

one_more : (k : ℕ) (o : Answer State ℕ) → go_on (go_on o (λ j. gives (suc j))) (λ j. gives (k + j)) ≡ go_on o (λ j. gives (suc k + j))
one_more k (done j u s) = let e : k + suc j ≡ suc k + j = omega arith in ap (λ i. done i u s) e
one_more k (failed m u s) = refl
one_more k (out s) = refl
one_more k (need t) = refl

module _ (c : Calls) where
  pi_step : (k n : ℕ) (C : Context) (p : Option Binding) (u : ℕ) (s : State)
      → go_on (at_form C p u s) (after c k n) ≡ counted k (one_and C p (spec.pis_of c n)) u s
  unfolding after
  pi_step k n C None u s = let e : k ≡ k + 0 = omega arith in ap (λ i. done i u s) e
  pi_step k n C (Some p) u s =
      joined (under_pi C p u s) (λ U. gives (Some U)) (after c k n)
      ∙ joined (opening C p.body u s) (λ B. gives (record { types = with C p.domain; ty = B })) (λ U. after c k n (Some U))
      ∙ sym (joined_as (opening C p.body u s) _ _ _ (λ B v r. one_more k (spec.pis_of c n (with C p.domain) B v r)))

  turn_is : (k n : ℕ) (U : Under) (u : ℕ) (s : State) → pis_behind c k (suc n) U u s ≡ go_on (below_pi c U u s) (after c k n)
  unfolding pis_behind below_pi form_under
  turn_is k n U u s =
      joined_as (form_under c U.types U.ty u s) (λ W. one_and U.types (as_pi W) (spec.pis_of c n)) (λ j. gives (k + j)) _ (λ W v r. refl)
      ∙ sym (joined_as (form_under c U.types U.ty u s) (λ W. at_form U.types (as_pi W)) (after c k n) _ (λ W v r. pi_step k n U.types (as_pi W) v r))

  pub pis_none : (k n : ℕ) (U : Under) (u : ℕ) (s : State) → n ≡ 0 → pis_behind c k n U u s ≡ out s
  unfolding pis_behind
  pis_none k zero U u s e = refl
  pis_none k (suc n) U u s e = absurd (omega (arith, e))

  pub pis_end : (k n : ℕ) (U : Under) (u u' : ℕ) (s s' : State) → 0 < n → below_pi c U u s ≡ done None u' s'
      → pis_behind c k n U u s ≡ done k u' s'
  unfolding after
  pis_end k zero U u u' s s' h e = absurd (omega (arith, h))
  pis_end k (suc n) U u u' s s' h e = turn_is k n U u s ∙ ap (λ a. go_on a (after c k n)) e

  pub pis_go_on : (k l n m : ℕ) (U V : Under) (u u' : ℕ) (s s' : State) → 0 < n → l ≡ k + 1 → m ≡ n - 1
      → below_pi c U u s ≡ done (Some V) u' s' → pis_behind c k n U u s ≡ pis_behind c l m V u' s'
  unfolding after pis_behind
  pis_go_on k l zero m U V u u' s s' h i j e = absurd (omega (arith, h))
  pis_go_on k l (suc n) m U V u u' s s' h i j e =
      let a : m ≡ n = omega arith in
      let b : l ≡ suc k = omega arith in
      turn_is k n U u s ∙ ap (λ a. go_on a (after c k n)) e ∙ (rw (a, b) refl)

  pub pis_halt : (k n : ℕ) (U : Under) (e : Ended) (u v : ℕ) (s s' : State) → 0 < n → below_pi c U u s ≡ ended e v s'
      → pis_behind c k n U u s ≡ ended e v s'
  pis_halt k zero U e u v s s' h f = absurd (omega (arith, h))
  pis_halt k (suc n) U e u v s s' h f = turn_is k n U u s ∙ ap (λ a. go_on a (after c k n)) f ∙ ends e v s' _

  begun : (o : Answer State ℕ) → o ≡ go_on o (λ j. gives (0 + j))
  begun (done j u s) = let e : j ≡ 0 + j = omega arith in ap (λ i. done i u s) e
  begun (failed m u s) = refl
  begun (out s) = refl
  begun (need t) = refl

  pub pis_begun : (n : ℕ) (U : Under) (u : ℕ) (s : State) → n ≡ turn_limit → pis_of c U.types U.ty u s ≡ pis_behind c 0 n U u s
  unfolding pis_of pis_behind
  pis_begun n U u s e = ap (λ m. spec.pis_of c m U.types U.ty u s) (sym e) ∙ begun (spec.pis_of c n U.types U.ty u s)
