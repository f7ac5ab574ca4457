-- The turns of the walk are the definition's.
use Rattle.std.proofs.Common.{◌≡◌, ℕ, zero, suc, ◌-◌, ◌<◌, Bool, true, false, List, [], ◌∷◌, ◌++◌, length, refl, sym, ap, ◌∙◌, arith}
use Rattle.std.specs.Prelude.{Option, Some, None}
use Rattle.lf_core.specs.Term.{Term, app}
use Rattle.lf_core.specs.Substitution.{instantiate}
use Rattle.lf_syntax.specs.Tree.{TermTree}
use Rattle.lf_elaboration.specs.Forms.{Binding, as_pi}
use Rattle.lf_elaboration.specs.Run.{Answer, done, failed, out, need, go_on, gives, choose, put, made}
use Rattle.lf_elaboration.specs.Part.{State, Locals, Run, Calls, Trailing, instantiated, whnf, placeholder}
use Rattle.lf_elaboration.specs.Application as spec
use Rattle.lf_elaboration.specs.Application.{Placed, Walked, Giving, to_unify, to_resolve, to_elaborate, giving, passing, hole, with_placed, stops, step, give, give_written}
use Rattle.lf_part.specs.declared.ended.Ended.{Ended}
use Rattle.lf_part.specs.Runs.{ended}
use Rattle.lf_part.proofs.Runs.{ends}
use Rattle.lf_terms.specs.declared.walking.Turn.{Turn}
use Rattle.lf_terms.specs.declared.walking.Turn.TheVariants.{Ends, GoesOn}
use Rattle.lf_terms.specs.Walk.{place_written, written, given_by, turn_at, type_form, walk_turn, after, walk_within}
use Rattle.lf_terms.proofs.Binds.{bound, joined, joined_as}

-- What has no place yet doesn't matter for one argument more.
made_placed : (w : Walked) (xs : List TermTree) (x : Placed) (f : Term) (o : Answer State Term)
    → go_on (go_on o (λ B. gives (record w { term = f; ty = B }))) (λ v. gives (GoesOn (with_placed x xs v)))
    ≡ go_on (go_on o (λ B. gives (record w { term = f; ty = B; unplaced = xs }))) (λ v. gives (GoesOn (record v { placed = v.placed ++ x ∷ [] })))
made_placed w xs x f (done B u s) = refl
made_placed w xs x f (failed m u s) = refl
made_placed w xs x f (out s) = refl
made_placed w xs x f (need k) = refl

put_placed : (w : Walked) (p : Binding) (m : Term) (xs : List TermTree) (x : Placed) (o : Answer State Term)
    → go_on (go_on o (λ f v t. go_on (made (instantiate p.body m) v t) (λ B. gives (record w { term = f; ty = B })))) (λ v. gives (GoesOn (with_placed x xs v)))
    ≡ go_on (go_on o (λ f v t. go_on (made (instantiate p.body m) v t) (λ B. gives (record w { term = f; ty = B; unplaced = xs }))))
    (λ v. gives (GoesOn (record v { placed = v.placed ++ x ∷ [] })))
put_placed w p m xs x (done f u s) = made_placed w xs x f (made (instantiate p.body m) u s)
put_placed w p m xs x (failed e u s) = refl
put_placed w p m xs x (out s) = refl
put_placed w p m xs x (need k) = refl

written_is : (L : Locals) (at : ℕ) (w : Walked) (p : Binding) (x : TermTree) (xs : List TermTree) (u : ℕ) (s : State)
    → written L at w p (x ∷ xs) u s ≡ place_written L at x (record w { unplaced = xs }) p u s
written_is L at w p x xs u s =
    bound (placeholder L at p.domain u s) _ _ (λ m v t.
    put_placed w p m xs (record { placeholder = m; domain = p.domain; argument = x }) (put (app w.term m) v t))

pub written_none : (L : Locals) (at : ℕ) (w : Walked) (p : Binding) (xs : List TermTree) (u : ℕ) (s : State) → length xs ≡ 0
    → written L at w p xs u s ≡ done (Ends w) u s
written_none L at w p [] u s e = refl
written_none L at w p (x ∷ xs) u s e = absurd (omega (arith, e))

pub written_some : (L : Locals) (at : ℕ) (w : Walked) (p : Binding) (x : TermTree) (xs ys : List TermTree) (u : ℕ) (s : State) → x ∷ xs ≡ ys
    → written L at w p ys u s ≡ place_written L at x (record w { unplaced = xs }) p u s
written_some L at w p x xs ys u s e = ap (λ r. written L at w p r u s) (sym e) ∙ written_is L at w p x xs u s

module _ (L : Locals) (at : ℕ) (walk_on : Walked → Run Walked) where
  passed_is : (w : Walked) (p : Binding) (f : Walked → Walked) (m : Term) (u : ℕ) (s : State)
      → go_on (go_on (passing w p m u s) (λ v. gives (GoesOn (f v)))) (after walk_on) ≡ go_on (passing w p m u s) (λ v. walk_on (f v))
  passed_is w p f m u s = joined (passing w p m u s) (λ v. gives (GoesOn (f v))) (after walk_on)

  written_step : (w : Walked) (p : Binding) (xs : List TermTree) (u : ℕ) (s : State)
      → go_on (written L at w p xs u s) (after walk_on) ≡ give_written L at walk_on w p xs u s
  written_step w p [] u s = refl
  written_step w p (x ∷ xs) u s =
      joined_as (placeholder L at p.domain u s) _ (after walk_on) _ (λ m v t.
      passed_is w p (with_placed (record { placeholder = m; domain = p.domain; argument = x }) xs) m v t)

  given_step : (w : Walked) (p : Binding) (g : Giving) (u : ℕ) (s : State)
      → go_on (given_by L at w p g u s) (after walk_on) ≡ give L at walk_on w p g u s
  given_step w p to_unify u s =
      joined_as (placeholder L at p.domain u s) _ (after walk_on) _ (λ m v t. passed_is w p (λ z. z) m v t)
  given_step w p to_resolve u s =
      joined_as (hole L at None p.domain u s) _ (after walk_on) _ (λ m v t. passed_is w p (λ z. z) m v t)
  given_step w p to_elaborate u s = written_step w p w.unplaced u s

  turn_step : (g : Bool) (w : Walked) (p : Option Binding) (u : ℕ) (s : State)
      → go_on (turn_at L at g w p u s) (after walk_on) ≡ step L at g walk_on w p u s
  turn_step g w None u s = refl
  turn_step g w (Some p) u s = given_step w p (giving g p.binder.kind) u s

module _ (c : Calls) (L : Locals) (at : ℕ) (g : Bool) (t : Trailing) where
  one_turn : (n : ℕ) (w : Walked) (u : ℕ) (s : State)
      → go_on (walk_turn c L at g w u s) (after (spec.walk c L at g t n))
      ≡ go_on (instantiated w.ty u s) (λ T v r. go_on (whnf c L T v r) (λ W. step L at g (spec.walk c L at g t n) (record w { ty = T }) (as_pi W)))
  unfolding type_form
  one_turn n w u s =
      ap (λ o. go_on o (after (spec.walk c L at g t n)))
      (joined_as (instantiated w.ty u s) _ (λ (r : Term × Term). turn_at L at g (record w { ty = r.0 }) (as_pi r.1)) _
      (λ T v r. joined (whnf c L T v r) (λ W. gives (T, W)) (λ (r : Term × Term). turn_at L at g (record w { ty = r.0 }) (as_pi r.1))))
      ∙ joined_as (instantiated w.ty u s) (λ T v r. go_on (whnf c L T v r) (λ W. turn_at L at g (record w { ty = T }) (as_pi W))) _ _ (λ T v r.
      joined_as (whnf c L T v r) (λ W. turn_at L at g (record w { ty = T }) (as_pi W)) _ _ (λ W v r.
      turn_step L at (spec.walk c L at g t n) g (record w { ty = T }) (as_pi W) v r))

  goes_on : (b : Bool) (m : Run Walked) (w : Walked) (u : ℕ) (s : State) → b ≡ false → choose b (gives w) m u s ≡ m u s
  goes_on false m w u s e = refl
  goes_on true m w u s e = cc

  turn_is : (n : ℕ) (w : Walked) (u : ℕ) (s : State) → stops g t w ≡ false
      → spec.walk c L at g t (suc n) w u s ≡ go_on (walk_turn c L at g w u s) (after (spec.walk c L at g t n))
  turn_is n w u s e = goes_on (stops g t w) _ w u s e ∙ sym (one_turn n w u s)

  pub walk_none : (n : ℕ) (w : Walked) (u : ℕ) (s : State) → n ≡ 0 → walk_within c L at g t n w u s ≡ out s
  unfolding walk_within
  walk_none zero w u s e = refl
  walk_none (suc n) w u s e = absurd (omega (arith, e))

  stops_here : (b : Bool) (m : Run Walked) (w : Walked) (u : ℕ) (s : State) → b ≡ true → choose b (gives w) m u s ≡ done w u s
  stops_here true m w u s e = refl
  stops_here false m w u s e = cc

  pub walk_stops : (n : ℕ) (w : Walked) (u : ℕ) (s : State) → 0 < n → stops g t w ≡ true → walk_within c L at g t n w u s ≡ done w u s
  unfolding walk_within
  walk_stops zero w u s h e = absurd (omega (arith, h))
  walk_stops (suc n) w u s h e = stops_here (stops g t w) _ w u s e

  pub walk_ends : (n : ℕ) (w v : Walked) (u u' : ℕ) (s s' : State) → 0 < n → stops g t w ≡ false → walk_turn c L at g w u s ≡ done (Ends v) u' s'
      → walk_within c L at g t n w u s ≡ done v u' s'
  unfolding walk_within
  walk_ends zero w v u u' s s' h e f = absurd (omega (arith, h))
  walk_ends (suc n) w v u u' s s' h e f = turn_is n w u s e ∙ ap (λ o. go_on o (after (spec.walk c L at g t n))) f

  -- The same, where the turn was made with locals that are these.
  pub walk_ends_as : (M : Locals) (n : ℕ) (w v : Walked) (r : Turn) (u u' : ℕ) (s s' : State) → M ≡ L → 0 < n → stops g t w ≡ false
      → walk_turn c M at g w u s ≡ done r u' s' → r ≡ Ends v → walk_within c L at g t n w u s ≡ done v u' s'
  walk_ends_as M n w v r u u' s s' k h e f i =
      walk_ends n w v u u' s s' h e (ap (λ N. walk_turn c N at g w u s) (sym k) ∙ f ∙ ap (λ q. done q u' s') i)

  pub walk_goes_on : (n m : ℕ) (w v : Walked) (u u' : ℕ) (s s' : State) → 0 < n → m ≡ n - 1 → stops g t w ≡ false
      → walk_turn c L at g w u s ≡ done (GoesOn v) u' s' → walk_within c L at g t n w u s ≡ walk_within c L at g t m v u' s'
  unfolding walk_within
  walk_goes_on zero m w v u u' s s' h k e f = absurd (omega (arith, h))
  walk_goes_on (suc n) m w v u u' s s' h k e f =
      let i : m ≡ n = omega arith in
      turn_is n w u s e ∙ ap (λ o. go_on o (after (spec.walk c L at g t n))) f ∙ (rw i refl)

  pub walk_halts : (n : ℕ) (w : Walked) (e : Ended) (u v : ℕ) (s s' : State) → 0 < n → stops g t w ≡ false
      → walk_turn c L at g w u s ≡ ended e v s' → walk_within c L at g t n w u s ≡ ended e v s'
  unfolding walk_within
  walk_halts zero w e u v s s' h k f = absurd (omega (arith, h))
  walk_halts (suc n) w e u v s s' h k f =
      turn_is n w u s k ∙ ap (λ o. go_on o (after (spec.walk c L at g t n))) f ∙ ends e v s' _
