-- The rounds of an application are the definition's.
use Rattle.std.proofs.Common.{◌≡◌, ℕ, zero, suc, ◌+◌, ◌-◌, ◌<◌, Bool, List, [], ◌∷◌, length, drop, get_or, refl, sym, ap, ◌∙◌, arith}
use Rattle.std.specs.Prelude.{Option}
use Rattle.std.proofs.lemmas.List.{drop_more}
use Rattle.lf_core.specs.Term.{Term}
use Rattle.lf_syntax.specs.Tree.{TermTree}
use Rattle.lf_checker.specs.Whnf.{turn_limit}
use Rattle.lf_elaboration.specs.Messages as says
use Rattle.lf_elaboration.specs.Run.{done, out, go_on, gives, ◌>>◌}
use Rattle.lf_elaboration.specs.Part.{Part, State, Locals, Run, Calls, Trailing, shown_under, error}
use Rattle.lf_elaboration.specs.Application as spec
use Rattle.lf_elaboration.specs.Application.{Placed, Walked, elaborated, tried}
use Rattle.lf_part.specs.declared.ended.Ended.{Ended}
use Rattle.lf_part.specs.Runs.{ended}
use Rattle.lf_part.proofs.Runs.{ends}
use Rattle.lf_terms.specs.declared.walking.Turn.TheVariants.{Ends, GoesOn}
use Rattle.lf_terms.specs.Walk.{walked, walk_within, after}
use Rattle.lf_terms.proofs.Binds.{joined, joined_as}
use Rattle.lf_nested.specs.Rounds.{placed_as, argument, placed_argument, arguments, no_function, further, last_arguments, after_walk, round, rounds_within}

module _ (P : Part) (c : Calls) (L : Locals) where
  argument_is : (x : Placed) (u : ℕ) (s : State) → spec.argument P c L x u s ≡ argument P c L x.placeholder x.domain x.argument u s
  unfolding argument placed_as
  argument_is x u s = refl

  pub arguments_none : (xs : List Placed) (i : ℕ) (u : ℕ) (s : State) → length xs ≡ i → arguments P c L (drop i xs) u s ≡ done tt u s
  unfolding arguments
  arguments_none [] zero u s e = refl
  arguments_none [] (suc i) u s e = absurd (omega (arith, e))
  arguments_none (x ∷ xs) zero u s e = absurd (omega (arith, e))
  arguments_none (x ∷ xs) (suc i) u s e = arguments_none xs i u s (omega (arith, e))

  pub argument_at : (x : Placed) (u : ℕ) (s : State) → placed_argument P c L x u s ≡ argument P c L x.placeholder x.domain x.argument u s
  unfolding placed_argument
  argument_at x u s = refl

  arguments_some : (xs : List Placed) (i : ℕ) (x : Placed) (u : ℕ) (s : State) → i < length xs → x ≡ get_or xs i x
      → arguments P c L (drop i xs) u s ≡ go_on (placed_argument P c L x u s) (λ z. arguments P c L (drop (i + 1) xs))
  unfolding arguments placed_argument
  arguments_some xs i x u s h e =
      ap (λ ys. spec.arguments P c L ys u s) (drop_more xs i x h ∙ ap (λ y. y ∷ drop (i + 1) xs) (sym e))
      ∙ ap (λ o. go_on o (λ z. spec.arguments P c L (drop (i + 1) xs))) (argument_is x u s)

  pub arguments_go_on : (xs : List Placed) (i : ℕ) (x : Placed) (z : Unit {0}) (u u' : ℕ) (s s' : State) → i < length xs → x ≡ get_or xs i x
      → placed_argument P c L x u s ≡ done z u' s' → arguments P c L (drop i xs) u s ≡ arguments P c L (drop (i + 1) xs) u' s'
  arguments_go_on xs i x z u u' s s' h e f =
      arguments_some xs i x u s h e ∙ ap (λ o. go_on o (λ z. arguments P c L (drop (i + 1) xs))) f

  pub arguments_halt : (xs : List Placed) (i : ℕ) (x : Placed) (r : Ended) (u v : ℕ) (s s' : State) → i < length xs → x ≡ get_or xs i x
      → placed_argument P c L x u s ≡ ended r v s' → arguments P c L (drop i xs) u s ≡ ended r v s'
  arguments_halt xs i x r u v s s' h e f =
      arguments_some xs i x u s h e ∙ ap (λ o. go_on o (λ z. arguments P c L (drop (i + 1) xs))) f ∙ ends r v s' _

  pub further_none : (at : ℕ) (w : Walked) (xs : List Placed) (u : ℕ) (s : State) → length xs ≡ 0
      → further P c L at w xs u s ≡ no_function P L at w.ty u s
  unfolding further
  further_none at w [] u s e = refl
  further_none at w (x ∷ xs) u s e = absurd (omega (arith, e))

  pub further_some : (at : ℕ) (w : Walked) (xs : List Placed) (u : ℕ) (s : State) → 0 < length xs
      → further P c L at w xs u s ≡ go_on (arguments P c L xs u s) (λ z. gives (GoesOn (elaborated w)))
  unfolding further
  further_some at w [] u s h = absurd (omega (arith, h))
  further_some at w (x ∷ xs) u s h = refl

  pub after_all : (at : ℕ) (E : Option Term) (w : Walked) (xs : List TermTree) (u : ℕ) (s : State) → length xs ≡ 0
      → after_walk P c L at E w xs u s ≡ last_arguments P c L E w u s
  unfolding after_walk
  after_all at E w [] u s e = refl
  after_all at E w (x ∷ xs) u s e = absurd (omega (arith, e))

  pub after_some : (at : ℕ) (E : Option Term) (w : Walked) (xs : List TermTree) (u : ℕ) (s : State) → 0 < length xs
      → after_walk P c L at E w xs u s ≡ further P c L at w w.placed u s
  unfolding after_walk
  after_some at E w [] u s h = absurd (omega (arith, h))
  after_some at E w (x ∷ xs) u s h = refl

  -- ---- Rounds

  module _ (at : ℕ) (E : Option Term) (again : Walked → Run Walked) where
    further_step : (w : Walked) (xs : List Placed) (u : ℕ) (s : State)
        → go_on (further P c L at w xs u s) (after again) ≡ spec.further P c L at again w xs u s
    unfolding further no_function arguments
    further_step w [] u s =
        joined_as (shown_under P L.names w.ty u s) (λ x. error at (says.function_expected x)) (after again) (λ x. error at (says.function_expected x))
        (λ x v t. refl)
    further_step w (x ∷ xs) u s = joined (spec.arguments P c L (x ∷ xs) u s) _ (after again)

    last_step : (w : Walked) (u : ℕ) (s : State)
        → go_on (last_arguments P c L E w u s) (after again) ≡ go_on (tried c L w.ty E u s) (λ z. spec.arguments P c L w.placed >> gives w)
    unfolding last_arguments arguments
    last_step w u s =
        joined_as (tried c L w.ty E u s) _ (after again) _ (λ z v t. joined (spec.arguments P c L w.placed v t) _ (after again))

    walk_step : (w : Walked) (xs : List TermTree) (u : ℕ) (s : State)
        → go_on (after_walk P c L at E w xs u s) (after again) ≡ spec.after_walk P c L at E again w xs u s
    unfolding after_walk
    walk_step w [] u s = last_step w u s
    walk_step w (x ∷ xs) u s = further_step w w.placed u s

  module _ (at : ℕ) (g : Bool) (t : Trailing) (E : Option Term) where
    round_is : (n : ℕ) (w : Walked) (u : ℕ) (s : State)
        → spec.rounds P c L at g t E (suc n) w u s ≡ go_on (round P c L at g t E w u s) (after (spec.rounds P c L at g t E n))
    unfolding round walked walk_within
    round_is n w u s =
        sym (joined_as (spec.walk c L at g t turn_limit w u s) _ (after (spec.rounds P c L at g t E n)) _ (λ v x y.
        walk_step at E (spec.rounds P c L at g t E n) v v.unplaced x y))

    pub rounds_none : (n : ℕ) (w : Walked) (u : ℕ) (s : State) → n ≡ 0 → rounds_within P c L at g t E n w u s ≡ out s
    unfolding rounds_within
    rounds_none zero w u s e = refl
    rounds_none (suc n) w u s e = absurd (omega (arith, e))

    pub rounds_end : (n : ℕ) (w v : Walked) (u u' : ℕ) (s s' : State) → 0 < n → round P c L at g t E w u s ≡ done (Ends v) u' s'
        → rounds_within P c L at g t E n w u s ≡ done v u' s'
    unfolding rounds_within
    rounds_end zero w v u u' s s' h f = absurd (omega (arith, h))
    rounds_end (suc n) w v u u' s s' h f = round_is n w u s ∙ ap (λ o. go_on o (after (spec.rounds P c L at g t E n))) f

    pub rounds_go_on : (n m : ℕ) (w v : Walked) (u u' : ℕ) (s s' : State) → 0 < n → m ≡ n - 1 → round P c L at g t E w u s ≡ done (GoesOn v) u' s'
        → rounds_within P c L at g t E n w u s ≡ rounds_within P c L at g t E m v u' s'
    unfolding rounds_within
    rounds_go_on zero m w v u u' s s' h k f = absurd (omega (arith, h))
    rounds_go_on (suc n) m w v u u' s s' h k f =
        let i : m ≡ n = omega arith in
        round_is n w u s ∙ ap (λ o. go_on o (after (spec.rounds P c L at g t E n))) f ∙ (rw i refl)

    pub rounds_halt : (n : ℕ) (w : Walked) (e : Ended) (u v : ℕ) (s s' : State) → 0 < n → round P c L at g t E w u s ≡ ended e v s'
        → rounds_within P c L at g t E n w u s ≡ ended e v s'
    unfolding rounds_within
    rounds_halt zero w e u v s s' h f = absurd (omega (arith, h))
    rounds_halt (suc n) w e u v s s' h f =
        round_is n w u s ∙ ap (λ o. go_on o (after (spec.rounds P c L at g t E n))) f ∙ ends e v s' _
