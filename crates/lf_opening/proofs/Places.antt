-- The first of the terms that unifies.
use Rattle.std.proofs.Common.{◌≡◌, ℕ, ◌+◌, ◌<◌, ◌≤◌, Bool, true, false, List, [], ◌∷◌, length, drop, get_or, sym, ap, ◌∙◌}
use Rattle.std.proofs.lemmas.List.{drop_more, drop_all}
use Rattle.lf_core.specs.Term.{Term}
use Rattle.lf_elaboration.specs.Run.{go_on, gives, done, choose}
use Rattle.lf_elaboration.specs.Part.{State, Run, Locals, Calls, unify}
use Rattle.lf_elaboration.specs.Rewrite as spec
use Rattle.lf_part.specs.declared.ended.Ended.{Ended}
use Rattle.lf_part.specs.Runs.{ended}
use Rattle.lf_part.proofs.Runs.{ends}
use Rattle.lf_opening.specs.Rules.{first_unified}

after : Calls → Locals → Term → List Term → Bool → Run Bool
after c L l ts fits = choose fits (gives true) (spec.first_unified c L l ts)

module _ (c : Calls) (L : Locals) (l : Term) (ts : List Term) (i : ℕ) (t : Term) (u : ℕ) (s : State) where
  here : i < length ts → t ≡ get_or ts i t → drop i ts ≡ t ∷ drop (i + 1) ts
  here h e = drop_more ts i t h ∙ ap (λ x. x ∷ drop (i + 1) ts) (sym e)

  turn_is : i < length ts → t ≡ get_or ts i t → first_unified c L l (drop i ts) u s ≡ go_on (unify c L t l u s) (after c L l (drop (i + 1) ts))
  unfolding first_unified after
  turn_is h e = ap (λ xs. spec.first_unified c L l xs u s) (here h e)

  pub unify_halts : (a : Ended) (v : ℕ) (s' : State) → i < length ts → t ≡ get_or ts i t → unify c L t l u s ≡ ended a v s'
      → first_unified c L l (drop i ts) u s ≡ ended a v s'
  unify_halts a v s' h e f =
      turn_is h e ∙ ap (λ o. go_on o (after c L l (drop (i + 1) ts))) f ∙ ends a v s' (after c L l (drop (i + 1) ts))

  -- Where the locals were these.
  module _ (M : Locals) (b : Bool) (u' : ℕ) (s' : State) (kept : M ≡ L) (h : i < length ts) (e : t ≡ get_or ts i t)
      (f : unify c M t l u s ≡ done b u' s') where
    answered : first_unified c L l (drop i ts) u s ≡ after c L l (drop (i + 1) ts) b u' s'
    answered =
        turn_is h e ∙ ap (λ N. go_on (unify c N t l u s) (after c L l (drop (i + 1) ts))) (sym kept) ∙ ap (λ o. go_on o (after c L l (drop (i + 1) ts))) f

    pub this_unifies : b ≡ true → first_unified c L l (drop i ts) u s ≡ done true u' s'
    unfolding after
    this_unifies k = answered ∙ ap (λ fits. after c L l (drop (i + 1) ts) fits u' s') k

    pub next_unifies : b ≡ false → first_unified c L l (drop i ts) u s ≡ first_unified c L l (drop (i + 1) ts) u' s'
    unfolding after first_unified
    next_unifies k = answered ∙ ap (λ fits. after c L l (drop (i + 1) ts) fits u' s') k

none_left : (ts : List Term) (i : ℕ) → length ts ≤ i → drop i ts ≡ []
none_left ts i h = drop_all i ts h

pub none_unifies : (c : Calls) (L : Locals) (l : Term) (ts : List Term) (i u : ℕ) (s : State) → length ts ≤ i
    → first_unified c L l (drop i ts) u s ≡ done false u s
unfolding first_unified
none_unifies c L l ts i u s h = ap (λ xs. spec.first_unified c L l xs u s) (none_left ts i h)
