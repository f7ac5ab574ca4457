-- Goals, one after another.
use Rattle.std.proofs.Common.{◌≡◌, ℕ, Bool, true, false, List, [], ◌∷◌, ◌++◌, refl, sym, ap, ◌∙◌, append_assoc}
use Rattle.std.specs.Prelude.{is_some, map}
use Rattle.std.proofs.lemmas.List.{append-nil}
use Rattle.lf_name.specs.declared.binder.BinderKind.{BinderKind}
use Rattle.lf_name.specs.declared.binder.BinderKind.TheVariants.{Explicit, Implicit, Inst}
use Rattle.lf_elaboration.specs.Metavariables.{value}
use Rattle.lf_elaboration.specs.Run.{Answer, done, failed, out, need, go_on, gives, choose}
use Rattle.lf_elaboration.specs.Part.{State, Run}
use Rattle.lf_elaboration.specs.Apply as spec
use Rattle.lf_elaboration.specs.Apply.{Given, as_goal, goals_given}
use Rattle.lf_opening.specs.Goals.{goal_behind, goals_behind, goals_of, goal_of}

put_behind : (ready : List Given) (g : Given) (o : Answer State (List Given))
    → go_on (go_on o (λ gs. gives (g ∷ gs))) (λ gs. gives (ready ++ gs)) ≡ go_on o (λ gs. gives ((ready ++ g ∷ []) ++ gs))
put_behind ready g (done gs u s) = ap (λ r. done r u s) (sym (append_assoc ready (g ∷ []) gs))
put_behind ready g (failed m u s) = refl
put_behind ready g (out s) = refl
put_behind ready g (need k) = refl

chosen : (b : Bool) (m n m' n' : Run (List Given)) (ready : List Given) (u : ℕ) (s : State) → m' u s ≡ go_on (m u s) (λ gs. gives (ready ++ gs))
    → n' u s ≡ go_on (n u s) (λ gs. gives (ready ++ gs)) → choose b m' n' u s ≡ go_on (choose b m n u s) (λ gs. gives (ready ++ gs))
chosen true m n m' n' ready u s h k = h
chosen false m n m' n' ready u s h k = k

goal_one : (at : ℕ) (ready : List Given) (g : Given) (k : BinderKind) (m : Run (List Given)) (n : List Given → Run (List Given)) (u : ℕ) (s : State)
    → ((r : List Given) → n r u s ≡ go_on (m u s) (λ gs. gives (r ++ gs)))
    → goal_behind at g k ready n u s ≡ go_on (as_goal at g k m u s) (λ gs. gives (ready ++ gs))
goal_one at ready g Explicit m n u s h = h (ready ++ g ∷ []) ∙ sym (put_behind ready g (m u s))
goal_one at ready g Implicit m n u s h = refl
goal_one at ready g Inst m n u s h = refl

behind_is : (at : ℕ) (ready gs : List Given) (u : ℕ) (s : State)
    → goals_behind at ready gs u s ≡ go_on (spec.goals_of at gs u s) (λ all. gives (ready ++ all))
behind_is at ready [] u s = ap (λ r. done r u s) (sym (append-nil ready))
behind_is at ready (g ∷ gs) u s =
    chosen (is_some (value s.changes g.number)) (spec.goals_of at gs) (as_goal at g g.kind (spec.goals_of at gs)) (goals_behind at ready gs)
    (goal_behind at g g.kind ready (λ r. goals_behind at r gs)) ready u s (behind_is at ready gs u s)
    (goal_one at ready g g.kind (spec.goals_of at gs) (λ r. goals_behind at r gs) u s (λ r. behind_is at r gs u s))

nothing : (o : Answer State (List Given)) → go_on o (λ gs. gives ([] ++ gs)) ≡ o
nothing (done gs u s) = refl
nothing (failed m u s) = refl
nothing (out s) = refl
nothing (need k) = refl

pub goals_nothing : (at : ℕ) (gs : List Given) (u : ℕ) (s : State) → goals_of at gs u s ≡ goals_behind at [] gs u s
unfolding goals_of
goals_nothing at gs u s = sym (behind_is at [] gs u s ∙ nothing (spec.goals_of at gs u s))

-- Each is a goal of its own.
pub goals_are : (gs : List Given) → goals_given gs ≡ map goal_of gs
goals_are [] = refl
goals_are (g ∷ gs) = ap (λ r. goal_of g ∷ r) (goals_are gs)
