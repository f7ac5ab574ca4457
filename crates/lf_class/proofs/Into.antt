-- Lists that are taken into what is ready already are those of the definition.
use Rattle.std.proofs.Common.{◌≡◌, ℕ, Bool, true, false, List, [], ◌∷◌, ◌++◌, refl, sym, ap, ◌∙◌, append_assoc, append-nil}
use Rattle.std.specs.Prelude.{Option, Some, None}
use Rattle.lf_core.specs.Term.{Term}
use Rattle.lf_checker.specs.Run.{Answer, done, refused, out, need, go_on, ◌>>=◌, choose, gives}
use Rattle.lf_elaboration.specs.Metavariables.{Changes}
use Rattle.lf_elaboration.specs.Unifier.{has_any_metavariable}
use Rattle.lf_elaboration.specs.Apply.{Given}
use Rattle.lf_resolution.specs.Walk.{Resolve, instantiated, and_next, on_found, goals_left, instances}
use Rattle.lf_class.specs.Into.{goals_into, instances_into}

abbrev behind : List Term → Option (List Term) → Option (List Term)
behind ready None = None
behind ready (Some xs) = Some (ready ++ xs)

abbrev all_behind : List Term → Answer (Option (List Term)) → Answer (Option (List Term))
all_behind ready o = go_on o (λ p. gives (behind ready p))

nothing_behind : (o : Answer (Option (List Term))) → all_behind [] o ≡ o
nothing_behind (done None u) = refl
nothing_behind (done (Some xs) u) = refl
nothing_behind (refused e u) = refl
nothing_behind out = refl
nothing_behind (need k) = refl

put_behind : (ready : List Term) (t : Term) (o : Answer (Option (List Term)))
    → all_behind (ready ++ t ∷ []) o ≡ all_behind ready (go_on o (λ p. gives (and_next t p)))
put_behind ready t (done None u) = refl
put_behind ready t (done (Some xs) u) = ap (λ ys. done (Some ys) u) (append_assoc ready (t ∷ []) xs)
put_behind ready t (refused e u) = refl
put_behind ready t out = refl
put_behind ready t (need k) = refl

ready_behind : (ready : List Term) (u : ℕ) → ◌≡◌ {A = Answer (Option (List Term))} (done (Some ready) u) (done (Some (ready ++ [])) u)
ready_behind ready u = ap (λ xs. done (Some xs) u) (sym (append-nil ready))

-- ---- Goals

goal_step : (cs : Changes) (ready : List Term) (gs : List Given) (t : Term)
    (ih : (r : List Term) (v : ℕ) → goals_into cs r gs v ≡ all_behind r (goals_left cs gs v)) (b : Bool) (u : ℕ)
    → choose b (gives None) (goals_into cs (ready ++ t ∷ []) gs) u
    ≡ all_behind ready (choose b (gives None) (goals_left cs gs >>= (λ o. gives (and_next t o))) u)
goal_step cs ready gs t ih true u = refl
goal_step cs ready gs t ih false u = ih (ready ++ t ∷ []) u ∙ put_behind ready t (goals_left cs gs u)

goal_on : (cs : Changes) (ready : List Term) (gs : List Given)
    (ih : (r : List Term) (v : ℕ) → goals_into cs r gs v ≡ all_behind r (goals_left cs gs v)) (o : Answer Term)
    → go_on o (λ t. choose (has_any_metavariable t) (gives None) (goals_into cs (ready ++ t ∷ []) gs))
    ≡ all_behind ready (go_on o (λ t. choose (has_any_metavariable t) (gives None) (goals_left cs gs >>= (λ o. gives (and_next t o)))))
goal_on cs ready gs ih (done t u) = goal_step cs ready gs t ih (has_any_metavariable t) u
goal_on cs ready gs ih (refused e u) = refl
goal_on cs ready gs ih out = refl
goal_on cs ready gs ih (need k) = refl

goals_behind : (cs : Changes) (ready : List Term) (gs : List Given) (u : ℕ) → goals_into cs ready gs u ≡ all_behind ready (goals_left cs gs u)
goals_behind cs ready [] u = ready_behind ready u
goals_behind cs ready (g ∷ gs) u = goal_on cs ready gs (λ r v. goals_behind cs r gs v) (instantiated cs g.ty u)

pub all_goals : (cs : Changes) (gs : List Given) (u : ℕ) → goals_left cs gs u ≡ goals_into cs [] gs u
all_goals cs gs u = sym (goals_behind cs [] gs u ∙ nothing_behind (goals_left cs gs u))

-- ---- Instances

instance_step : (self : Resolve) (ready goals : List Term)
    (ih : (r : List Term) (v : ℕ) → instances_into self r goals v ≡ all_behind r (instances self goals v)) (p : Option Term) (u : ℕ)
    → on_found p (λ x. instances_into self (ready ++ x ∷ []) goals) u
    ≡ all_behind ready (on_found p (λ x. instances self goals >>= (λ o. gives (and_next x o))) u)
instance_step self ready goals ih None u = refl
instance_step self ready goals ih (Some x) u = ih (ready ++ x ∷ []) u ∙ put_behind ready x (instances self goals u)

instance_on : (self : Resolve) (ready goals : List Term)
    (ih : (r : List Term) (v : ℕ) → instances_into self r goals v ≡ all_behind r (instances self goals v)) (o : Answer (Option Term))
    → go_on o (λ p. on_found p (λ x. instances_into self (ready ++ x ∷ []) goals))
    ≡ all_behind ready (go_on o (λ p. on_found p (λ x. instances self goals >>= (λ o. gives (and_next x o)))))
instance_on self ready goals ih (done p u) = instance_step self ready goals ih p u
instance_on self ready goals ih (refused e u) = refl
instance_on self ready goals ih out = refl
instance_on self ready goals ih (need k) = refl

instances_behind : (self : Resolve) (ready goals : List Term) (u : ℕ) → instances_into self ready goals u ≡ all_behind ready (instances self goals u)
instances_behind self ready [] u = ready_behind ready u
instances_behind self ready (goal ∷ goals) u = instance_on self ready goals (λ r v. instances_behind self r goals v) (self goal u)

pub all_instances : (self : Resolve) (goals : List Term) (u : ℕ) → instances self goals u ≡ instances_into self [] goals u
all_instances self goals u = sym (instances_behind self [] goals u ∙ nothing_behind (instances self goals u))
