-- What the tests at a binder's close and at the end of a part leave known.
use Rattle.std.proofs.Common.{◌≡◌, ℕ, ◌-◌, Bool, true, false, Option, Some, None, length, refl}
use Rattle.lf_elaboration.specs.Metavariables.{unassigned, level_unassigned, escaping}
use Rattle.lf_elaboration.specs.Messages as says
use Rattle.lf_elaboration.specs.Run.{Answer, done, failed, out, need, go_on, gives, choose}
use Rattle.lf_elaboration.specs.Part.{Part, Locals, State, Run, Calls, error}
use Rattle.lf_elaboration.specs.Closing.{run_pending, undetermined_at, levels_from, none_escapes, close}
use Rattle.lf_elaboration.specs.Elaboration as elaboration
use Rattle.lf_elaboration_laws.specs.Closed.{Ends, AllKnown, ClosingDetermines, BinderDetermines}

ends_then : {A B : Type 0} (Q : State → Type 0) (o : Answer State A) (f : A → Run B) → ((x : A) (u : ℕ) (t : State) → Ends Q (f x u t)) → Ends Q (go_on o f)
ends_then Q (done x u t) f h = h x u t
ends_then Q (failed m u t) f h = tt
ends_then Q (out t) f h = tt
ends_then Q (need k) f h = tt

-- With what is known behind the first.
ends_with : {A B : Type 0} (R Q : State → Type 0) (o : Answer State A) (f : A → Run B) → Ends R o → ((x : A) (u : ℕ) (t : State) → R t → Ends Q (f x u t))
    → Ends Q (go_on o f)
ends_with R Q (done x u t) f g h = h x u t g
ends_with R Q (failed m u t) f g h = tt
ends_with R Q (out t) f g h = tt
ends_with R Q (need k) f g h = tt

-- A test on the state passes where it finds nothing.
passes : (Q : State → Type 0) (s : State) (u : ℕ) (o : Option ℕ) (f : Unit {0} → Run (Unit {0})) → (o ≡ None → Ends Q (f tt u s))
    → Ends Q (go_on (undetermined_at o u s) f)
passes Q s u (Some at) f h = tt
passes Q s u None f h = h refl

level_known : (P : Part) (k j : ℕ) (b : Bool) (u : ℕ) (s : State) → unassigned s.changes k ≡ None → level_unassigned s.changes j ≡ b
    → Ends (AllKnown k (Some j)) (choose {A = Unit {0}} b (error P.place says.undetermined_level) (gives {A = Unit {0}} tt) u s)
level_known P k j true u s h e = tt
level_known P k j false u s h e = (h, e)

levels_known : (P : Part) (k : ℕ) (o : Option ℕ) (u : ℕ) (s : State) → unassigned s.changes k ≡ None → Ends (AllKnown k o) (levels_from P o u s)
levels_known P k None u s h = h
levels_known P k (Some j) u s h = level_known P k j (level_unassigned s.changes j) u s h refl

pub all_known : (P : Part) (c : Calls) (L : Locals) (k : ℕ) (o : Option ℕ) (u : ℕ) (w : State) → Ends (AllKnown k o) (close P c L k o u w)
all_known P c L k o u w =
    ends_then (AllKnown k o) (run_pending P c L k u w) _
    (λ x v s. passes (AllKnown k o) s v (unassigned s.changes k) (λ y. levels_from P o) (levels_known P k o v s))

pub closing_determines : ClosingDetermines
closing_determines P n L k o u w = all_known P (elaboration.calls P n) L k o u w

pub binder_determines : BinderDetermines
binder_determines P n L k u w =
    ends_with (AllKnown k None) (λ s. (unassigned s.changes k ≡ None) × (escaping s.changes (length L.types - 1) ≡ None))
    (close P (elaboration.calls P n) L k None u w) (λ x. none_escapes (length L.types - 1)) (all_known P (elaboration.calls P n) L k None u w)
    (λ x v s h. at s v h (escaping s.changes (length L.types - 1)) refl)
  where
    at : (s : State) (v : ℕ) → unassigned s.changes k ≡ None → (o : Option ℕ) → escaping s.changes (length L.types - 1) ≡ o
        → Ends (λ r. (unassigned r.changes k ≡ None) × (escaping r.changes (length L.types - 1) ≡ None)) (undetermined_at o v s)
    at s v h (Some p) e = tt
    at s v h None e = (h, e)
