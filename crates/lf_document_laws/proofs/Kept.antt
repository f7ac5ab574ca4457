-- Tasks of which the second gives all that the first gives, through the ways to put tasks together.
use Rattle.std.proofs.Common.{ℕ, Bool, true, false, refl, subst}
use Rattle.lf_elaboration.specs.Run as run
use Rattle.lf_elaboration.specs.Part.{State, Run}
use Rattle.lf_elaboration_laws.specs.Extension as elaborating
use Rattle.lf_elaboration_laws.proofs.Kept as kept_run
use Rattle.lf_document.specs.Task.{Log, Attempt, done, need, Task, go_on, choose, Judged, right, judged, ended, fresh_state, in_part}
use Rattle.lf_document.specs.TaskValue.{outcome}
use Rattle.lf_document.specs.Constants.{Made}
use Rattle.lf_document_laws.specs.Extension.{Kept, KeptOutcome}

pub kept_self : {A : Type 0} (o : Attempt A) → Kept o o
kept_self (done x g) = refl
kept_self (need k) = tt

pub kept_then : {A B : Type 0} (o p : Attempt A) (f g : A → Task B) → Kept o p → ((x : A) (l : Log) → Kept (f x l) (g x l))
    → Kept (go_on o f) (go_on p g)
kept_then (done x l) p f g h k = subst (λ q. Kept (f x l) (go_on q g)) h (k x l)
kept_then (need n) p f g h k = tt

pub kept_choose : {A : Type 0} (b : Bool) (m n k l : Task A) (g : Log) → Kept (m g) (k g) → Kept (n g) (l g) → Kept (choose b m n g) (choose b k l g)
kept_choose true m n k l g h i = h
kept_choose false m n k l g h i = i

kept_ended : {A : Type 0} (place : ℕ) (g : Log) (o p : run.Answer State (Judged A)) → elaborating.Kept o p → Kept (ended place g o) (ended place g p)
kept_ended place g (run.done x u s) p h = subst (λ q. Kept (ended place g (run.done x u s)) (ended place g q)) h (kept_self (ended place g (run.done x u s)))
kept_ended place g (run.failed m u s) p h =
    subst (λ q. Kept (ended place g (run.failed m u s)) (ended place g q)) h (kept_self (ended place g (run.failed m u s)))
kept_ended place g (run.out s) p h = subst (λ q. Kept (ended place g (run.out s)) (ended place g q)) h (kept_self (ended place g (run.out s)))
kept_ended place g (run.need k) p h = tt

pub kept_part : {A : Type 0} (units place : ℕ) (m k : Run (Judged A)) (g : Log)
    → ((u : ℕ) (s : State) → elaborating.Kept (m u s) (k u s)) → Kept (in_part units place m g) (in_part units place k g)
kept_part units place m k g h = kept_ended place g (m units (fresh_state g)) (k units (fresh_state g)) (h units (fresh_state g))

pub kept_judged : {A : Type 0} (m k : Run A) (u : ℕ) (s : State) → elaborating.Kept (m u s) (k u s)
    → elaborating.Kept (judged m u s) (judged k u s)
kept_judged m k u s h =
    kept_run.kept_then (m u s) (k u s) (λ x. run.gives (right x)) (λ x. run.gives (right x)) h (λ x v t. refl)

pub kept_outcome : (o p : Attempt Made) → Kept o p → KeptOutcome (outcome o) (outcome p)
kept_outcome (done m g) p h = subst (λ q. KeptOutcome (outcome (done m g)) (outcome q)) h refl
kept_outcome (need k) p h = tt
