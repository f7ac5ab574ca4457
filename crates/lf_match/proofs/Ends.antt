-- An end of a step is the end of what begins with it.
use Rattle.std.proofs.Common.{◌≡◌, ℕ, ◌-◌, Bool, true, false, nat_lt, ap, refl}
use Rattle.std.specs.Prelude.{if◌then◌else◌, Option, Some, None, Result, Ok, Err}
use Rattle.lf_checker.specs.Run.{Answer, done, refused, out, need, Run, go_on, spend}
use Rattle.lf_equations.specs.Outcome as outcome
use Rattle.lf_equations.specs.declared.fault.EquationFault.TheVariants.{NotInductive}
use Rattle.lf_equations.specs.Outcome.{Outcome, Compiling, or_fault}
use Rattle.lf_steps.proofs.Runs.{halts}
use Rattle.lf_match.specs.declared.ended.Ended.{Ended}
use Rattle.lf_match.specs.declared.ended.Ended.TheVariants.{Fault, Halted}
use Rattle.lf_steps.specs.Runs as steps
use Rattle.lf_steps.specs.Runs.{RunsAs}
use Rattle.lf_match.specs.Compiles.{ended, CompilesAs, Rose, settled_result}
use Rattle.lf_match.specs.Parts.{on_some, spend_one}
use Rattle.lf_match.specs.Values.{outcome_of}

pub step_ends : {A B : Type 0} (o : Answer (Outcome A)) (f : A → Compiling B) (e : Ended) (u : ℕ) → o ≡ ended e u → go_on o (outcome.go_on f) ≡ ended e u
step_ends o f (Fault e) u h = ap (λ p. go_on p (outcome.go_on f)) h
step_ends o f (Halted h) u e = halts o (outcome.go_on f) h u e

-- ---- Runs and what follows them

pub runs_then : {A B : Type 0} (o : Answer A) (f : A → Compiling B) → go_on (go_on o outcome.gives) (outcome.go_on f) ≡ go_on o f
runs_then (done x u) f = refl
runs_then (refused e u) f = refl
runs_then out f = refl
runs_then (need k) f = refl

pub wanted_or : {A B : Type 0} (o : Option A) (f : A → Compiling B) (u : ℕ) → go_on (or_fault NotInductive o u) (outcome.go_on f) ≡ on_some o f u
wanted_or None f u = refl
wanted_or (Some x) f u = refl

pub wanted_then : {A B : Type 0} (o : Answer (Option A)) (f : A → Compiling B)
    → go_on (go_on (go_on o outcome.gives) (outcome.go_on (or_fault NotInductive))) (outcome.go_on f) ≡ go_on o (λ x. on_some x f)
wanted_then (done x u) f = wanted_or x f u
wanted_then (refused e u) f = refl
wanted_then out f = refl
wanted_then (need k) f = refl

pub on_same : {A B : Type 0} (o : Option A) (f g : A → Compiling B) (u : ℕ) → ((x : A) (v : ℕ) → f x v ≡ g x v) → on_some o f u ≡ on_some o g u
on_same None f g u h = refl
on_same (Some x) f g u h = h x u

pub goes_same : {A B : Type 0} (o : Answer A) (f g : A → Run B) → ((x : A) (v : ℕ) → f x v ≡ g x v) → go_on o f ≡ go_on o g
goes_same (done x u) f g h = h x u
goes_same (refused e u) f g h = refl
goes_same out f g h = refl
goes_same (need k) f g h = refl

pub settled_runs : {A B : Type 0} (f : A → B) (o : Answer (Outcome B)) (r : Result A Ended) (u : ℕ) → CompilesAs f o r u → RunsAs (outcome_of f) o (settled_result r) u
settled_runs f o (Ok a) u h = h
settled_runs f o (Err (Fault e)) u h = h tt
settled_runs f o (Err (Halted h)) u k = k

pub settled_rose : {A : Type 0} (r : Result A Ended) (before after : ℕ) → Rose r before after → steps.Rose (settled_result r) before after
settled_rose (Ok a) before after h = h
settled_rose (Err (Fault e)) before after h = tt
settled_rose (Err (Halted h)) before after k = λ e. k (ap Halted e)

spent : {A : Type 0} (b : Bool) (m : Run A) (u : ℕ) → (if b then out else m (u - 1)) ≡ go_on {A = Unit {0}} (if b then out else done tt (u - 1)) (λ x. m)
spent true m u = refl
spent false m u = refl

pub spends : {A : Type 0} (m : Run A) (u : ℕ) → spend 1 m u ≡ go_on (spend_one u) (λ x. m)
spends m u = spent (nat_lt u 1) m u
