-- What holds of the values of runs; and that a second run is kept where what follows is kept for these values.
use Rattle.std.proofs.Common.{◌≡◌, ℕ, Bool, true, false, List, [], ◌++◌, Option, Some, None, refl, subst}
use Rattle.lf_core.specs.Term.{Path, Universe, Term}
use Rattle.lf_checker.specs.View.{View, There, there, not_there, not_known, there_of}
use Rattle.lf_checker.specs.Run as checker
use Rattle.lf_checker.specs.Run.{refuse}
use Rattle.lf_checker.specs.Calls.{checked}
use Rattle.lf_checker.specs.Infer.{sort_of}
use Rattle.lf_checker.specs.Checker.{calls, is_closed, unless_there, add_header}
use Rattle.lf_checker.specs.declared.fault.TypeFault.TheVariants.{NotClosed}
use Rattle.lf_checker.specs.declared.fault.TypeFault.{TypeFault}
use Rattle.lf_checker.specs.declared.fault.TypeFault.TheVariants as fault
use Rattle.lf_extension_laws.specs.Extension as checking
use Rattle.lf_elaboration.specs.Run as run
use Rattle.lf_elaboration.specs.Run.{Answer, done, failed, out, need, go_on, answered}
use Rattle.lf_elaboration.specs.Part as part
use Rattle.lf_elaboration.specs.Part.{Part, Locals, State, refusal_at}
use Rattle.lf_elaboration_laws.specs.Extension.{Kept}
use Rattle.lf_document.specs.Task as task

-- ---- Of the checker

abbrev pub Gives : {A : Type 0} → (A → Type 0) → checker.Answer A → Type 0
Gives P (checker.done x u) = P x
Gives P (checker.refused e u) = Unit {0}
Gives P checker.out = Unit {0}
Gives P (checker.need k) = Unit {0}

pub gives_then : {A B : Type 0} (P : B → Type 0) (o : checker.Answer A) (f : A → checker.Run B) → ((x : A) (u : ℕ) → Gives P (f x u))
    → Gives P (checker.go_on o f)
gives_then P (checker.done x u) f h = h x u
gives_then P (checker.refused e u) f h = tt
gives_then P checker.out f h = tt
gives_then P (checker.need k) f h = tt

-- With what holds of the first run's value.
pub gives_with : {A B : Type 0} (Q : A → Type 0) (P : B → Type 0) (o : checker.Answer A) (f : A → checker.Run B) → Gives Q o
    → ((x : A) (u : ℕ) → Q x → Gives P (f x u)) → Gives P (checker.go_on o f)
gives_with Q P (checker.done x u) f g h = h x u g
gives_with Q P (checker.refused e u) f g h = tt
gives_with Q P checker.out f g h = tt
gives_with Q P (checker.need k) f g h = tt

pub gives_all : {A : Type 0} (P : A → Type 0) (o : checker.Answer A) → ((x : A) → P x) → Gives P o
gives_all P (checker.done x u) h = h x
gives_all P (checker.refused e u) h = tt
gives_all P checker.out h = tt
gives_all P (checker.need k) h = tt

pub gives_choose : {A : Type 0} (P : A → Type 0) (b : Bool) (m n : checker.Run A) (u : ℕ) → Gives P (m u) → Gives P (n u) → Gives P (checker.choose b m n u)
gives_choose P true m n u h g = h
gives_choose P false m n u h g = g

pub gives_unless : {A : Type 0} (P : A → Type 0) (n : Path) (s : There) (m : checker.Run A) (u : ℕ) → (s ≡ not_there → Gives P (m u))
    → Gives P (unless_there n s m u)
gives_unless P n (there p) m u h = tt
gives_unless P n not_there m u h = h refl
gives_unless P n (not_known k) m u h = tt

-- The name of a header that is accepted isn't there.
pub gives_header : (V : View) (depth : ℕ) (n : Path) (T : Term) (u : ℕ) → Gives (λ l. there_of V n ≡ not_there) (add_header V depth n T u)
gives_header V depth n T u =
    let new : Universe → Type 0 = λ l. there_of V n ≡ not_there in
    gives_choose new (is_closed T) (unless_there n (there_of V n) (sort_of (calls V depth) checked [] T)) (refuse NotClosed) u
    (gives_unless new n (there_of V n) (sort_of (calls V depth) checked [] T) u (λ e. gives_all new _ (λ l. e))) tt

pub kept_given : {A B : Type 0} (P : A → Type 0) (o p : checker.Answer A) (f g : A → checker.Run B) → Gives P o → checking.Kept o p
    → ((x : A) (u : ℕ) → P x → checking.Kept (f x u) (g x u)) → checking.Kept (checker.go_on o f) (checker.go_on p g)
kept_given P (checker.done x u) p f g h k i = subst (λ q. checking.Kept (f x u) (checker.go_on q g)) k (i x u h)
kept_given P (checker.refused e u) p f g h k i = subst (λ q. checking.Kept (checker.refused e u) (checker.go_on q g)) k refl
kept_given P checker.out p f g h k i = subst (λ q. checking.Kept checker.out (checker.go_on q g)) k refl
kept_given P (checker.need n) p f g h k i = tt

-- ---- Of elaboration

abbrev pub Makes : {A : Type 0} → (A → Type 0) → Answer State A → Type 0
Makes P (done x u s) = P x
Makes P (failed m u s) = Unit {0}
Makes P (out s) = Unit {0}
Makes P (need k) = Unit {0}

pub makes_then : {A B : Type 0} (P : B → Type 0) (o : Answer State A) (f : A → part.Run B) → ((x : A) (u : ℕ) (s : State) → Makes P (f x u s))
    → Makes P (go_on o f)
makes_then P (done x u s) f h = h x u s
makes_then P (failed m u s) f h = tt
makes_then P (out s) f h = tt
makes_then P (need k) f h = tt

pub makes_with : {A B : Type 0} (Q : A → Type 0) (P : B → Type 0) (o : Answer State A) (f : A → part.Run B) → Makes Q o
    → ((x : A) (u : ℕ) (s : State) → Q x → Makes P (f x u s)) → Makes P (go_on o f)
makes_with Q P (done x u s) f g h = h x u s g
makes_with Q P (failed m u s) f g h = tt
makes_with Q P (out s) f g h = tt
makes_with Q P (need k) f g h = tt

pub kept_made : {A B : Type 0} (P : A → Type 0) (o p : Answer State A) (f g : A → part.Run B) → Makes P o → Kept o p
    → ((x : A) (u : ℕ) (s : State) → P x → Kept (f x u s) (g x u s)) → Kept (go_on o f) (go_on p g)
kept_made P (done x u s) p f g h k i = subst (λ q. Kept (f x u s) (go_on q g)) k (i x u s h)
kept_made P (failed m u s) p f g h k i = subst (λ q. Kept (failed m u s) (go_on q g)) k refl
kept_made P (out s) p f g h k i = subst (λ q. Kept (out s) (go_on q g)) k refl
kept_made P (need n) p f g h k i = tt

-- A refusal of the kernel makes no value.
refusal_makes : {A : Type 0} (Q : A → Type 0) (P : Part) (names : List Path) (at : ℕ) (f : TypeFault) (u : ℕ) (s : State)
    → Makes Q (part.fault_at P names at f u s)
refusal_makes Q P names at (fault.Unknown n) u s = tt
refusal_makes Q P names at (fault.Levels n) u s = tt
refusal_makes Q P names at (fault.NotFunction T) u s = search makes_then depth 8
refusal_makes Q P names at (fault.Argument S T) u s = search makes_then depth 10
refusal_makes Q P names at (fault.NotType T) u s = search makes_then depth 8
refusal_makes Q P names at (fault.Value S T) u s = search makes_then depth 10
refusal_makes Q P names at fault.NotClosed u s = tt
refusal_makes Q P names at (fault.NotStructure T) u s = search makes_then depth 8
refusal_makes Q P names at (fault.NotPositive n k) u s = tt
refusal_makes Q P names at (fault.BadResult n) u s = tt
refusal_makes Q P names at (fault.LevelTooHigh n k) u s = tt
refusal_makes Q P names at fault.BadType u s = tt
refusal_makes Q P names at (fault.Duplicate n p) u s = tt

pub makes_answered : {A : Type 0} (Q : A → Type 0) (P : Part) (L : Locals) (at : ℕ) (s : State) (o : checker.Answer A) → Gives Q o
    → Makes Q (answered (refusal_at P L at) s o)
makes_answered Q P L at s (checker.done x u) h = h
makes_answered Q P L at s (checker.refused e u) h = refusal_makes Q P (L.names ++ e.opened) at e.fault u s
makes_answered Q P L at s checker.out h = tt
makes_answered Q P L at s (checker.need k) h = tt

-- ---- Of tasks

abbrev pub Leaves : {A : Type 0} → (A → Type 0) → task.Attempt A → Type 0
Leaves P (task.done x g) = P x
Leaves P (task.need k) = Unit {0}

pub leaves_with : {A B : Type 0} (Q : A → Type 0) (P : B → Type 0) (o : task.Attempt A) (f : A → task.Task B) → Leaves Q o
    → ((x : A) (g : task.Log) → Q x → Leaves P (f x g)) → Leaves P (task.go_on o f)
leaves_with Q P (task.done x g) f k h = h x g k
leaves_with Q P (task.need n) f k h = tt

-- ---- Of parts

-- Of the value that a part comes to.
abbrev pub OfRight : {A : Type 0} → (A → Type 0) → task.Judged A → Type 0
OfRight P (task.right x) = P x
OfRight P (task.wrong at d) = Unit {0}

abbrev pub OfValue : {A : Type 0} → (A → Type 0) → Option A → Type 0
OfValue P (Some x) = P x
OfValue P None = Unit {0}

pub makes_judged : {A : Type 0} (P : A → Type 0) (m : part.Run A) (u : ℕ) (s : State) → Makes P (m u s) → Makes (OfRight P) (task.judged m u s)
makes_judged P m u s h = makes_with P (OfRight P) (m u s) (λ x. run.gives (task.right x)) h (λ x v t g. g)

leaves_ended : {A : Type 0} (P : A → Type 0) (place : ℕ) (g : task.Log) (o : Answer State (task.Judged A)) → Makes (OfRight P) o
    → Leaves (λ r. OfValue P r.value) (task.ended place g o)
leaves_ended P place g (done (task.right x) u s) h = h
leaves_ended P place g (done (task.wrong at d) u s) h = tt
leaves_ended P place g (failed m u s) h = tt
leaves_ended P place g (out s) h = tt
leaves_ended P place g (need k) h = tt

pub leaves_part : {A : Type 0} (P : A → Type 0) (units place : ℕ) (m : part.Run (task.Judged A)) (g : task.Log)
    → ((u : ℕ) (s : State) → Makes (OfRight P) (m u s)) → Leaves (λ r. OfValue P r.value) (task.in_part units place m g)
leaves_part P units place m g h = leaves_ended P place g (m units (task.fresh_state g)) (h units (task.fresh_state g))
