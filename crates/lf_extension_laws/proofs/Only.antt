-- Two properties of the checker's answers at once, through the ways to put runs together: whether they may be refusals, and which tasks they may
-- wait for.
use Rattle.std.proofs.Common.{ℕ, ◌-◌, Bool, true, false, nat_lt, if◌then◌else◌, List, [], length}
use Rattle.lf_core.specs.Term.{Path, Term}
use Rattle.lf_core.specs.Spine.{apply}
use Rattle.lf_core.specs.Size.{node_count, depth}
use Rattle.lf_core.specs.declared.constant.TaskKey.{TaskKey}
use Rattle.lf_rules.specs.Environment.{Context, opened}
use Rattle.lf_checker.specs.View.{View, KnownBody, value, opaque, unresolved, body_of, There, there, not_there, not_known, there_of}
use Rattle.lf_checker.specs.Run.{
  Answer,
  done,
  refused,
  out,
  need,
  Run,
  go_on,
  gives,
  gives_up,
  spend,
  caught,
  named_in,
  choose,
  put,
  made_before,
  made,
  opening,
  greatest_depth,
  greatest_variable,
}
use Rattle.lf_checker.specs.Calls.{Mode, Calls, Seen, known, unknown, missing, see}

abbrev pub May : Bool → Type 0
May true = Unit {0}
May false = ⊥

abbrev pub Only : Bool → (TaskKey → Type 0) → {A : Type 0} → Answer A → Type 0
Only may Key (done x u) = Unit {0}
Only may Key (refused e u) = May may
Only may Key out = Unit {0}
Only may Key (need k) = Key k

-- What a view answers with a need, by such keys.
abbrev pub SeenIn : (TaskKey → Type 0) → Seen → Type 0
SeenIn Key (known c) = Unit {0}
SeenIn Key unknown = Unit {0}
SeenIn Key (missing k) = Key k

abbrev pub BodyIn : (TaskKey → Type 0) → KnownBody → Type 0
BodyIn Key (value v h) = Unit {0}
BodyIn Key opaque = Unit {0}
BodyIn Key (unresolved k) = Key k

abbrev pub ThereIn : (TaskKey → Type 0) → There → Type 0
ThereIn Key (there p) = Unit {0}
ThereIn Key not_there = Unit {0}
ThereIn Key (not_known k) = Key k

pub record Reads (V : View) (Key : TaskKey → Type 0) : Type 0 where
  pub sees : (n : Path) → SeenIn Key (see V n)
  pub bodies : (n : Path) → BodyIn Key (body_of V n)
  pub theres : (n : Path) → ThereIn Key (there_of V n)

-- Only inference refuses.
pub record Asks (Key : TaskKey → Type 0) (c : Calls) : Type 0 where
  pub whnf : (may d : Bool) (C : Context) (t : Term) (u : ℕ) → Only may Key (c.whnf d C t u)
  pub equal : (may : Bool) (C : Context) (a b : Term) (u : ℕ) → Only may Key (c.equal C a b u)
  pub infer : (m : Mode) (C : Context) (t : Term) (u : ℕ) → Only true Key (c.infer m C t u)
  pub normalize : (may : Bool) (C : Context) (t : Term) (u : ℕ) → Only may Key (c.normalize C t u)

pub only_then : {A B : Type 0} (may : Bool) (Key : TaskKey → Type 0) (o : Answer A) (f : A → Run B) → Only may Key o
    → ((x : A) (u : ℕ) → Only may Key (f x u)) → Only may Key (go_on o f)
only_then may Key (done x u) f h k = k x u
only_then may Key (refused e u) f h k = h
only_then may Key out f h k = tt
only_then may Key (need i) f h k = h

pub only_spend : {A : Type 0} (may : Bool) (Key : TaskKey → Type 0) (n : ℕ) (m : Run A) (u : ℕ) → ((v : ℕ) → Only may Key (m v))
    → Only may Key (spend n m u)
only_spend {A = A} may Key n m u h = at (nat_lt u n)
  where
    at : (b : Bool) → Only may Key {A = A} (if b then out else m (u - n))
    at true = tt
    at false = h (u - n)

pub only_caught : {A : Type 0} (may : Bool) (Key : TaskKey → Type 0) (o : Answer A) → Only true Key o → Only may Key (caught o)
only_caught may Key (done x u) h = tt
only_caught may Key (refused e u) h = tt
only_caught may Key out h = tt
only_caught may Key (need i) h = h

pub only_named : {A : Type 0} (may : Bool) (Key : TaskKey → Type 0) (x : Path) (o : Answer A) → Only may Key o → Only may Key (named_in x o)
only_named may Key x (done y u) h = tt
only_named may Key x (refused e u) h = h
only_named may Key x out h = tt
only_named may Key x (need i) h = h

pub only_choose : {A : Type 0} (may : Bool) (Key : TaskKey → Type 0) (b : Bool) (m n : Run A) (u : ℕ) → Only may Key (m u) → Only may Key (n u)
    → Only may Key (choose b m n u)
only_choose may Key true m n u h k = h
only_choose may Key false m n u h k = k

pub only_put : (may : Bool) (Key : TaskKey → Type 0) (t : Term) (u : ℕ) → Only may Key (put t u)
only_put may Key t u = only_choose may Key (nat_lt greatest_depth (depth t)) gives_up (gives t) u tt tt

pub only_made : (may : Bool) (Key : TaskKey → Type 0) (xs : List Term) (t : Term) (u : ℕ) → Only may Key (made_before xs t u)
only_made may Key xs t u = only_spend may Key (node_count t) (put (apply t xs)) u (λ v. only_put may Key (apply t xs) v)

pub only_opening : (may : Bool) (Key : TaskKey → Type 0) (C : Context) (b : Term) (u : ℕ) → Only may Key (opening C b u)
only_opening may Key C b u = only_choose may Key (nat_lt greatest_variable (length C)) gives_up (made (opened C b)) u tt (only_made may Key [] (opened C b) u)
