-- Runs of which the second tells all that the first tells, through the ways to put runs together.
use Rattle.std.proofs.Common.{ℕ, ◌-◌, Bool, true, false, nat_lt, if◌then◌else◌, refl, subst}
use Rattle.lf_checker.specs.Run as checker
use Rattle.lf_checker.specs.Run.{Refusal}
use Rattle.lf_extension_laws.specs.Extension as checking
use Rattle.lf_elaboration.specs.Metavariables.{Changes}
use Rattle.lf_elaboration.specs.Run.{Answer, done, failed, out, need, Run, go_on, gives_up, choose, or_else_fail, spend, answered, checks, as_before}
use Rattle.lf_elaboration_laws.specs.Extension.{Kept}

pub kept_self : {S A : Type 0} (o : Answer S A) → Kept o o
kept_self (done x u s) = refl
kept_self (failed m u s) = refl
kept_self (out s) = refl
kept_self (need k) = tt

pub kept_then : {S A B : Type 0} (o p : Answer S A) (f g : A → Run S B) → Kept o p → ((x : A) (u : ℕ) (s : S) → Kept (f x u s) (g x u s))
    → Kept (go_on o f) (go_on p g)
kept_then (done x u s) p f g h k = subst (λ q. Kept (f x u s) (go_on q g)) h (k x u s)
kept_then (failed m u s) p f g h k = subst (λ q. Kept (failed m u s) (go_on q g)) h refl
kept_then (out s) p f g h k = subst (λ q. Kept (out s) (go_on q g)) h refl
kept_then (need n) p f g h k = tt

pub kept_choose : {S A : Type 0} (b : Bool) (m n k l : Run S A) (u : ℕ) (s : S) → Kept (m u s) (k u s) → Kept (n u s) (l u s)
    → Kept (choose b m n u s) (choose b k l u s)
kept_choose true m n k l u s h g = h
kept_choose false m n k l u s h g = g

pub kept_or_fail : {S : Type 0} (b : Bool) (m k : Run S (Unit {0})) (u : ℕ) (s : S) → Kept (m u s) (k u s)
    → Kept (or_else_fail b m u s) (or_else_fail b k u s)
kept_or_fail true m k u s h = refl
kept_or_fail false m k u s h = h

pub kept_spend : {S A : Type 0} (n : ℕ) (m k : Run S A) (u : ℕ) (s : S) → ((v : ℕ) → Kept (m v s) (k v s)) → Kept (spend n m u s) (spend n k u s)
kept_spend {S} {A} n m k u s h = at (nat_lt u n)
  where
    at : (b : Bool) → Kept {A = A} (if b then out s else m (u - n) s) (if b then out s else k (u - n) s)
    at true = refl
    at false = h (u - n)

-- The checker's answers.
pub kept_answered : {S A : Type 0} (h k : Refusal → Run S A) (s : S) (o p : checker.Answer A) → checking.Kept o p
    → ((e : Refusal) (u : ℕ) → Kept (h e u s) (k e u s)) → Kept (answered h s o) (answered k s p)
kept_answered h k s (checker.done x u) p e f = subst (λ q. Kept (done x u s) (answered k s q)) e refl
kept_answered h k s (checker.refused r u) p e f = subst (λ q. Kept (h r u s) (answered k s q)) e (f r u)
kept_answered {S} {A} h k s checker.out p e f = subst (λ q. Kept {A = A} (out s) (answered k s q)) e refl
kept_answered h k s (checker.need n) p e f = tt

pub kept_checks : {S A : Type 0} (m n : checker.Run A) (u : ℕ) (s : S) → checking.Kept (m u) (n u) → Kept (checks m u s) (checks n u s)
kept_checks m n u s h = kept_answered (λ e. gives_up) (λ e. gives_up) s (m u) (n u) h (λ e v. kept_self (out s))

pub kept_before : (cs : Changes) (o p : Answer Changes Bool) → Kept o p → Kept (as_before cs o) (as_before cs p)
kept_before cs (done true u s) p h = subst (λ q. Kept (done true u s) (as_before cs q)) h refl
kept_before cs (done false u s) p h = subst (λ q. Kept (as_before cs (done false u s)) (as_before cs q)) h refl
kept_before cs (failed m u s) p h = subst (λ q. Kept (as_before cs (failed m u s)) (as_before cs q)) h refl
kept_before cs (out s) p h = subst (λ q. Kept (as_before cs (out s)) (as_before cs q)) h refl
kept_before cs (need k) p h = tt
