-- The pis of a candidate's type, one at a time.
use Rattle.std.proofs.Common.{◌≡◌, ℕ, zero, suc, ◌-◌, ◌<◌, Bool, true, false, nat_lt, refl, sym, ap, arith}
use Rattle.std.specs.Prelude.{Option, Some, None}
use Rattle.lf_checker.specs.Run.{Answer, done, refused, out, need, Run, go_on, ◌>>=◌, choose, gives, gives_up, greatest_variable, put, made}
use Rattle.lf_elaboration.specs.Forms.{Binding, as_pi}
use Rattle.lf_elaboration.specs.Metavariables.{count}
use Rattle.lf_resolution.specs.Attempt.{Attempt, with_given}
use Rattle.lf_resolution.specs.Walk.{with_pi, for_pis}

-- What comes after what comes after.
pub twice : {A B C : Type 0} (o : Answer A) (f : A → Run B) (g : B → Run C) → go_on (go_on o f) g ≡ go_on o (λ x u. go_on (f x u) g)
twice (done x u) f g = refl
twice (refused e u) f g = refl
twice out f g = refl
twice (need k) f g = refl

after_two : {A B C D : Type 0} (o : Answer A) (n : Run B) (x : C) (next : C → Run D)
    → go_on (go_on o (λ f. n >>= (λ b. gives x))) next ≡ go_on o (λ f. n >>= (λ b. next x))
after_two (done f v) n x next = twice (n v) (λ b. gives x) next
after_two (refused e v) n x next = refl
after_two out n x next = refl
after_two (need k) n x next = refl

unless : {A B C D : Type 0} (b : Bool) (m : Run A) (n : Run B) (x : C) (next : C → Run D) (u : ℕ)
    → go_on (choose b gives_up (m >>= (λ f. n >>= (λ b. gives x))) u) next ≡ choose b gives_up (m >>= (λ f. n >>= (λ b. next x))) u
unless true m n x next u = refl
unless false m n x next u = after_two (m u) n x next

pi_then : (locals : ℕ) (a : Attempt) (o : Option Binding) (next : Attempt → Run Attempt) (u : ℕ)
    → (o ≡ None → next a u ≡ done a u) → go_on (with_pi locals a o gives u) next ≡ with_pi locals a o next u
pi_then locals a None next u h = h refl
pi_then locals a (Some p) next u h =
    unless (nat_lt greatest_variable (count a.changes)) (put (with_given locals a p).term) (made (with_given locals a p).rest) (with_given locals a p) next u

-- Without a pi nothing changes.
no_pi : (locals n : ℕ) (a : Attempt) (u : ℕ) → as_pi a.rest ≡ None → for_pis locals n a u ≡ done a u
no_pi locals zero a u h = refl
no_pi locals (suc n) a u h = ap (λ o. with_pi locals a o (for_pis locals n) u) h

one_more : (locals n : ℕ) (a : Attempt) (u : ℕ) → for_pis locals (suc n) a u ≡ go_on (with_pi locals a (as_pi a.rest) gives u) (for_pis locals n)
one_more locals n a u = sym (pi_then locals a (as_pi a.rest) (for_pis locals n) u (no_pi locals n a u))

pub one_pi : (locals n : ℕ) (a : Attempt) (u : ℕ) → 0 < n
    → for_pis locals n a u ≡ go_on (with_pi locals a (as_pi a.rest) gives u) (for_pis locals (n - 1))
one_pi locals zero a u h = absurd (omega (arith, h))
one_pi locals (suc n) a u h = let e : suc n - 1 ≡ n = omega arith in rw e (one_more locals n a u)
