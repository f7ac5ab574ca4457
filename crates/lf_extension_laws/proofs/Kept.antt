-- Runs of which the second tells all that the first tells, through the ways to put runs together.
use Rattle.std.proofs.Common.{◌≡◌, ℕ, ◌-◌, Bool, true, false, nat_lt, if◌then◌else◌, Some, None, refl, sym, ap, subst}
use Rattle.lf_core.specs.Term.{Path, Term, pi}
use Rattle.lf_core.specs.declared.constant.ConstInfo.{ConstInfo}
use Rattle.lf_core.specs.declared.constant.TaskKey.{TaskKey}
use Rattle.lf_checker.specs.View.{View, Lookup, found, absent, need_body, need_real, lookup_of, KnownBody, value, opaque, unresolved, found_body, body_of}
use Rattle.lf_checker.specs.Extends.{shape_of, SameFound, SameLookup, SameBody, Tells}
use Rattle.lf_checker.specs.Run.{Answer, done, refused, out, need, Run, go_on, choose, spend, caught, named_in}
use Rattle.lf_checker.specs.Calls.{Seen, known, unknown, missing, seen_as, see}
use Rattle.lf_checker.specs.Infer.{on_pi}
use Rattle.lf_extension_laws.specs.Extension.{Kept}

pub kept_self : {A : Type 0} (o : Answer A) → Kept o o
kept_self (done x u) = refl
kept_self (refused e u) = refl
kept_self out = refl
kept_self (need k) = tt

pub kept_then : {A B : Type 0} (o p : Answer A) (f g : A → Run B) → Kept o p → ((x : A) (u : ℕ) → Kept (f x u) (g x u)) → Kept (go_on o f) (go_on p g)
kept_then (done x u) p f g h k = subst (λ q. Kept (f x u) (go_on q g)) h (k x u)
kept_then (refused e u) p f g h k = subst (λ q. Kept (refused e u) (go_on q g)) h refl
kept_then out p f g h k = subst (λ q. Kept out (go_on q g)) h refl
kept_then (need n) p f g h k = tt

pub kept_caught : {A : Type 0} (o p : Answer A) → Kept o p → Kept (caught o) (caught p)
kept_caught (done x u) p h = subst (λ q. Kept (done (Some x) u) (caught q)) h refl
kept_caught (refused e u) p h = subst (λ q. Kept (done None u) (caught q)) h refl
kept_caught out p h = subst (λ q. Kept out (caught q)) h refl
kept_caught (need n) p h = tt

pub kept_named : {A : Type 0} (x : Path) (o p : Answer A) → Kept o p → Kept (named_in x o) (named_in x p)
kept_named x (done a u) p h = subst (λ q. Kept (done a u) (named_in x q)) h refl
kept_named x (refused e u) p h = subst (λ q. Kept (named_in x (refused e u)) (named_in x q)) h refl
kept_named x out p h = subst (λ q. Kept out (named_in x q)) h refl
kept_named x (need n) p h = tt

pub kept_spend : {A : Type 0} (n : ℕ) (m k : Run A) (u : ℕ) → ((v : ℕ) → Kept (m v) (k v)) → Kept (spend n m u) (spend n k u)
kept_spend n m k u h = at (nat_lt u n)
  where
    at : (b : Bool) → Kept (if b then out else m (u - n)) (if b then out else k (u - n))
    at true = refl
    at false = h (u - n)

pub kept_on_pi : {A : Type 0} (F P : Term) (k l : Term → Term → Run A) (u : ℕ) → ((X B : Term) → Kept (k X B u) (l X B u))
    → Kept (on_pi F P k u) (on_pi F P l u)
kept_on_pi F (pi x X B) k l u h = h X B
kept_on_pi F _ k l u h = refl

pub kept_choose : {A : Type 0} (b : Bool) (m n k l : Run A) (u : ℕ) → Kept (m u) (k u) → Kept (n u) (l u) → Kept (choose b m n u) (choose b k l u)
kept_choose true m n k l u h g = h
kept_choose false m n k l u h g = g

-- What is seen of constants and bodies.

abbrev pub SameSeen : Seen → Seen → Type 0
SameSeen (missing k) s = Unit {0}
SameSeen s t = s ≡ t

found_seen : (n : Path) (c : ConstInfo) (m : Lookup) → SameFound c m → known (shape_of c) ≡ seen_as n m
found_seen n c (found d) h = ap known h
found_seen n c absent h = absurd h
found_seen n c (need_body p) h = absurd h
found_seen n c need_real h = absurd h

same_seen : (n : Path) (l m : Lookup) → SameLookup l m → SameSeen (seen_as n l) (seen_as n m)
same_seen n (found c) m h = found_seen n c m h
same_seen n absent m h = ap (seen_as n) h
same_seen n (need_body p) m h = tt
same_seen n need_real m h = tt

pub see_kept : (U V : View) → Tells V U → (n : Path) → SameSeen (see U n) (see V n)
see_kept U V x n = same_seen n (lookup_of U n) (lookup_of V n) (x.lookups n)

absent_body : (U V : View) (n : Path) (m : Lookup) → absent ≡ m → SameBody opaque (found_body V n m)
absent_body U V n m h = subst (λ l. SameBody opaque (found_body V n l)) h refl

body_by : (U V : View) → Tells V U → (n : Path) (l : Lookup) → lookup_of U n ≡ l → SameBody (found_body U n l) (body_of V n)
body_by U V x n (found c) e = subst (λ l. SameBody (found_body U n l) (body_of V n)) e (x.bodies n c e)
body_by U V x n absent e = absent_body U V n (lookup_of V n) (subst (λ l. SameLookup l (lookup_of V n)) e (x.lookups n))
body_by U V x n (need_body p) e = tt
body_by U V x n need_real e = tt

pub body_kept : (U V : View) → Tells V U → (n : Path) → SameBody (body_of U n) (body_of V n)
body_kept U V x n = body_by U V x n (lookup_of U n) refl

-- By what is seen, where the first run has nothing but the need.
pub kept_seen : {A : Type 0} (s t : Seen) (f g : Seen → Answer A) → ((k : TaskKey) → f (missing k) ≡ need k) → ((r : Seen) → Kept (f r) (g r)) → SameSeen s t
    → Kept (f s) (g t)
kept_seen (known c) t f g w h e = subst (λ r. Kept (f (known c)) (g r)) e (h (known c))
kept_seen unknown t f g w h e = subst (λ r. Kept (f unknown) (g r)) e (h unknown)
kept_seen (missing k) t f g w h e = subst (λ r. Kept r (g t)) (sym (w k)) tt

pub kept_body : {A : Type 0} (a b : KnownBody) (f g : KnownBody → Answer A) → ((k : TaskKey) → f (unresolved k) ≡ need k) → ((r : KnownBody) → Kept (f r) (g r))
    → SameBody a b → Kept (f a) (g b)
kept_body (value v n) b f g w h e = subst (λ r. Kept (f (value v n)) (g r)) e (h (value v n))
kept_body opaque b f g w h e = subst (λ r. Kept (f opaque) (g r)) e (h opaque)
kept_body (unresolved k) b f g w h e = subst (λ r. Kept r (g b)) (sym (w k)) tt
