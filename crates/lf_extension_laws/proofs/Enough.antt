-- Runs of which the second has more units, through the ways to put runs together.
use Rattle.std.proofs.Common.{◌≡◌, ℕ, ◌+◌, ◌-◌, ◌≤◌, Bool, true, false, nat_lt, if◌then◌else◌, List, [], length, refl, sym, subst, arith}
use Rattle.std.proofs.lemmas.Bool.{ltb-false}
use Rattle.lf_core.specs.Term.{Path, Term}
use Rattle.lf_core.specs.Spine.{apply}
use Rattle.lf_core.specs.Size.{node_count, depth}
use Rattle.lf_rules.specs.Environment.{Context, opened}
use Rattle.lf_checker.specs.Run.{
  Refusal,
  Answer,
  done,
  refused,
  out,
  need,
  Run,
  go_on,
  gives,
  gives_up,
  spend,
  caught,
  named_in,
  choose,
  put,
  made_before,
  made,
  opening,
  greatest_depth,
  greatest_variable,
}
use Rattle.lf_extension_laws.specs.Enough.{Enough}

pub enough_done : {A : Type 0} (k : ℕ) (x : A) (u : ℕ) → Enough k (done x u) (done x (u + k))
enough_done k x u = refl

pub enough_refused : {A : Type 0} (k : ℕ) (e : Refusal) (u : ℕ) → Enough k {A = A} (refused e u) (refused e (u + k))
enough_refused k e u = refl

pub enough_then : {A B : Type 0} (k : ℕ) (o p : Answer A) (f g : A → Run B) → Enough k o p
    → ((x : A) (u : ℕ) → Enough k (f x u) (g x (u + k))) → Enough k (go_on o f) (go_on p g)
enough_then k (done x u) p f g h i = subst (λ q. Enough k (f x u) (go_on q g)) h (i x u)
enough_then k (refused e u) p f g h i = subst (λ q. Enough k (refused e u) (go_on q g)) h refl
enough_then k out p f g h i = tt
enough_then k (need n) p f g h i = subst (λ q. Enough k (need n) (go_on q g)) h refl

pub enough_caught : {A : Type 0} (k : ℕ) (o p : Answer A) → Enough k o p → Enough k (caught o) (caught p)
enough_caught k (done x u) p h = subst (λ q. Enough k (caught (done x u)) (caught q)) h refl
enough_caught k (refused e u) p h = subst (λ q. Enough k (caught (refused e u)) (caught q)) h refl
enough_caught k out p h = tt
enough_caught k (need n) p h = subst (λ q. Enough k (caught (need n)) (caught q)) h refl

pub enough_named : {A : Type 0} (k : ℕ) (x : Path) (o p : Answer A) → Enough k o p → Enough k (named_in x o) (named_in x p)
enough_named k x (done y u) p h = subst (λ q. Enough k (named_in x (done y u)) (named_in x q)) h refl
enough_named k x (refused e u) p h = subst (λ q. Enough k (named_in x (refused e u)) (named_in x q)) h refl
enough_named k x out p h = tt
enough_named k x (need n) p h = subst (λ q. Enough k (named_in x (need n)) (named_in x q)) h refl

pub enough_choose : {A : Type 0} (k : ℕ) (b : Bool) (m n i j : Run A) (u : ℕ) → Enough k (m u) (i (u + k)) → Enough k (n u) (j (u + k))
    → Enough k (choose b m n u) (choose b i j (u + k))
enough_choose k true m n i j u h g = h
enough_choose k false m n i j u h g = g

later : (k n u : ℕ) → n ≤ u → (u + k) - n ≡ (u - n) + k
later k n u h = omega arith

no_less : (k n u : ℕ) → n ≤ u → nat_lt (u + k) n ≡ false
no_less k n u h = grind arith

pub enough_spend : {A : Type 0} (k n : ℕ) (m i : Run A) (u : ℕ) → ((v : ℕ) → Enough k (m v) (i (v + k))) → Enough k (spend n m u) (spend n i (u + k))
enough_spend {A = A} k n m i u h = at (nat_lt u n) refl
  where
    at : (b : Bool) → nat_lt u n ≡ b → Enough k {A = A} (if b then out else m (u - n)) (if nat_lt (u + k) n then out else i ((u + k) - n))
    at true e = tt
    at false e =
        let l : n ≤ u = ltb-false u n e in
        subst (λ b. Enough k (m (u - n)) (if b then out else i ((u + k) - n))) (sym (no_less k n u l))
        (subst (λ v. Enough k (m (u - n)) (i v)) (sym (later k n u l)) (h (u - n)))

pub enough_put : (k : ℕ) (t : Term) (u : ℕ) → Enough k (put t u) (put t (u + k))
enough_put k t u = enough_choose k (nat_lt greatest_depth (depth t)) gives_up (gives t) gives_up (gives t) u tt refl

pub enough_made : (k : ℕ) (xs : List Term) (t : Term) (u : ℕ) → Enough k (made_before xs t u) (made_before xs t (u + k))
enough_made k xs t u = enough_spend k (node_count t) (put (apply t xs)) (put (apply t xs)) u (λ v. enough_put k (apply t xs) v)

pub enough_opening : (k : ℕ) (C : Context) (b : Term) (u : ℕ) → Enough k (opening C b u) (opening C b (u + k))
enough_opening k C b u = enough_choose k (nat_lt greatest_variable (length C)) gives_up (made (opened C b)) gives_up (made (opened C b)) u tt
    (enough_made k [] (opened C b) u)
