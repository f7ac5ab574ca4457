-- What holds of a run's value, through the ways to put runs together.
use Rattle.std.proofs.Common.{◌≡◌, ℕ, ◌-◌, nat_lt, Bool, true, false, length, refl, sym, subst, Option, Some, None, List, []}
use Rattle.std.proofs.lemmas.Bool.{cond_both}
use Rattle.lf_core.specs.Term.{Path, Universe, Term, sort, pi}
use Rattle.lf_core.specs.Size.{node_count, depth}
use Rattle.lf_core.specs.Spine.{apply}
use Rattle.lf_checker.specs.Run.{
  Answer,
  done,
  refused,
  out,
  need,
  Run,
  go_on,
  spend,
  caught,
  named_in,
  choose,
  put,
  made_before,
  made,
  greatest_depth,
  gives,
  gives_up,
  greatest_variable,
  opening,
}
use Rattle.lf_rules.specs.Environment.{Context, opened}
use Rattle.lf_checker.specs.Infer.{on_pi, on_sort}
use Rattle.lf_checker.specs.Equal.{and_then}
use Rattle.lf_checker_laws.specs.Soundness.{Post}
use Rattle.lf_checker_laws.proofs.Tests.{no_false}

pub post_then : {A B : Type 0} (P : A → Type 0) (Q : B → Type 0) (o : Answer A) (f : A → Run B) → Post P o → ((x : A) (u : ℕ) → P x → Post Q (f x u))
    → Post Q (go_on o f)
post_then P Q (done x u) f h k = k x u h
post_then P Q (refused e u) f h k = tt
post_then P Q out f h k = tt
post_then P Q (need n) f h k = tt

pub post_map : {A : Type 0} (P Q : A → Type 0) (o : Answer A) → Post P o → ((x : A) → P x → Q x) → Post Q o
post_map P Q (done x u) h k = k x h
post_map P Q (refused e u) h k = tt
post_map P Q out h k = tt
post_map P Q (need n) h k = tt

pub post_any : {A : Type 0} (o : Answer A) → Post (λ x. Unit {0}) o
post_any (done x u) = tt
post_any (refused e u) = tt
post_any out = tt
post_any (need k) = tt

pub post_both : {A : Type 0} (P Q : A → Type 0) (o : Answer A) → Post P o → Post Q o → Post (λ x. P x × Q x) o
post_both P Q (done x u) h k = (h, k)
post_both P Q (refused e u) h k = tt
post_both P Q out h k = tt
post_both P Q (need n) h k = tt

pub post_spend : {A : Type 0} (P : A → Type 0) (n : ℕ) (m : Run A) (u : ℕ) → ((v : ℕ) → Post P (m v)) → Post P (spend n m u)
post_spend P n m u h = cond_both (nat_lt u n) out (m (u - n)) (Post P) (λ e. tt) (λ e. h (u - n))

abbrev pub Maybe : {A : Type 0} → (A → Type 0) → Option A → Type 0
Maybe P (Some x) = P x
Maybe P None = Unit {0}

pub post_caught : {A : Type 0} (P : A → Type 0) (o : Answer A) → Post P o → Post (Maybe P) (caught o)
post_caught P (done x u) h = h
post_caught P (refused e u) h = tt
post_caught P out h = tt
post_caught P (need n) h = tt

pub post_named : {A : Type 0} (P : A → Type 0) (x : Path) (o : Answer A) → Post P o → Post P (named_in x o)
post_named P x (done a u) h = h
post_named P x (refused e u) h = tt
post_named P x out h = tt
post_named P x (need n) h = tt

pub post_choose : {A : Type 0} (Q : A → Type 0) (b : Bool) (m n : Run A) (u : ℕ) → (b ≡ true → Post Q (m u)) → (b ≡ false → Post Q (n u))
    → Post Q (choose b m n u)
post_choose Q true m n u h k = h refl
post_choose Q false m n u h k = k refl

-- What is put together, and what is made.
pub post_put : (Q : Term → Type 0) (t : Term) (u : ℕ) → Q t → Post Q (put t u)
post_put Q t u h = post_choose Q (nat_lt greatest_depth (depth t)) gives_up (gives t) u (λ e. tt) (λ e. h)

pub post_made_before : (Q : Term → Type 0) (xs : List Term) (t : Term) (u : ℕ) → Q (apply t xs) → Post Q (made_before xs t u)
post_made_before Q xs t u h = post_spend Q (node_count t) (put (apply t xs)) u (λ v. post_put Q (apply t xs) v h)

pub post_made : (Q : Term → Type 0) (t : Term) (u : ℕ) → Q t → Post Q (made t u)
post_made Q t u h = post_made_before Q [] t u h

abbrev pub Yes : Type 0 → Bool → Type 0
Yes P r = r ≡ true → P

pub post_and : (P Q : Type 0) (r : Bool) (m : Run Bool) (u : ℕ) → Yes P r → (P → Post (Yes Q) (m u)) → Post (Yes Q) (and_then r m u)
post_and P Q true m u h k = k (h refl)
post_and P Q false m u h k = λ e. no_false e

pub post_on_pi : {A : Type 0} (Q : A → Type 0) (F P : Term) (k : Term → Term → Run A) (u : ℕ) → ((x : _) (X B : Term) → P ≡ pi x X B → Post Q (k X B u))
    → Post Q (on_pi F P k u)
post_on_pi Q F (pi x X B) k u h = h x X B refl
post_on_pi Q F _ k u h = tt

pub post_on_sort : (Q : Universe → Type 0) (F S : Term) (u : ℕ) → ((l : Universe) → S ≡ sort l → Q l) → Post Q (on_sort F S u)
post_on_sort Q F (sort l) u h = h l refl
post_on_sort Q F _ u h = tt

-- What goes on from a term that is put together, made or opened.
pub post_put_then : {B : Type 0} (Q : B → Type 0) (t : Term) (f : Term → Run B) (u : ℕ) → ((v : ℕ) → Post Q (f t v)) → Post Q (go_on (put t u) f)
post_put_then Q t f u h = post_then (λ z. z ≡ t) Q (put t u) f (post_put (λ z. z ≡ t) t u refl) λ z v e. subst (λ y. Post Q (f y v)) (sym e) (h v)

pub post_made_then : {B : Type 0} (Q : B → Type 0) (t : Term) (f : Term → Run B) (u : ℕ) → ((v : ℕ) → Post Q (f t v)) → Post Q (go_on (made t u) f)
post_made_then Q t f u h = post_then (λ z. z ≡ t) Q (made t u) f (post_made (λ z. z ≡ t) t u refl) λ z v e. subst (λ y. Post Q (f y v)) (sym e) (h v)

pub post_opening : (Q : Term → Type 0) (C : Context) (b : Term) (u : ℕ) → Q (opened C b) → Post Q (opening C b u)
post_opening Q C b u h = post_choose Q (nat_lt greatest_variable (length C)) gives_up (made (opened C b)) u (λ e. tt) (λ e. post_made Q (opened C b) u h)

pub post_opening_then : {B : Type 0} (Q : B → Type 0) (C : Context) (b : Term) (f : Term → Run B) (u : ℕ) → ((v : ℕ) → Post Q (f (opened C b) v))
    → Post Q (go_on (opening C b u) f)
post_opening_then Q C b f u h = post_then (λ z. z ≡ opened C b) Q (opening C b u) f (post_opening (λ z. z ≡ opened C b) C b u refl) λ z v e.
    subst (λ y. Post Q (f y v)) (sym e) (h v)
