-- One turn of the walk.
use Rattle.std.proofs.Common.{
  ◌≡◌,
  ℕ,
  zero,
  suc,
  ◌-◌,
  ◌<◌,
  Bool,
  true,
  false,
  List,
  [],
  ◌∷◌,
  refl,
  sym,
  ap,
  ◌∙◌,
  subst,
  if◌then◌else◌,
  arith,
  true≢false,
  Err,
}
use Rattle.lf_core.specs.Term.{Path}
use Rattle.lf_checker.specs.View.{View, lookup_of, value_of}
use Rattle.lf_rules.specs.Recursor.{is_among}
use Rattle.lf_checker.specs.Whnf.{turn_limit}
use Rattle.lf_elaboration.specs.Axioms.{Task, visit, read, Walk, ended, waits, walk, walk_on, read_on, axioms_by, reached}
use Rattle.lf_axioms.specs.declared.answer.ReachedAxioms.{ReachedAxioms}
use Rattle.lf_axioms.specs.declared.halt.Halt.{Halt}
use Rattle.lf_axioms.specs.declared.halt.Halt.TheVariants.{Need, NoMemory}
use Rattle.lf_axioms.specs.Walked.{Stepped, told, Answers}

first : {A : Type 0} (b : Bool) (x y : A) → b ≡ true → (if b then x else y) ≡ x
first true x y e = refl
first false x y e = absurd (true≢false (sym e))

second : {A : Type 0} (b : Bool) (x y : A) → b ≡ false → (if b then x else y) ≡ y
second true x y e = absurd (true≢false e)
second false x y e = refl

spent : (n : ℕ) → n ≡ suc n - 1
spent n = omega arith

pub visit_seen : (V : View) (n : ℕ) (seen : List Path) (x : Path) (ts : List Task) → 0 < n → is_among x seen ≡ true
    → walk V n seen (visit x ∷ ts) ≡ walk V (n - 1) seen ts
visit_seen V zero seen x ts h e = absurd (omega (arith, h))
visit_seen V (suc n) seen x ts h e =
    first (is_among x seen) (walk V n seen ts) (walk_on (walk V n) V seen x ts (lookup_of V x)) e ∙ ap (λ m. walk V m seen ts) (spent n)

pub visit_new : (V : View) (n : ℕ) (seen : List Path) (x : Path) (ts : List Task) → 0 < n → is_among x seen ≡ false
    → walk V n seen (visit x ∷ ts) ≡ walk_on (walk V (n - 1)) V seen x ts (lookup_of V x)
visit_new V zero seen x ts h e = absurd (omega (arith, h))
visit_new V (suc n) seen x ts h e =
    second (is_among x seen) (walk V n seen ts) (walk_on (walk V n) V seen x ts (lookup_of V x)) e
    ∙ ap (λ m. walk_on (walk V m) V seen x ts (lookup_of V x)) (spent n)

pub read_spent : (V : View) (n : ℕ) (seen : List Path) (x : Path) (ts : List Task) → 0 < n
    → walk V n seen (read x ∷ ts) ≡ read_on (walk V (n - 1)) seen ts (value_of V x)
read_spent V zero seen x ts h = absurd (omega (arith, h))
read_spent V (suc n) seen x ts h = ap (λ m. read_on (walk V m) seen ts (value_of V x)) (spent n)

pub walk_ends : (V : View) (n : ℕ) (seen : List Path) → 0 < n → walk V n seen [] ≡ ended seen
walk_ends V zero seen h = absurd (omega (arith, h))
walk_ends V (suc n) seen h = refl

-- ---- The whole walk

pub whole_ended : (V : View) (n : Path) (seen start : List Path) (ts : List Task) (r : ReachedAxioms) → start ≡ [] → ts ≡ visit n ∷ []
    → walk V 18446744073709551615 start ts ≡ ended seen → Answers (axioms_by V (ended seen)) r → Answers (reached V n) r
unfolding turn_limit
whole_ended V n seen start ts r s t e a =
    subst (λ w. Answers (axioms_by V w) r) (sym ((λ i. walk V 18446744073709551615 (sym s i) (sym t i)) ∙ e)) a

pub whole_halted : (V : View) (n : Path) (h : Halt) (start : List Path) (ts : List Task) (next : Walk) → start ≡ [] → ts ≡ visit n ∷ []
    → Stepped {A = Unit {0}} (walk V 18446744073709551615 start ts) (Err h) next → Answers (reached V n) (told h)
unfolding turn_limit
whole_halted V n (Need k) start ts next s t e = ap (axioms_by V) ((λ i. walk V 18446744073709551615 (sym s i) (sym t i)) ∙ e)
whole_halted V n NoMemory start ts next s t e = tt
