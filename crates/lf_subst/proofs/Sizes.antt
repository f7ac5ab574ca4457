-- Raising and closing a term keep its number of nodes and its depth.
use Rattle.std.proofs.Common.{◌≡◌, ℕ, suc, ◌+◌, ◌-◌, refl, arith}
use Rattle.std.proofs.lemmas.Bool.Decides.{nat_tests}
use Rattle.std.specs.Prelude.{Bool, true, false, max, nat_lt, nat_eq, if◌then◌else◌}
use Rattle.lf_core.specs.Term.{Term, bound, free, meta, sort, const, app, lam, pi, letin, lit, proj}
use Rattle.lf_core.specs.Size.{node_count, depth}
use Rattle.lf_core.specs.Substitution.{raise, instantiate_variable, abstract_at, abstract}

chosen_count : (b : Bool) (i j : ℕ) → node_count (if b then bound i else bound j) ≡ 1
chosen_count true i j = refl
chosen_count false i j = refl

chosen_depth : (b : Bool) (i j : ℕ) → depth (if b then bound i else bound j) ≡ 1
chosen_depth true i j = refl
chosen_depth false i j = refl

pub raise-node_count : (d n : ℕ) (t : Term) → node_count (raise d n t) ≡ node_count t
raise-node_count d n (bound i) = chosen_count (nat_lt i d) i (i + n)
raise-node_count d n (free k) = refl
raise-node_count d n (meta k) = refl
raise-node_count d n (sort l) = refl
raise-node_count d n (const c ls) = refl
raise-node_count d n (app f a) = λ i. raise-node_count d n f i + raise-node_count d n a i + 1
raise-node_count d n (lam x a b) = λ i. raise-node_count d n a i + raise-node_count (suc d) n b i + 1
raise-node_count d n (pi x a b) = λ i. raise-node_count d n a i + raise-node_count (suc d) n b i + 1
raise-node_count d n (letin x a v b) = λ i. raise-node_count d n a i + raise-node_count d n v i + raise-node_count (suc d) n b i + 1
raise-node_count d n (lit m) = refl
raise-node_count d n (proj s j t) = λ i. raise-node_count d n t i + 1

pub raise-depth : (d n : ℕ) (t : Term) → depth (raise d n t) ≡ depth t
raise-depth d n (bound i) = chosen_depth (nat_lt i d) i (i + n)
raise-depth d n (free k) = refl
raise-depth d n (meta k) = refl
raise-depth d n (sort l) = refl
raise-depth d n (const c ls) = refl
raise-depth d n (app f a) = λ i. max (raise-depth d n f i) (raise-depth d n a i) + 1
raise-depth d n (lam x a b) = λ i. max (raise-depth d n a i) (raise-depth (suc d) n b i) + 1
raise-depth d n (pi x a b) = λ i. max (raise-depth d n a i) (raise-depth (suc d) n b i) + 1
raise-depth d n (letin x a v b) = λ i. max (raise-depth d n a i) (max (raise-depth d n v i) (raise-depth (suc d) n b i)) + 1
raise-depth d n (lit m) = refl
raise-depth d n (proj s j t) = λ i. raise-depth d n t i + 1

-- At a variable the argument's size counts, or 1.
apart : (i d : ℕ) → nat_lt i d ≡ true → nat_eq i d ≡ true → ⊥
apart i d p q = grind (arith, nat_tests)

count_by : (p q : Bool) → (p ≡ true → q ≡ true → ⊥) → (arg : Term) (d i : ℕ)
    → node_count (if p then bound i else (if q then raise 0 d arg else bound (i - 1))) ≡ (if q then node_count arg else 1)
count_by true true h arg d i = absurd (h refl refl)
count_by true false h arg d i = refl
count_by false true h arg d i = raise-node_count 0 d arg
count_by false false h arg d i = refl

depth_by : (p q : Bool) → (p ≡ true → q ≡ true → ⊥) → (arg : Term) (d i : ℕ)
    → depth (if p then bound i else (if q then raise 0 d arg else bound (i - 1))) ≡ (if q then depth arg else 1)
depth_by true true h arg d i = absurd (h refl refl)
depth_by true false h arg d i = refl
depth_by false true h arg d i = raise-depth 0 d arg
depth_by false false h arg d i = refl

pub variable_count_is : (d : ℕ) (arg : Term) (i : ℕ) → node_count (instantiate_variable d arg i) ≡ (if nat_eq i d then node_count arg else 1)
variable_count_is d arg i = count_by (nat_lt i d) (nat_eq i d) (apart i d) arg d i

pub variable_depth_is : (d : ℕ) (arg : Term) (i : ℕ) → depth (instantiate_variable d arg i) ≡ (if nat_eq i d then depth arg else 1)
variable_depth_is d arg i = depth_by (nat_lt i d) (nat_eq i d) (apart i d) arg d i

-- Closing keeps sizes.
chosen_free_count : (b : Bool) (d j : ℕ) → node_count (if b then bound d else free j) ≡ 1
chosen_free_count true d j = refl
chosen_free_count false d j = refl

chosen_free_depth : (b : Bool) (d j : ℕ) → depth (if b then bound d else free j) ≡ 1
chosen_free_depth true d j = refl
chosen_free_depth false d j = refl

pub abstract_count : (d : ℕ) (t : Term) (k : ℕ) → node_count (abstract_at d t k) ≡ node_count t
abstract_count d (bound i) k = chosen_count (nat_lt i d) i (suc i)
abstract_count d (free j) k = chosen_free_count (nat_eq j k) d j
abstract_count d (meta j) k = refl
abstract_count d (sort l) k = refl
abstract_count d (const c ls) k = refl
abstract_count d (app f a) k = λ i. abstract_count d f k i + abstract_count d a k i + 1
abstract_count d (lam x a b) k = λ i. abstract_count d a k i + abstract_count (suc d) b k i + 1
abstract_count d (pi x a b) k = λ i. abstract_count d a k i + abstract_count (suc d) b k i + 1
abstract_count d (letin x a v b) k = λ i. abstract_count d a k i + abstract_count d v k i + abstract_count (suc d) b k i + 1
abstract_count d (lit m) k = refl
abstract_count d (proj s j t) k = λ i. abstract_count d t k i + 1

pub abstract_depth : (d : ℕ) (t : Term) (k : ℕ) → depth (abstract_at d t k) ≡ depth t
abstract_depth d (bound i) k = chosen_depth (nat_lt i d) i (suc i)
abstract_depth d (free j) k = chosen_free_depth (nat_eq j k) d j
abstract_depth d (meta j) k = refl
abstract_depth d (sort l) k = refl
abstract_depth d (const c ls) k = refl
abstract_depth d (app f a) k = λ i. max (abstract_depth d f k i) (abstract_depth d a k i) + 1
abstract_depth d (lam x a b) k = λ i. max (abstract_depth d a k i) (abstract_depth (suc d) b k i) + 1
abstract_depth d (pi x a b) k = λ i. max (abstract_depth d a k i) (abstract_depth (suc d) b k i) + 1
abstract_depth d (letin x a v b) k = λ i. max (abstract_depth d a k i) (max (abstract_depth d v k i) (abstract_depth (suc d) b k i)) + 1
abstract_depth d (lit m) k = refl
abstract_depth d (proj s j t) k = λ i. abstract_depth d t k i + 1

pub abstract_count_is : (t : Term) (k : ℕ) → node_count (abstract t k) ≡ node_count t
abstract_count_is t k = abstract_count 0 t k

pub abstract_depth_is : (t : Term) (k : ℕ) → depth (abstract t k) ≡ depth t
abstract_depth_is t k = abstract_depth 0 t k
