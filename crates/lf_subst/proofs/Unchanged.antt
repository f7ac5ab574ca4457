-- What levels and terms keep under substitution: all with no arguments, and parts in which nothing is put.
use Rattle.std.proofs.Common.{◌≡◌, ℕ, suc, ◌+◌, ◌-◌, ◌≤◌, Bool, true, false, List, [], ◌∷◌, length, refl, sym, ap, subst, arith, true≢false}
use Rattle.std.proofs.lemmas.Bool.{or_parts}
use Rattle.lf_core.proofs.Unchanged.{level_unchanged, levels_unchanged}
use Rattle.lf_core.specs.Summary.{loose_bound, free_bound, has_parameter}
use Rattle.std.proofs.lemmas.Bool.Decides.{nat_tests}
use Rattle.std.specs.Prelude.{map, ◌||◌, Result, ◌==◌, nat_lt, nat_eq, if◌then◌else◌}
use Rattle.lf_subst.specs.Answer.{Substitutes}
use Rattle.lf_subst.specs.declared.fault.SubstFault.{SubstFault}
use Rattle.lf_core.specs.Term.{
  Universe,
  level_zero,
  level_succ,
  level_max,
  level_imax,
  level_param,
  level_meta,
  Term,
  bound,
  free,
  meta,
  sort,
  const,
  app,
  lam,
  pi,
  letin,
  lit,
  proj,
}
use Rattle.lf_core.specs.Substitution.{level_substitute, level_instantiate, raise, instantiate_at, abstract_at}

level_stays : (l : Universe) → level_substitute [] l ≡ l
level_stays level_zero = refl
level_stays (level_succ l) = λ i. level_succ (level_stays l i)
level_stays (level_max l m) = λ i. level_max (level_stays l i) (level_stays m i)
level_stays (level_imax l m) = λ i. level_imax (level_stays l i) (level_stays m i)
level_stays (level_param k) = refl
level_stays (level_meta k) = refl

levels_stay : (ls : List Universe) → map (level_substitute []) ls ≡ ls
levels_stay [] = refl
levels_stay (l ∷ ls) = λ i. level_stays l i ∷ levels_stay ls i

term_stays : (t : Term) → level_instantiate [] t ≡ t
term_stays (bound k) = refl
term_stays (free k) = refl
term_stays (meta k) = refl
term_stays (sort l) = λ i. sort (level_stays l i)
term_stays (const c ls) = λ i. const c (levels_stay ls i)
term_stays (app f a) = λ i. app (term_stays f i) (term_stays a i)
term_stays (lam x a b) = λ i. lam x (term_stays a i) (term_stays b i)
term_stays (pi x a b) = λ i. pi x (term_stays a i) (term_stays b i)
term_stays (letin x a v b) = λ i. letin x (term_stays a i) (term_stays v i) (term_stays b i)
term_stays (lit n) = refl
term_stays (proj s j t) = λ i. proj s j (term_stays t i)

stays_if : (args : List Universe) (t : Term) → length args ≡ 0 → level_instantiate args t ≡ t
stays_if [] t e = term_stays t
stays_if (a ∷ args) t e = absurd (omega arith)

-- So a copy is the answer.
pub answers_unchanged : (args : List Universe) (t : Term) (left : ℕ) (r : Result (Term × ℕ) SubstFault) → true ≡ (length args == 0) → Substitutes t left r
    → Substitutes (level_instantiate args t) left r
answers_unchanged args t left r e h =
    let none : length args ≡ 0 = grind (arith, nat_tests) in
    let P : Term → Type 0 = λ u. Substitutes u left r in
    subst P (sym (stays_if args t none)) h

-- A part without parameters.
pub term_unchanged : (args : List Universe) (t : Term) → has_parameter t ≡ false → level_instantiate args t ≡ t
term_unchanged args (bound k) h = refl
term_unchanged args (free k) h = refl
term_unchanged args (meta k) h = refl
term_unchanged args (sort l) h = ap sort (level_unchanged args l h)
term_unchanged args (const c ls) h = ap (const c) (levels_unchanged args ls h)
term_unchanged args (app f a) h = let p = or_parts (has_parameter f) (has_parameter a) h in λ i. app (term_unchanged args f p.0 i) (term_unchanged args a p.1 i)
term_unchanged args (lam x a b) h = let p = or_parts (has_parameter a) (has_parameter b) h in λ i. lam x (term_unchanged args a p.0 i)
    (term_unchanged args b p.1 i)
term_unchanged args (pi x a b) h = let p = or_parts (has_parameter a) (has_parameter b) h in λ i. pi x (term_unchanged args a p.0 i)
    (term_unchanged args b p.1 i)
term_unchanged args (letin x a v b) h =
    let p = or_parts (has_parameter a) (has_parameter v || has_parameter b) h in
    let q = or_parts (has_parameter v) (has_parameter b) p.1 in
    λ i. letin x (term_unchanged args a p.0 i) (term_unchanged args v q.0 i) (term_unchanged args b q.1 i)
term_unchanged args (lit n) h = refl
term_unchanged args (proj s j t) h = λ i. proj s j (term_unchanged args t h i)

-- A part in which no variable is loose at these binders.
below : (i d : ℕ) → i + 1 ≤ d → nat_lt i d ≡ true
below i d h = grind (arith, nat_tests)

raise_variable : (b : Bool) (i n : ℕ) → b ≡ true → (if b then bound i else bound (i + n)) ≡ bound i
raise_variable true i n h = refl
raise_variable false i n h = absurd (true≢false (sym h))

pub raise_unchanged : (d n : ℕ) (t : Term) → loose_bound t ≤ d → raise d n t ≡ t
raise_unchanged d n (bound i) h = raise_variable (nat_lt i d) i n (below i d h)
raise_unchanged d n (free k) h = refl
raise_unchanged d n (meta k) h = refl
raise_unchanged d n (sort l) h = refl
raise_unchanged d n (const c ls) h = refl
raise_unchanged d n (app f a) h = λ i. app (raise_unchanged d n f (omega arith) i) (raise_unchanged d n a (omega arith) i)
raise_unchanged d n (lam x a b) h = λ i. lam x (raise_unchanged d n a (omega arith) i) (raise_unchanged (suc d) n b (omega arith) i)
raise_unchanged d n (pi x a b) h = λ i. pi x (raise_unchanged d n a (omega arith) i) (raise_unchanged (suc d) n b (omega arith) i)
raise_unchanged d n (letin x a v b) h = λ i. letin x (raise_unchanged d n a (omega arith) i) (raise_unchanged d n v (omega arith) i)
    (raise_unchanged (suc d) n b (omega arith) i)
raise_unchanged d n (lit m) h = refl
raise_unchanged d n (proj s j t) h = λ i. proj s j (raise_unchanged d n t h i)

none_more : (b : Bool) (i : ℕ) → (if b then bound i else bound (i + 0)) ≡ bound i
none_more true i = refl
none_more false i = ap bound (omega arith)

pub raise_by_none : (d : ℕ) (t : Term) → raise d 0 t ≡ t
raise_by_none d (bound i) = none_more (nat_lt i d) i
raise_by_none d (free k) = refl
raise_by_none d (meta k) = refl
raise_by_none d (sort l) = refl
raise_by_none d (const c ls) = refl
raise_by_none d (app f a) = λ i. app (raise_by_none d f i) (raise_by_none d a i)
raise_by_none d (lam x a b) = λ i. lam x (raise_by_none d a i) (raise_by_none (suc d) b i)
raise_by_none d (pi x a b) = λ i. pi x (raise_by_none d a i) (raise_by_none (suc d) b i)
raise_by_none d (letin x a v b) = λ i. letin x (raise_by_none d a i) (raise_by_none d v i) (raise_by_none (suc d) b i)
raise_by_none d (lit m) = refl
raise_by_none d (proj s j t) = λ i. proj s j (raise_by_none d t i)

put_variable : (b : Bool) (i : ℕ) (t : Term) → b ≡ true → (if b then bound i else t) ≡ bound i
put_variable true i t h = refl
put_variable false i t h = absurd (true≢false (sym h))

pub instantiate_unchanged : (d : ℕ) (t arg : Term) → loose_bound t ≤ d → instantiate_at d t arg ≡ t
instantiate_unchanged d (bound i) arg h = put_variable (nat_lt i d) i (if nat_eq i d then raise 0 d arg else bound (i - 1)) (below i d h)
instantiate_unchanged d (free k) arg h = refl
instantiate_unchanged d (meta k) arg h = refl
instantiate_unchanged d (sort l) arg h = refl
instantiate_unchanged d (const c ls) arg h = refl
instantiate_unchanged d (app f a) arg h = λ i. app (instantiate_unchanged d f arg (omega arith) i) (instantiate_unchanged d a arg (omega arith) i)
instantiate_unchanged d (lam x a b) arg h = λ i. lam x (instantiate_unchanged d a arg (omega arith) i) (instantiate_unchanged (suc d) b arg (omega arith) i)
instantiate_unchanged d (pi x a b) arg h = λ i. pi x (instantiate_unchanged d a arg (omega arith) i) (instantiate_unchanged (suc d) b arg (omega arith) i)
instantiate_unchanged d (letin x a v b) arg h = λ i. letin x (instantiate_unchanged d a arg (omega arith) i) (instantiate_unchanged d v arg (omega arith) i)
    (instantiate_unchanged (suc d) b arg (omega arith) i)
instantiate_unchanged d (lit m) arg h = refl
instantiate_unchanged d (proj s j t) arg h = λ i. proj s j (instantiate_unchanged d t arg h i)

-- A part that hasn't the variable, and in which none is loose at these binders.
apart : (j k : ℕ) → j + 1 ≤ k → nat_eq j k ≡ false
apart j k h = grind (arith, nat_tests)

close_variable : (b : Bool) (d j : ℕ) → b ≡ false → (if b then bound d else free j) ≡ free j
close_variable true d j h = absurd (true≢false h)
close_variable false d j h = refl

pub abstract_unchanged : (d : ℕ) (t : Term) (k : ℕ) → loose_bound t ≤ d → free_bound t ≤ k → abstract_at d t k ≡ t
abstract_unchanged d (bound i) k h f = put_variable (nat_lt i d) i (bound (suc i)) (below i d h)
abstract_unchanged d (free j) k h f = close_variable (nat_eq j k) d j (apart j k f)
abstract_unchanged d (meta j) k h f = refl
abstract_unchanged d (sort l) k h f = refl
abstract_unchanged d (const c ls) k h f = refl
abstract_unchanged d (app g a) k h f = λ i. app (abstract_unchanged d g k (omega arith) (omega arith) i)
    (abstract_unchanged d a k (omega arith) (omega arith) i)
abstract_unchanged d (lam x a b) k h f = λ i. lam x (abstract_unchanged d a k (omega arith) (omega arith) i)
    (abstract_unchanged (suc d) b k (omega arith) (omega arith) i)
abstract_unchanged d (pi x a b) k h f = λ i. pi x (abstract_unchanged d a k (omega arith) (omega arith) i)
    (abstract_unchanged (suc d) b k (omega arith) (omega arith) i)
abstract_unchanged d (letin x a v b) k h f = λ i. letin x (abstract_unchanged d a k (omega arith) (omega arith) i)
    (abstract_unchanged d v k (omega arith) (omega arith) i) (abstract_unchanged (suc d) b k (omega arith) (omega arith) i)
abstract_unchanged d (lit m) k h f = refl
abstract_unchanged d (proj s j t) k h f = λ i. proj s j (abstract_unchanged d t k h f i)
