-- Parts of terms: none is larger than the whole; and where the part doesn't stand and nothing is loose, nothing is replaced.
use Rattle.std.proofs.Common.{◌≡◌, ℕ, suc, ◌+◌, ◌-◌, ◌≤◌, ◌<◌, Bool, true, false, List, [], ◌∷◌, refl, sym, ap, ◌∙◌, subst, arith, true≢false}
use Rattle.std.proofs.lemmas.Bool.{or_parts}
use Rattle.std.proofs.lemmas.Bool.Decides.{nat_tests}
use Rattle.std.specs.Prelude.{◌||◌, nat_lt, if◌then◌else◌}
use Rattle.lf_core.proofs.Trees.{term_is}
use Rattle.lf_core.specs.Term.{Term, bound, free, meta, sort, const, app, lam, pi, letin, lit, proj}
use Rattle.lf_core.specs.Same.{same}
use Rattle.lf_core.specs.Size.{node_count}
use Rattle.lf_core.specs.Summary.{loose_bound}
use Rattle.lf_elaboration.specs.Motive.{stands_in, replaced}
use Rattle.lf_rewrite.specs.Rebuilt.{rebuilt, stands_below}

-- ---- Smaller terms

differ_by : (b : Bool) (t p : Term) → same t p ≡ b → node_count t < node_count p → b ≡ false
differ_by false t p e h = refl
differ_by true t p e h = absurd (omega (arith, ap node_count (term_is t p e), h))

unlike : (p t : Term) → node_count t < node_count p → same t p ≡ false
unlike p t h = differ_by (same t p) t p refl h

neither : (a b : Bool) → a ≡ false → b ≡ false → (a || b) ≡ false
neither a b e f = ap (λ c. c || b) e ∙ f

pub smaller_lacks : (p t : Term) → node_count t < node_count p → stands_in p t ≡ false
smaller_lacks p (bound i) h = unlike p (bound i) h
smaller_lacks p (free k) h = unlike p (free k) h
smaller_lacks p (meta k) h = unlike p (meta k) h
smaller_lacks p (sort l) h = unlike p (sort l) h
smaller_lacks p (const c ls) h = unlike p (const c ls) h
smaller_lacks p (app f a) h =
    neither (same (app f a) p) (stands_in p f || stands_in p a) (unlike p (app f a) h)
    (neither (stands_in p f) (stands_in p a) (smaller_lacks p f (omega (arith, h))) (smaller_lacks p a (omega (arith, h))))
smaller_lacks p (lam x a b) h =
    neither (same (lam x a b) p) (stands_in p a || stands_in p b) (unlike p (lam x a b) h)
    (neither (stands_in p a) (stands_in p b) (smaller_lacks p a (omega (arith, h))) (smaller_lacks p b (omega (arith, h))))
smaller_lacks p (pi x a b) h =
    neither (same (pi x a b) p) (stands_in p a || stands_in p b) (unlike p (pi x a b) h)
    (neither (stands_in p a) (stands_in p b) (smaller_lacks p a (omega (arith, h))) (smaller_lacks p b (omega (arith, h))))
smaller_lacks p (letin x a v b) h =
    neither (same (letin x a v b) p) (stands_in p a || (stands_in p v || stands_in p b)) (unlike p (letin x a v b) h)
    (neither (stands_in p a) (stands_in p v || stands_in p b) (smaller_lacks p a (omega (arith, h)))
    (neither (stands_in p v) (stands_in p b) (smaller_lacks p v (omega (arith, h))) (smaller_lacks p b (omega (arith, h)))))
smaller_lacks p (lit n) h = unlike p (lit n) h
smaller_lacks p (proj s i t) h = neither (same (proj s i t) p) (stands_in p t) (unlike p (proj s i t) h) (smaller_lacks p t (omega (arith, h)))

-- ---- Terms in which the part doesn't stand

chosen : {A : Type 0} (b : Bool) (x y : A) → b ≡ false → (if b then x else y) ≡ y
chosen true x y e = absurd (true≢false e)
chosen false x y e = refl

below : (i d : ℕ) → i + 1 ≤ d → nat_lt i d ≡ true
below i d h = grind (arith, nat_tests)

stays_bound : (b : Bool) (i : ℕ) → b ≡ true → (if b then bound i else bound (suc i)) ≡ bound i
stays_bound true i e = refl
stays_bound false i e = absurd (true≢false (sym e))

pub lacking_stays : (d : ℕ) (p t : Term) → stands_in p t ≡ false → loose_bound t ≤ d → replaced d p t ≡ t
lacking_stays d p (bound i) e h =
    chosen (same (bound i) p) (bound d) (if nat_lt i d then bound i else bound (suc i)) e ∙ stays_bound (nat_lt i d) i (below i d h)
lacking_stays d p (free k) e h = chosen (same (free k) p) (bound d) (free k) e
lacking_stays d p (meta k) e h = chosen (same (meta k) p) (bound d) (meta k) e
lacking_stays d p (sort l) e h = chosen (same (sort l) p) (bound d) (sort l) e
lacking_stays d p (const c ls) e h = chosen (same (const c ls) p) (bound d) (const c ls) e
lacking_stays d p (app f a) e h =
    let u = or_parts (same (app f a) p) (stands_in p f || stands_in p a) e in
    let w = or_parts (stands_in p f) (stands_in p a) u.1 in
    chosen (same (app f a) p) (bound d) (app (replaced d p f) (replaced d p a)) u.0 ∙
    (λ i. app (lacking_stays d p f w.0 (omega (arith, h)) i) (lacking_stays d p a w.1 (omega (arith, h)) i))
lacking_stays d p (lam x a b) e h =
    let u = or_parts (same (lam x a b) p) (stands_in p a || stands_in p b) e in
    let w = or_parts (stands_in p a) (stands_in p b) u.1 in
    chosen (same (lam x a b) p) (bound d) (lam x (replaced d p a) (replaced (suc d) p b)) u.0 ∙
    (λ i. lam x (lacking_stays d p a w.0 (omega (arith, h)) i) (lacking_stays (suc d) p b w.1 (omega (arith, h)) i))
lacking_stays d p (pi x a b) e h =
    let u = or_parts (same (pi x a b) p) (stands_in p a || stands_in p b) e in
    let w = or_parts (stands_in p a) (stands_in p b) u.1 in
    chosen (same (pi x a b) p) (bound d) (pi x (replaced d p a) (replaced (suc d) p b)) u.0 ∙
    (λ i. pi x (lacking_stays d p a w.0 (omega (arith, h)) i) (lacking_stays (suc d) p b w.1 (omega (arith, h)) i))
lacking_stays d p (letin x a v b) e h =
    let u = or_parts (same (letin x a v b) p) (stands_in p a || (stands_in p v || stands_in p b)) e in
    let w = or_parts (stands_in p a) (stands_in p v || stands_in p b) u.1 in
    let z = or_parts (stands_in p v) (stands_in p b) w.1 in
    chosen (same (letin x a v b) p) (bound d) (letin x (replaced d p a) (replaced d p v) (replaced (suc d) p b)) u.0 ∙
    (λ i. letin x (lacking_stays d p a w.0 (omega (arith, h)) i) (lacking_stays d p v z.0 (omega (arith, h)) i)
    (lacking_stays (suc d) p b z.1 (omega (arith, h)) i))
lacking_stays d p (lit n) e h = chosen (same (lit n) p) (bound d) (lit n) e
lacking_stays d p (proj s j t) e h =
    let u = or_parts (same (proj s j t) p) (stands_in p t) e in
    chosen (same (proj s j t) p) (bound d) (proj s j (replaced d p t)) u.0 ∙ (λ i. proj s j (lacking_stays d p t u.1 h i))

-- ---- The part itself, and what isn't

taken : {A : Type 0} (b : Bool) (x y : A) → b ≡ true → (if b then x else y) ≡ x
taken true x y e = refl
taken false x y e = absurd (true≢false (sym e))

pub itself_replaced : (d : ℕ) (p t : Term) → same t p ≡ true → replaced d p t ≡ bound d
itself_replaced d p (bound i) e = taken (same (bound i) p) (bound d) (if nat_lt i d then bound i else bound (suc i)) e
itself_replaced d p (free k) e = taken (same (free k) p) (bound d) (free k) e
itself_replaced d p (meta k) e = taken (same (meta k) p) (bound d) (meta k) e
itself_replaced d p (sort l) e = taken (same (sort l) p) (bound d) (sort l) e
itself_replaced d p (const c ls) e = taken (same (const c ls) p) (bound d) (const c ls) e
itself_replaced d p (app f a) e = taken (same (app f a) p) (bound d) (app (replaced d p f) (replaced d p a)) e
itself_replaced d p (lam x a b) e = taken (same (lam x a b) p) (bound d) (lam x (replaced d p a) (replaced (suc d) p b)) e
itself_replaced d p (pi x a b) e = taken (same (pi x a b) p) (bound d) (pi x (replaced d p a) (replaced (suc d) p b)) e
itself_replaced d p (letin x a v b) e = taken (same (letin x a v b) p) (bound d) (letin x (replaced d p a) (replaced d p v) (replaced (suc d) p b)) e
itself_replaced d p (lit n) e = taken (same (lit n) p) (bound d) (lit n) e
itself_replaced d p (proj s j t) e = taken (same (proj s j t) p) (bound d) (proj s j (replaced d p t)) e

pub itself_stands : (p t : Term) → same t p ≡ true → stands_in p t ≡ true
itself_stands p (bound i) e = e
itself_stands p (free k) e = e
itself_stands p (meta k) e = e
itself_stands p (sort l) e = e
itself_stands p (const c ls) e = e
itself_stands p (app f a) e = ap (λ c. c || (stands_in p f || stands_in p a)) e
itself_stands p (lam x a b) e = ap (λ c. c || (stands_in p a || stands_in p b)) e
itself_stands p (pi x a b) e = ap (λ c. c || (stands_in p a || stands_in p b)) e
itself_stands p (letin x a v b) e = ap (λ c. c || (stands_in p a || (stands_in p v || stands_in p b))) e
itself_stands p (lit n) e = e
itself_stands p (proj s j t) e = ap (λ c. c || (stands_in p t)) e

pub another_rebuilt : (d : ℕ) (p t : Term) → same t p ≡ false → replaced d p t ≡ rebuilt d p t
another_rebuilt d p (bound i) e = chosen (same (bound i) p) (bound d) (if nat_lt i d then bound i else bound (suc i)) e
another_rebuilt d p (free k) e = chosen (same (free k) p) (bound d) (free k) e
another_rebuilt d p (meta k) e = chosen (same (meta k) p) (bound d) (meta k) e
another_rebuilt d p (sort l) e = chosen (same (sort l) p) (bound d) (sort l) e
another_rebuilt d p (const c ls) e = chosen (same (const c ls) p) (bound d) (const c ls) e
another_rebuilt d p (app f a) e = chosen (same (app f a) p) (bound d) (app (replaced d p f) (replaced d p a)) e
another_rebuilt d p (lam x a b) e = chosen (same (lam x a b) p) (bound d) (lam x (replaced d p a) (replaced (suc d) p b)) e
another_rebuilt d p (pi x a b) e = chosen (same (pi x a b) p) (bound d) (pi x (replaced d p a) (replaced (suc d) p b)) e
another_rebuilt d p (letin x a v b) e = chosen (same (letin x a v b) p) (bound d) (letin x (replaced d p a) (replaced d p v) (replaced (suc d) p b)) e
another_rebuilt d p (lit n) e = chosen (same (lit n) p) (bound d) (lit n) e
another_rebuilt d p (proj s j t) e = chosen (same (proj s j t) p) (bound d) (proj s j (replaced d p t)) e

pub another_stands : (p t : Term) → same t p ≡ false → stands_in p t ≡ stands_below p t
another_stands p (bound i) e = e
another_stands p (free k) e = e
another_stands p (meta k) e = e
another_stands p (sort l) e = e
another_stands p (const c ls) e = e
another_stands p (app f a) e = ap (λ c. c || (stands_in p f || stands_in p a)) e
another_stands p (lam x a b) e = ap (λ c. c || (stands_in p a || stands_in p b)) e
another_stands p (pi x a b) e = ap (λ c. c || (stands_in p a || stands_in p b)) e
another_stands p (letin x a v b) e = ap (λ c. c || (stands_in p a || (stands_in p v || stands_in p b))) e
another_stands p (lit n) e = e
another_stands p (proj s j t) e = ap (λ c. c || (stands_in p t)) e
