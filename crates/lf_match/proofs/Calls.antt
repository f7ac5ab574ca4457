-- The last test: parts without the definition stay, and hypotheses are found by their types.
use Rattle.std.proofs.Common.{◌≡◌, ℕ, suc, ◌+◌, ◌<◌, ◌≤◌, Bool, true, false, List, [], ◌∷◌, ◌++◌, length, refl, ap, ◌∙◌, arith}
use Rattle.std.specs.Prelude.{◌||◌, nat_eq, Option, Some, None, if◌then◌else◌}
use Rattle.lf_core.specs.Term.{Term, bound, free, meta, sort, const, app, lam, pi, letin, lit, proj}
use Rattle.lf_core.specs.Same.{same}
use Rattle.lf_core.specs.Spine.{apply}
use Rattle.lf_core.specs.Summary.{free_bound}
use Rattle.std.proofs.lemmas.Bool.Decides.{nat_tests}
use Rattle.lf_core.proofs.Trees.{term_is}
use Rattle.lf_rules.specs.Telescope.{Telescope, types, variables, pi_count}
use Rattle.lf_checker.specs.Run.{made}
use Rattle.lf_elaboration.specs.Induction.{speaks_of}
use Rattle.lf_elaboration.specs.Statement.{open_pis}
use Rattle.lf_equations.specs.declared.alternative.Case.{Case}
use Rattle.lf_equations.specs.Recursion.{hypothesis_of, call, by_hypotheses, renamed, minor}
use Rattle.lf_match.proofs.Ends.{runs_then, goes_same}
use Rattle.lf_match.specs.Parts.{of_type, structural, minor_at}

same_number : (m k : ℕ) → nat_eq m k ≡ true → m ≡ k
same_number m k h = grind (arith, nat_tests)

apart_numbers : (j k : ℕ) → j ≡ k → j + 1 ≤ k → ⊥
apart_numbers j k e h = omega (arith, e, h)

apart_by : (b : Bool) (j k : ℕ) → nat_eq j k ≡ b → j + 1 ≤ k → nat_eq j k ≡ false
apart_by false j k e h = e
apart_by true j k e h = absurd (apart_numbers j k (same_number j k e) h)

apart : (j k : ℕ) → j + 1 ≤ k → nat_eq j k ≡ false
apart j k h = apart_by (nat_eq j k) j k refl h

neither : (p q : Bool) → p ≡ false → q ≡ false → (p || q) ≡ false
neither true q h e = cc
neither false q h e = e

pub speaks_not : (k : ℕ) (t : Term) → free_bound t ≤ k → speaks_of k t ≡ false
speaks_not k (bound i) h = refl
speaks_not k (free j) h = apart j k h
speaks_not k (meta j) h = refl
speaks_not k (sort l) h = refl
speaks_not k (const c ls) h = refl
speaks_not k (app f a) h = neither _ _ (speaks_not k f (omega (arith, h))) (speaks_not k a (omega (arith, h)))
speaks_not k (lam x A b) h = neither _ _ (speaks_not k A (omega (arith, h))) (speaks_not k b (omega (arith, h)))
speaks_not k (pi x A B) h = neither _ _ (speaks_not k A (omega (arith, h))) (speaks_not k B (omega (arith, h)))
speaks_not k (letin x A v b) h =
    neither _ _ (speaks_not k A (omega (arith, h))) (neither _ _ (speaks_not k v (omega (arith, h))) (speaks_not k b (omega (arith, h))))
speaks_not k (lit n) h = refl
speaks_not k (proj s i t) h = speaks_not k t h

not_itself : (k : ℕ) (f self : Term) (b : Bool) → same f self ≡ b → k < free_bound self → free_bound f ≤ k → same f self ≡ false
not_itself k f self false e h g = e
not_itself k f self true e h g = let d : free_bound f ≡ free_bound self = ap free_bound (term_is f self e) in absurd (omega (arith, d, h, g))

no_call : (self : Term) (hyp : ℕ → Option ℕ) (f a : Term) → same f self ≡ false → call self hyp f a ≡ None
no_call self hyp f a e = rw e refl

pub stays : (self : Term) (hyp : ℕ → Option ℕ) (k : ℕ) (t : Term) → k < free_bound self → free_bound t ≤ k → by_hypotheses self hyp t ≡ t
stays self hyp k (bound i) g h = refl
stays self hyp k (free j) g h = refl
stays self hyp k (meta j) g h = refl
stays self hyp k (sort l) g h = refl
stays self hyp k (const c ls) g h = refl
stays self hyp k (app f a) g h =
    let e : call self hyp f a ≡ None = no_call self hyp f a (not_itself k f self (same f self) refl g (omega (arith, h))) in
    let p : by_hypotheses self hyp f ≡ f = stays self hyp k f g (omega (arith, h)) in
    let q : by_hypotheses self hyp a ≡ a = stays self hyp k a g (omega (arith, h)) in
    rw (e, p, q) refl
stays self hyp k (lam x A b) g h =
    let p : by_hypotheses self hyp A ≡ A = stays self hyp k A g (omega (arith, h)) in
    let q : by_hypotheses self hyp b ≡ b = stays self hyp k b g (omega (arith, h)) in
    λ i. lam x (p i) (q i)
stays self hyp k (pi x A B) g h =
    let p : by_hypotheses self hyp A ≡ A = stays self hyp k A g (omega (arith, h)) in
    let q : by_hypotheses self hyp B ≡ B = stays self hyp k B g (omega (arith, h)) in
    λ i. pi x (p i) (q i)
stays self hyp k (letin x A v b) g h =
    let p : by_hypotheses self hyp A ≡ A = stays self hyp k A g (omega (arith, h)) in
    let q : by_hypotheses self hyp v ≡ v = stays self hyp k v g (omega (arith, h)) in
    let r : by_hypotheses self hyp b ≡ b = stays self hyp k b g (omega (arith, h)) in
    λ i. letin x (p i) (q i) (r i)
stays self hyp k (lit n) g h = refl
stays self hyp k (proj s j t) g h = let p : by_hypotheses self hyp t ≡ t = stays self hyp k t g h in λ i. proj s j (p i)

apply_bound : (f : Term) (xs : List Term) → free_bound f ≤ free_bound (apply f xs)
apply_bound f [] = omega arith
apply_bound f (x ∷ xs) = let h : free_bound (app f x) ≤ free_bound (apply (app f x) xs) = apply_bound (app f x) xs in omega (arith, h)

pub names_itself : (k : ℕ) (xs : List Term) → k < free_bound (apply (free k) xs)
names_itself k xs = let h : k + 1 ≤ free_bound (apply (free k) xs) = apply_bound (free k) xs in omega (arith, h)

pub hypothesis_is : (M : Term) (h : ℕ) (xs : Telescope) (field : ℕ) → hypothesis_of M h xs field ≡ of_type (app M (free field)) h xs
hypothesis_is M h [] field = refl
hypothesis_is M h (x ∷ xs) field = ap (λ o. if same x.ty (app M (free field)) then Some h else o) (hypothesis_is M (suc h) xs field)

pub minor_is : (bs : Telescope) (ty M A : Term) (a : Case) (u : ℕ) → minor bs ty M A a u ≡ minor_at bs ty M A a u
minor_is bs ty M A a u = runs_then (open_pis (length a.fields) (types bs ++ ty ∷ []) A u) _
    ∙ goes_same (open_pis (length a.fields) (types bs ++ ty ∷ []) A u) _ _ (λ xs v. runs_then (open_pis (pi_count xs.rest) ((types bs ++ ty ∷ []) ++ types xs.locals) xs.rest v) _
    ∙ goes_same (open_pis (pi_count xs.rest) ((types bs ++ ty ∷ []) ++ types xs.locals) xs.rest v) _ _ (λ hs w. runs_then
    (made (by_hypotheses (apply (free (length bs)) (variables 0 bs)) (hypothesis_of M (suc (length bs) + length xs.locals) hs.locals) a.body) w)
    (structural (length bs) a.constructor (renamed a.fields xs.locals ++ hs.locals))))
