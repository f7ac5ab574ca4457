-- Where terms lie that are opened, closed and applied, and the telescopes between.
use Rattle.std.proofs.Common.{◌≡◌, ℕ, zero, suc, ◌+◌, ◌≤◌, List, [], ◌∷◌, ◌++◌, length, drop, refl, subst, arith, zero-le}
use Rattle.lf_core.specs.Term.{Term, free, app, pi}
use Rattle.lf_core.specs.Substitution.{instantiate}
use Rattle.lf_core.specs.Spine.{apply, arguments_before, arguments_of}
use Rattle.lf_rules.specs.Telescope.{Telescope, variables, pis_over, lambdas_over, Opened, behind, open_pis, of_kind}
use Rattle.lf_rules.specs.Recursor.{innermost}
use Rattle.lf_name.specs.declared.binder.BinderKind.{BinderKind}
use Rattle.lf_inductive_laws.proofs.Places.{Place, Lies, lies_up, lies_instantiate_at, lies_abstract_at}

-- ---- Lists of terms.

abbrev pub AllLie : Place → ℕ → ℕ → List Term → Type 0
AllLie p d k [] = Unit {0}
AllLie p d k (x ∷ xs) = Lies p d k x × AllLie p d k xs

pub all_lie_append : (p : Place) (d k : ℕ) (xs ys : List Term) → AllLie p d k xs → AllLie p d k ys → AllLie p d k (xs ++ ys)
all_lie_append p d k [] ys h g = g
all_lie_append p d k (x ∷ xs) ys h g = (h.0, all_lie_append p d k xs ys h.1 g)

pub all_lie_drop : (p : Place) (d k n : ℕ) (xs : List Term) → AllLie p d k xs → AllLie p d k (drop n xs)
all_lie_drop p d k zero xs h = h
all_lie_drop p d k (suc n) [] h = tt
all_lie_drop p d k (suc n) (x ∷ xs) h = all_lie_drop p d k n xs h.1

pub all_lie_up : (p : Place) {d e k l : ℕ} (xs : List Term) → d ≤ e → k ≤ l → AllLie p d k xs → AllLie p e l xs
all_lie_up p [] a b h = tt
all_lie_up p (x ∷ xs) a b h = (lies_up p x a b h.0, all_lie_up p xs a b h.1)

pub lies_apply : (p : Place) (d k : ℕ) (f : Term) (xs : List Term) → Lies p d k f → AllLie p d k xs → Lies p d k (apply f xs)
lies_apply p d k f [] h g = h
lies_apply p d k f (x ∷ xs) h g = lies_apply p d k (app f x) xs (h, g.0) g.1

arguments_lie : (p : Place) (d k : ℕ) (t : Term) (xs : List Term) → Lies p d k t → AllLie p d k xs → AllLie p d k (arguments_before t xs)
arguments_lie p d k (app f a) xs h g = arguments_lie p d k f (a ∷ xs) h.0 (h.1, g)
arguments_lie p d k _ xs h g = g

pub all_arguments_lie : (p : Place) (d k : ℕ) (t : Term) → Lies p d k t → AllLie p d k (arguments_of t)
all_arguments_lie p d k t h = arguments_lie p d k t [] h tt

pub variables_lie : (p : Place) (d k l : ℕ) (xs : Telescope) → k + length xs ≤ l → AllLie p d l (variables k xs)
variables_lie p d k l [] h = tt
variables_lie p d k l (x ∷ xs) h = (omega arith, variables_lie p d (suc k) l xs (omega arith))

pub innermost_lie : (p : Place) (d k n : ℕ) → n ≤ d → AllLie p d k (innermost n)
innermost_lie p d k zero h = tt
innermost_lie p d k (suc n) h = (omega arith, innermost_lie p d k n (omega arith))

-- ---- Telescopes: each type lies behind the variables before it.

abbrev pub Stands : Place → ℕ → Telescope → Type 0
Stands p k [] = Unit {0}
Stands p k (x ∷ xs) = Lies p 0 k x.ty × Stands p (suc k) xs

pub stands_append : (p : Place) (k : ℕ) (xs ys : Telescope) → Stands p k xs → Stands p (k + length xs) ys → Stands p k (xs ++ ys)
stands_append p k [] ys h g = let e : k + 0 ≡ k = omega arith in subst (λ n. Stands p n ys) e g
stands_append p k (x ∷ xs) ys h g =
    let e : k + length (x ∷ xs) ≡ suc k + length xs = omega arith in
    (h.0, stands_append p (suc k) xs ys h.1 (subst (λ n. Stands p n ys) e g))

-- From 0 on, since 0 + n doesn't compute.
pub stands_both : (p : Place) (xs ys : Telescope) → Stands p 0 xs → Stands p (length xs) ys → Stands p 0 (xs ++ ys)
stands_both p xs ys h g = let e : length xs ≡ 0 + length xs = omega arith in stands_append p 0 xs ys h (subst (λ n. Stands p n ys) e g)

pub stands_of_kind : (p : Place) (k : ℕ) (b : BinderKind) (xs : Telescope) → Stands p k xs → Stands p k (of_kind b xs)
stands_of_kind p k b [] h = tt
stands_of_kind p k b (x ∷ xs) h = (h.0, stands_of_kind p (suc k) b xs h.1)

pub length-of_kind : (b : BinderKind) (xs : Telescope) → length (of_kind b xs) ≡ length xs
length-of_kind b [] = refl
length-of_kind b (x ∷ xs) = let e : length (of_kind b xs) ≡ length xs = length-of_kind b xs in omega arith

pub lies_pis_over : (p : Place) (k : ℕ) (xs : Telescope) (t : Term) → Stands p k xs → Lies p 0 (k + length xs) t → Lies p 0 k (pis_over k xs t)
lies_pis_over p k [] t h g = let e : k + 0 ≡ k = omega arith in subst (λ n. Lies p 0 n t) e g
lies_pis_over p k (x ∷ xs) t h g =
    let e : k + length (x ∷ xs) ≡ suc k + length xs = omega arith in
    (h.0, lies_abstract_at p 0 k (pis_over (suc k) xs t) (lies_pis_over p (suc k) xs t h.1 (subst (λ n. Lies p 0 n t) e g)))

pub lies_lambdas_over : (p : Place) (k : ℕ) (xs : Telescope) (t : Term) → Stands p k xs → Lies p 0 (k + length xs) t → Lies p 0 k (lambdas_over k xs t)
lies_lambdas_over p k [] t h g = let e : k + 0 ≡ k = omega arith in subst (λ n. Lies p 0 n t) e g
lies_lambdas_over p k (x ∷ xs) t h g =
    let e : k + length (x ∷ xs) ≡ suc k + length xs = omega arith in
    (h.0, lies_abstract_at p 0 k (lambdas_over (suc k) xs t) (lies_lambdas_over p (suc k) xs t h.1 (subst (λ n. Lies p 0 n t) e g)))

-- ---- What is opened.

pub record Opens (p : Place) (k n : ℕ) (o : Opened) : Type 0 where
  pub locals : Stands p k o.locals
  pub rest : Lies p 0 (k + length o.locals) o.rest
  pub most : length o.locals ≤ n

opens_none : (p : Place) (k n : ℕ) (t : Term) → Lies p 0 k t → Opens p k n (record { locals = []; rest = t })
opens_none p k n t h = let e : k ≡ k + 0 = omega arith in record { locals = tt; rest = subst (λ m. Lies p 0 m t) e h; most = zero-le }

pub opens : (p : Place) (k n : ℕ) (t : Term) → Lies p 0 k t → Opens p k n (open_pis k n t)
opens p k (suc n) (pi x A B) h =
    let o : Opened = open_pis (suc k) n (instantiate B (free k)) in
    let r : Opens p (suc k) n o = opens p (suc k) n (instantiate B (free k)) (lies_instantiate_at p 0 k B h.1) in
    let e : suc k + length o.locals ≡ k + length (behind x A o).locals = omega arith in
    let m : length o.locals ≤ n = r.most in
    record { locals = (h.0, r.locals); rest = subst (λ m. Lies p 0 m o.rest) e r.rest; most = omega arith }
opens p k zero t h = opens_none p k zero t h
opens p k (suc n) t h = opens_none p k (suc n) t h
