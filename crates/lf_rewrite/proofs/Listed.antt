-- The subterms with a head and so many arguments: those of a term are perhaps itself, and then those of its parts.
use Rattle.std.proofs.Common.{◌≡◌, ℕ, Bool, true, false, List, [], ◌∷◌, ◌++◌, refl, ap, ◌∙◌}
use Rattle.std.proofs.lemmas.List.{append-nil}
use Rattle.std.proofs.lemmas.List.Elements.{filter-append}
use Rattle.std.specs.Prelude.{if◌then◌else◌, filter}
use Rattle.lf_core.specs.Term.{Path, Term, app, lam, pi, letin, proj}
use Rattle.lf_name.specs.declared.binder.Binder.{Binder}
use Rattle.lf_elaboration.specs.Motive.{subterms}
use Rattle.lf_rewrite.specs.Places.{is_sought, here, places}

kept_by : (b : Bool) (t : Term) (xs : List Term) → (if b then t ∷ xs else xs) ≡ (if b then t ∷ [] else []) ++ xs
kept_by true t xs = refl
kept_by false t xs = refl

first : (h : Term) (n : ℕ) (t : Term) (xs : List Term) → filter (is_sought h n) (t ∷ xs) ≡ here h n t ++ filter (is_sought h n) xs
first h n t xs = kept_by (is_sought h n t) t (filter (is_sought h n) xs)

pub leaf : (h : Term) (n : ℕ) (t : Term) → subterms t ≡ t ∷ [] → places h n t ≡ here h n t
leaf h n t e = ap (filter (is_sought h n)) e ∙ first h n t [] ∙ append-nil (here h n t)

pub of_projection : (h : Term) (n : ℕ) (s : Path) (i : ℕ) (t : Term) → places h n (proj s i t) ≡ here h n (proj s i t) ++ places h n t
of_projection h n s i t = first h n (proj s i t) (subterms t)

two : (h : Term) (n : ℕ) (t a b : Term) → filter (is_sought h n) (t ∷ subterms a ++ subterms b) ≡ here h n t ++ (places h n a ++ places h n b)
two h n t a b = first h n t (subterms a ++ subterms b) ∙ ap (λ zs. here h n t ++ zs) (filter-append (is_sought h n) (subterms a) (subterms b))

pub of_application : (h : Term) (n : ℕ) (f a : Term) → places h n (app f a) ≡ here h n (app f a) ++ (places h n f ++ places h n a)
of_application h n f a = two h n (app f a) f a

pub of_lambda : (h : Term) (n : ℕ) (x : Binder) (a b : Term) → places h n (lam x a b) ≡ here h n (lam x a b) ++ (places h n a ++ places h n b)
of_lambda h n x a b = two h n (lam x a b) a b

pub of_pi : (h : Term) (n : ℕ) (x : Binder) (a b : Term) → places h n (pi x a b) ≡ here h n (pi x a b) ++ (places h n a ++ places h n b)
of_pi h n x a b = two h n (pi x a b) a b

pub of_let : (h : Term) (n : ℕ) (x : Binder) (a v b : Term)
    → places h n (letin x a v b) ≡ here h n (letin x a v b) ++ (places h n a ++ (places h n v ++ places h n b))
of_let h n x a v b =
    first h n (letin x a v b) (subterms a ++ (subterms v ++ subterms b))
    ∙ ap (λ zs. here h n (letin x a v b) ++ zs) (filter-append (is_sought h n) (subterms a) (subterms v ++ subterms b)
    ∙ ap (λ zs. places h n a ++ zs) (filter-append (is_sought h n) (subterms v) (subterms b)))
