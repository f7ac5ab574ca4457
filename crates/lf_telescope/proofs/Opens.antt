-- How binders are opened, one at a time, and that the definition opens them so.
use Rattle.std.proofs.Common.{◌≡◌, ℕ, zero, suc, ◌-◌, ◌≤◌, [], ◌∷◌, ◌++◌, length, refl, ap, sym, ◌∙◌, append_assoc, arith}
use Rattle.std.specs.Prelude.{Option, Some, None, option_map}
use Rattle.lf_core.specs.Term.{Term}
use Rattle.lf_rules.specs.Environment.{Context, with}
use Rattle.lf_rules.specs.Telescope.{Telescope, Opened, behind}
use Rattle.lf_checker.specs.Run.{Answer, done, refused, out, need, Run, go_on, gives, opening}
use Rattle.lf_elaboration.specs.Forms.{Binding, as_pi, as_lambda}
use Rattle.lf_elaboration.specs.Statement.{open_binder, open_pis, open_lambdas}
use Rattle.lf_telescope.specs.declared.binding.Binding as code
use Rattle.lf_telescope.specs.declared.binding.Former.{Former}
use Rattle.lf_telescope.specs.declared.binding.Former.TheVariants.{Pi, Lambda}
use Rattle.lf_telescope.specs.Opens.{formed_by, opening_at, open_binder_at, open_from, behind_all, onto, at_front}
use Rattle.lf_telescope.specs.Values.{binding}

ends_here : (xs : Telescope) (t : Term) (u : ℕ) → onto xs (gives (record { locals = []; rest = t })) u ≡ done (behind_all xs t) u
ends_here xs t u = ap (λ ys. done (behind_all ys t) u) (append_nil xs)
  where
    append_nil : (xs : Telescope) → xs ++ [] ≡ xs
    append_nil [] = refl
    append_nil (x ∷ xs) = ap (λ ys. x ∷ ys) (append_nil xs)

pub no_more : (s : Former) (xs : Telescope) (n k : ℕ) (t : Term) (u : ℕ) → n ≡ 0 → onto xs (open_from s n k t) u ≡ done (behind_all xs t) u
unfolding open_from
no_more s xs zero k t u h = ends_here xs t u
no_more s xs (suc n) k t u h = absurd (omega (arith, h))

onto_behind : (xs : Telescope) (p : Binding) (o : Answer Opened)
    → go_on (go_on o (λ r. gives (behind p.binder p.domain r))) (λ r. gives (behind_all (xs ++ r.locals) r.rest))
    ≡ go_on o (λ r. gives (behind_all ((xs ++ record { binder = p.binder; ty = p.domain } ∷ []) ++ r.locals) r.rest))
onto_behind xs p (done r u) = ap (λ ys. done (behind_all ys r.rest) u) (sym (append_assoc xs (record { binder = p.binder; ty = p.domain } ∷ []) r.locals))
onto_behind xs p (refused e u) = refl
onto_behind xs p out = refl
onto_behind xs p (need k) = refl

onto_opened : (xs : Telescope) (p : Binding) (f : Term → Run Opened) (a : Answer Term)
    → go_on (go_on a (λ o u. go_on (f o u) (λ r. gives (behind p.binder p.domain r)))) (λ r. gives (behind_all (xs ++ r.locals) r.rest))
    ≡ go_on a (λ o. onto (xs ++ record { binder = p.binder; ty = p.domain } ∷ []) (f o))
onto_opened xs p f (done o u) = onto_behind xs p (f o u)
onto_opened xs p f (refused e u) = refl
onto_opened xs p f out = refl
onto_opened xs p f (need k) = refl

pub at_next : (s : Former) (xs : Telescope) (n k : ℕ) (t : Term) (r : Option code.Binding) (u : ℕ) → 1 ≤ n → option_map binding r ≡ formed_by s t
    → onto xs (open_from s n k t) u ≡ at_front s xs n k t r u
unfolding open_from
at_next s xs zero k t r u h e = absurd (omega (arith, h))
at_next s xs (suc n) k t None u h e = rw (sym e) (ends_here xs t u)
at_next s xs (suc n) k t (Some p) u h e =
    let d : suc n - 1 ≡ n = omega arith in rw (sym e, d) (onto_opened xs (binding p) (open_from s n (suc k)) (opening_at k p.body.now u))

-- ---- The definition's contexts, by their lengths

length_with : (C : Context) (A : Term) → length (with C A) ≡ suc (length C)
length_with [] A = refl
length_with (B ∷ C) A = ap (λ n. suc n) (length_with C A)

opened_is : (f g : Term → Run Opened) (p : Binding) (a : Answer Term) → ((o : Term) (u : ℕ) → f o u ≡ g o u)
    → go_on a (λ o u. go_on (f o u) (λ r. gives (behind p.binder p.domain r))) ≡ go_on a (λ o u. go_on (g o u) (λ r. gives (behind p.binder p.domain r)))
opened_is f g p (done o u) h = ap (λ b. go_on b (λ r. gives (behind p.binder p.domain r))) (h o u)
opened_is f g p (refused e u) h = refl
opened_is f g p out h = refl
opened_is f g p (need k) h = refl

binder_is : (f : Context → Term → Run Opened) (g : ℕ → Term → Run Opened) → ((C : Context) (t : Term) (u : ℕ) → f C t u ≡ g (length C) t u)
    → (C : Context) (p : Option Binding) (t : Term) (u : ℕ) → open_binder C p t f u ≡ open_binder_at (length C) p t g u
binder_is f g h C None t u = refl
binder_is f g h C (Some p) t u = opened_is (f (with C p.domain)) (g (suc (length C))) p (opening C p.body u)
    (λ o v. h (with C p.domain) o v ∙ ap (λ k. g k o v) (length_with C p.domain))

pis_from : (n : ℕ) (C : Context) (t : Term) (u : ℕ) → open_pis n C t u ≡ open_from Pi n (length C) t u
unfolding open_from
pis_from zero C t u = refl
pis_from (suc n) C t u = binder_is (open_pis n) (open_from Pi n) (pis_from n) C (as_pi t) t u

lambdas_from : (n : ℕ) (C : Context) (t : Term) (u : ℕ) → open_lambdas n C t u ≡ open_from Lambda n (length C) t u
unfolding open_from
lambdas_from zero C t u = refl
lambdas_from (suc n) C t u = binder_is (open_lambdas n) (open_from Lambda n) (lambdas_from n) C (as_lambda t) t u

onto_none : (o : Answer Opened) → go_on o (λ r. gives (behind_all ([] ++ r.locals) r.rest)) ≡ o
onto_none (done r u) = refl
onto_none (refused e u) = refl
onto_none out = refl
onto_none (need k) = refl

pub open_pis_is : (n : ℕ) (C : Context) (t : Term) (u : ℕ) → open_pis n C t u ≡ onto [] (open_from Pi n (length C) t) u
open_pis_is n C t u = pis_from n C t u ∙ sym (onto_none (open_from Pi n (length C) t u))

pub open_lambdas_is : (n : ℕ) (C : Context) (t : Term) (u : ℕ) → open_lambdas n C t u ≡ onto [] (open_from Lambda n (length C) t) u
open_lambdas_is n C t u = lambdas_from n C t u ∙ sym (onto_none (open_from Lambda n (length C) t u))
