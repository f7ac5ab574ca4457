-- The fields and parameters of a constructor, one at a time.
use Rattle.std.proofs.Common.{◌≡◌, ℕ, zero, suc, ◌-◌, ◌≤◌, Bool, true, false, ◌∷◌, refl, sym, arith}
use Rattle.std.specs.Prelude.{Some}
use Rattle.lf_core.specs.Term.{Path, Universe, Term, bound, free, meta, sort, const, app, lam, pi, letin, lit, proj}
use Rattle.lf_core.specs.Same.{same}
use Rattle.lf_name.specs.declared.binder.Binder.{Binder}
use Rattle.lf_rules.specs.Environment.{Context, with}
use Rattle.lf_rules.specs.Telescope.{Local, Telescope, pi_count}
use Rattle.lf_rules.specs.Recursor.{Family}
use Rattle.lf_checker.specs.Run.{Answer, done, refused, out, need, Run, go_on, gives, refuse, choose, under, opening}
use Rattle.lf_checker.specs.declared.fault.TypeFault.TheVariants.{NotPositive, BadResult, LevelTooHigh}
use Rattle.lf_checker.specs.Calls.{checked, Calls}
use Rattle.lf_checker.specs.Infer.{sort_of}
use Rattle.lf_checker.specs.Admission.{is_positive, is_low, with_field, admit_end, admit_fields, admit_constructor}
use Rattle.lf_induct.specs.declared.front.Front.{Front}
use Rattle.lf_induct.specs.Parts.{fits, field, at_front, at_parameter}

-- What goes on from the tests of a field.
fits_then : {B : Type 0} (p q : Bool) (l : Universe) (e d : Run Universe) (e' d' : Run B) (k : Universe → Run B) (u : ℕ)
    → ((v : ℕ) → go_on (e v) k ≡ e' v) → ((v : ℕ) → go_on (d v) k ≡ d' v)
    → choose p (choose q (k l) e') d' u ≡ go_on (choose p (choose q (gives l) e) d u) k
fits_then true true l e d e' d' k u h j = refl
fits_then true false l e d e' d' k u h j = sym (h u)
fits_then false q l e d e' d' k u h j = sym (j u)

field_then : {B : Type 0} (f : Family) (r : Universe) (n : Path) (i : ℕ) (A : Term) (k : Universe → Run B) (o : Answer Universe)
    → go_on o (λ l. choose (is_positive f A) (choose (is_low l r) (k l) (refuse (LevelTooHigh n i))) (refuse (NotPositive n i)))
    ≡ go_on (go_on o (fits f r n i A)) k
field_then f r n i A k (done l u) =
    fits_then (is_positive f A) (is_low l r) l (refuse (LevelTooHigh n i)) (refuse (NotPositive n i)) (refuse (LevelTooHigh n i)) (refuse (NotPositive n i)) k u
    (λ v. refl) (λ v. refl)
field_then f r n i A k (refused e u) = refl
field_then f r n i A k out = refl
field_then f r n i A k (need j) = refl

pub at_field : (c : Calls) (f : Family) (r : Universe) (n : Path) (i m : ℕ) (C : Context) (t : Term) (p : Front) → 1 ≤ m
    → t ≡ pi p.binder.now p.domain.now p.body.now → admit_fields c f r n i m C t ≡ at_front c f r n i m C t (Some p)
at_field c f r n i zero C t p h e = absurd (omega (arith, h))
at_field c f r n i (suc m) C t p h e = rw e (by_domain p.binder.now p.domain.now p.body.now)
  where
    by_domain : (x : Binder) (A B : Term) → admit_fields c f r n i (suc m) C (pi x A B)
        ≡ (λ u. go_on (field c f r n i C A u) (λ l u.
        go_on (opening C B u) (λ o u. go_on (under x.name (admit_fields c f r n (suc i) (suc m - 1) (with C A) o) u) (λ k. gives (with_field l k)))))
    by_domain x A B = let d : suc m - 1 ≡ m = omega arith in rw d (λ j u. field_then f r n i A
        (λ l u. go_on (opening C B u) (λ o u. go_on (under x.name (admit_fields c f r n (suc i) m (with C A) o) u) (λ k. gives (with_field l k))))
        (sort_of c checked C A u) j)

pub no_field : (c : Calls) (f : Family) (r : Universe) (n : Path) (i m : ℕ) (C : Context) (t : Term) → m ≡ 0
    → admit_fields c f r n i m C t ≡ admit_end c f n C t
no_field c f r n i zero C t h = refl
no_field c f r n i (suc m) C t h = absurd (omega (arith, h))

pub at_end : (c : Calls) (f : Family) (r : Universe) (n : Path) (i m : ℕ) (C : Context) (t : Term) → pi_count t ≡ 0
    → admit_fields c f r n i m C t ≡ admit_end c f n C t
at_end c f r n i zero C t h = refl
at_end c f r n i (suc m) C (bound j) h = refl
at_end c f r n i (suc m) C (free j) h = refl
at_end c f r n i (suc m) C (meta j) h = refl
at_end c f r n i (suc m) C (sort l) h = refl
at_end c f r n i (suc m) C (const d ls) h = refl
at_end c f r n i (suc m) C (app g a) h = refl
at_end c f r n i (suc m) C (lam x A b) h = refl
at_end c f r n i (suc m) C (pi x A b) h = absurd (omega (arith, h))
at_end c f r n i (suc m) C (letin x A v b) h = refl
at_end c f r n i (suc m) C (lit j) h = refl
at_end c f r n i (suc m) C (proj s j t) h = refl

pub no_parameter : (c : Calls) (f : Family) (r : Universe) (n : Path) (x : Local) (xs : Telescope) (C : Context) (t : Term) → pi_count t ≡ 0
    → admit_constructor c f r n (x ∷ xs) C t ≡ refuse (BadResult n)
no_parameter c f r n x xs C (bound j) h = refl
no_parameter c f r n x xs C (free j) h = refl
no_parameter c f r n x xs C (meta j) h = refl
no_parameter c f r n x xs C (sort l) h = refl
no_parameter c f r n x xs C (const d ls) h = refl
no_parameter c f r n x xs C (app g a) h = refl
no_parameter c f r n x xs C (lam y A b) h = refl
no_parameter c f r n x xs C (pi y A b) h = absurd (omega (arith, h))
no_parameter c f r n x xs C (letin y A v b) h = refl
no_parameter c f r n x xs C (lit j) h = refl
no_parameter c f r n x xs C (proj s j t) h = refl

pub other_parameter : (c : Calls) (f : Family) (r : Universe) (n : Path) (x : Local) (xs : Telescope) (C : Context) (t : Term) (p : Front)
    → t ≡ pi p.binder.now p.domain.now p.body.now → same x.ty p.domain.now ≡ false
    → admit_constructor c f r n (x ∷ xs) C t ≡ refuse (BadResult n)
other_parameter c f r n x xs C t p e h = rw (e, h) refl

pub same_parameter : (c : Calls) (f : Family) (r : Universe) (n : Path) (x : Local) (xs : Telescope) (C : Context) (t : Term) (p : Front)
    → t ≡ pi p.binder.now p.domain.now p.body.now → same x.ty p.domain.now ≡ true
    → admit_constructor c f r n (x ∷ xs) C t ≡ at_parameter c f r n xs C (Some p)
same_parameter c f r n x xs C t p e h = rw (e, h) refl
