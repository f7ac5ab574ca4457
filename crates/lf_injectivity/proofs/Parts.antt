-- Names with primes, and fields from the last on.
use Rattle.std.proofs.Common.{◌≡◌, ℕ, zero, suc, ◌+◌, ◌-◌, nat_eq, codes, ◌<◌, List, [], ◌∷◌, ◌++◌, length, reverse, Option, Some, None, ◌&&◌, refl, ap, ◌∙◌, arith}
use Rattle.std.proofs.lemmas.List.{reverse-append}
use Rattle.lf_core.specs.Term.{Path, Term, const}
use Rattle.lf_elaboration.specs.Forms.{Binding, as_pi}
use Rattle.lf_elaboration.specs.Injectivity as definition
use Rattle.std.specs.Prelude.{is_none}
use Rattle.lf_elaboration.specs.Metavariables.{or_first}
use Rattle.lf_elaboration.specs.Injectivity.{primed, conjoined, minor_for, next_minor, minors_for}

pub primed_has_parts : (n : Path) → 0 < length n → 0 < length (primed n)
primed_has_parts [] h = h
primed_has_parts (word ∷ []) h = omega arith
primed_has_parts (word ∷ next ∷ words) h = omega arith

pub one_back : (fs : List definition.Field) (f : definition.Field) → reverse (fs ++ f ∷ []) ≡ f ∷ reverse fs
one_back fs f = reverse-append fs (f ∷ [])

pub none_both : (a b : Option ℕ) → is_none (or_first a b) ≡ (is_none a && is_none b)
none_both (Some k) b = refl
none_both None b = refl

pub proof_back : (ps : List Term) (p : Term) → reverse (ps ++ p ∷ []) ≡ p ∷ reverse ps
proof_back ps p = reverse-append ps (p ∷ [])

pub none_conjoined : (fs : List definition.Field) → conjoined fs [] ≡ const (codes "True" ∷ codes "intro" ∷ []) []
none_conjoined [] = refl
none_conjoined (f ∷ []) = refl
none_conjoined (f ∷ g ∷ fs) = refl

by_front : (n index i j : ℕ) (t : Term) (o : Option Binding) (p : Binding) → o ≡ Some p
    → next_minor j index i t o (minors_for n index i t (suc j)) ≡ minor_for (nat_eq j index) i t p.domain ∷ minors_for n index i t (suc j) p.body
by_front n index i j t o p e = ap (λ q. next_minor j index i t q (minors_for n index i t (suc j))) e

same : (n : ℕ) → n ≡ suc n - 1
same n = omega arith

next : (j : ℕ) → suc j ≡ j + 1
next j = omega arith

pub minors_some : (n index i j : ℕ) (t T : Term) (p : Binding) → 0 < n → as_pi T ≡ Some p
    → minors_for n index i t j T ≡ minor_for (nat_eq j index) i t p.domain ∷ minors_for (n - 1) index i t (j + 1) p.body
minors_some zero index i j t T p h e = absurd (omega (arith, h))
minors_some (suc n) index i j t T p h e =
    by_front n index i j t (as_pi T) p e
    ∙ (λ k. minor_for (nat_eq j index) i t p.domain ∷ minors_for (same n k) index i t (next j k) p.body)

pub emptied : (fs : List definition.Field) (ps : List Term) → length ps < 1 → conjoined fs ps ≡ const (codes "True" ∷ codes "intro" ∷ []) []
emptied fs [] h = none_conjoined fs
emptied fs (p ∷ ps) h = absurd (omega (arith, h))
