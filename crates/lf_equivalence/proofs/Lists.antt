-- Types that are made from the last on, and the parts of a conjunction of two or more.
use Rattle.std.proofs.Common.{◌≡◌, ◌∙◌, ℕ, suc, ◌-◌, ◌≤◌, List, [], ◌∷◌, ◌++◌, codes, length, reverse, take, drop, get_or, refl, ap, sym, arith}
use Rattle.std.proofs.lemmas.List.{reverse-append}
use Rattle.lf_core.specs.Term.{Term, Universe, app}
use Rattle.lf_elaboration.specs.Equivalence.{parts, congr_step, further, rebuilt}
use Rattle.lf_elaboration.specs.Injectivity.{Field, Sides}
use Rattle.lf_equivalence.specs.Parts.{part_at, from_first}

pub one_back : (rs : List (Term × Universe)) (r : Term × Universe) → reverse (rs ++ r ∷ []) ≡ r ∷ reverse rs
one_back rs r = reverse-append rs (r ∷ [])

pub more_parts : (fs : List Field) (f : Field) (h : Term) → 2 ≤ length fs → f ≡ get_or fs 0 f
    → parts fs h ≡ part_at (codes "left") f (drop 1 fs) h ∷ parts (drop 1 fs) (part_at (codes "right") f (drop 1 fs) h)
more_parts [] f h l e = absurd (omega (arith, l))
more_parts (x ∷ []) f h l e = absurd (omega (arith, l))
more_parts (x ∷ y ∷ zs) f h l e =
    λ i. part_at (codes "left") (sym e i) (y ∷ zs) h ∷ parts (y ∷ zs) (part_at (codes "right") (sym e i) (y ∷ zs) h)

-- ---- The rest of a slice, as the code takes it

one_less : (n : ℕ) → suc n - 1 ≡ n
one_less n = omega arith

all_of : {A : Type 0} (xs : List A) → take (length xs) xs ≡ xs
all_of [] = refl
all_of (x ∷ xs) = ap (λ ys. x ∷ ys) (all_of xs)

pub rest_is : {A : Type 0} (xs : List A) → take (length xs - 1) (drop 1 xs) ≡ drop 1 xs
rest_is [] = refl
rest_is (x ∷ xs) = (λ i. take (one_less (length xs) i) xs) ∙ all_of xs

-- ---- The next field, where there is one of each

pub further_next : (s : Sides) (f g e : Term) (xs : List Field) (Bs : List (Term × Universe)) (hs : List Term) (x : Field) (B : Term × Universe) (h : Term)
    → 1 ≤ length xs → 1 ≤ length Bs → 1 ≤ length hs → x ≡ get_or xs 0 x → B ≡ get_or Bs 0 B → h ≡ get_or hs 0 h
    → further s f g e xs Bs hs
    ≡ further s (app f x.left) (app g x.right) (congr_step x.level B.1 x.ty B.0 f g x.left x.right e h) (drop 1 xs) (drop 1 Bs) (drop 1 hs)
further_next s f g e [] Bs hs x B h k l m p q r = absurd (omega (arith, k))
further_next s f g e (y ∷ xs) [] hs x B h k l m p q r = absurd (omega (arith, l))
further_next s f g e (y ∷ xs) (C ∷ Bs) [] x B h k l m p q r = absurd (omega (arith, m))
further_next s f g e (y ∷ xs) (C ∷ Bs) (j ∷ hs) x B h k l m p q r =
    λ i. from (sym p i) (sym q i) (sym r i)
  where
    from : Field → Term × Universe → Term → Term
    from x B h = further s (app f x.left) (app g x.right) (congr_step x.level B.1 x.ty B.0 f g x.left x.right e h) xs Bs hs

by_fields : (s : Sides) (B : Term × Universe) (Bs : List (Term × Universe)) (h : Term) (hs : List Term) (xs : List Field) (x : Field)
    → 1 ≤ length xs → x ≡ get_or xs 0 x → rebuilt (record s { fields = xs }) (B ∷ Bs) (h ∷ hs) ≡ from_first s B Bs h hs (drop 1 xs) x
by_fields s B Bs h hs [] x k p = absurd (omega (arith, k))
by_fields s B Bs h hs (y ∷ xs) x k p = λ i. from_first s B Bs h hs xs (sym p i)

pub rebuilt_first : (s : Sides) (B : Term × Universe) (Bs : List (Term × Universe)) (h : Term) (hs : List Term) (xs : List Field) (x : Field)
    → xs ≡ s.fields → 1 ≤ length xs → x ≡ get_or xs 0 x → rebuilt s (B ∷ Bs) (h ∷ hs) ≡ from_first s B Bs h hs (drop 1 xs) x
rebuilt_first s B Bs h hs xs x e k p = (λ i. rebuilt (record s { fields = sym e i }) (B ∷ Bs) (h ∷ hs)) ∙ by_fields s B Bs h hs xs x k p
