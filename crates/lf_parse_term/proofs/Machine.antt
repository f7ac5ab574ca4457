-- Of symbols one behind the other, the first reads and then the others.
use Rattle.std.proofs.Common.{◌≡◌, List, [], ◌∷◌, ◌++◌, Option, None, Some, Result, Ok, Err, length, refl, sym, ap, ◌∙◌}
use mathlib.Core.Path.{PathP}
use Rattle.lf_syntax.specs.Predictive.{Takes, join, Production, Grammar}
use Rattle.lf_parse_term.specs.Machine.{Reading, Move, goes, ends, stops, move, finish, all}
use Rattle.lf_parse_term.specs.declared.halt.Halt.{Halt}
use Rattle.lf_parse_term.specs.declared.halt.Halt.TheVariants.{Stuck}

abbrev pub then : {T A B : Type 0} → Reading T A → (A → List T → Reading T B) → Reading T B
then (Ok x) f = f x.0 x.1
then (Err e) f = Err e

pub then_same : {T A B : Type 0} (m : Reading T A) (f g : A → List T → Reading T B) → ((a : A) (ts : List T) → f a ts ≡ g a ts) → then m f ≡ then m g
then_same (Ok x) f g h = h x.0 x.1
then_same (Err e) f g h = refl

pub then_ok : {T A : Type 0} (m : Reading T A) → then m (λ a ts. Ok (a, ts)) ≡ m
then_ok (Ok x) = refl
then_ok (Err e) = refl

pub then_then : {T A B C : Type 0} (m : Reading T A) (f : A → List T → Reading T B) (g : B → List T → Reading T C) →
    then (then m f) g ≡ then m (λ a ts. then (f a ts) g)
then_then (Ok x) f g = refl
then_then (Err e) f g = refl

abbrev assoc : {S : Type 0} (xs ys zs : List S) → (xs ++ ys) ++ zs ≡ xs ++ (ys ++ zs)
assoc [] ys zs = λ i. ys ++ zs
assoc (x ∷ xs) ys zs = λ i. x ∷ assoc xs ys zs i

join_assoc : {A R : Type 0} (B : Type 0) (g : Grammar) (xs ys zs : List g.S) (f : Takes g.Tree xs A) (k : A → Takes g.Tree ys R) (h : R → Takes g.Tree zs B) →
    PathP (λ i. Takes g.Tree (assoc xs ys zs i) B) (join g.Tree B (xs ++ ys) zs (join g.Tree R xs ys f k) h)
    (join g.Tree B xs (ys ++ zs) f (λ a. join g.Tree B ys zs (k a) h))
join_assoc B g [] ys zs f k h = λ i. join g.Tree B ys zs (k f) h
join_assoc B g (x ∷ xs) ys zs f k h = λ i v. join_assoc B g xs ys zs (f v) k h i

abbrev pub moved : {R : Type 0} (g : Grammar) → g.T → List g.T → Move g R → Reading g.T R
moved g t ts m = elim m [
  | goes ys j ↦ all g ts ys j
  | ends r ↦ Ok (r, t ∷ ts)
  | stops ↦ Err (Stuck (length (t ∷ ts)))
]

split_end : {A R : Type 0} (g : Grammar) (xs ys : List g.S) (f : Takes g.Tree xs A) (k : A → Takes g.Tree ys R) →
    finish g (xs ++ ys) (join g.Tree R xs ys f k) ≡ then (finish g xs f) (λ a rest. all g rest ys (k a))
unfolding all
split_end g [] ys f k = refl
split_end {A} {R} g (x ∷ xs) ys f k = go (g.without x) (λ v. split_end g xs ys (f v) k)
  where
    go : (o : Option (g.Tree x)) → ((v : g.Tree x)
        → finish g (xs ++ ys) (join g.Tree R xs ys (f v) k) ≡ then (finish g xs (f v)) (λ a rest. all g rest ys (k a))) →
        ◌≡◌ {A = Reading g.T R} (elim o [ None ↦ Err (Stuck 0) | Some v ↦ finish g (xs ++ ys) (join g.Tree R xs ys (f v) k) ])
        (then (elim o as (λ _. Reading g.T A) [ None ↦ Err (Stuck 0) | Some v ↦ finish g xs (f v) ]) (λ a rest. all g rest ys (k a)))
    go None ih = refl
    go (Some v) ih = ih v

split_move : {A R : Type 0} (g : Grammar) (xs ys : List g.S) (f : Takes g.Tree xs A) (k : A → Takes g.Tree ys R) (t : g.T) (ts : List g.T) →
    ((zs : List g.S) (j : Takes g.Tree zs A) → all g ts (zs ++ ys) (join g.Tree R zs ys j k) ≡ then (all g ts zs j) (λ a rest. all g rest ys (k a))) →
    moved g t ts (move g (xs ++ ys) (join g.Tree R xs ys f k) t) ≡ then (moved g t ts (move g xs f t)) (λ a rest. all g rest ys (k a))
unfolding all
split_move g [] ys f k t ts ih = refl
split_move {A} {R} g (x ∷ xs) ys f k t ts ih = taken (g.begin x t) (λ v. split_move g xs ys (f v) k t ts ih)
  where
    skips : (o : Option (g.Tree x)) →
        ((v : g.Tree x) → moved g t ts (move g (xs ++ ys) (join g.Tree R xs ys (f v) k) t)
        ≡ then (moved g t ts (move g xs (f v) t)) (λ a rest. all g rest ys (k a))) →
        moved g t ts (elim o as (λ _. Move g R) [ None ↦ stops | Some v ↦ move g (xs ++ ys) (join g.Tree R xs ys (f v) k) t ]) ≡
        then (moved g t ts (elim o as (λ _. Move g A) [ None ↦ stops | Some v ↦ move g xs (f v) t ])) (λ a rest. all g rest ys (k a))
    skips None more = refl
    skips (Some v) more = more v

    taken : (o : Option (Production g.S g.Tree (g.Tree x))) →
        ((v : g.Tree x) → moved g t ts (move g (xs ++ ys) (join g.Tree R xs ys (f v) k) t)
        ≡ then (moved g t ts (move g xs (f v) t)) (λ a rest. all g rest ys (k a))) →
        moved g t ts (elim o as (λ _. Move g R) [
          | Some p ↦ goes (p.body ++ (xs ++ ys)) (join g.Tree R p.body (xs ++ ys) p.build (λ v. join g.Tree R xs ys (f v) k))
          | None ↦ elim (g.without x) [ None ↦ stops | Some v ↦ move g (xs ++ ys) (join g.Tree R xs ys (f v) k) t ]
        ]) ≡
        then (moved g t ts (elim o as (λ _. Move g A) [
          | Some p ↦ goes (p.body ++ xs) (join g.Tree A p.body xs p.build f)
          | None ↦ elim (g.without x) [ None ↦ stops | Some v ↦ move g xs (f v) t ]
        ])) (λ a rest. all g rest ys (k a))
    taken (Some p) more =
        sym (λ i. all g ts (assoc p.body xs ys i) (join_assoc R g p.body xs ys p.build f k i)) ∙ ih (p.body ++ xs) (join g.Tree A p.body xs p.build f)
    taken None more = skips (g.without x) more

pub split : {A R : Type 0} (g : Grammar) (ts : List g.T) (xs ys : List g.S) (f : Takes g.Tree xs A) (k : A → Takes g.Tree ys R) →
    all g ts (xs ++ ys) (join g.Tree R xs ys f k) ≡ then (all g ts xs f) (λ a rest. all g rest ys (k a))
unfolding all
split g [] xs ys f k = split_end g xs ys f k
split g (t ∷ ts) xs ys f k = split_move g xs ys f k t ts (λ zs j. split g ts zs ys j k)

pub none : {R : Type 0} (g : Grammar) (ts : List g.T) (r : R) → all g ts [] r ≡ Ok (r, ts)
unfolding all
none g [] r = refl
none g (t ∷ ts) r = refl
