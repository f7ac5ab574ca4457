-- Proofs put in their pads, one at a time; and applications to two lists.
use Rattle.std.proofs.Common.{◌≡◌, ℕ, List, [], ◌∷◌, ◌++◌, refl, ap, sym, append_assoc}
use Rattle.std.proofs.lemmas.List.{append-nil}
use Rattle.std.specs.Prelude.{Option}
use Rattle.lf_core.specs.Term.{Term, app}
use Rattle.lf_core.specs.Spine.{apply}
use Rattle.lf_checker.specs.Run.{Answer, done, refused, out, need, go_on, gives}
use Rattle.lf_elaboration.specs.Step.{padded, padded_all}
use Rattle.lf_items.specs.Parts.{padded_into}

pub none_left : (before : List Term) (ps : List (Option Term)) (u : ℕ) → padded_into before [] ps u ≡ done before u
none_left before ps u = ap (λ zs. done zs u) (append-nil before)

pub unpadded : (before : List Term) (g : Term) (gs : List Term) (u : ℕ) → padded_into before (g ∷ gs) [] u ≡ done (before ++ g ∷ gs) u
unpadded before g gs u = refl

put_behind : (before : List Term) (t : Term) (o : Answer (List Term))
    → go_on (go_on o (λ ts. gives (t ∷ ts))) (λ zs. gives (before ++ zs)) ≡ go_on o (λ ts. gives ((before ++ t ∷ []) ++ ts))
put_behind before t (done ts u) = ap (λ zs. done zs u) (sym (append_assoc before (t ∷ []) ts))
put_behind before t (refused e u) = refl
put_behind before t out = refl
put_behind before t (need k) = refl

pub one_more : (before : List Term) (g : Term) (gs : List Term) (p : Option Term) (ps : List (Option Term)) (u : ℕ)
    → padded_into before (g ∷ gs) (p ∷ ps) u ≡ go_on (padded g p u) (λ t. padded_into (before ++ t ∷ []) gs ps)
one_more before g gs p ps u = by_first (padded g p u)
  where
    by_first : (o : Answer Term) → go_on (go_on o (λ t v. go_on (padded_all gs ps v) (λ ts. gives (t ∷ ts)))) (λ zs. gives (before ++ zs))
        ≡ go_on o (λ t. padded_into (before ++ t ∷ []) gs ps)
    by_first (done t v) = put_behind before t (padded_all gs ps v)
    by_first (refused e v) = refl
    by_first out = refl
    by_first (need j) = refl

all_of : (o : Answer (List Term)) → go_on o (λ ts. gives ([] ++ ts)) ≡ o
all_of (done ts u) = refl
all_of (refused e u) = refl
all_of out = refl
all_of (need k) = refl

pub from_none : (gs : List Term) (ps : List (Option Term)) (u : ℕ) → padded_into [] gs ps u ≡ padded_all gs ps u
from_none gs ps u = all_of (padded_all gs ps u)

pub apply_append : (f : Term) (xs ys : List Term) → apply f (xs ++ ys) ≡ apply (apply f xs) ys
apply_append f [] ys = refl
apply_append f (x ∷ xs) ys = apply_append (app f x) xs ys
