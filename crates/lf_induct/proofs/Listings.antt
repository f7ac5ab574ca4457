-- What is read of the constructors, one at a time.
use Rattle.std.proofs.Common.{◌≡◌, ℕ, List, [], ◌∷◌, ◌++◌, refl, ap, sym, append_assoc}
use Rattle.std.proofs.lemmas.List.{append-nil}
use Rattle.lf_core.specs.Term.{Universe}
use Rattle.lf_core.specs.declared.constant.CtorInfo.{CtorInfo}
use Rattle.lf_rules.specs.Recursor.{Family}
use Rattle.lf_checker.specs.Run.{Answer, done, refused, out, need, go_on, gives}
use Rattle.lf_checker.specs.Calls.{Calls}
use Rattle.lf_checker.specs.Admission.{Read, admit_constructor, admit_constructors}
use Rattle.lf_induct.specs.Parts.{admit_into}

pub none_left : (c : Calls) (f : Family) (r : Universe) (ready : List Read) (u : ℕ) → admit_into c f r ready [] u ≡ done ready u
none_left c f r ready u = ap (λ zs. done zs u) (append-nil ready)

put_behind : (ready : List Read) (y : Read) (o : Answer (List Read))
    → go_on (go_on o (λ ys. gives (y ∷ ys))) (λ zs. gives (ready ++ zs)) ≡ go_on o (λ ys. gives ((ready ++ y ∷ []) ++ ys))
put_behind ready y (done ys u) = ap (λ zs. done zs u) (sym (append_assoc ready (y ∷ []) ys))
put_behind ready y (refused e u) = refl
put_behind ready y out = refl
put_behind ready y (need k) = refl

pub one_more : (c : Calls) (f : Family) (r : Universe) (ready : List Read) (k : CtorInfo) (ks : List CtorInfo) (u : ℕ)
    → admit_into c f r ready (k ∷ ks) u ≡ go_on (admit_constructor c f r k.name f.params [] k.ty u) (λ y. admit_into c f r (ready ++ y ∷ []) ks)
one_more c f r ready k ks u = by_first (admit_constructor c f r k.name f.params [] k.ty u)
  where
    by_first : (o : Answer Read) → go_on (go_on o (λ y v. go_on (admit_constructors c f r ks v) (λ ys. gives (y ∷ ys)))) (λ zs. gives (ready ++ zs))
        ≡ go_on o (λ y. admit_into c f r (ready ++ y ∷ []) ks)
    by_first (done y v) = put_behind ready y (admit_constructors c f r ks v)
    by_first (refused e v) = refl
    by_first out = refl
    by_first (need j) = refl

all_of : (o : Answer (List Read)) → go_on o (λ ys. gives ([] ++ ys)) ≡ o
all_of (done ys u) = refl
all_of (refused e u) = refl
all_of out = refl
all_of (need k) = refl

pub from_none : (c : Calls) (f : Family) (r : Universe) (ks : List CtorInfo) (u : ℕ) → admit_into c f r [] ks u ≡ admit_constructors c f r ks u
from_none c f r ks u = all_of (admit_constructors c f r ks u)
