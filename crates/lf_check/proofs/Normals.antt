-- Normal forms of many terms, put at the end of a list.
use Rattle.std.proofs.Common.{◌≡◌, ℕ, List, [], ◌∷◌, ◌++◌, refl, ap, sym, append_assoc}
use Rattle.std.proofs.lemmas.List.{append-nil}
use Rattle.lf_core.specs.Term.{Term}
use Rattle.lf_rules.specs.Environment.{Context}
use Rattle.lf_checker.specs.Run.{Answer, done, refused, out, need, Run, go_on, gives}
use Rattle.lf_checker.specs.Calls.{Calls}
use Rattle.lf_checker.specs.Normalize.{normalize_all}
use Rattle.lf_check.specs.Bodies.{normalize_into}

pub into_none : (c : Calls) (C : Context) (ready : List Term) (u : ℕ) → normalize_into c C ready [] u ≡ done ready u
into_none c C ready u = ap (λ zs. done zs u) (append-nil ready)

put_behind : (ready : List Term) (y : Term) (o : Answer (List Term))
    → go_on (go_on o (λ ys. gives (y ∷ ys))) (λ zs. gives (ready ++ zs)) ≡ go_on o (λ ys. gives ((ready ++ y ∷ []) ++ ys))
put_behind ready y (done ys u) = ap (λ zs. done zs u) (sym (append_assoc ready (y ∷ []) ys))
put_behind ready y (refused e u) = refl
put_behind ready y out = refl
put_behind ready y (need k) = refl

pub into_more : (c : Calls) (C : Context) (ready : List Term) (x : Term) (xs : List Term) (u : ℕ)
    → normalize_into c C ready (x ∷ xs) u ≡ go_on (c.normalize C x u) (λ y. normalize_into c C (ready ++ y ∷ []) xs)
into_more c C ready x xs u = by_first (c.normalize C x u)
  where
    by_first : (o : Answer Term) → go_on (go_on o (λ y v. go_on (normalize_all c C xs v) (λ ys. gives (y ∷ ys)))) (λ zs. gives (ready ++ zs))
        ≡ go_on o (λ y. normalize_into c C (ready ++ y ∷ []) xs)
    by_first (done y v) = put_behind ready y (normalize_all c C xs v)
    by_first (refused e v) = refl
    by_first out = refl
    by_first (need k) = refl

all_of : (o : Answer (List Term)) → go_on o (λ ys. gives ([] ++ ys)) ≡ o
all_of (done ys u) = refl
all_of (refused e u) = refl
all_of out = refl
all_of (need k) = refl

pub into_nothing : (c : Calls) (C : Context) (xs : List Term) (u : ℕ) → normalize_into c C [] xs u ≡ normalize_all c C xs u
into_nothing c C xs u = all_of (normalize_all c C xs u)
