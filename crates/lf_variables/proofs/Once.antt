-- Which names come before matters, and not in what order.
use Rattle.std.proofs.Common.{◌≡◌, ℕ, ◌+◌, ◌<◌, Bool, true, false, cond, ◌||◌, if◌then◌else◌, List, [], ◌∷◌, ◌++◌, Some, length, get_or, take, drop, filter, refl, sym, ap, ◌∙◌, append_assoc}
use Rattle.std.proofs.lemmas.List.{append-nil, drop_more, map-append, take_more}
use Rattle.lf_name.specs.Name.{Path}
use Rattle.lf_name.specs.Same.{same_path}
use Rattle.lf_rules.specs.Recursor.{is_among}
use Rattle.lf_syntax.specs.declared.leaf.Ident.{Ident}
use Rattle.lf_elaboration.specs.Scope.{names_of}
use Rattle.lf_elaboration.specs.Variables.{each_once, repeated_from}

swap : (a b c : Bool) → a || (b || c) ≡ b || (a || c)
swap true true c = refl
swap true false c = refl
swap false b c = refl

moved : (x : Path) (ys : List Path) (y : Path) → is_among x (ys ++ y ∷ []) ≡ is_among x (y ∷ ys)
moved x [] y = refl
moved x (z ∷ ys) y = ap (λ b. same_path x z || b) (moved x ys y) ∙ swap (same_path x z) (same_path x y) (is_among x ys)

once_alike : (b c zs : List Path) → ((x : Path) → is_among x b ≡ is_among x c) → each_once b zs ≡ each_once c zs
once_alike b c [] h = refl
once_alike b c (z ∷ zs) h =
    ap (λ t. if t then each_once b zs else z ∷ each_once (z ∷ b) zs) (h z)
    ∙ ap (λ us. if is_among z c then us else z ∷ each_once (z ∷ b) zs) (once_alike b c zs h)
    ∙ ap (λ us. if is_among z c then each_once c zs else z ∷ us) (once_alike (z ∷ b) (z ∷ c) zs (λ x. ap (λ t. same_path x z || t) (h x)))

repeated_alike : (b c : List Path) (zs : List Ident) → ((x : Path) → is_among x b ≡ is_among x c) → repeated_from b zs ≡ repeated_from c zs
repeated_alike b c [] h = refl
repeated_alike b c (z ∷ zs) h =
    ap (λ t. if t then Some z else repeated_from (z.name ∷ b) zs) (h z.name)
    ∙ ap (λ r. if is_among z.name c then Some z else r)
    (repeated_alike (z.name ∷ b) (z.name ∷ c) zs (λ x. ap (λ t. same_path x z.name || t) (h x)))

once_more : (ys : List Path) (y : Path) (zs : List Path) → each_once (ys ++ y ∷ []) zs ≡ each_once (y ∷ ys) zs
once_more ys y zs = once_alike (ys ++ y ∷ []) (y ∷ ys) zs (λ x. moved x ys y)

repeated_more : (ys : List Path) (y : Path) (zs : List Ident) → repeated_from (ys ++ y ∷ []) zs ≡ repeated_from (y ∷ ys) zs
repeated_more ys y zs = repeated_alike (ys ++ y ∷ []) (y ∷ ys) zs (λ x. moved x ys y)

by_test : (t : Bool) (ys : List Path) (x : Path) (zs : List Path)
    → (ys ++ (if t then [] else x ∷ [])) ++ each_once (ys ++ (if t then [] else x ∷ [])) zs
    ≡ ys ++ (if t then each_once ys zs else x ∷ each_once (x ∷ ys) zs)
by_test true ys x zs = ap (λ v. v ++ each_once v zs) (append-nil ys)
by_test false ys x zs = append_assoc ys (x ∷ []) (each_once (ys ++ x ∷ []) zs) ∙ ap (λ us. ys ++ x ∷ us) (once_more ys x zs)

one_then : (b : Bool) (ys : List Path) (x : Path) (zs : List Path)
    → (ys ++ each_once ys (cond b (x ∷ []) [])) ++ each_once (ys ++ each_once ys (cond b (x ∷ []) [])) zs
    ≡ ys ++ each_once ys (cond b (x ∷ zs) zs)
one_then true ys x zs = by_test (is_among x ys) ys x zs
one_then false ys x zs = ap (λ v. v ++ each_once v zs) (append-nil ys)

-- one level name further
pub once_step : (p : Path → Bool) (us : List Path) (i : ℕ) (x : Path) (all new whole : List Path) → i < length us → x ≡ get_or us i x
    → new ≡ all ++ each_once all (filter p (x ∷ [])) → all ++ each_once all (filter p (drop i us)) ≡ whole
    → new ++ each_once new (filter p (drop (i + 1) us)) ≡ whole
once_step p us i x all new whole l e f h =
    let d : drop i us ≡ x ∷ drop (i + 1) us = drop_more us i x l ∙ ap (λ y. y ∷ drop (i + 1) us) (sym e) in
    let zs : List Path = filter p (drop (i + 1) us) in
    ap (λ v. v ++ each_once v zs) f
    ∙ one_then (p x) all x zs
    ∙ ap (λ v. all ++ each_once all (filter p v)) (sym d)
    ∙ h

-- one identifier further, which repeats none before
pub repeated_step : (ls : List Ident) (i : ℕ) (x : Ident) → i < length ls → x ≡ get_or ls i x → is_among x.name (names_of (take i ls)) ≡ false
    → repeated_from (names_of (take (i + 1) ls)) (drop (i + 1) ls) ≡ repeated_from (names_of (take i ls)) (drop i ls)
repeated_step ls i x l e h =
    let t : take (i + 1) ls ≡ take i ls ++ x ∷ [] = take_more ls i x l ∙ ap (λ y. take i ls ++ y ∷ []) (sym e) in
    let d : drop i ls ≡ x ∷ drop (i + 1) ls = drop_more ls i x l ∙ ap (λ y. y ∷ drop (i + 1) ls) (sym e) in
    let b : List Path = names_of (take i ls) in
    ap (λ ys. repeated_from (names_of ys) (drop (i + 1) ls)) t
    ∙ ap (λ ys. repeated_from ys (drop (i + 1) ls)) (map-append (λ y. y.name) (take i ls) (x ∷ []))
    ∙ repeated_more b x.name (drop (i + 1) ls)
    ∙ ap (λ t. if t then Some x else repeated_from (x.name ∷ b) (drop (i + 1) ls)) (sym h)
    ∙ ap (λ ys. repeated_from b ys) (sym d)
