-- Lists that are read behind some items.
use Rattle.std.proofs.Common.{◌≡◌, List, [], ◌∷◌, ◌++◌, Result, Ok, Err, length, drop, refl, sym, ap, ◌∙◌, append_assoc, append-nil}
use Rattle.lf_syntax.specs.Piece.{Piece}
use Rattle.lf_parse_term.specs.Descent.{Reading, behind, ◌>>=◌}
use Rattle.lf_parse_term.specs.declared.halt.Halt.{Halt}

pub behind_one : {A : Type 0} (before : List A) (a : A) (m : Reading (List A))
    → behind (before ++ (a ∷ [])) m ≡ behind before (m >>= (λ more rest. Ok (a ∷ more, rest)))
unfolding behind
behind_one {A} before a (Ok x) = ap (λ (all : List A). Ok (all, x.1)) (append_assoc before (a ∷ []) x.0)
behind_one before a (Err e) = refl

pub behind_nil : {A : Type 0} (m : Reading (List A)) → behind [] m ≡ m
unfolding behind
behind_nil (Ok x) = refl
behind_nil (Err e) = refl

dropped : {A : Type 0} (before more : List A) → drop (length before) (before ++ more) ≡ more
dropped [] more = refl
dropped (a ∷ before) more = dropped before more

pub behind_tail : {A : Type 0} (before : List A) (m : Reading (List A)) (all : List A) (rest : List Piece) → behind before m ≡ Ok (all, rest)
    → m ≡ Ok (drop (length before) all, rest)
unfolding behind
behind_tail {A} before (Ok x) all rest e =
    let h : ◌≡◌ {A = List A × List Piece} (before ++ x.0, x.1) (all, rest) = cc in
    let p : before ++ x.0 ≡ all = λ i. (h i).0 in
    let q : x.1 ≡ rest = λ i. (h i).1 in
    λ i. Ok ((sym (dropped before x.0) ∙ ap (drop (length before)) p) i, q i)
behind_tail before (Err h) all rest e = cc

pub behind_whole : {A : Type 0} (before : List A) (m : Reading (List A)) (all : List A) (rest : List Piece) → behind before m ≡ Ok (all, rest)
    → before ++ drop (length before) all ≡ all
unfolding behind
behind_whole {A} before (Ok x) all rest e =
    let h : ◌≡◌ {A = List A × List Piece} (before ++ x.0, x.1) (all, rest) = cc in
    let p : before ++ x.0 ≡ all = λ i. (h i).0 in
    ap (λ xs. before ++ xs) (sym (ap (drop (length before)) p) ∙ dropped before x.0) ∙ p
behind_whole before (Err h) all rest e = cc

pub behind_fails : {A : Type 0} (before : List A) (m : Reading (List A)) (e : Halt) → behind before m ≡ Err e → m ≡ Err e
unfolding behind
behind_fails before (Ok x) e h = cc
behind_fails before (Err d) e h = cc

pub behind_err : {A : Type 0} (before : List A) (e : Halt) → behind {A = A} before (Err e) ≡ Err e
unfolding behind
behind_err before e = refl

pub behind_end : {A : Type 0} (before : List A) (rest : List Piece) → behind before (Ok ([], rest)) ≡ Ok (before, rest)
unfolding behind
behind_end {A} before rest = ap (λ (all : List A). Ok (all, rest)) (append-nil before)

pub behind_then : {A B : Type 0} (before : List A) (m : Reading (List A)) (f : List A → List Piece → Reading B) →
    (behind before m >>= f) ≡ (m >>= (λ more rest. f (before ++ more) rest))
unfolding behind
behind_then before (Ok x) f = refl
behind_then before (Err e) f = refl
