-- Laws of lists that have one item more at their end.
use Rattle.std.proofs.Common.{
  ◌≡◌,
  ℕ,
  List,
  [],
  ◌∷◌,
  ◌++◌,
  ◌+◌,
  ◌-◌,
  ◌<◌,
  ◌≤◌,
  map,
  flat_map,
  reverse,
  length,
  take,
  get_or,
  refl,
  sym,
  ap,
  ◌∙◌,
  append_assoc,
  arith,
}
use Rattle.std.proofs.lemmas.Grind.{flat_map-append}
use Rattle.std.proofs.lemmas.List.{append-nil, map-append, reverse-append, take_more}
use Rattle.lf_name.specs.Name.{Path}
use Rattle.lf_syntax.specs.TermNode.{binders_tree}
use Rattle.lf_syntax.specs.declared.term.Binders.{Binders}
use Rattle.lf_elaboration.specs.Scope.{names_of, prefixes}
use Rattle.lf_syntax.specs.declared.leaf.Ident.{Ident}
use Rattle.lf_elaboration.specs.Variables.{in_group}
use Rattle.lf_scope.specs.View.{enclosing_of}
use Rattle.lf_scope.specs.declared.holding.Enclosing.{Enclosing}

pub flat_map_push : {A B : Type 0} (f : A → List B) (xs : List A) (y : A) → flat_map f (xs ++ y ∷ []) ≡ flat_map f xs ++ f y
flat_map_push f xs y = flat_map-append f xs (y ∷ []) ∙ ap (λ zs. flat_map f xs ++ zs) (append-nil (f y))

-- the groups of each command
pub flattened : (xs : List (List Binders))
    → flat_map in_group (flat_map (λ bs. map binders_tree bs) xs) ≡ flat_map (λ bs. flat_map in_group (map binders_tree bs)) xs
flattened [] = refl
flattened (bs ∷ xs) =
    flat_map-append in_group (map binders_tree bs) (flat_map (λ bs. map binders_tree bs) xs)
    ∙ ap (λ vs. flat_map in_group (map binders_tree bs) ++ vs) (flattened xs)

prefixes_push : (xs : Path) (w : List ℕ) → prefixes (xs ++ w ∷ []) ≡ (xs ++ w ∷ []) ∷ prefixes xs
prefixes_push [] w = refl
prefixes_push (x ∷ xs) w = ap (λ ps. map (λ p. x ∷ p) ps ++ [] ∷ []) (prefixes_push xs w)

-- a name's longest prefix is itself
prefixes_take : (xs : Path) (m k : ℕ) → m ≡ k + 1 → k < length xs → prefixes (take m xs) ≡ take m xs ∷ prefixes (take k xs)
prefixes_take xs m k e l =
    let t : take m xs ≡ take k xs ++ get_or xs k [] ∷ [] = ap (λ i. take i xs) e ∙ take_more xs k [] l in
    ap prefixes t ∙ prefixes_push (take k xs) (get_or xs k []) ∙ ap (λ ys. ys ∷ prefixes (take k xs)) (sym t)

pub reverse_push : {A : Type 0} (xs : List A) (y : A) → reverse (xs ++ y ∷ []) ≡ y ∷ reverse xs
reverse_push xs y = reverse-append xs (y ∷ [])

-- the latest of the enclosing scopes is the innermost
pub innermost : (es : List Enclosing) (e : Enclosing)
    → reverse (map enclosing_of (es ++ e ∷ [])) ≡ enclosing_of e ∷ reverse (map enclosing_of es)
innermost es e = ap reverse (map-append enclosing_of es (e ∷ [])) ∙ reverse_push (map enclosing_of es) (enclosing_of e)

-- the names behind the identifiers of a command, the latest first
pub behind_take : (xs : List Ident) (m k : ℕ) (d : Ident) (n : Path) → m ≡ k + 1 → k < length xs
    → map (λ o. o ++ n) (reverse (names_of (take m xs))) ≡ ((get_or xs k d).name ++ n) ∷ map (λ o. o ++ n) (reverse (names_of (take k xs)))
behind_take xs m k d n e l =
    let t : take m xs ≡ take k xs ++ get_or xs k d ∷ [] = ap (λ i. take i xs) e ∙ take_more xs k d l in
    ap (λ ys. map (λ o. o ++ n) (reverse (names_of ys))) t
    ∙ ap (λ ys. map (λ o. o ++ n) (reverse ys)) (map-append (λ y. y.name) (take k xs) (get_or xs k d ∷ []))
    ∙ ap (map (λ o. o ++ n)) (reverse_push (names_of (take k xs)) (get_or xs k d).name)

-- the names behind those that commands open, the latest first
opened_push : (xs : List (List Ident)) (ys : List Ident) (n : Path)
    → map (λ o. o ++ n) (reverse (flat_map names_of (xs ++ ys ∷ [])))
    ≡ map (λ o. o ++ n) (reverse (names_of ys)) ++ map (λ o. o ++ n) (reverse (flat_map names_of xs))
opened_push xs ys n =
    ap (λ zs. map (λ o. o ++ n) (reverse zs)) (flat_map_push names_of xs ys)
    ∙ ap (map (λ o. o ++ n)) (reverse-append (flat_map names_of xs) (names_of ys))
    ∙ map-append (λ o. o ++ n) (reverse (names_of ys)) (reverse (flat_map names_of xs))

-- one prefix further
pub prefixed_step : (first : Path) (m : ℕ) (n : Path) (all new old : List Path) (x : Path)
    → 0 < m → m ≤ length first → x ≡ take m first ++ n → new ≡ all ++ x ∷ []
    → all ++ map (λ p. p ++ n) (prefixes (take m first)) ≡ old → new ++ map (λ p. p ++ n) (prefixes (take (m - 1) first)) ≡ old
prefixed_step first m n all new old x a b e f h =
    let r : List Path = map (λ p. p ++ n) (prefixes (take (m - 1) first)) in
    ap (λ ys. ys ++ r) f
    ∙ append_assoc all (x ∷ []) r
    ∙ ap (λ y. all ++ y ∷ r) e
    ∙ ap (λ ps. all ++ map (λ p. p ++ n) ps) (sym (prefixes_take first m (m - 1) (omega arith) (omega arith)))
    ∙ h

-- one command further
pub opened_step : (rest before : List (List Ident)) (xs : List Ident) (n : Path) (all new old : List Path)
    → rest ≡ before ++ xs ∷ [] → new ≡ all ++ map (λ o. o ++ n) (reverse (names_of xs))
    → all ++ map (λ o. o ++ n) (reverse (flat_map names_of rest)) ≡ old → new ++ map (λ o. o ++ n) (reverse (flat_map names_of before)) ≡ old
opened_step rest before xs n all new old e f h =
    let r : List Path = map (λ o. o ++ n) (reverse (flat_map names_of before)) in
    ap (λ ys. ys ++ r) f
    ∙ append_assoc all (map (λ o. o ++ n) (reverse (names_of xs))) r
    ∙ ap (λ ys. all ++ ys) (sym (opened_push before xs n))
    ∙ ap (λ zs. all ++ map (λ o. o ++ n) (reverse (flat_map names_of zs))) (sym e)
    ∙ h
