-- The names of open binders, and what is still to be printed, by lists whose end is the top.
use Rattle.std.specs.Prelude.{◌≡◌, ℕ, zero, suc, ◌+◌, ◌-◌, ◌<◌, ◌≤◌, List, [], ◌∷◌, ◌++◌, length, map, reverse, drop, slice_get, Option, Some, None}
use Rattle.std.proofs.Common.{refl, sym, ◌∙◌, ap, subst, arith, get_or, Bor}
use Rattle.std.specs.Option.{option_map}
use Rattle.std.proofs.lemmas.List.{reverse-append, get_or-reverse, length-reverse}
use Rattle.std.proofs.lemmas.Option.{slice_get-map, slice_get_past}
use Rattle.lf_core.specs.Term.{Path}
use Rattle.lf_print.specs.Pieces.{open_names}
use Rattle.lf_print.specs.declared.piece.Piece.{Piece}

got : {A : Type 0} (xs : List A) (i : ℕ) (d : A) → i < length xs → slice_get xs i ≡ Some (get_or xs i d)
got [] i d h = absurd (omega arith)
got (x ∷ xs) zero d h = refl
got (x ∷ xs) (suc i) d h = got xs i d (omega arith)

pub name_at : (ns : List (Bor Path)) (i : ℕ) (d : Bor Path) → i < length ns → Some (get_or ns (length ns - 1 - i) d).now ≡ slice_get (open_names ns) i
name_at ns i d h =
    sym (slice_get-map (λ (n : Bor Path). n.now) (reverse ns) i
    ∙ ap (option_map (λ (n : Bor Path). n.now)) (got (reverse ns) i d (subst (λ l. i < l) (sym (length-reverse ns)) h)
    ∙ ap Some (get_or-reverse ns i d h)))

pub name_past : (ns : List (Bor Path)) (i : ℕ) → length ns ≤ i → None ≡ slice_get (open_names ns) i
name_past ns i h =
    sym (slice_get-map (λ (n : Bor Path). n.now) (reverse ns) i
    ∙ ap (option_map (λ (n : Bor Path). n.now)) (slice_get_past (reverse ns) i (subst (λ l. l ≤ i) (sym (length-reverse ns)) h)))

pub name_opened : (ns : List (Bor Path)) (n : Bor Path) → open_names (ns ++ n ∷ []) ≡ n.now ∷ open_names ns
name_opened ns n = ap (map (λ (m : Bor Path). m.now)) (reverse-append ns (n ∷ []))

pub piece_put : (ps : List Piece) (p : Piece) → reverse (ps ++ p ∷ []) ≡ p ∷ reverse ps
piece_put ps p = reverse-append ps (p ∷ [])
