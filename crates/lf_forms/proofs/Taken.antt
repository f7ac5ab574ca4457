-- Holes that are taken and holes that are left.
use Rattle.std.proofs.Common.{◌≡◌, ℕ, ◌≤◌, ◌<◌, Bool, true, false, List, [], ◌∷◌, ◌++◌, reverse, refl, sym, ap, ◌∙◌, append_assoc, arith}
use Rattle.std.specs.Prelude.{filter, not, nat_le}
use Rattle.std.proofs.lemmas.List.{append-nil}
use Rattle.lf_elaboration.specs.declared.hole.Hole.{Hole}
use Rattle.lf_elaboration.specs.Closing.{is_from}
use Rattle.lf_forms.proofs.Turned.{turned, back}

filter_true : (f : Hole → Bool) (h : Hole) (hs : List Hole) → f h ≡ true → filter f (h ∷ hs) ≡ h ∷ filter f hs
filter_true f h hs e = rw e refl

filter_false : (f : Hole → Bool) (h : Hole) (hs : List Hole) → f h ≡ false → filter f (h ∷ hs) ≡ filter f hs
filter_false f h hs e = rw e refl

pub begun : (f : Hole → Bool) (hs : List Hole) → [] ++ filter f (reverse (reverse hs)) ≡ filter f hs
begun f hs = ap (filter f) (back hs)

pub put : (f : Hole → Bool) (all xs ys : List Hole) (h : Hole) → ys ≡ xs ++ h ∷ [] → f h ≡ true
    → (all ++ h ∷ []) ++ filter f (reverse xs) ≡ all ++ filter f (reverse ys)
put f all xs ys h e p =
    append_assoc all (h ∷ []) (filter f (reverse xs)) ∙ ap (λ r. all ++ r) (sym (filter_true f h (reverse xs) p))
    ∙ ap (λ r. all ++ filter f r) (sym (turned xs h)) ∙ ap (λ r. all ++ filter f (reverse r)) (sym e)

pub passed : (f : Hole → Bool) (all xs ys : List Hole) (h : Hole) → ys ≡ xs ++ h ∷ [] → f h ≡ false
    → all ++ filter f (reverse xs) ≡ all ++ filter f (reverse ys)
passed f all xs ys h e p =
    ap (λ r. all ++ r) (sym (filter_false f h (reverse xs) p)) ∙ ap (λ r. all ++ filter f r) (sym (turned xs h))
    ∙ ap (λ r. all ++ filter f (reverse r)) (sym e)

pub ended : (f : Hole → Bool) (all xs : List Hole) → xs ≡ [] → all ++ filter f (reverse xs) ≡ all
ended f all xs e = ap (λ r. all ++ filter f (reverse r)) e ∙ append-nil all

pub is_taken : (k : ℕ) (h : Hole) → k ≤ h.metavariable → is_from k h ≡ true
is_taken k h l = grind (arith, l)

pub is_left : (k : ℕ) (h : Hole) → h.metavariable < k → is_from k h ≡ false
is_left k h l = grind (arith, l)
